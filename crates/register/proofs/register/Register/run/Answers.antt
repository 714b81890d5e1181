use Rattle.std.proofs.Common.{◌<◌, length, pos, arith}
use Rattle.std.proofs.lemmas.List.{take_more}
use Rattle.orders.specs.declared.order.Order.TheVariants.{Write}
use Rattle.register.proofs.Runs.{filled_none, filled_more}
use Rattle.register.proofs.register.Register.run.Goals as goal

pub loop-i-init : goal.loop-i-init
loop-i-init g c = filled_none _ _

pub loop-i-preserved : goal.loop-i-preserved
loop-i-preserved g c =
    let place : c.loop-i.i < length c.loop-i.answers = omega arith in
    rw (take_more c.args.orders.now c.loop-i.i (Write (pos 0)) c.loop-i-test.true)
    (filled_more c.loop-i.answers c.loop-i.i _ c.order.result place c.loop-i.invariant c.order.ensures)
