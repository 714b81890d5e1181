use Rattle.std.proofs.Common.{◌<◌, length, arith}
use Rattle.std.proofs.lemmas.List.{replicate_more}
use Rattle.orders.specs.declared.order.Order.TheVariants.{Carry}
use Rattle.register.proofs.Runs.{filled_none, filled_more}
use Rattle.register.proofs.register.Register.settle.Goals as goal

pub loop-n-init : goal.loop-n-init
loop-n-init g c = filled_none _ _

pub loop-n-preserved : goal.loop-n-preserved
loop-n-preserved g c =
    let place : c.loop-n.n < length c.loop-n.answers = omega arith in
    rw (← replicate_more c.loop-n.n Carry)
    (filled_more c.loop-n.answers c.loop-n.n Carry c.carry.result place c.loop-n.invariant c.carry.ensures)
