use Rattle.std.proofs.Common.{◌≡◌, rules}
use Rattle.register.specs.Send.{toward}
use Rattle.register.proofs.Sends.{one_more}
use Rattle.register.proofs.send.send.Goals as goal

pub loop-i-preserved : goal.loop-i-preserved
loop-i-preserved g c =
    let e : c.to_replica.result ≡ toward c.args.m c.loop-i.i = search rules in
    one_more c.args.m c.to_replica.result c.loop-i.i _ _ _ e c.loop-i.invariant (rw c.unwrap.ensures at c.put.ensures)
