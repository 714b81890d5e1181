use Rattle.std.proofs.Common.{arith}
use Rattle.std.proofs.lemmas.List.Sorted.{IsPermutation-append_left}
use Rattle.channels.proofs.Beside.{keep_beside}
use Rattle.channels.proofs.delay.DelayChannel.put.Goals as goal

pub returns-in-Ok-clause-meets : goal.returns-in-Ok-clause-meets
returns-in-Ok-clause-meets g c = (IsPermutation-append_left _ _ _ c.in-Ok.ensures.0, omega (arith, c.in-Ok.ensures.1))

pub returns-in-Err-clause-meets : goal.returns-in-Err-clause-meets
returns-in-Err-clause-meets g c =
    let p = c.try_push.ensures in
    keep_beside _ _ c.args.self.now.pocket c.try_push.new.self c.args.m _ _ c.try_push.result c.in-Err.ensures p.variant p.ok p.err p.full
