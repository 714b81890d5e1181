-- No slip so far is from the replica.
use Rattle.std.proofs.Common.{◌≡◌, false, take}
use Rattle.quorum.specs.Tally.{from}
use Rattle.quorum.proofs.tally.Tally.is_from.Given as goal

abbrev pub invariant-loop-s : goal.invariant-loop-s
invariant-loop-s g l = from g.T.Slip.sent_by l.replica (take l.s-index l.slips) ≡ false
