-- The reply of the lowest replica so far, if there is one.
use Rattle.std.proofs.Common.{◌≡◌, take}
use Rattle.quorum.proofs.Lowest.{lowest_in}
use Rattle.quorum.proofs.highest.lowest_at.Given as goal

abbrev pub invariant-loop-s : goal.invariant-loop-s
invariant-loop-s l = l.lowest ≡ lowest_in l.h (take l.s-index l.slips)
