-- The highest version so far.
use Rattle.std.proofs.Common.{◌≡◌, take}
use Rattle.quorum.specs.Highest.{highest_by}
use Rattle.quorum.proofs.highest.highest.Given as goal

abbrev pub invariant-loop-s : goal.invariant-loop-s
invariant-loop-s g l = l.top ≡ highest_by g.T.VersionedSlip.version_of (take l.s-index l.slips)
