-- How many notes so far.
use Rattle.std.proofs.Common.{◌≡◌, ◌≤◌, take}
use Rattle.quorum.specs.Highest.{notes_at}
use Rattle.quorum.proofs.highest.notes_at.Given as goal

abbrev pub invariant-loop-s : goal.invariant-loop-s
invariant-loop-s l = (l.n ≤ l.s-index) × (l.n ≡ notes_at l.h (take l.s-index l.slips))
