-- The best so far is the lowest of the slots below i.
use Rattle.channels.specs.Table.{Found}
use Rattle.channels.proofs.slots.lowest.Given as goal

abbrev pub invariant-loop-i : goal.invariant-loop-i
invariant-loop-i l = Found l.table l.i l.best
