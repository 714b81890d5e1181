-- A drill over a channel that is used up in it.
use Rattle.std.specs.Prelude.{ℕ, List, Result}
use Rattle.wire.specs.Channel.{Contents}
use Rattle.runner.specs.declared.fault.DrillFault.{DrillFault}
use Rattle.runner.specs.Drill.{Drills}
use Rattle.runner.specs.Memory.{Memory, content}
use Rattle.runner.specs.declared.memory.Memory.{Memory as Lent}

-- a drill over a channel with these contents, whatever is left in it then
pub record Rehearsed (sheet : List ℕ) (x : Contents) (before after : Memory) (r : Result ℕ DrillFault) : Type 0 where
  pub left : Contents
  pub drills : Drills sheet x before left after r

-- the same in the memory that is lent
abbrev pub RehearsedIn : List ℕ → Contents → Lent → Lent → Result ℕ DrillFault → Type 0
RehearsedIn sheet x m m' r = Rehearsed sheet x (content m) (content m') r
