-- Every past of a register keeps the laws.
use Rattle.std.specs.Prelude.{ℕ, ◌≤◌, List}
use Rattle.settings.specs.declared.checked.Checked.{Checked}
use Rattle.register.specs.Register.{opened}
use Rattle.register.specs.World.{World, world}
use Rattle.laws.specs.Entries.{Entry}
use Rattle.register.specs.Past.{Past}
use Rattle.wire.specs.Channel.{empty}
use Rattle.laws.specs.Laws.{Lawful}

-- Every past keeps the laws: of a register opened with any accepted settings over any channel in which nothing waits
-- and a place is free for each replica, then given any orders, with any choice of the waiting message at each carry.
abbrev pub Laws : Type 0
Laws =
    (k : Checked) (free : ℕ) → k.replicas ≤ free → (es : List Entry) (w : World)
    → Past (world (opened k) (empty free)) es w → Lawful k w.waiting es
