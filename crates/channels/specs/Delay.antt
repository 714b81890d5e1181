-- What the delaying layer keeps back, where it puts a message, and what it gives.
use Rattle.std.specs.Prelude.{◌≡◌, ℕ, ◌<◌, Bool, true, false, ◌&&◌, ◌⊎◌, List, [], ◌∷◌, ◌++◌, length, ◌+◌, ◌-◌, Some, Ok, Err, Option, Result, ◌==◌, nat_lt}
use Rattle.std.specs.List.Sorted.{IsPermutation}
use Rattle.wire.specs.declared.message.Message.{Message}
use Rattle.wire.specs.Kind.{is_request}
use Rattle.wire.specs.Channel.{Contents, holding}
use Rattle.channels.specs.Sizes.{pocket_max}
use Rattle.channels.specs.Queue.{Oldest}
use Rattle.channels.specs.declared.delay.Delay.{Delay}

-- a request to the delayed replica, while the pocket is not full
abbrev pub is_later : ℕ → ℕ → Message → Bool
is_later replica n m = is_request m.kind && (m.replica == replica && nat_lt n pocket_max)

-- where a message goes: below if one of the room places there is free, else to the end of the pocket, if it is not full
abbrev pub Entered : {U F : Type 0} → ℕ → List Message → List Message → Message
    → List Message → List Message → Result U F → Type 0
Entered room below pocket m below' pocket' (Ok _) =
    ((0 < room) × IsPermutation below' (m ∷ below) × (pocket' ≡ pocket))
    ⊎ ((room ≡ 0) × (length pocket < pocket_max) × IsPermutation below' below × (pocket' ≡ pocket ++ m ∷ []))
Entered room below pocket m below' pocket' (Err _) =
    (room ≡ 0) × (length pocket ≡ pocket_max) × IsPermutation below' below × (pocket' ≡ pocket)

-- What waits below and in the pocket, before and after, and what is given: a message from below that is not kept back;
-- or, that being kept, what comes next; or, with nothing below, the pocket's oldest.
pub data Handed (replica : ℕ)
    : List Message → List Message → List Message → List Message → Option Message → Type 0 where
  given : (below below' pocket : List Message) (m : Message)
      → IsPermutation below (m ∷ below') → is_later replica (length pocket) m ≡ false
      → Handed replica below pocket below' pocket (Some m)
  delayed : (below below₁ pocket pocket₁ below' pocket' : List Message) (m : Message) (r : Option Message)
      → IsPermutation below (m ∷ below₁) → is_later replica (length pocket) m ≡ true
      → pocket₁ ≡ pocket ++ m ∷ [] → Handed replica below₁ pocket₁ below' pocket' r
      → Handed replica below pocket below' pocket' r
  last : (below below' pocket pocket' : List Message) (r : Option Message)
      → below ≡ [] → below' ≡ [] → Oldest pocket pocket' r → Handed replica below pocket below' pocket' r

-- a layer over this channel, which keeps back what goes to the replica, and has kept nothing back yet
abbrev pub Delays : {C : Type 0} → C → ℕ → Delay C → Type 0
Delays below replica d = (d.below ≡ below) × (d.replica ≡ replica) × (d.pocket.items ≡ [])

module _ {C : Type 0} (below : C → Contents) where
  -- what a layer means: what is below, and its pocket
  abbrev pub layered : Delay C → Contents
  layered d =
      holding ((below d.below).waiting ++ d.pocket.items) ((below d.below).free + (pocket_max - length d.pocket.items))

  -- where a message goes in, the same replica being delayed
  pub record Enters {U F : Type 0} (d : Delay C) (m : Message) (d' : Delay C) (r : Result U F) : Type 0 where
    pub entered : Entered (below d.below).free (below d.below).waiting d.pocket.items m
        (below d'.below).waiting d'.pocket.items r
    pub replica : d'.replica ≡ d.replica

  -- what is given, the same replica being delayed
  pub record Gives (d : Delay C) (d' : Delay C) (r : Option Message) : Type 0 where
    pub handed : Handed d.replica (below d.below).waiting d.pocket.items
        (below d'.below).waiting d'.pocket.items r
    pub replica : d'.replica ≡ d.replica
