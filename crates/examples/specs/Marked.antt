-- The thirteen marked examples, as one table: which settings open, and what first rounds decide.
use Rattle.std.specs.Prelude.{◌≡◌, ℕ, ◌-◌, cond, List, [], ◌∷◌, map, pos, Some, None, Option, nat_le}
use Rattle.std.specs.List.{AllByRecursion}
use Rattle.std.specs.Option.{option_map}
use Rattle.settings.specs.declared.given.Settings.{Settings}
use Rattle.quorum.specs.Decide.{decided}
use Rattle.examples.specs.Pasts.{five}
use Rattle.register.specs.Open.{opening_fault}
use Rattle.register.specs.Fault.{fault_number}
use Rattle.wire.specs.Channel.{empty}
use Rattle.quorum.specs.declared.slip.Reading.{Reading}
use Rattle.quorum.specs.declared.decide.Verdict.{Verdict}
use Rattle.quorum.specs.declared.decide.Verdict.TheVariants.{Highest, Due, Previous}
use Rattle.quorum.specs.declared.decide.Decided.{Decided}

-- settings S, t and V, with the number of their refusal, if any; or four replies, the first so many at version 1
-- with these marks and this note and the others at version 0, with the version shown in one round, or none if the
-- read is due
pub data Marked : Type 0 where
  opening : ℕ → ℕ → ℕ → Option ℕ → Marked
  deciding : ℕ → ℕ → ℕ → Option ℕ → Marked

abbrev pub settings_of : ℕ → ℕ → ℕ → Settings
settings_of s t v = record { replicas = s; tolerated = t; groups = v; readers = 1; initial = pos 0 }

-- the reply of a replica: at version 1 of the first so many, at version 0 of the others
abbrev pub reply_of : ℕ → ℕ → ℕ → ℕ → Reading
reply_of many marks note i =
    let old : Reading = record { replica = i; version = 0; value = pos 0; previous = pos 0; marks = 0; note = 0 } in
    cond (nat_le i many) (record old { version = 1; marks = marks; note = note }) old

-- the replies of four replicas
abbrev pub replies_of : ℕ → ℕ → ℕ → List Reading
replies_of many marks note = map (reply_of many marks note) (1 ∷ 2 ∷ 3 ∷ 4 ∷ [])

-- the version that a verdict at version h shows, none if the read is due
abbrev pub shown_at : ℕ → Verdict → Option ℕ
shown_at h Highest = Some h
shown_at h Due = None
shown_at h Previous = Some (h - 1)

-- the version that a read shows after its first round, none if it is due
abbrev pub shown_by : Decided → Option ℕ
shown_by d = shown_at d.version d.verdict

-- the rules give what the example says
abbrev pub Right : Marked → Type 0
Right (opening s t v refused) = option_map fault_number (opening_fault (settings_of s t v) (empty s)) ≡ refused
Right (deciding many marks note shown) = shown_by (decided five (replies_of many marks note)) ≡ shown

-- marks: 1 is the writer's, 2 and 4 the two groups'
abbrev pub thirteen : List Marked
thirteen =
    opening 5 1 2 None
    ∷ opening 5 1 3 (Some 2)
    ∷ opening 31 10 1 None
    ∷ opening 30 10 1 (Some 2)
    ∷ deciding 0 0 0 (Some 0)
    ∷ deciding 2 5 0 (Some 0)
    ∷ deciding 1 7 0 (Some 0)
    ∷ deciding 4 5 0 (Some 1)
    ∷ deciding 3 7 0 (Some 1)
    ∷ deciding 2 4 1 (Some 1)
    ∷ deciding 3 5 0 None
    ∷ deciding 2 7 0 None
    ∷ deciding 1 4 1 None
    ∷ []

abbrev pub AllRight : Type 0
AllRight = AllByRecursion Right thirteen
