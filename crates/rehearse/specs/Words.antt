-- The words that name a form of channel.
use Rattle.std.specs.Prelude.{◌≡◌, ℕ, ◌<◌, ◌^◌, List, [], ◌∷◌, codes, Option, MatchOption}
use Rattle.std.specs.Str.Parse.{IsNumeral, digits_value, without_leading_plus}
use Rattle.runner.specs.declared.choice.Choice.{Choice}
use Rattle.runner.specs.declared.choice.Choice.TheVariants.{Queue, Slots, DelayQueue, DelaySlots, DelayTwice}

-- the word writes a number of at most 255; a plus may stand first
abbrev pub Writes : List ℕ → ℕ → Type 0
Writes word n =
    IsNumeral 10 (without_leading_plus word) × (digits_value 10 (without_leading_plus word) < 2 ^ 8)
    × (n ≡ digits_value 10 (without_leading_plus word))

-- the words name the form, by its layers from the upper one down and the channel below
abbrev pub Names : List (List ℕ) → Choice → Type 0
Names words Queue = words ≡ codes "queue" ∷ []
Names words Slots = words ≡ codes "slots" ∷ []
Names words (DelayQueue n) = (a : List ℕ) × (words ≡ codes "delay" ∷ a ∷ codes "queue" ∷ []) × Writes a n
Names words (DelaySlots n) = (a : List ℕ) × (words ≡ codes "delay" ∷ a ∷ codes "slots" ∷ []) × Writes a n
Names words (DelayTwice n m) =
    (a : List ℕ) × (b : List ℕ) × (words ≡ codes "delay" ∷ a ∷ codes "delay" ∷ b ∷ codes "queue" ∷ [])
    × Writes a n × Writes b m

-- the form that the words name, or none where they name none
abbrev pub Chosen : List (List ℕ) → Option Choice → Type 0
Chosen words r = MatchOption r ((c : Choice) → ¬ (Names words c)) (λ c. Names words c)
