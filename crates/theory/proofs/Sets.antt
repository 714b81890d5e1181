-- Sets of numbered replicas as lists without repeats, and masks of marks.
use Rattle.std.proofs.Common.{◌≡◌, ℕ, ◌<◌, ◌≤◌, List, [], ◌∷◌, length}
use lib.Bits.{bit_and}
use Rattle.std.specs.List.{AllByRecursion}

abbrev pub Lacks : ℕ → List ℕ → Type 0
Lacks x ys = AllByRecursion (λ y. x ≡ y → ⊥) ys

abbrev pub Distinct : List ℕ → Type 0
Distinct [] = Unit {0}
Distinct (x ∷ xs) = Lacks x xs × Distinct xs

-- every mark of a is one of b
abbrev pub Within : ℕ → ℕ → Type 0
Within a b = bit_and a b ≡ a

-- at least m numbers below s of which p holds
pub record Many (s m : ℕ) (P : ℕ → Type 0) : Type 0 where
  pub places : List ℕ
  pub distinct : Distinct places
  pub below : AllByRecursion (λ i. i < s) places
  pub enough : m ≤ length places
  pub each : AllByRecursion P places
