-- Cards, slips, and deciding a first round, as the proofs of the laws see them.
use Rattle.std.proofs.Common.{◌≡◌, ℕ, suc, ◌+◌, ◌-◌, ◌*◌, ◌^◌, ◌<◌, ◌≤◌, max, Bool, true, false, ◌⊎◌, List, [], ◌∷◌, map, length, ℤ}
use lib.Bits.{bit_or}
use lib.Count.{ones}
use Rattle.std.specs.List.{Contains, AllByRecursion}
use Rattle.theory.proofs.Sets.{Distinct, Within}

-- the settings, with the mark of each client
pub record Params : Type 0 where
  pub replicas : ℕ
  pub tolerated : ℕ
  pub groups : ℕ
  pub readers : ℕ
  pub mark : ℕ → ℕ

pub record Fit (g : Params) : Type 0 where
  pub some_out : 1 ≤ g.tolerated
  pub some_group : 1 ≤ g.groups
  pub few_groups : g.groups ≤ 7
  pub room : (g.groups + 2) * g.tolerated < g.replicas
  -- the writer has bit 0; every mark lies within the low V + 1 bits; no reader has the writer's bit alone
  pub writer_mark : g.mark 0 ≡ 1
  pub few_marks : (c : ℕ) → g.mark c < 2 ^ (g.groups + 1)
  pub two_marks : (c : ℕ) → (c ≡ 0 → ⊥) → 2 ≤ ones (bit_or 1 (g.mark c))

-- what a replica holds and a reply repeats
pub record Card : Type 0 where
  pub version : ℕ
  pub value : ℤ
  pub previous : ℤ
  pub marks : ℕ
  pub note : ℕ

pub record Slip : Type 0 where
  pub replica : ℕ
  pub card : Card

abbrev pub replicas_of : List Slip → List ℕ
replicas_of ss = map (λ s. s.replica) ss

abbrev pub highest : List Slip → ℕ
highest [] = 0
highest (s ∷ ss) = max s.card.version (highest ss)

-- a set of at least m replies of which each card is as P says
pub record Several (ss : List Slip) (m : ℕ) (P : Card → Type 0) : Type 0 where
  pub chosen : List Slip
  pub distinct : Distinct (replicas_of chosen)
  pub from : AllByRecursion (Contains ss) chosen
  pub enough : m ≤ length chosen
  pub each : AllByRecursion (λ s. P s.card) chosen

abbrev pub Noted : List Slip → ℕ → Type 0
Noted ss m = Several ss m (λ c. c.note ≡ highest ss)

-- enough replies at the highest version share extra more marks than the factor of tolerated that they lack
pub record Seen (g : Params) (ss : List Slip) (extra : ℕ) : Type 0 where
  pub factor : ℕ
  pub low : 1 ≤ factor
  pub high : factor ≤ g.groups + 1
  pub common : ℕ
  pub many : factor + extra ≤ ones common
  pub replies : Several ss (g.replicas - factor * g.tolerated) (λ c. (c.version ≡ highest ss) × Within common c.marks)

pub data Decision (g : Params) (ss : List Slip) (shown : ℕ) (is_due : Bool) : Type 0 where
  nothing : highest ss ≡ 0 → shown ≡ 0 → is_due ≡ false → Decision g ss shown is_due
  noted : Noted ss (g.tolerated + 1) → shown ≡ highest ss → is_due ≡ false → Decision g ss shown is_due
  seen : Seen g ss 1 → shown ≡ highest ss → is_due ≡ false → Decision g ss shown is_due
  due : (Noted ss (g.tolerated + 1) → ⊥) → (Seen g ss 1 → ⊥) → Seen g ss 0 ⊎ Noted ss 1 → shown ≡ highest ss → is_due ≡ true → Decision g ss shown is_due
  older : 0 < highest ss → (Seen g ss 0 ⊎ Noted ss 1 → ⊥) → suc shown ≡ highest ss → is_due ≡ false → Decision g ss shown is_due

-- ---- what can be relied on of the replicas' cards

abbrev pub Ahead : ℕ → ℕ → Card → Type 0
Ahead k common c = (k < c.version) ⊎ ((k ≡ c.version) × Within common c.marks)

pub record Later (c d : Card) : Type 0 where
  pub ahead : Ahead c.version c.marks d
  pub note : c.note ≤ d.note
