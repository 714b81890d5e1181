-- Versions that the replicas together will not lose: ends in `established_stays` and `posted_stays`.
use Rattle.std.proofs.Common.{◌≡◌, ℕ, ◌+◌, ◌-◌, ◌*◌, ◌<◌, ◌≤◌, arith}
use lib.Count.{ones}
use Rattle.theory.proofs.Sets.{Many}
use Rattle.theory.proofs.Cards.{Params, Card, Ahead, Later}
use Rattle.theory.proofs.Overlap.{many_weaker, many_fewer}
use Rattle.theory.proofs.Growing.{ahead_stays}

-- version k is established in a table of the replicas' cards
pub data Established (g : Params) (b : ℕ → Card) (k : ℕ) : Type 0 where
  -- it is the initial one
  opening : k ≡ 0 → Established g b k
  -- all but t replicas are above it, or at it with the writer's mark
  written : Many g.replicas (g.replicas - g.tolerated) (λ i. Ahead k 1 (b i)) → Established g b k
  -- all but a times t replicas are above it, or at it with more than a marks in common
  witnessed : (a common : ℕ) → 1 ≤ a → a ≤ g.groups → a < ones common → Many g.replicas (g.replicas - a * g.tolerated) (λ i. Ahead k common (b i)) → Established g b k
  -- more than t replicas have it in their notes
  recorded : Many g.replicas (g.tolerated + 1) (λ i. k ≤ (b i).note) → Established g b k

-- version k is posted: more than 2t replicas have it in their notes
abbrev pub Posted : Params → (ℕ → Card) → ℕ → Type 0
Posted g b k = Many g.replicas (2 * g.tolerated + 1) (λ i. k ≤ (b i).note)

pub posted_established : (g : Params) (b : ℕ → Card) (k : ℕ) → Posted g b k → Established g b k
posted_established g b k x = recorded (many_fewer _ _ _ (λ i. k ≤ (b i).note) (omega arith) x)

-- What is established stays so as the replicas grow.
pub established_stays : (g : Params) (b b' : ℕ → Card) (k : ℕ) → ((i : ℕ) → Later (b i) (b' i)) → Established g b k → Established g b' k
established_stays g b b' k grown (opening e) = opening e
established_stays g b b' k grown (written x) =
    written (many_weaker _ _ (λ i. Ahead k 1 (b i)) (λ i. Ahead k 1 (b' i)) (λ i h. ahead_stays k 1 (b i) (b' i) h (grown i)) x)
established_stays g b b' k grown (witnessed a c p q r x) =
    witnessed a c p q r (many_weaker _ _ (λ i. Ahead k c (b i)) (λ i. Ahead k c (b' i)) (λ i h. ahead_stays k c (b i) (b' i) h (grown i)) x)
established_stays g b b' k grown (recorded x) =
    recorded (many_weaker _ _ (λ i. k ≤ (b i).note) (λ i. k ≤ (b' i).note) (λ i h. omega (arith, (grown i).note)) x)

-- What is posted stays so as the replicas grow.
pub posted_stays : (g : Params) (b b' : ℕ → Card) (k : ℕ) → ((i : ℕ) → Later (b i) (b' i)) → Posted g b k → Posted g b' k
posted_stays g b b' k grown x = many_weaker _ _ (λ i. k ≤ (b i).note) (λ i. k ≤ (b' i).note) (λ i h. omega (arith, (grown i).note)) x
