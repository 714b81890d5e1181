-- What a decision says of the replies: its parts, and why each verdict is given.
use Rattle.std.proofs.Common.{◌≡◌, ℕ, ◌+◌, ◌<◌, ◌≤◌, Bool, true, false, cond, ◌||◌, eqb, leb, ◌⊎◌, List, refl, inl, inr, arith}
use Rattle.std.proofs.lemmas.Bool.{eqb-true, eqb-false, leb-true, leb-false, or_cases, or_parts}
use Rattle.settings.specs.declared.checked.Checked.{Checked}
use Rattle.quorum.specs.declared.slip.Reading.{Reading}
use Rattle.quorum.specs.declared.decide.Verdict.{Verdict}
use Rattle.quorum.specs.declared.decide.Verdict.TheVariants.{Highest, Due, Previous}
use Rattle.quorum.specs.Highest.{highest_of, notes_at, lowest_at}
use Rattle.quorum.specs.Agree.{agreed}
use Rattle.quorum.specs.Decide.{verdict_at, decided_at, decided}

-- ---- the parts of a decision

pub decided_version : (k : Checked) (xs : List Reading) → (decided k xs).version ≡ highest_of xs
unfolding decided_at
decided_version k xs = refl

pub decided_value : (k : Checked) (xs : List Reading) → (decided k xs).value ≡ (lowest_at (highest_of xs) xs).value
unfolding decided_at
decided_value k xs = refl

pub decided_previous : (k : Checked) (xs : List Reading) → (decided k xs).previous ≡ (lowest_at (highest_of xs) xs).previous
unfolding decided_at
decided_previous k xs = refl

pub decided_verdict : (k : Checked) (xs : List Reading) → (decided k xs).verdict ≡ verdict_at k (highest_of xs) xs
unfolding decided_at
decided_verdict k xs = refl

-- ---- the verdict by the four tests, in their order

abbrev by_tests : Bool → Bool → Bool → Bool → Verdict
by_tests a b c d = cond a Highest (cond b Highest (cond c Highest (cond d Due Previous)))

highest_by_lem : (a b c d : Bool) → by_tests a b c d ≡ Highest → (a ≡ true) ⊎ ((b ≡ true) ⊎ (c ≡ true))
highest_by_lem true b c d e = inl refl
highest_by_lem false true c d e = inr (inl refl)
highest_by_lem false false true d e = inr (inr refl)
highest_by_lem false false false true e = cc
highest_by_lem false false false false e = cc

due_by : (a b c d : Bool) → by_tests a b c d ≡ Due → (a ≡ false) × (b ≡ false) × (c ≡ false) × (d ≡ true)
due_by true b c d e = cc
due_by false true c d e = cc
due_by false false true d e = cc
due_by false false false true e = (refl, refl, refl, refl)
due_by false false false false e = cc

previous_by : (a b c d : Bool) → by_tests a b c d ≡ Previous → (a ≡ false) × (b ≡ false) × (c ≡ false) × (d ≡ false)
previous_by true b c d e = cc
previous_by false true c d e = cc
previous_by false false true d e = cc
previous_by false false false true e = cc
previous_by false false false false e = (refl, refl, refl, refl)

module _ (k : Checked) (h : ℕ) (xs : List Reading) where
  -- h is shown: it is 0, or noted by more than t, or a set has more than a marks in common
  pub highest_since : verdict_at k h xs ≡ Highest → (h ≡ 0) ⊎ ((k.tolerated + 1 ≤ notes_at h xs) ⊎ (agreed k.replicas k.tolerated k.groups h 1 xs ≡ true))
  highest_since e =
      elim (highest_by_lem (eqb h 0) (leb (k.tolerated + 1) (notes_at h xs)) (agreed k.replicas k.tolerated k.groups h 1 xs) (agreed k.replicas k.tolerated k.groups h 0 xs || leb 1 (notes_at h xs)) e) [
        | inl a ↦ inl (eqb-true h 0 a)
        | inr (inl b) ↦ inr (inl (leb-true (k.tolerated + 1) (notes_at h xs) b))
        | inr (inr c) ↦ inr (inr c)
      ]

  -- a second round is due: not shown yet, and a set has a marks in common or h is noted
  pub due_since : verdict_at k h xs ≡ Due → (0 < h) × (notes_at h xs < k.tolerated + 1) × (agreed k.replicas k.tolerated k.groups h 1 xs ≡ false) × ((agreed k.replicas k.tolerated k.groups h 0 xs ≡ true) ⊎ (1 ≤ notes_at h xs))
  due_since e =
      let p = due_by (eqb h 0) (leb (k.tolerated + 1) (notes_at h xs)) (agreed k.replicas k.tolerated k.groups h 1 xs) (agreed k.replicas k.tolerated k.groups h 0 xs || leb 1 (notes_at h xs)) e in
      let ne : h ≡ 0 → ⊥ = eqb-false h 0 p.0 in
      let some : (agreed k.replicas k.tolerated k.groups h 0 xs ≡ true) ⊎ (1 ≤ notes_at h xs) =
      elim (or_cases (agreed k.replicas k.tolerated k.groups h 0 xs) (leb 1 (notes_at h xs)) p.3) [
        | inl a ↦ inl a
        | inr b ↦ inr (leb-true 1 (notes_at h xs) b)
      ] in
      (omega (arith, ne), leb-false (k.tolerated + 1) (notes_at h xs) p.1, p.2, some)

  -- h is not shown: no set agrees, and nobody has noted it
  pub previous_since : verdict_at k h xs ≡ Previous → (0 < h) × (notes_at h xs ≡ 0) × (agreed k.replicas k.tolerated k.groups h 1 xs ≡ false) × (agreed k.replicas k.tolerated k.groups h 0 xs ≡ false)
  previous_since e =
      let p = previous_by (eqb h 0) (leb (k.tolerated + 1) (notes_at h xs)) (agreed k.replicas k.tolerated k.groups h 1 xs) (agreed k.replicas k.tolerated k.groups h 0 xs || leb 1 (notes_at h xs)) e in
      let ne : h ≡ 0 → ⊥ = eqb-false h 0 p.0 in
      let q = or_parts (agreed k.replicas k.tolerated k.groups h 0 xs) (leb 1 (notes_at h xs)) p.3 in
      (omega (arith, ne), omega (arith, leb-false 1 (notes_at h xs) q.1), p.2, q.0)
