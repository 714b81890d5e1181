-- The search over masks: the largest a serves all, and a mask of marks that no reply has can be
-- passed over.
use Rattle.std.proofs.Common.{◌≡◌, ℕ, ◌-◌, ◌*◌, ◌<◌, ◌≤◌, true, false, cond, eqb, leb, List, [], ◌∷◌, fold, count_by, sym, refl, ap, ◌∙◌, inl, inr, mul-le-mul_right, arith}
use lib.Bits.{bit_and, bit_or}
use lib.Count.{ones}
use Rattle.std.proofs.lemmas.Nat.{ones-le}
use Rattle.std.proofs.lemmas.Bool.Decides.{nat_tests}
use Rattle.std.proofs.lemmas.List.Sums.{sum_by-cons}
use Rattle.std.proofs.lemmas.Bool.{and_parts, and_from, and_cases, leb-true, leb-false, le-leb, cases_Bool, cases_lt, both_ways}
use Rattle.quorum.specs.declared.slip.Reading.{Reading}
use Rattle.quorum.specs.Agree.{agreed}
use Rattle.quorum.specs.Masks.{covers, used_at, largest, mask_agrees}
use Rattle.std.specs.Int.{bit_at}
use Rattle.std.proofs.lemmas.Nat.Bits.{bit_at_or}
use Rattle.quorum.proofs.Digits.{digits_from_within, within_from_digits}
use Rattle.quorum.proofs.Agreements.{mask_from_agreed, agreed_from_mask}

-- a larger a needs no more replies
need_falls : (s t a b : ℕ) → a ≤ b → s - b * t ≤ s - a * t
need_falls s t a b h = omega (arith, mul-le-mul_right {m = a} {n = b} t h)

-- a mask that agrees: some set does
pub agreed_by_mask : (s t v h extra m : ℕ) (xs : List Reading) → m < 256 → true ≡ mask_agrees s t v h extra xs m → true ≡ agreed s t v h extra xs
agreed_by_mask s t v h extra m xs small e =
    let a : ℕ = largest v extra (ones m) in
    let p = and_parts (leb 1 a) (leb (s - a * t) (count_by (covers h m) xs)) (sym e) in
    let low : 1 ≤ a = leb-true 1 a p.0 in
    sym (agreed_from_mask s t v h extra xs (record {
      a = a;
      low = low;
      high = omega arith;
      found = record { mask = m; small = small; marks = omega arith; many = leb-true (s - a * t) (count_by (covers h m) xs) p.1 };
    }))

-- a mask that does not agree does not
pub not_by_mask : (s t v h extra m : ℕ) (xs : List Reading) → false ≡ mask_agrees s t v h extra xs m → mask_agrees s t v h extra xs m ≡ true → ⊥
not_by_mask s t v h extra m xs e f = both_ways (mask_agrees s t v h extra xs m) (sym e) f

-- a mask below 256 that agrees
record MaskAgrees (s t v h extra : ℕ) (xs : List Reading) : Type 0 where
  pub mask : ℕ
  pub small : mask < 256
  pub agrees : mask_agrees s t v h extra xs mask ≡ true

mask_agrees_from_agreed : (s t v h extra : ℕ) (xs : List Reading) → agreed s t v h extra xs ≡ true → MaskAgrees s t v h extra xs
mask_agrees_from_agreed s t v h extra xs e =
    let g = mask_from_agreed s t v h extra xs e in
    let m : ℕ = g.found.mask in
    let b : ℕ = largest v extra (ones m) in
    let below : g.a ≤ b = omega (arith, g.high, g.found.marks) in
    let enough : s - b * t ≤ count_by (covers h m) xs = omega (arith, need_falls s t g.a b below, g.found.many) in
    record {
      mask = m;
      small = g.found.small;
      agrees = and_from (leb 1 b) (leb (s - b * t) (count_by (covers h m) xs)) (le-leb 1 b (omega (arith, g.low))) (le-leb (s - b * t) (count_by (covers h m) xs) enough);
    }

-- ---- the marks in use

abbrev used_from : ℕ → ℕ → List Reading → ℕ
used_from h u xs = fold (λ a y. cond (eqb y.version h) (bit_or a y.marks) a) u xs

used_grows : (h i u : ℕ) (y : Reading) → bit_at u i ≤ bit_at (cond (eqb y.version h) (bit_or u y.marks) u) i
used_grows h i u y = let e = bit_at_or u y.marks i in grind arith

used_keeps : (h i : ℕ) (u : ℕ) (xs : List Reading) → bit_at u i ≤ bit_at (used_from h u xs) i
used_keeps h i u [] = omega arith
used_keeps h i u (y ∷ ys) =
    let w : ℕ = cond (eqb y.version h) (bit_or u y.marks) u in
    omega (arith, used_grows h i u y, used_keeps h i w ys)

-- a mask that some reply covers is of marks in use
used_from_cover : (h m i u : ℕ) (xs : List Reading) → 0 < count_by (covers h m) xs → bit_at m i ≤ bit_at (used_from h u xs) i
used_from_cover h m i u [] k = absurd (let z : ⊥ = omega arith in z)
used_from_cover h m i u (y ∷ ys) k =
    let w : ℕ = cond (eqb y.version h) (bit_or u y.marks) u in
    elim (cases_Bool (covers h m y)) [
      | inl e ↦
          let p = and_parts (eqb y.version h) (eqb (bit_and y.marks m) m) e in
          let sub : bit_and y.marks m ≡ m = grind (arith, nat_tests) in
          let at : eqb y.version h ≡ true = p.0 in
          let is : w ≡ bit_or u y.marks = grind arith in
          omega (arith, digits_from_within y.marks m sub i, bit_at_or u y.marks i, ap (λ n. bit_at n i) is, used_keeps h i w ys)
      | inr e ↦
          used_from_cover h m i w ys (omega (arith, sum_by-cons (λ z. cond (covers h m z) 1 0) y ys, ap (λ b. cond {A = ℕ} b 1 0) e))
    ]

all_eight : ones 255 ≡ 8
unfolding ones
all_eight = refl

-- where all eight marks do not agree, a mask that agrees is of marks in use
within_used : (s t v h extra m : ℕ) (xs : List Reading) → m < 256 → mask_agrees s t v h extra xs 255 ≡ false → mask_agrees s t v h extra xs m ≡ true → bit_and (used_at h xs) m ≡ m
within_used s t v h extra m xs small fails e =
    let a : ℕ = largest v extra (ones m) in
    let b : ℕ = largest v extra (ones 255) in
    let p = and_parts (leb 1 a) (leb (s - a * t) (count_by (covers h m) xs)) e in
    let low : 1 ≤ a = leb-true 1 a p.0 in
    let many : s - a * t ≤ count_by (covers h m) xs = leb-true (s - a * t) (count_by (covers h m) xs) p.1 in
    let below : a ≤ b = omega (arith, ones-le 8 m small, all_eight) in
    let fall : s - b * t ≤ s - a * t = need_falls s t a b below in
    let some : 0 < s - b * t =
    elim (and_cases (leb 1 b) (leb (s - b * t) (count_by (covers h 255) xs)) fails) [
      | inl f ↦ absurd (let k : b < 1 = leb-false 1 b f in let z : ⊥ = omega arith in z)
      | inr f ↦ let k : count_by (covers h 255) xs < s - b * t = leb-false (s - b * t) (count_by (covers h 255) xs) f in omega arith
    ] in
    within_from_digits 8 (used_at h xs) m small (λ i _. used_from_cover h m i 0 xs (omega arith))

-- where neither all eight marks nor a smaller mask of marks in use agrees, no set does
pub not_agreed : (s t v h extra : ℕ) (xs : List Reading) → false ≡ mask_agrees s t v h extra xs 255 → ((k : ℕ) → k < 255 → bit_and (used_at h xs) k ≡ k → mask_agrees s t v h extra xs k ≡ false) → false ≡ agreed s t v h extra xs
not_agreed s t v h extra xs fails none =
    elim (cases_Bool (agreed s t v h extra xs)) [
      | inl e ↦
          let g = mask_agrees_from_agreed s t v h extra xs e in
          absurd (elim (cases_lt g.mask 255) [
            | inl k ↦ both_ways (mask_agrees s t v h extra xs g.mask) (none g.mask k (within_used s t v h extra g.mask xs g.small (sym fails) g.agrees)) g.agrees
            | inr k ↦
                let is : g.mask ≡ 255 = omega (arith, g.small) in
                not_by_mask s t v h extra 255 xs fails (ap (λ (m : ℕ). mask_agrees s t v h extra xs m) (sym is) ∙ g.agrees)
          ])
      | inr e ↦ sym e
    ]
