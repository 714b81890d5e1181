-- Numbers by their binary digits: a number within another, how many ones it has, and the number
-- that has given digits.
use Rattle.std.proofs.Common.{◌≡◌, ℕ, zero, suc, ◌+◌, ◌*◌, ◌/◌, ◌%◌, ◌^◌, ◌<◌, ◌≤◌, refl, ap, ◌∙◌, inl, inr, subst, not-suc-le-zero, pow-suc, arith, shr_lt}
use lib.Bits.{bit_and}
use lib.Count.{ones, ones_in, ones_step}
use Rattle.std.specs.Int.{bit_at}
use Rattle.std.proofs.lemmas.Nat.Bits.{bit_at_and, bit_at-suc, bit_at_above, same_from_bits}
use Rattle.std.proofs.lemmas.Bool.{cases_lt}

half_below : (n d : ℕ) → n < 2 ^ suc d → n / 2 < 2 ^ d
half_below n d h = shr_lt d 1 (subst (λ (x : ℕ). n < 2 ^ x) (omega arith) h)

-- a number of d digits, each of which m has, is within m
pub within_from_digits : (d m k : ℕ) → k < 2 ^ d → ((i : ℕ) → i < d → bit_at k i ≤ bit_at m i) → bit_and m k ≡ k
within_from_digits d m k h f =
    same_from_bits (bit_and m k) k (λ i. elim (cases_lt i d) [
      | inl l ↦ omega (arith, bit_at_and m k i, f i l)
      | inr l ↦ omega (arith, bit_at_and m k i, bit_at_above k d i h l)
    ])

-- m has every digit of a number within it
pub digits_from_within : (m k : ℕ) → bit_and m k ≡ k → (i : ℕ) → bit_at k i ≤ bit_at m i
digits_from_within m k e i = omega (arith, ap (λ n. bit_at n i) e, bit_at_and m k i)

-- the ones of a number of d digits are those of its first d digits
pub ones_in_lem : (d n : ℕ) → n < 2 ^ d → ones n ≡ ones_in d n
unfolding ones ones_in
ones_in_lem zero n h = let e : n ≡ 0 = omega arith in rw e refl
ones_in_lem (suc d) n h = ones_step n ∙ ap (λ (x : ℕ). n % 2 + x) (ones_in_lem d (n / 2) (half_below n d h))

-- the sum of d flags
abbrev pub sum_to : ℕ → (ℕ → ℕ) → ℕ
sum_to zero f = 0
sum_to (suc d) f = f 0 + sum_to d (λ i. f (suc i))

-- the number that has d flags as its digits
abbrev pub mask_of : ℕ → (ℕ → ℕ) → ℕ
mask_of zero f = 0
mask_of (suc d) f = f 0 + 2 * mask_of d (λ i. f (suc i))

pub mask_below : (d : ℕ) (f : ℕ → ℕ) → ((i : ℕ) → f i < 2) → mask_of d f < 2 ^ d
mask_below zero f h = omega arith
mask_below (suc d) f h = rw pow-suc (omega (arith, h 0, mask_below d (λ i. f (suc i)) (λ i. h (suc i))))

pub digit_mask : (d : ℕ) (f : ℕ → ℕ) → ((i : ℕ) → f i < 2) → (i : ℕ) → i < d → bit_at (mask_of d f) i ≡ f i
digit_mask zero f h i k = absurd (not-suc-le-zero k)
digit_mask (suc d) f h zero k = omega (arith, h 0)
digit_mask (suc d) f h (suc i) k =
    let rest = mask_of d (λ i. f (suc i)) in
    let e : (f 0 + 2 * rest) / 2 ≡ rest = omega (arith, h 0) in
    bit_at-suc (f 0 + 2 * rest) i ∙ ap (λ n. bit_at n i) e ∙ digit_mask d (λ i. f (suc i)) (λ i. h (suc i)) i (omega arith)

pub ones_mask : (d : ℕ) (f : ℕ → ℕ) → ((i : ℕ) → f i < 2) → ones_in d (mask_of d f) ≡ sum_to d f
unfolding ones_in
ones_mask zero f h = refl
ones_mask (suc d) f h =
    let rest = mask_of d (λ i. f (suc i)) in
    let e : (f 0 + 2 * rest) / 2 ≡ rest = omega (arith, h 0) in
    let m : (f 0 + 2 * rest) % 2 ≡ f 0 = omega (arith, h 0) in
    let r : ones_in d ((f 0 + 2 * rest) / 2) ≡ sum_to d (λ i. f (suc i)) =
    ap (ones_in d) e ∙ ones_mask d (λ i. f (suc i)) (λ i. h (suc i)) in
    omega (arith, m, r)

pub ones_le_sum : (d n : ℕ) (f : ℕ → ℕ) → ((i : ℕ) → i < d → bit_at n i ≤ f i) → ones_in d n ≤ sum_to d f
unfolding ones_in
ones_le_sum zero n f h = omega arith
ones_le_sum (suc d) n f h =
    omega (
      arith,
      h 0 (omega arith),
      ones_le_sum d (n / 2) (λ i. f (suc i)) (λ i k. omega (arith, bit_at-suc n i, h (suc i) (omega arith))),
    )
