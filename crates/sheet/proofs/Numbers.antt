-- Numbers and how they are written.
use Rattle.std.proofs.Common.{◌≡◌, ℕ, suc, ℤ, ◌-ℤ◌, subst, w32, to_z, of_z, ◌+◌, ◌-◌, ◌*◌, ◌^◌, ◌<◌, ◌≤◌, Bool, true, false, cond, List, [], ◌∷◌, length, get_or, take, drop, pos, negsuc, decimal, fold, sym, refl, ap, ◌∙◌, inl, inr, arith, lit<, rules}
use Rattle.std.proofs.lemmas.Bool.Decides.{nat_tests}
use Rattle.std.specs.Str.{IsUtf8}
use Rattle.std.proofs.lemmas.Fmt.{decimal-digits_value, decimal_digit, IsAscii-from_digits}
use Rattle.std.proofs.lemmas.Str.{IsUtf8-from_ascii}
use Rattle.std.proofs.lemmas.Str.Parse.{IsNumeralModel, numerals_by_fold}
use Rattle.std.proofs.lemmas.List.{take-append-drop}
use Rattle.std.proofs.lemmas.List.Sums.{fold-append}
use Rattle.std.proofs.lemmas.Bool.{cases_eq, false≢true}
use Rattle.std.proofs.lemmas.Int.{ints, to_z_pos}
use Rattle.sheet.proofs.Words.{number_max, number, above, Counts, Values, all_digits, amount, numeral, negated, sorted, digits, negative, name}

pub own : IsNumeralModel (λ ds. all_digits ds ≡ true) amount
own = numerals_by_fold _ (search rules) (λ n ds. fold (λ a b. a * 10 + (b - 48)) n ds) (search rules)

pub numeral_parts : (w : List ℕ) → numeral w ≡ true → (all_digits w ≡ true) × (0 < length w) × (get_or w 0 0 ≡ 48 → length w ≡ 1)
numeral_parts w h = (grind (arith, nat_tests), grind (arith, nat_tests), λ z. grind (arith, nat_tests))

pub numeral_utf8 : (w : List ℕ) → numeral w ≡ true → IsUtf8 w
numeral_utf8 w h = IsUtf8-from_ascii w (IsAscii-from_digits w (own.to w (numeral_parts w h).0))

-- a number is written in one way only
pub numeral_decimal : (w : List ℕ) → numeral w ≡ true → amount w < 2 ^ 64 → w ≡ decimal (amount w)
numeral_decimal w h small =
    let p = numeral_parts w h in
    sym (decimal-digits_value own w p.0 p.1 p.2 small)

pick_digits : (a b : Bool) (v w u : List ℕ) → digits v ≡ cond a (digits w) (cond b (negative u) (name w)) → (a ≡ true) × (v ≡ w)
pick_digits true b v w u h = (refl, cc)
pick_digits false true v w u h = absurd (let z : ◌≡◌ {A = ℕ} 0 1 = cc in omega arith)
pick_digits false false v w u h = absurd (let z : ◌≡◌ {A = ℕ} 0 1 = cc in omega arith)

pick_negative : (a b : Bool) (v w u : List ℕ) → negative v ≡ cond a (digits w) (cond b (negative u) (name w)) → (b ≡ true) × (v ≡ u)
pick_negative true b v w u h = absurd (let z : ◌≡◌ {A = ℕ} 0 1 = cc in omega arith)
pick_negative false true v w u h = (refl, cc)
pick_negative false false v w u h = absurd (let z : ◌≡◌ {A = ℕ} 0 1 = cc in omega arith)

pub sorted_digits : (v w : List ℕ) → digits v ≡ sorted w → (numeral w ≡ true) × (v ≡ w)
sorted_digits v w h = pick_digits (numeral w) (negated w) v w (drop 1 w) h

pub negative_sorted : (v w : List ℕ) → negative v ≡ sorted w → (negated w ≡ true) × (v ≡ drop 1 w)
negative_sorted v w h = pick_negative (numeral w) (negated w) v w (drop 1 w) h

-- further digits make no number smaller, so the first of them write at most what all do
amount_grows : (n : ℕ) (w : List ℕ) → n ≤ fold (λ a b. a * 10 + (b - 48)) n w
amount_grows n [] = omega arith
amount_grows n (b ∷ w) = omega (arith, amount_grows (n * 10 + (b - 48)) w)

pub amount_of_first : (w : List ℕ) (k : ℕ) → amount (take k w) ≤ amount w
amount_of_first w k =
    let e = fold-append (λ a b. a * 10 + (b - 48)) 0 (take k w) (drop k w) in
    omega (arith, rw take-append-drop at e, amount_grows (amount (take k w)) (drop k w))

-- a word that was judged a number writes its amount
pub counts : (v w : List ℕ) (limit n : ℕ) → limit < 2 ^ 32 → digits v ≡ sorted w → n ≡ amount v → n ≤ limit → Counts limit w n
counts v w limit n l h e small =
    let p = sorted_digits v w h in
    let a : amount w ≡ n = ap amount (sym p.1) ∙ sym e in
    record { small = small; same = numeral_decimal w p.0 (omega arith) ∙ ap decimal a }

-- and one above the limit is above it at its place
pub excess : (v w : List ℕ) (limit : ℕ) → digits v ≡ sorted w → limit < amount v → above (number limit) w ≡ true
excess v w limit h large =
    let p = sorted_digits v w h in
    let a : limit < amount w = omega (arith, ap amount p.1) in
    grind (arith, nat_tests)

negated_parts : (w : List ℕ) → negated w ≡ true → (w ≡ 45 ∷ drop 1 w) × (get_or (drop 1 w) 0 0 ≡ 48 → ⊥) × (numeral (drop 1 w) ≡ true)
negated_parts [] h = absurd (false≢true h)
negated_parts (b ∷ bs) h = (ap (λ x. x ∷ bs) (grind (arith, nat_tests)), λ z. grind (arith, nat_tests), grind (arith, nat_tests))

-- 0 has no minus sign
pub negated_positive : (w : List ℕ) → negated w ≡ true → amount (drop 1 w) ≤ number_max → 0 < amount (drop 1 w)
negated_positive w h small =
    let p = negated_parts w h in
    let same : drop 1 w ≡ decimal (amount (drop 1 w)) = numeral_decimal (drop 1 w) p.2 (omega arith) in
    elim (cases_eq (amount (drop 1 w)) 0) [ inl z ↦ absurd (p.1 (ap (λ v. get_or v 0 0) (same ∙ ap decimal z ∙ decimal_digit 0 (lit< tt)))) | inr ne ↦ omega arith ]

-- the value of a judged word, as the code makes it of the amount
pub values_negative : (v w : List ℕ) (n : ℕ) → negative v ≡ sorted w → (n ≡ amount v) × (n ≤ number_max) → Values w (to_z w32 (of_z w32 (pos 0 -ℤ to_z w32 n)))
values_negative v w n h e =
    let p = negative_sorted v w h in
    let a : amount (drop 1 w) ≡ n = ap amount (sym p.1) ∙ sym e.0 in
    let q = negated_parts w p.0 in
    let some : 0 < n = omega (arith, negated_positive w p.0 (omega (arith, e.1))) in
    let back : suc (n - 1) ≡ n = omega arith in
    let z : to_z w32 (of_z w32 (pos 0 -ℤ to_z w32 n)) ≡ negsuc (n - 1) = omega (arith, ints, some, e.1) in
    let P : ℤ → Type 0 = λ y. Values w y in
    subst P (sym z) (record { small = omega (arith, e.1); same = q.0 ∙ ap (λ ds. 45 ∷ ds) (numeral_decimal (drop 1 w) q.2 (omega (arith, e.1)) ∙ ap decimal (a ∙ sym back)) })

pub values_positive : (v w : List ℕ) (n : ℕ) → digits v ≡ sorted w → (n ≡ amount v) × (n ≤ number_max) → Values w (to_z w32 n)
values_positive v w n h e =
    let c = counts v w number_max n (omega arith) h e.0 e.1 in
    let P : ℤ → Type 0 = λ z. Values w z in
    subst P (sym (to_z_pos w32 n (omega (arith, e.1)))) (record { small = e.1; same = c.same })
