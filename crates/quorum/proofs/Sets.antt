-- Sets of the replies: the search over sets finds one exactly when there is one.
use Rattle.std.proofs.Common.{◌≡◌, ℕ, zero, suc, ◌≤◌, Bool, true, false, cond, eqb, List, [], ◌∷◌, map, length, count_by, filter, refl, ap, ◌∙◌, inl, inr, arith}
use Rattle.std.proofs.lemmas.Bool.{or_cases, or_parts, or_from, or_left, or_right, both_ways, cases_lt}
use Rattle.std.proofs.lemmas.List.Sums.{sum_by-cons}
use Rattle.std.specs.List.{AllByRecursion}
use Rattle.quorum.specs.Tally.{from, Once}
use Rattle.quorum.specs.Agree.{some_up_to, some_set}

-- the elements that a selection picks, by place
abbrev pub chosen : {X : Type 0} → List Bool → List X → List X
chosen [] xs = []
chosen (b ∷ bs) [] = []
chosen (true ∷ bs) (x ∷ xs) = x ∷ chosen bs xs
chosen (false ∷ bs) (x ∷ xs) = chosen bs xs

-- a number from 1 to n that passes
pub record Passes (n : ℕ) (p : ℕ → Bool) : Type 0 where
  pub a : ℕ
  pub low : 1 ≤ a
  pub high : a ≤ n
  pub passes : p a ≡ true

-- a selection whose elements pass
pub record SetPasses {X : Type 0} (p : List X → Bool) (xs : List X) : Type 0 where
  pub sel : List Bool
  pub passes : p (chosen sel xs) ≡ true

pub number_from_some : (n : ℕ) (p : ℕ → Bool) → some_up_to n p ≡ true → Passes n p
number_from_some zero p e = absurd (both_ways false refl e)
number_from_some (suc n) p e =
    elim (or_cases (p (suc n)) (some_up_to n p) e) [
      | inl y ↦ record { a = suc n; low = omega arith; high = omega arith; passes = y }
      | inr y ↦
          let r = number_from_some n p y in
          record { a = r.a; low = r.low; high = omega (arith, r.high); passes = r.passes }
    ]

pub some_from_number : (n : ℕ) (p : ℕ → Bool) (a : ℕ) → 1 ≤ a → a ≤ n → p a ≡ true → some_up_to n p ≡ true
some_from_number zero p a l h e = absurd (let z : ⊥ = omega arith in z)
some_from_number (suc n) p a l h e =
    elim (cases_lt n a) [
      | inl y ↦ or_left (p (suc n)) (some_up_to n p) (let k : suc n ≡ a = omega arith in ap p k ∙ e)
      | inr y ↦ or_right (p (suc n)) (some_up_to n p) (some_from_number n p a l y e)
    ]

pub set_from_some : {X : Type 0} (p : List X → Bool) (xs : List X) → some_set p xs ≡ true → SetPasses p xs
set_from_some p [] e = record { sel = []; passes = e }
set_from_some p (x ∷ xs) e =
    elim (or_cases (some_set (λ ys. p (x ∷ ys)) xs) (some_set p xs) e) [
      | inl y ↦ let r = set_from_some (λ ys. p (x ∷ ys)) xs y in record { sel = true ∷ r.sel; passes = r.passes }
      | inr y ↦ let r = set_from_some p xs y in record { sel = false ∷ r.sel; passes = r.passes }
    ]

pub some_from_set : {X : Type 0} (p : List X → Bool) (sel : List Bool) (xs : List X) → p (chosen sel xs) ≡ true → some_set p xs ≡ true
some_from_set p [] [] e = e
some_from_set p [] (x ∷ xs) e = or_right (some_set (λ ys. p (x ∷ ys)) xs) (some_set p xs) (some_from_set p [] xs e)
some_from_set p (b ∷ bs) [] e = e
some_from_set p (true ∷ bs) (x ∷ xs) e =
    or_left (some_set (λ ys. p (x ∷ ys)) xs) (some_set p xs) (some_from_set (λ ys. p (x ∷ ys)) bs xs e)
some_from_set p (false ∷ bs) (x ∷ xs) e =
    or_right (some_set (λ ys. p (x ∷ ys)) xs) (some_set p xs) (some_from_set p bs xs e)

-- ---- what a selection keeps

pub chosen_all : {X : Type 0} (P : X → Type 0) (sel : List Bool) (xs : List X) → AllByRecursion P xs → AllByRecursion P (chosen sel xs)
chosen_all P [] xs a = tt
chosen_all P (b ∷ bs) [] a = tt
chosen_all P (true ∷ bs) (x ∷ xs) a = (a.0, chosen_all P bs xs a.1)
chosen_all P (false ∷ bs) (x ∷ xs) a = chosen_all P bs xs a.1

-- a selection names no replica that the list does not name
pub chosen_from_no : {X : Type 0} (f : X → ℕ) (i : ℕ) (sel : List Bool) (xs : List X) → from f i xs ≡ false → from f i (chosen sel xs) ≡ false
chosen_from_no f i [] xs e = refl
chosen_from_no f i (c ∷ cs) [] e = refl
chosen_from_no f i (true ∷ cs) (x ∷ xs) e =
    let p = or_parts (eqb (f x) i) (from f i xs) e in
    or_from (eqb (f x) i) (from f i (chosen cs xs)) p.0 (chosen_from_no f i cs xs p.1)
chosen_from_no f i (false ∷ cs) (x ∷ xs) e =
    chosen_from_no f i cs xs (or_parts (eqb (f x) i) (from f i xs) e).1

pub chosen_once : {X : Type 0} (f : X → ℕ) (sel : List Bool) (xs : List X) → Once f xs → Once f (chosen sel xs)
chosen_once f [] xs o = tt
chosen_once f (b ∷ bs) [] o = tt
chosen_once f (true ∷ bs) (x ∷ xs) o = (chosen_from_no f (f x) bs xs o.0, chosen_once f bs xs o.1)
chosen_once f (false ∷ bs) (x ∷ xs) o = chosen_once f bs xs o.1

-- what passes a test is a selection
pub chosen_map : {X : Type 0} (p : X → Bool) (xs : List X) → chosen (map p xs) xs ≡ filter p xs
chosen_map p [] = refl
chosen_map p (x ∷ xs) =
    elim (p x) as (λ b. chosen (b ∷ map p xs) (x ∷ xs) ≡ cond b (x ∷ filter p xs) (filter p xs))
    [ true ↦ ap (λ ys. x ∷ ys) (chosen_map p xs) | false ↦ chosen_map p xs ]

-- a selection of which each passes is at most all that pass
pub chosen_le_count : {X : Type 0} (p : X → Bool) (sel : List Bool) (xs : List X) → AllByRecursion (λ y. p y ≡ true) (chosen sel xs) → length (chosen sel xs) ≤ count_by p xs
chosen_le_count p [] xs a = omega arith
chosen_le_count p (b ∷ bs) [] a = omega arith
chosen_le_count p (true ∷ bs) (x ∷ xs) a =
    omega (arith, sum_by-cons (λ y. cond (p y) 1 0) x xs, ap (λ b. cond {A = ℕ} b 1 0) a.0, chosen_le_count p bs xs a.1)
chosen_le_count p (false ∷ bs) (x ∷ xs) a =
    omega (arith, sum_by-cons (λ y. cond (p y) 1 0) x xs, chosen_le_count p bs xs a)
