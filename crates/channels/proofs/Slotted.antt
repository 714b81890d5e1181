-- One slot filled or freed, and a search over the slots.
use Rattle.std.proofs.Common.{◌≡◌, ℕ, zero, suc, ◌+◌, ◌-◌, ◌%◌, ◌^◌, ◌<◌, ◌≤◌, Bool, sym, ap, ◌∙◌, inl, inr, true, false, cond, List, [], ◌∷◌, length, get_or, set, is_none, is_some, fold, MatchOption, Some, None, Option, refl, le_of_suc-le-suc, not-suc-le-zero, arith}
use Rattle.std.specs.Int.{from_bool}
use Rattle.std.specs.List.Sorted.{IsPermutation}
use Rattle.std.proofs.lemmas.List.Sorted.{IsPermutation-refl, IsPermutation-cons, IsPermutation-trans}
use Rattle.std.specs.List.{count_by, All, AllWithin, HoldsAt}
use Rattle.std.proofs.lemmas.List.Recursion.{is_count_by}
use Rattle.std.proofs.lemmas.Bool.{cases_lt, cases_Bool}
use mathlib.Core.Path.{subst⁻¹}
use Rattle.std.proofs.lemmas.Bool.Decides.{nat_tests}
use Rattle.wire.specs.declared.message.Message.{Message}
use Rattle.channels.specs.Table.{somes, gaps, lower, NoLower, Found, pick}
use Rattle.std.proofs.lemmas.List.Sorted.{IsPermutation-middle}

module _ {M : Type 0} where
  unused_or_not : (s : Option M) (xs : List (Option M)) → gaps (s ∷ xs) ≡ cond (is_none s) (1 + gaps xs) (gaps xs)
  unused_or_not None xs = omega arith
  unused_or_not (Some m) xs = refl

  pub gaps_count : (xs : List (Option M)) → gaps xs ≡ count_by is_none xs
  gaps_count xs = is_count_by gaps is_none refl unused_or_not xs

  -- one fewer if the slot is used, in 64 bits
  abbrev pub less_used : ℕ → Option M → ℕ
  less_used n s = (n + (2 ^ 64 - from_bool (is_some s))) % 2 ^ 64

  pub fold_used : (xs : List (Option M)) (n : ℕ) → length xs ≤ n → n < 2 ^ 64 → fold less_used n xs ≡ n - length xs + gaps xs
  fold_used [] n l h = omega arith
  fold_used (None ∷ xs) n l h = let e : less_used n None ≡ n = omega arith in rw e (omega (arith, fold_used xs n (omega arith) h))
  fold_used (Some m ∷ xs) n l h = let e : less_used n (Some m) ≡ n - 1 = omega arith in rw e (omega (arith, fold_used xs (n - 1) (omega arith) (omega arith)))

  all_used : (xs : List (Option M)) → All (λ s. is_none s ≡ false) xs → gaps xs ≡ 0
  all_used [] h = refl
  all_used (None ∷ xs) h = let e = h 0 None (omega arith) in cc
  all_used (Some m ∷ xs) h = all_used xs (λ k d l. h (suc k) d (omega arith))

  unused_is_none : (s : Option M) → is_none s ≡ true → s ≡ None
  unused_is_none None e = refl
  unused_is_none (Some m) e = cc

  pub first_unused : (xs : List (Option M)) (r : Option ℕ) → MatchOption r (AllWithin (λ s. is_none s ≡ false) xs 0 (length xs)) (λ i. (i < length xs) × HoldsAt (λ s. is_none s ≡ true) xs i × AllWithin (λ s. is_none s ≡ false) xs 0 i)
      → MatchOption r (gaps xs ≡ 0) (λ i. (i < length xs) × (get_or xs i None ≡ None))
  first_unused xs None h = all_used xs (λ k d l. h k d (omega arith) l)
  first_unused xs (Some i) h = (h.0, unused_is_none _ (h.1 None))

  pub somes_gaps : (xs : List (Option M)) → length (somes xs) + gaps xs ≡ length xs
  somes_gaps [] = refl
  somes_gaps (None ∷ xs) = omega (arith, somes_gaps xs)
  somes_gaps (Some m ∷ xs) = omega (arith, somes_gaps xs)

  -- a message put into an unused slot
  pub filled_holds : (xs : List (Option M)) (i : ℕ) (m : M) → i < length xs → get_or xs i None ≡ None → IsPermutation (somes (set xs i (Some m))) (m ∷ somes xs)
  filled_holds [] i m h e = absurd (not-suc-le-zero h)
  filled_holds (None ∷ xs) zero m h e = IsPermutation-refl _
  filled_holds (Some x ∷ xs) zero m h e = cc
  filled_holds (None ∷ xs) (suc i) m h e = filled_holds xs i m (le_of_suc-le-suc h) e
  filled_holds (Some x ∷ xs) (suc i) m h e = IsPermutation-trans _ _ _ (IsPermutation-cons x _ _ (filled_holds xs i m (le_of_suc-le-suc h) e)) (IsPermutation-middle (x ∷ []) m (somes xs))

  pub filled_leaves : (xs : List (Option M)) (i : ℕ) (m : M) → i < length xs → get_or xs i None ≡ None → gaps xs ≡ gaps (set xs i (Some m)) + 1
  filled_leaves [] i m h e = absurd (not-suc-le-zero h)
  filled_leaves (None ∷ xs) zero m h e = omega arith
  filled_leaves (Some x ∷ xs) zero m h e = cc
  filled_leaves (None ∷ xs) (suc i) m h e = omega (arith, filled_leaves xs i m (le_of_suc-le-suc h) e)
  filled_leaves (Some x ∷ xs) (suc i) m h e = filled_leaves xs i m (le_of_suc-le-suc h) e

  -- a message taken out of its slot
  pub freed_holds : (xs : List (Option M)) (i : ℕ) (m : M) → i < length xs → get_or xs i None ≡ Some m → IsPermutation (somes xs) (m ∷ somes (set xs i None))
  freed_holds [] i m h e = absurd (not-suc-le-zero h)
  freed_holds (None ∷ xs) zero m h e = cc
  freed_holds (Some x ∷ xs) zero m h e = let same : x ≡ m = cc in rw same (IsPermutation-refl _)
  freed_holds (None ∷ xs) (suc i) m h e = freed_holds xs i m (le_of_suc-le-suc h) e
  freed_holds (Some x ∷ xs) (suc i) m h e = IsPermutation-trans _ _ _ (IsPermutation-cons x _ _ (freed_holds xs i m (le_of_suc-le-suc h) e)) (IsPermutation-middle (x ∷ []) m (somes (set xs i None)))

  pub freed_leaves : (xs : List (Option M)) (i : ℕ) (m : M) → i < length xs → get_or xs i None ≡ Some m → gaps (set xs i None) ≡ gaps xs + 1
  freed_leaves [] i m h e = absurd (not-suc-le-zero h)
  freed_leaves (None ∷ xs) zero m h e = cc
  freed_leaves (Some x ∷ xs) zero m h e = omega arith
  freed_leaves (None ∷ xs) (suc i) m h e = omega (arith, freed_leaves xs i m (le_of_suc-le-suc h) e)
  freed_leaves (Some x ∷ xs) (suc i) m h e = freed_leaves xs i m (le_of_suc-le-suc h) e

  pub none_held : (xs : List (Option M)) → ((k : ℕ) → k < length xs → get_or xs k None ≡ None) → somes xs ≡ []
  none_held [] h = refl
  none_held (None ∷ xs) h = none_held xs (λ k l. h (suc k) (omega arith))
  none_held (Some x ∷ xs) h = let e = h 0 (omega arith) in cc

lower_self : (m : Message) → lower m m ≡ false
lower_self m = grind (arith, nat_tests)

lower_on : (x m p : Message) → lower m p ≡ true → lower x p ≡ false → lower x m ≡ false
lower_on x m p a b = grind (arith, nat_tests)

-- what holds of each slot below i, and of i
next_slot : (xs : List (Option Message)) (i : ℕ) (m : Message) (s : Option Message) → s ≡ get_or xs i None → NoLower xs i m → ((x : Message) → s ≡ Some x → lower x m ≡ false) → NoLower xs (i + 1) m
next_slot xs i m s e low here k x h r =
    elim (cases_lt k i) [
      | inl lt ↦ low k x lt r
      | inr ge ↦ let at : k ≡ i = omega arith in here x (e ∙ sym (ap (λ j. get_or xs j None) at) ∙ r)
    ]

pub found_more : (xs : List (Option Message)) (i : ℕ) (best : Option (ℕ × Message)) (s : Option Message) → s ≡ get_or xs i None → Found xs i best → Found xs (i + 1) (pick best i s)
found_more xs i None None e f = λ k h. elim (cases_lt k i) [ inl lt ↦ f k lt | inr ge ↦ let at : k ≡ i = omega arith in ap (λ j. get_or xs j None) at ∙ sym e ]
found_more xs i (Some p) None e (h, r, low) = (omega arith, r, next_slot xs i p.1 None e low (λ x q. cc))
found_more xs i None (Some m) e f =
    (omega arith, sym e, next_slot xs i m (Some m) e (λ k x h r. let n = f k h in cc) (λ x q. let same : m ≡ x = cc in rw (← same) (lower_self m)))
found_more xs i (Some p) (Some m) e (h, r, low) =
    let next : Bool → Type 0 = λ b. Found xs (i + 1) (cond b (Some (i, m)) (Some p)) in
    elim (cases_Bool (lower m p.1)) [
      | inl t ↦ subst⁻¹ next t (omega arith, sym e, next_slot xs i m (Some m) e (λ k x l q. lower_on x m p.1 t (low k x l q)) (λ x q. let same : m ≡ x = cc in rw (← same) (lower_self m)))
      | inr t ↦ subst⁻¹ next t (omega arith, r, next_slot xs i p.1 (Some m) e low (λ x q. let same : m ≡ x = cc in rw (← same) t))
    ]
