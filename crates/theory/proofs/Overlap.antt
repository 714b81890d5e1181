-- Large sets of replicas overlap: ends in `many_both`, the counting lemma that everything about quorums stands on.
use Rattle.std.proofs.Common.{◌≡◌, ℕ, ◌+◌, ◌<◌, ◌≤◌, Bool, true, false, not, eqb, List, [], ◌∷◌, ◌++◌, length, filter, sym, refl, subst, inl, inr, arith, length-append}
use Rattle.std.proofs.lemmas.Bool.{cond_both, eqb-false, eqb-true, ne_eqb, not-true, or_cases, or_parts}
use Rattle.std.specs.List.{AllByRecursion, IsDistinct, list_any}
use Rattle.std.proofs.lemmas.List.Filters.{length-filter_both}
use Rattle.std.proofs.lemmas.Map.Steps.{length-le_from_distinct_below}
use Rattle.theory.proofs.Lists.{All-append, All-filter, All-weaker, filter_passes, all_two}
use Rattle.theory.proofs.Sets.{Lacks, Distinct, Many}

-- distinct numbers, as std has them
differ : (xs : List ℕ) → Distinct xs → IsDistinct eqb xs
unfolding IsDistinct
differ [] h = tt
differ (x ∷ xs) h = (All-weaker (λ y. x ≡ y → ⊥) (λ y. eqb x y ≡ false) (ne_eqb x) xs h.0, differ xs h.1)

listed_all : (P : ℕ → Type 0) (x : ℕ) (ys : List ℕ) → AllByRecursion P ys → list_any (eqb x) ys ≡ true → P x
listed_all P x [] h e = absurd (mathlib.Core.Bool.false≢true e)
listed_all P x (y ∷ ys) h e =
    elim (or_cases (eqb x y) (list_any (eqb x) ys) e) [ inl p ↦ subst P (sym (eqb-true x y p)) h.0 | inr p ↦ listed_all P x ys h.1 p ]

-- At most s distinct numbers are below s.
distinct_below : (s : ℕ) (xs : List ℕ) → Distinct xs → AllByRecursion (λ i. i < s) xs → length xs ≤ s
distinct_below s xs d b = length-le_from_distinct_below xs s (differ xs d) (λ q. listed_all (λ i. i < s) q xs b)

unlisted_lacks : (x : ℕ) (ys : List ℕ) → list_any (eqb x) ys ≡ false → Lacks x ys
unlisted_lacks x [] e = tt
unlisted_lacks x (y ∷ ys) e = let p = or_parts (eqb x y) (list_any (eqb x) ys) e in (eqb-false x y p.0, unlisted_lacks x ys p.1)

distinct_kept : (p : ℕ → Bool) (xs : List ℕ) → Distinct xs → Distinct (filter p xs)
distinct_kept p [] h = tt
distinct_kept p (x ∷ xs) h =
    cond_both (p x) (x ∷ filter p xs) (filter p xs) Distinct
    (λ e. (All-filter p _ xs h.0, distinct_kept p xs h.1)) (λ e. distinct_kept p xs h.1)

distinct_append : (xs ys : List ℕ) → Distinct xs → Distinct ys → AllByRecursion (λ x. Lacks x ys) xs → Distinct (xs ++ ys)
distinct_append [] ys h k a = k
distinct_append (x ∷ xs) ys h k a = (All-append _ xs ys h.0 a.0, distinct_append xs ys h.1 k a.1)

-- Of s replicas at least a are as P says and at least b as Q says: then at least a + b - s are as both say.
pub many_both : (s a b m : ℕ) (P Q : ℕ → Type 0) → Many s a P → Many s b Q → m + s ≤ a + b → Many s m (λ i. P i × Q i)
many_both s a b m P Q x y h =
    let inside = filter (λ i. list_any (eqb i) y.places) x.places in
    let outside = filter (λ i. not (list_any (eqb i) y.places)) x.places in
    let apart : AllByRecursion (λ i. Lacks i y.places) outside =
    All-weaker _ _ (λ i e. unlisted_lacks i y.places (not-true _ e)) outside (filter_passes (λ i. not (list_any (eqb i) y.places)) x.places) in
    let d : Distinct (outside ++ y.places) = distinct_append outside y.places (distinct_kept _ x.places x.distinct) y.distinct apart in
    let few : length (outside ++ y.places) ≤ s =
    distinct_below s (outside ++ y.places) d (All-append _ outside y.places (All-filter _ _ x.places x.below) y.below) in
    let k : length x.places ≡ length inside + length outside = sym (length-filter_both (λ i. list_any (eqb i) y.places) _ (λ i. refl) x.places) in
    let la : length (outside ++ y.places) ≡ length outside + length y.places = length-append outside y.places in
    record {
      places = inside;
      distinct = distinct_kept _ x.places x.distinct;
      below = All-filter _ _ x.places x.below;
      enough = omega (arith, x.enough, y.enough);
      each = all_two P Q inside (All-filter _ P x.places x.each)
          (All-weaker _ Q (λ i e. listed_all Q i y.places y.each e) inside (filter_passes (λ i. list_any (eqb i) y.places) x.places));
    }

pub many_weaker : (s m : ℕ) (P Q : ℕ → Type 0) → ((i : ℕ) → P i → Q i) → Many s m P → Many s m Q
many_weaker s m P Q f x = record { places = x.places; distinct = x.distinct; below = x.below; enough = x.enough; each = All-weaker P Q f x.places x.each }

pub many_fewer : (s m n : ℕ) (P : ℕ → Type 0) → n ≤ m → Many s m P → Many s n P
many_fewer s m n P h x = record { places = x.places; distinct = x.distinct; below = x.below; enough = omega (arith, x.enough); each = x.each }
