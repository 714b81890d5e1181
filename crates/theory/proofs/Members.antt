-- What stands in a list, and lists of numbers as sets: distinct numbers that all stand in another list are no more than it has (`no_longer`).
use Rattle.std.proofs.Common.{◌≡◌, ℕ, suc, ◌≤◌, cond, eqb, ◌⊎◌, List, [], ◌∷◌, length, sym, ◌∙◌, subst, inl, inr, arith}
use Rattle.std.proofs.lemmas.Bool.{cases_eq, cond_both, eqb-false, eqb-true}
use Rattle.std.specs.List.{AllByRecursion}
use Rattle.theory.proofs.Sets.{Lacks, Distinct}

-- n stands in the list
abbrev pub Among : {X : Type 0} → X → List X → Type 0
Among n [] = ⊥
Among n (x ∷ xs) = (n ≡ x) ⊎ Among n xs

pub all_among : {X : Type 0} (P : X → Type 0) (x : X) (xs : List X) → AllByRecursion P xs → Among x xs → P x
all_among P x [] h i = absurd i
all_among P x (y ∷ ys) h (inl e) = subst P (sym e) h.0
all_among P x (y ∷ ys) h (inr i) = all_among P x ys h.1 i

pub among? : (n : ℕ) (xs : List ℕ) → Among n xs ⊎ Lacks n xs
among? n [] = inr tt
among? n (x ∷ xs) =
    elim (cases_eq n x) [
      | inl e ↦ inl (inl e)
      | inr e ↦ elim (among? n xs) [ inl a ↦ inl (inr a) | inr a ↦ inr (e, a) ]
    ]

-- the list without n
pub without : ℕ → List ℕ → List ℕ
without n [] = []
without n (x ∷ xs) = cond (eqb x n) (without n xs) (x ∷ without n xs)

without_length : (n : ℕ) (xs : List ℕ) → length (without n xs) ≤ length xs
unfolding without
without_length n [] = omega arith
without_length n (x ∷ xs) =
    let ih : length (without n xs) ≤ length xs = without_length n xs in
    cond_both (eqb x n) (without n xs) (x ∷ without n xs) (λ ys. length ys ≤ suc (length xs)) (λ e. omega arith) (λ e. omega arith)

pub without_less : (n : ℕ) (xs : List ℕ) → Among n xs → suc (length (without n xs)) ≤ length xs
unfolding without
without_less n [] a = absurd a
without_less n (x ∷ xs) a =
    cond_both (eqb x n) (without n xs) (x ∷ without n xs) (λ ys. suc (length ys) ≤ suc (length xs))
    (λ e. let k : length (without n xs) ≤ length xs = without_length n xs in omega arith)
    (λ e. elim a [ inl q ↦ absurd (eqb-false x n e (sym q)) | inr q ↦ (let k : suc (length (without n xs)) ≤ length xs = without_less n xs q in omega arith) ])

pub without_keeps : (n i : ℕ) (xs : List ℕ) → (i ≡ n → ⊥) → Among i xs → Among i (without n xs)
unfolding without
without_keeps n i [] ne a = a
without_keeps n i (x ∷ xs) ne a =
    cond_both (eqb x n) (without n xs) (x ∷ without n xs) (Among i)
    (λ e. elim a [ inl q ↦ absurd (ne (q ∙ eqb-true x n e)) | inr q ↦ without_keeps n i xs ne q ])
    (λ e. elim a [ inl q ↦ inl q | inr q ↦ inr (without_keeps n i xs ne q) ])

all_kept_without : (x : ℕ) (ys zs : List ℕ) → Lacks x zs → AllByRecursion (λ z. Among z ys) zs → AllByRecursion (λ z. Among z (without x ys)) zs
all_kept_without x ys [] a b = tt
all_kept_without x ys (z ∷ zs) a b = (without_keeps x z ys (λ e. a.0 (sym e)) b.0, all_kept_without x ys zs a.1 b.1)

-- Distinct numbers that all stand in another list are no more than it has.
pub no_longer : (xs ys : List ℕ) → Distinct xs → AllByRecursion (λ x. Among x ys) xs → length xs ≤ length ys
no_longer [] ys d h = omega arith
no_longer (x ∷ xs) ys d h =
    let ih : length xs ≤ length (without x ys) = no_longer xs (without x ys) d.1 (all_kept_without x ys xs d.0 h.1) in
    let less : suc (length (without x ys)) ≤ length ys = without_less x ys h.0 in
    omega arith
