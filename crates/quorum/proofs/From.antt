-- Which replicas a list of slips is from: by std's test, and when a slip is added.
use Rattle.std.proofs.Common.{◌≡◌, ℕ, ◌+◌, min, true, false, not, eqb, ltb, List, [], ◌∷◌, ◌++◌, length, take, set, sym, refl, ap, ◌∙◌, subst, inl, inr, arith}
use Rattle.std.proofs.lemmas.Bool.Decides.{nat_tests}
use Rattle.std.proofs.lemmas.Bool.{cases_lt, le-ltb, ltb-true, not-true, and_parts, and_right}
use Rattle.std.proofs.lemmas.List.{take_more_set}
use Rattle.std.proofs.lemmas.List.Folds.{list_any-append}
use Rattle.quorum.specs.Tally.{from, adds, Once}

from_push : {X : Type 0} (f : X → ℕ) (i : ℕ) (xs : List X) (y : X) → from f i xs ≡ false → eqb (f y) i ≡ false → from f i (xs ++ y ∷ []) ≡ false
from_push f i xs y a e = rw (list_any-append (λ x. eqb (f x) i) xs (y ∷ []), a, e) refl

-- a slip of a new replica leaves each named once
pub once_push : {X : Type 0} (f : X → ℕ) (xs : List X) (y : X) → Once f xs → from f (f y) xs ≡ false → Once f (xs ++ y ∷ [])
once_push f [] y o a = (refl, tt)
once_push f (x ∷ xs) y o a =
    let h : eqb (f x) (f y) ≡ false = grind arith in
    let s : eqb (f y) (f x) ≡ false = grind (arith, nat_tests) in
    (from_push f (f x) xs y o.0 s, once_push f xs y o.1 (grind arith))

-- a count above the number of places says no more than that number
pub adds_lowered : {X : Type 0} (f : X → ℕ) (xs : List X) (n : ℕ) (s : X) → adds f xs (min n (length xs)) s ≡ adds f xs n s
adds_lowered f xs n s =
    elim (cases_lt n (length xs)) [
      | inl h ↦ ap (λ (k : ℕ). adds f xs k s) (let e : min n (length xs) ≡ n = omega arith in e)
      | inr h ↦
          let e : ltb n (length xs) ≡ false = le-ltb n (length xs) h in
          let m : ltb (min n (length xs)) (length xs) ≡ false = le-ltb (min n (length xs)) (length xs) (omega arith) in
          and_right _ _ m ∙ sym (and_right (not (from f (f s) (take n xs))) _ e)
    ]

-- a slip that is added leaves each replica named once
pub once_added : {X : Type 0} (f : X → ℕ) (xs : List X) (n : ℕ) (s : X) → true ≡ adds f xs n s → Once f (take n xs) → Once f (take (n + 1) (set xs n s))
once_added f xs n s e o =
    let p = and_parts (not (from f (f s) (take n xs))) (ltb n (length xs)) (sym e) in
    subst (Once f) (sym (take_more_set xs n s (ltb-true n (length xs) p.1)))
    (once_push f (take n xs) s o (not-true (from f (f s) (take n xs)) p.0))
