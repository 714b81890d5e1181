-- What holds of each element of a list, said by recursion on it: std's lemmas on `All`, for this form.
use Rattle.std.proofs.Common.{◌≡◌, Bool, true, List, [], ◌∷◌, ◌++◌, map, reverse, suc, refl, arith}
use Rattle.std.specs.List.{Contains, AllByRecursion, filter}
use Rattle.std.specs.List.Sorted.{IsPermutation}
use Rattle.std.proofs.lemmas.List.Elements.{All-from_recursion, recursion_from_All}
use Rattle.std.proofs.lemmas.List.Elements as elements
use Rattle.std.proofs.lemmas.List.Sorted.{IsPermutation-sym, IsPermutation-reverse}
use Rattle.std.proofs.lemmas.List.Sorted as sorted

module _ {X : Type 0} where
  pub has_here : (x : X) (xs : List X) → Contains (x ∷ xs) x
  has_here x xs = (0, omega arith, refl)

  pub has_there : (x y : X) (xs : List X) → Contains xs y → Contains (x ∷ xs) y
  has_there x y xs h = (suc h.0, omega (arith, h.1), h.2)

  pub all_zip : (P Q R : X → Type 0) → ((x : X) → P x → Q x → R x) → (xs : List X)
      → AllByRecursion P xs → AllByRecursion Q xs → AllByRecursion R xs
  all_zip P Q R f [] p q = tt
  all_zip P Q R f (x ∷ xs) p q = (f x p.0 q.0, all_zip P Q R f xs p.1 q.1)

  pub all_two : (P Q : X → Type 0) (xs : List X)
      → AllByRecursion P xs → AllByRecursion Q xs → AllByRecursion (λ x. P x × Q x) xs
  all_two P Q = all_zip P Q (λ x. P x × Q x) (λ x p q. (p, q))

  pub All-weaker : (P Q : X → Type 0) → ((x : X) → P x → Q x) → (xs : List X) → AllByRecursion P xs → AllByRecursion Q xs
  All-weaker P Q f xs h = all_zip P P Q (λ x p q. f x p) xs h h

  pub All-map : (P : X → Type 0) {Y : Type 0} (f : Y → X) (ys : List Y)
      → AllByRecursion (λ y. P (f y)) ys → AllByRecursion P (map f ys)
  All-map P f [] h = tt
  All-map P f (y ∷ ys) h = (h.0, All-map P f ys h.1)

  pub all_from_map : (P : X → Type 0) {Y : Type 0} (f : Y → X) (ys : List Y)
      → AllByRecursion P (map f ys) → AllByRecursion (λ y. P (f y)) ys
  all_from_map P f [] h = tt
  all_from_map P f (y ∷ ys) h = (h.0, all_from_map P f ys h.1)

  pub All-append : (P : X → Type 0) (xs ys : List X)
      → AllByRecursion P xs → AllByRecursion P ys → AllByRecursion P (xs ++ ys)
  All-append P [] ys h k = k
  All-append P (x ∷ xs) ys h k = (h.0, All-append P xs ys h.1 k)

  pub All-push : (P : X → Type 0) (xs : List X) (x : X) → AllByRecursion P xs → P x → AllByRecursion P (xs ++ x ∷ [])
  All-push P xs x h p = All-append P xs (x ∷ []) h (p, tt)

  pub All-permutation : (P : X → Type 0) (xs ys : List X) → IsPermutation xs ys → AllByRecursion P xs → AllByRecursion P ys
  All-permutation P xs ys s h = recursion_from_All P ys (sorted.All-permutation P xs ys s (All-from_recursion P xs h))

  pub all_reverse : (P : X → Type 0) (xs : List X) → AllByRecursion P xs → AllByRecursion P (reverse xs)
  all_reverse P xs = All-permutation P xs (reverse xs) (IsPermutation-reverse xs)

  pub all_from_reverse : (P : X → Type 0) (xs : List X) → AllByRecursion P (reverse xs) → AllByRecursion P xs
  all_from_reverse P xs = All-permutation P (reverse xs) xs (IsPermutation-sym xs (reverse xs) (IsPermutation-reverse xs))

  pub All-contains : (P : X → Type 0) (xs : List X) (x : X) → AllByRecursion P xs → Contains xs x → P x
  All-contains P xs x h = elements.All-contains P xs x (All-from_recursion P xs h)

  pub All-contains_itself : (xs : List X) → AllByRecursion (Contains xs) xs
  All-contains_itself xs = recursion_from_All (Contains xs) xs (elements.All-contains_itself xs)

  pub All-filter : (p : X → Bool) (P : X → Type 0) (xs : List X) → AllByRecursion P xs → AllByRecursion P (filter p xs)
  All-filter p P xs h = recursion_from_All P (filter p xs) (elements.All-filter p P xs (All-from_recursion P xs h))

  pub filter_passes : (p : X → Bool) (xs : List X) → AllByRecursion (λ x. p x ≡ true) (filter p xs)
  filter_passes p xs = recursion_from_All (λ x. p x ≡ true) (filter p xs) (elements.filter_passes p xs)
