-- Tables as lists and as functions, and lists of waiting messages up to their order. It ends in `shuffled_same`.
use Rattle.std.proofs.Common.{ℕ, ◌<◌, ◌⊎◌, List, [], ◌∷◌, ◌++◌, map, length, get_or, set, sym, refl, subst, inl, inr}
use Rattle.std.specs.List.{AllByRecursion}
use Rattle.std.specs.List.Sorted.{IsPermutation}
use Rattle.std.proofs.lemmas.List.Sorted.{IsPermutation-sym}
use Rattle.theory.proofs.Words.{Message}
use Rattle.theory.proofs.Lists.{All-weaker, All-permutation}
use Rattle.theory.proofs.Members.{Among}
use Rattle.theory.proofs.Model.{put, Msg, Same}
use Rattle.theory.proofs.Tables.{put_case, put_three, table_set}
use Rattle.theory.proofs.Matching.{msg_of}

-- ---- a table with one entry changed, as a list and as a function

-- what holds of each entry beside those of two functions holds after a change of one entry in all three
pub each_set_two : {A B C : Type 0} (P : A → B → C → Type 0) (n : ℕ) (xs : List A) (i : ℕ) (a d : A) (f : ℕ → B) (y : B) (g : ℕ → C) (z : C) → i < length xs → P a y z
    → ((j : ℕ) → j < n → P (get_or xs j d) (f j) (g j)) → (j : ℕ) → j < n → P (get_or (set xs i a) j d) (put f i y j) (put g i z j)
each_set_two P n xs i a d f y g z l p h j =
    subst (λ t. j < n → P (t j) (put f i y j) (put g i z j)) (sym (table_set xs i a d l))
    (put_three (λ q x u v. q < n → P x u v) (λ q. get_or xs q d) f g i a y z j (λ _ _. p) (λ _. h j))

pub each_set : {A B : Type 0} (P : A → B → Type 0) (n : ℕ) (xs : List A) (i : ℕ) (a d : A) (f : ℕ → B) (y : B) → i < length xs → P a y
    → ((j : ℕ) → j < n → P (get_or xs j d) (f j)) → (j : ℕ) → j < n → P (get_or (set xs i a) j d) (put f i y j)
each_set P n xs i a d f y = each_set_two (λ x b (_ : Unit {0}). P x b) n xs i a d f y (λ _. tt) tt

-- the same where the function stays: the new entry fits the one of the function at its place
pub each_set_beside : {A B : Type 0} (P : A → B → Type 0) (n : ℕ) (xs : List A) (i : ℕ) (a d : A) (f : ℕ → B) → i < length xs → P a (f i)
    → ((j : ℕ) → j < n → P (get_or xs j d) (f j)) → (j : ℕ) → j < n → P (get_or (set xs i a) j d) (f j)
each_set_beside P n xs i a d f l p h j =
    subst (λ t. j < n → P (t j) (f j)) (sym (table_set xs i a d l))
    (put_case (λ q x. q < n → P x (f q)) (λ q. get_or xs q d) i a j (λ _ _. p) (λ _. h j))

-- ---- messages that wait

pub in_left : (x : Msg) (v w : List Msg) → Among x v → Among x (v ++ w)
in_left x [] w h = elim h [ ]
in_left x (y ∷ v) w (inl e) = inl e
in_left x (y ∷ v) w (inr h) = inr (in_left x v w h)

pub in_cases : (x : Msg) (v w : List Msg) → Among x (v ++ w) → Among x v ⊎ Among x w
in_cases x [] w h = inr h
in_cases x (y ∷ v) w (inl e) = inl (inl e)
in_cases x (y ∷ v) w (inr h) =
    elim (in_cases x v w h) [ inl a ↦ inl (inr a) | inr a ↦ inr a ]

pub all_in_itself : (ms : List Message) → AllByRecursion (λ m. Among (msg_of m) (map msg_of ms)) ms
all_in_itself [] = tt
all_in_itself (m ∷ ms) = (inl refl, All-weaker _ _ (λ n i. inr i) ms (all_in_itself ms))

pub in_from_all : (ms : List Message) (w : List Msg) → AllByRecursion (λ m. Among (msg_of m) w) ms → (x : Msg) → Among x (map msg_of ms) → Among x w
in_from_all [] w h x i = elim i [ ]
in_from_all (m ∷ ms) w h x (inl e) = subst (λ y. Among y w) (sym e) h.0
in_from_all (m ∷ ms) w h x (inr i) = in_from_all ms w h.1 x i

pub same_self : (w : List Msg) → Same w w
same_self w x = (λ h. h, λ h. h)

pub same_then : (u v w : List Msg) → Same u v → Same v w → Same u w
same_then u v w s t x = (λ h. (t x).0 ((s x).0 h), λ h. (s x).1 ((t x).1 h))

-- lists of messages that are the same up to order are the same to the model
pub shuffled_same : (ms ns : List Message) → IsPermutation ms ns → Same (map msg_of ms) (map msg_of ns)
shuffled_same ms ns s x = (
  in_from_all ms (map msg_of ns) (All-permutation (λ m. Among (msg_of m) (map msg_of ns)) ns ms (IsPermutation-sym ms ns s) (all_in_itself ns)) x,
  in_from_all ns (map msg_of ms) (All-permutation (λ m. Among (msg_of m) (map msg_of ms)) ms ns s (all_in_itself ms)) x,
)
