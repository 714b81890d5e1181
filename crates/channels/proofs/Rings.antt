-- One element more at the end of a ring (`ring_push`), and one fewer at its start (`ring_pop`).
use Rattle.std.proofs.Common.{◌≡◌, ℕ, ◌+◌, ◌-◌, ◌<◌, ◌≤◌, List, [], ◌∷◌, ◌++◌, length, get_or, take, drop, set, sym, ap, ◌∙◌, inl, inr, add-one, arith}
use Rattle.std.proofs.lemmas.List.{get_or_default, append-nil, append_assoc, length-append, length-set, length-take, length-drop, set-append_left, set-append_right, take_all, take-append-le, take-set-le, drop-set-lt, drop-set-add, drop_all, drop_more, take_more, take_more_set}
use Rattle.std.proofs.Math.Seq.{take-set-lt}
use Rattle.std.specs.List.Sorted.{IsPermutation}
use Rattle.std.proofs.lemmas.List.Sorted.{IsPermutation-to_front}
use Rattle.std.proofs.lemmas.Bool.{cases_lt}
use Rattle.std.proofs.lemmas.Bool.Decides.{nat_tests}
use Rattle.channels.specs.Ring.{ring, end_of, first_of}

-- the new element lies before the end of the cells
ring_push_on : {X : Type 0} (xs : List X) (s n : ℕ) (y : X) → s + n < length xs → ring (set xs (s + n) y) s (n + 1) ≡ ring xs s n ++ y ∷ []
ring_push_on xs s n y h =
    let within : n < length (drop s xs) = simp length-drop (omega arith) in
    let whole : n < length (drop s xs ++ take s xs) = simp (length-append, length-drop) (omega arith) in
    let below : s ≤ s + n = omega arith in
    let turned : drop s (set xs (s + n) y) ++ take s (set xs (s + n) y) ≡ set (drop s xs ++ take s xs) n y = rw (drop-set-add, take-set-le s xs (s + n) y below, set-append_left (drop s xs) (take s xs) n y within) in
    ap (take (n + 1)) turned ∙ take_more_set (drop s xs ++ take s xs) n y whole

-- it lies at the front of them
ring_push_round : {X : Type 0} (xs : List X) (s n i : ℕ) (y : X) → s ≤ length xs → i < s → n ≡ (length xs - s) + i → ring (set xs i y) s (n + 1) ≡ ring xs s n ++ y ∷ []
ring_push_round xs s n i y le h e =
    let gap : length (drop s xs) ≡ length xs - s = length-drop s xs in
    let past : length xs - s ≤ n = omega arith in
    let at : n - (length xs - s) ≡ i = omega arith in
    let whole : n < length (drop s xs ++ take s xs) = simp (length-append, length-drop, length-take) (omega arith) in
    let turned : drop s (set xs i y) ++ take s (set xs i y) ≡ set (drop s xs ++ take s xs) n y =
    rw (drop-set-lt s xs i y h, take-set-lt s xs i y h, set-append_right (drop s xs) (take s xs) (length xs - s) n y gap past, at) in
    ap (take (n + 1)) turned ∙ take_more_set (drop s xs ++ take s xs) n y whole

front : {X : Type 0} (xs : List X) (s n : ℕ) (x : X) → s < length xs → x ≡ get_or xs s x → ring xs s (n + 1) ≡ x ∷ take n (drop (s + 1) xs ++ take s xs)
front xs s n x h e = rw (drop_more xs s x h, ← e, add-one)

ring_pop_on : {X : Type 0} (xs : List X) (s n : ℕ) (x : X) → s < length xs → n < length xs → x ≡ get_or xs s x → ring xs s (n + 1) ≡ x ∷ ring xs (s + 1) n
ring_pop_on xs s n x h m e =
    let few : n ≤ length (drop (s + 1) xs ++ take s xs) = simp (length-append, length-drop, length-take) (omega arith) in
    let back : take n (drop (s + 1) xs ++ take (s + 1) xs) ≡ take n (drop (s + 1) xs ++ take s xs) =
    rw (take_more xs s x h, ← append_assoc (drop (s + 1) xs) (take s xs) _, take-append-le n (drop (s + 1) xs ++ take s xs) _ few) in
    front xs s n x h e ∙ ap (λ l. x ∷ l) (sym back)

ring_whole : {X : Type 0} (xs : List X) (s n : ℕ) → s ≡ length xs → ring xs s n ≡ ring xs 0 n
ring_whole xs s n e =
    let le : length xs ≤ s = omega arith in
    rw (drop_all s xs le, take_all s xs le) (ap (take n) (sym (append-nil xs)))

pub length_ring : {X : Type 0} (xs : List X) (s n : ℕ) → s ≤ length xs → n ≤ length xs → length (ring xs s n) ≡ n
length_ring xs s n h m = simp (length-take, length-append, length-drop) (omega arith)

pub ring_push : {X : Type 0} (xs : List X) (s n i : ℕ) (y : X) → s ≤ length xs → n < length xs → i ≡ end_of s n (length xs) → ring (set xs i y) s (n + 1) ≡ ring xs s n ++ y ∷ []
ring_push xs s n i y h m e =
    elim (cases_lt n (length xs - s)) [
      | inl lt ↦ let at : i ≡ s + n = grind (arith, nat_tests) in
          let on : s + n < length xs = omega arith in
          rw at (ring_push_on xs s n y on)
      | inr ge ↦ let at : i ≡ n - (length xs - s) = grind (arith, nat_tests) in
          let lo : i < s = omega arith in
          ring_push_round xs s n i y h lo (omega arith)
    ]

-- what is put into the ring waits in it beside what did
pub ring_takes : {X : Type 0} (xs : List X) (s n i : ℕ) (y : X) → s ≤ length xs → n < length xs → i ≡ end_of s n (length xs) → IsPermutation (ring (set xs i y) s (n + 1)) (y ∷ ring xs s n)
ring_takes xs s n i y h m e = rw (ring_push xs s n i y h m e) (IsPermutation-to_front _ _)

pub ring_room : {X : Type 0} (xs : List X) (n i : ℕ) (y : X) → n < length xs → length xs - n ≡ length (set xs i y) - (n + 1) + 1
ring_room xs n i y h = simp length-set (omega arith)

pub ring_pop : {X : Type 0} (xs : List X) (s n i : ℕ) (x : X) → s ≤ length xs → 0 < n → n ≤ length xs → i ≡ first_of s (length xs) → x ≡ get_or xs i x → ring xs s n ≡ x ∷ ring xs (i + 1) (n - 1)
ring_pop xs s n i x h p m e r =
    let one : n - 1 + 1 ≡ n = omega arith in
    let few : n - 1 < length xs = omega arith in
    elim (cases_lt s (length xs)) [
      | inl lt ↦ let at : i ≡ s = grind (arith, nat_tests) in
          let read : x ≡ get_or xs s x = rw at at r in
          rw (at, ap (ring xs s) (sym one)) (ring_pop_on xs s (n - 1) x lt few read)
      | inr ge ↦ let at : i ≡ 0 = grind (arith, nat_tests) in
          let all : s ≡ length xs = omega arith in
          let some : 0 < length xs = omega arith in
          let read : x ≡ get_or xs 0 x = rw at at r in
          ring_whole xs s n all ∙ rw (at, ap (ring xs 0) (sym one)) (ring_pop_on xs 0 (n - 1) x some few read)
    ]

-- the same, of what is read in its cell
pub ring_gives : {X : Type 0} (xs : List X) (s n i : ℕ) (d : X) → s ≤ length xs → 0 < n → n ≤ length xs → i ≡ first_of s (length xs) → i < length xs → ring xs s n ≡ get_or xs i d ∷ ring xs (i + 1) (n - 1)
ring_gives xs s n i d h p m e l = ring_pop xs s n i (get_or xs i d) h p m e (get_or_default xs i d _ l)
