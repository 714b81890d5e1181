-- When a set of replies at one version agrees.
use Rattle.std.specs.Prelude.{ℕ, zero, suc, ◌+◌, ◌-◌, ◌*◌, ◌/◌, ◌%◌, ◌^◌, Bool, true, false, ◌&&◌, ◌||◌, List, [], ◌∷◌, length, count_by, ◌==◌, nat_le}
use Rattle.quorum.specs.declared.slip.Reading.{Reading}

-- some number from 1 to n passes
abbrev pub some_up_to : ℕ → (ℕ → Bool) → Bool
some_up_to zero p = false
some_up_to (suc n) p = p (suc n) || some_up_to n p

-- some set of the replies passes: each reply is in the set or not
abbrev pub some_set : {X : Type 0} → (List X → Bool) → List X → Bool
some_set p [] = p []
some_set p (x ∷ xs) = some_set (λ ys. p (x ∷ ys)) xs || some_set p xs

-- mark k is among the marks
abbrev pub has_mark : ℕ → ℕ → Bool
has_mark marks k = marks / 2 ^ k % 2 == 1

-- mark k is common to all the replies
abbrev pub all_have : List Reading → ℕ → Bool
all_have [] k = true
all_have (y ∷ ys) k = has_mark y.marks k && all_have ys k

-- the eight marks
abbrev pub eight : List ℕ
eight = 0 ∷ 1 ∷ 2 ∷ 3 ∷ 4 ∷ 5 ∷ 6 ∷ 7 ∷ []

-- how many of the eight marks are common to all the replies
abbrev pub common_marks : List Reading → ℕ
common_marks ys = count_by (all_have ys) eight

-- all the replies are at version h
abbrev pub all_at : ℕ → List Reading → Bool
all_at h [] = true
all_at h (y ∷ ys) = y.version == h && all_at h ys

-- these are at least s - a * t replies, all at version h, with at least a + extra marks in common
abbrev pub agree : ℕ → ℕ → ℕ → ℕ → ℕ → List Reading → Bool
agree s t h extra a ys = nat_le (s - a * t) (length ys) && (all_at h ys && nat_le (a + extra) (common_marks ys))

-- for some a from 1 to v + 1, some set of the replies agrees
unfoldable pub agreed : ℕ → ℕ → ℕ → ℕ → ℕ → List Reading → Bool
agreed s t v h extra xs = some_up_to (v + 1) (λ a. some_set (agree s t h extra a) xs)
