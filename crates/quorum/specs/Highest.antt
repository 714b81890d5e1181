-- What the replies of a first round say of the highest version among them.
use Rattle.std.specs.Prelude.{ℕ, max, List, [], ◌∷◌, fold, count_by, filter, nat_eq, nat_lt}
use Rattle.std.specs.List.{best_of}
use Rattle.quorum.specs.Slip.{blank_reading}
use Rattle.quorum.specs.declared.slip.Reading.{Reading}

-- the highest version among the slips, 0 for none
abbrev pub highest_by : {X : Type 0} → (X → ℕ) → List X → ℕ
highest_by version_of xs = fold (λ a s. max a (version_of s)) 0 xs

-- the highest version among the replies, 0 for none
abbrev pub highest_of : List Reading → ℕ
highest_of xs = highest_by (λ s. s.version) xs

-- how many replies have the note h
abbrev pub notes_at : ℕ → List Reading → ℕ
notes_at h xs = count_by (λ s. nat_eq s.note h) xs

-- the reply of the lowest replica, the first of equals; a blank one for none
abbrev pub lowest_of : List Reading → Reading
lowest_of [] = blank_reading
lowest_of (x ∷ xs) = best_of (λ y z. nat_lt y.replica z.replica) x xs

-- the reply of the lowest replica among those at version h; a blank one for none
abbrev pub lowest_at : ℕ → List Reading → Reading
lowest_at h xs = lowest_of (filter (λ s. nat_eq s.version h) xs)
