-- The elements of a ring: len of them from start on, going round at the end of the cells.
use Rattle.std.specs.Prelude.{ℕ, ◌+◌, ◌-◌, cond, List, ◌++◌, take, drop, nat_lt}

abbrev pub ring : {X : Type 0} → List X → ℕ → ℕ → List X
ring xs start len = take len (drop start xs ++ take start xs)

-- the cell after the last element, of cap cells
abbrev pub end_of : ℕ → ℕ → ℕ → ℕ
end_of start len cap = cond (nat_lt len (cap - start)) (start + len) (len - (cap - start))

-- the cell of the first element
abbrev pub first_of : ℕ → ℕ → ℕ
first_of start cap = cond (nat_lt start cap) start 0
