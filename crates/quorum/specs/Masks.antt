-- Marks as the digits of a mask, by which the search for a set of replies goes.
use Rattle.std.specs.Prelude.{ℕ, ◌+◌, ◌-◌, ◌*◌, min, Bool, cond, ◌&&◌, List, fold, count_by, ◌==◌, bit_and, bit_or, count_ones, nat_le}
use Rattle.quorum.specs.declared.slip.Reading.{Reading}

-- the reply is at version h and has every mark of the mask
abbrev pub covers : ℕ → ℕ → Reading → Bool
covers h mask y = y.version == h && bit_and y.marks mask == mask

-- the marks that any reply at version h has
abbrev pub used_at : ℕ → List Reading → ℕ
used_at h xs = fold (λ a y. cond (y.version == h) (bit_or a y.marks) a) 0 xs

-- the largest a, up to v + 1, for which n marks are a + extra; 0 for none
abbrev pub largest : ℕ → ℕ → ℕ → ℕ
largest v extra n = min (n - extra) (v + 1)

-- the replies at version h with every mark of the mask suffice for the largest a
abbrev pub mask_agrees : ℕ → ℕ → ℕ → ℕ → ℕ → List Reading → ℕ → Bool
mask_agrees s t v h extra xs mask =
    nat_le 1 (largest v extra (count_ones mask))
    && nat_le (s - largest v extra (count_ones mask) * t) (count_by (covers h mask) xs)
