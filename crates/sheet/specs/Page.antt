-- What is put into a space for text: whole, or not at all.
use Rattle.std.specs.Prelude.{◌≡◌, ℕ, ◌+◌, ◌<◌, ◌≤◌, Bool, true, false, List, ◌++◌, length, take}

-- from space a with p bytes to space b with q bytes: bs stand behind what was there, or do not fit, and what was there
-- stays
abbrev pub Put : List ℕ → ℕ → List ℕ → ℕ → List ℕ → Bool → Type 0
Put a p b q bs true = (q ≡ p + length bs) × (q ≤ length a) × (take q b ≡ take p a ++ bs)
Put a p b q bs false = (length a < p + length bs) × (take p b ≡ take p a)

-- the same, and where they do not fit the length is as it was
abbrev pub Lined : List ℕ → ℕ → List ℕ → ℕ → List ℕ → Bool → Type 0
Lined a p b q bs fits = Put a p b q bs fits × (fits ≡ false → q ≡ p)
