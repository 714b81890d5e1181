-- What a table of slots holds.
use Rattle.std.specs.Prelude.{◌≡◌, ℕ, suc, ◌<◌, Bool, false, cond, ◌&&◌, ◌||◌, List, [], ◌∷◌, length, Some, None, Option, MatchOption, ◌==◌, nat_lt, slice_index_or}
use Rattle.wire.specs.declared.message.Message.{Message}

module _ {M : Type 0} where
  -- the messages in the slots
  abbrev pub somes : List (Option M) → List M
  somes [] = []
  somes (None ∷ xs) = somes xs
  somes (Some m ∷ xs) = m ∷ somes xs

  -- how many slots are unused
  abbrev pub gaps : List (Option M) → ℕ
  gaps [] = 0
  gaps (None ∷ xs) = suc (gaps xs)
  gaps (Some m ∷ xs) = gaps xs

  -- an unused slot, none only where no slot is unused
  abbrev pub Unused : List (Option M) → Option ℕ → Type 0
  Unused xs r = MatchOption r (gaps xs ≡ 0) (λ i. (i < length xs) × (slice_index_or xs i None ≡ None))

-- by round, then replica, then client, then kind
abbrev pub lower : Message → Message → Bool
lower a b =
    nat_lt a.round b.round || (a.round == b.round
    && (nat_lt a.replica b.replica || (a.replica == b.replica
    && (nat_lt a.client b.client || (a.client == b.client && nat_lt a.kind b.kind)))))

-- no slot below n has a message lower than m
abbrev pub NoLower : List (Option Message) → ℕ → Message → Type 0
NoLower xs n m = (k : ℕ) (x : Message) → k < n → slice_index_or xs k None ≡ Some x → lower x m ≡ false

-- the message that is given is a lowest one
abbrev pub Lowest : List (Option Message) → Option Message → Type 0
Lowest xs None = Unit {0}
Lowest xs (Some m) = NoLower xs (length xs) m

-- the lower of what was found so far and what lies in the slot i, the first of equals
abbrev pub pick : Option (ℕ × Message) → ℕ → Option Message → Option (ℕ × Message)
pick best i None = best
pick None i (Some m) = Some (i, m)
pick (Some p) i (Some m) = cond (lower m p.1) (Some (i, m)) (Some p)

-- what a search for a lowest message has found in the slots below n
abbrev pub Found : List (Option Message) → ℕ → Option (ℕ × Message) → Type 0
Found xs n None = (k : ℕ) → k < n → slice_index_or xs k None ≡ None
Found xs n (Some p) = (p.0 < n) × (slice_index_or xs p.0 None ≡ Some p.1) × NoLower xs n p.1
