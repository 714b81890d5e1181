-- Counting slips once per replica.
use Rattle.std.specs.Prelude.{◌≡◌, ℕ, ◌+◌, min, Bool, false, cond, not, ◌&&◌, List, [], ◌∷◌, length, take, ◌==◌, nat_lt, slice_set}
use Rattle.std.specs.Borrow.{MutBor}
use Rattle.std.specs.List.{list_any}
use Rattle.quorum.specs.declared.slip.Slip.{Ghosts as SlipOf}
use Rattle.quorum.specs.declared.tally.Tally.{Tally}

-- one of the slips is from the replica i
abbrev pub from : {X : Type 0} → (X → ℕ) → ℕ → List X → Bool
from sent_by i xs = list_any (λ x. sent_by x == i) xs

-- the slip s is added to the first n places: its replica is not counted yet, and a place is left
abbrev pub adds : {X : Type 0} → (X → ℕ) → List X → ℕ → X → Bool
adds sent_by places n s = not (from sent_by (sent_by s) (take n places)) && nat_lt n (length places)

-- no replica is named twice
abbrev pub Once : {X : Type 0} → (X → ℕ) → List X → Type 0
Once sent_by [] = Unit {0}
Once sent_by (x ∷ xs) = (from sent_by (sent_by x) xs ≡ false) × Once sent_by xs

module _ {T : Type 0} {S : SlipOf T} where
  -- the slips that are held, in the first of the places
  abbrev pub held : Tally T S → List T
  held t = take t.len t.places.now

  -- a tally goes on with the first len of the places lent, or with all of them, and has touched none
  pub record GoesOn (places : MutBor (List T)) (len : ℕ) (t : Tally T S) : Type 0 where
    pub count : t.len ≡ min len (length places.now)
    pub untouched : t.places.now ≡ places.now
    pub lender : t.places.ghost_name ≡ places.ghost_name

  -- the slip is added behind those held, or nothing changes; and so each replica stays counted once
  pub record Adds (before : Tally T S) (s : T) (after : Tally T S) (added : Bool) : Type 0 where
    pub said : added ≡ adds S.sent_by before.places.now before.len s
    pub slips : after.places.now ≡ cond added (slice_set before.places.now before.len s) before.places.now
    pub count : after.len ≡ cond added (before.len + 1) before.len
    pub lender : after.places.ghost_name ≡ before.places.ghost_name
    pub once : Once S.sent_by (held before) → Once S.sent_by (held after)
