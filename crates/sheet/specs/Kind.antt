-- The kinds of orders: the letter of each, and what stands behind it.
use Rattle.std.specs.Prelude.{ℕ, cond, List, [], ◌∷◌, length, None, Option, ◌==◌, slice_index, find}
use Rattle.orders.specs.declared.order.Order.{Order}
use Rattle.orders.specs.declared.order.Order.TheVariants as order
use Rattle.sheet.specs.declared.kind.Kind.{Kind}
use Rattle.sheet.specs.declared.kind.Kind.TheVariants.{Write, Read, Tell, Carry, ReplicaOut, ClientOut}

-- the kind of an order
abbrev pub kind_of : Order → Kind
kind_of (order.Write z) = Write
kind_of (order.Read n) = Read
kind_of (order.Tell n) = Tell
kind_of order.Carry = Carry
kind_of (order.ReplicaOut n) = ReplicaOut
kind_of (order.ClientOut n) = ClientOut

-- all kinds
abbrev pub kinds : List Kind
kinds = Write ∷ Read ∷ Tell ∷ Carry ∷ ReplicaOut ∷ ClientOut ∷ []

-- the letter of a kind, as a byte
abbrev pub letter_of : Kind → ℕ
letter_of Write = 119  -- w
letter_of Read = 114  -- r
letter_of Tell = 116  -- t
letter_of Carry = 99  -- c
letter_of ReplicaOut = 98  -- b
letter_of ClientOut = 120  -- x

-- a space, or a line end behind the kind that has nothing more on its line
abbrev pub separator_for : Kind → ℕ
separator_for Carry = 10
separator_for _ = 32

-- the word of a kind is its letter alone
abbrev pub word_for : Kind → List ℕ
word_for k = letter_of k ∷ []

-- the kind whose word this is
abbrev pub kind_at : List ℕ → Option Kind
kind_at w = cond (length w == 1) (find (λ k. slice_index w 0 == letter_of k) kinds) None
