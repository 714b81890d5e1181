-- The numbers of the kinds of message.
use Rattle.std.specs.Prelude.{◌≡◌, ℕ, Bool, cond, ◌&&◌, Some, None, Option, Result, MatchResult, ◌==◌, nat_le}
use Rattle.wire.specs.declared.kind.Kind.{Kind}
use Rattle.wire.specs.declared.kind.UnknownKind.{UnknownKind}
use Rattle.wire.specs.declared.kind.Kind.TheVariants.{Write, Read, Tell, WriteReply, ReadReply, TellReply}

-- the kind that a number names
abbrev pub kind_of : ℕ → Option Kind
kind_of n =
    cond (n == 1) (Some Write)
    (cond (n == 2) (Some Read)
    (cond (n == 3) (Some Tell)
    (cond (n == 4) (Some WriteReply)
    (cond (n == 5) (Some ReadReply)
    (cond (n == 6) (Some TellReply) None)))))

-- the number of a kind
abbrev pub number_of : Kind → ℕ
number_of Write = 1
number_of Read = 2
number_of Tell = 3
number_of WriteReply = 4
number_of ReadReply = 5
number_of TellReply = 6

-- A number is turned into the kind that it names, or handed back where it names none.
abbrev pub Named : ℕ → Result Kind UnknownKind → Type 0
Named n r = MatchResult r (λ k. kind_of n ≡ Some k) (λ e. (kind_of n ≡ None) × (e.0 ≡ n))

-- kinds 1 to 3 go to a replica, kinds 4 to 6 to a client
abbrev pub is_request : ℕ → Bool
is_request n = nat_le 1 n && nat_le n 3

abbrev pub is_reply : ℕ → Bool
is_reply n = nat_le 4 n && nat_le n 6
