-- The number and the values of each answer.
use Rattle.std.specs.Prelude.{ℕ, pos}
use Rattle.orders.specs.declared.answer.Refusal.{Refusal}
use Rattle.orders.specs.declared.answer.Refusal.TheVariants.{Unknown, Withdrawn, Busy, NotDue, ValueRange, RoundLimit, NoRoom, NothingWaits, AlreadyOut, OutLimit}
use Rattle.orders.specs.declared.answer.Answer.{Answer}
use Rattle.orders.specs.declared.answer.Answer.TheVariants.{Accepted, Replied, Lost, Ignored, Counted, Ended, BecameDue, Dropped, Refused}
use Rattle.orders.specs.declared.answer.Listed.{Listed}

-- the number of a refusal
abbrev pub number_of : Refusal → ℕ
number_of Unknown = 11
number_of Withdrawn = 12
number_of Busy = 13
number_of NotDue = 14
number_of ValueRange = 15
number_of RoundLimit = 16
number_of NoRoom = 17
number_of NothingWaits = 18
number_of AlreadyOut = 19
number_of OutLimit = 20

-- a code with whom it names: version, value and rounds are 0
abbrev pub bare_of : ℕ → ℕ → Listed
bare_of code who = record { code = code; who = who; version = 0; value = pos 0; rounds = 0 }

-- an answer's code, whom it names, and what it shows
abbrev pub listed_as : Answer → Listed
listed_as (Accepted who) = bare_of 100 who
listed_as (Replied client) = bare_of 101 client
listed_as (Lost client) = bare_of 102 client
listed_as (Ignored client) = bare_of 103 client
listed_as (Counted client) = bare_of 104 client
listed_as (Ended e) = record { code = 105; who = e.client; version = e.version; value = e.value; rounds = e.rounds }
listed_as (BecameDue client) = bare_of 106 client
listed_as Dropped = bare_of 107 0
listed_as (Refused refusal who) = bare_of (number_of refusal) who
