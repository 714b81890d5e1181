-- Concrete pasts: a list of moves gives its entries by the rules, and five such lists with the answers that they give.
use Rattle.std.specs.Prelude.{◌≡◌, ℕ, zero, suc, ◌+◌, ◌-◌, ◌≤◌, List, [], ◌∷◌, ◌++◌, map, length, replicate, pos}
use Rattle.std.proofs.Common.{lit≤, lit<}
use Rattle.std.specs.Int.Signed.{le_z_yes}
use Rattle.std.specs.List.{AllByRecursion}
use Rattle.std.specs.Option.{option_to_list}
use Rattle.wire.specs.declared.message.Message.{Message}
use Rattle.orders.specs.declared.order.Order.{Order}
use Rattle.orders.specs.declared.order.Order.TheVariants.{Write, Read, Tell, Carry, ReplicaOut, ClientOut}
use Rattle.orders.specs.declared.answer.Answer.TheVariants.{Refused}
use Rattle.orders.specs.declared.answer.Refusal.TheVariants.{NothingWaits}
use Rattle.orders.specs.declared.answer.Listed.{Listed}
use Rattle.orders.specs.Answer.{listed_as, bare_of}
use Rattle.settings.specs.declared.checked.Checked.{Checked}
use Rattle.register.specs.Register.{opened}
use Rattle.register.specs.Handle.{handled, handled_answer, handled_reply}
use Rattle.register.specs.Refuse.{refusal}
use Rattle.register.specs.Calls.{accepted, unless, answer_by}
use Rattle.orders.specs.Order.{named}
use Rattle.register.specs.World.{World, world, sent_by}
use Rattle.wire.specs.Channel.{empty}
use Rattle.laws.specs.Entries.{Entry}
use Rattle.register.specs.Past.{Past, answers_of}

-- ---- moves

-- an order and, for a carry, which of the waiting messages the channel gives: 0 for the oldest
pub record Move : Type 0 where
  pub order : Order
  pub which : ℕ

-- an order that is no carry
abbrev pub call : Order → Move
call o = record { order = o; which = 0 }

-- a carry of the i-th waiting message
abbrev pub give : ℕ → Move
give i = record { order = Carry; which = i }

-- the i-th of the messages, of which m is the first; past the end the last
abbrev pub ith : Message → List Message → ℕ → Message
ith m ms zero = m
ith m [] (suc i) = m
ith m (n ∷ ms) (suc i) = ith n ms i

-- the others, in their order
abbrev pub others : Message → List Message → ℕ → List Message
others m ms zero = ms
others m [] (suc i) = []
others m (n ∷ ms) (suc i) = m ∷ others n ms i

-- ---- what a move does: new messages wait behind the others

-- the entry of a write, read, tell or withdrawal
abbrev pub called : World → Order → Entry
called v o = record { order = o; answer = answer_by (refusal v.register v.free o) (named o); sent = sent_by v o }

-- the world after it
abbrev pub called_to : World → Order → World
called_to v o =
    world (unless (refusal v.register v.free o) (accepted v.register o) v.register)
    (record { waiting = v.waiting ++ sent_by v o; free = v.free - length (sent_by v o) })

-- the entry of a carry that takes the message m
abbrev pub given : World → Message → Entry
given v m =
    record { order = Carry; answer = handled_answer v.register m; sent = option_to_list (handled_reply v.register m) }

-- the world after it, where the rest had waited with m
abbrev pub given_to : World → Message → List Message → World
given_to v m rest =
    world (handled v.register m)
    (record {
      waiting = rest ++ option_to_list (handled_reply v.register m);
      free = v.free + 1 - length (option_to_list (handled_reply v.register m));
    })

-- the entry of a carry where a list of messages waits: sent back if it is empty
abbrev pub carried : World → List Message → ℕ → Entry
carried v [] i = record { order = Carry; answer = Refused NothingWaits 0; sent = [] }
carried v (m ∷ ms) i = given v (ith m ms i)

-- the world after it
abbrev pub carried_to : World → List Message → ℕ → World
carried_to v [] i = v
carried_to v (m ∷ ms) i = given_to v (ith m ms i) (others m ms i)

-- the entry of any order
abbrev pub entry_by : World → Order → ℕ → Entry
entry_by v Carry i = carried v v.waiting i
entry_by v o i = called v o

-- the world after it
abbrev pub next_by : World → Order → ℕ → World
next_by v Carry i = carried_to v v.waiting i
next_by v o i = called_to v o

-- the world after a move
abbrev pub next : World → Move → World
next v x = next_by v x.order x.which

-- the entries that a list of moves gives
abbrev pub played : World → List Move → List Entry
played v [] = []
played v (x ∷ xs) = entry_by v x.order x.which ∷ played (next v x) xs

-- the world that it reaches
abbrev pub reached : World → List Move → World
reached v [] = v
reached v (x ∷ xs) = reached (next v x) xs

-- ---- five lists of moves, each move with its answer

-- an ended call: the client, its version, its value, and how many rounds
abbrev pub shown : ℕ → ℕ → ℕ → ℕ → Listed
shown c v z n = record { code = 105; who = c; version = v; value = pos z; rounds = n }

-- an order, with the answer expected
abbrev pub calls : Order → Listed → List (Move × Listed)
calls o a = (call o, a) ∷ []

-- so many carries of the i-th waiting message, with the answer expected of each
abbrev pub gives : ℕ → ℕ → Listed → List (Move × Listed)
gives n i a = replicate n (give i, a)

-- settings, free places, and moves with the answers expected
pub record Example : Type 0 where
  pub settings : Checked
  pub free : ℕ
  pub moves : List (Move × Listed)

-- S = 4, t = 1, V = 1, R = 1, and the initial value 1000
abbrev pub four : Checked
four =
    record {
      replicas = 4;
      tolerated = 1;
      groups = 1;
      readers = 1;
      initial = pos 1000;
      replicated = (lit≤ tt, lit≤ tt);
      tolerant = (lit≤ tt, lit≤ tt);
      grouped = (lit≤ tt, lit≤ tt);
      read = (lit≤ tt, lit≤ tt);
      overlap = lit< tt;
      valued = (le_z_yes tt, le_z_yes tt);
    }

-- S = 5, t = 1, V = 2, R = 2, and the same initial value
abbrev pub five : Checked
five =
    record four {
      replicas = 5;
      groups = 2;
      readers = 2;
      replicated = (lit≤ tt, lit≤ tt);
      grouped = (lit≤ tt, lit≤ tt);
      read = (lit≤ tt, lit≤ tt);
      overlap = lit< tt;
    }

-- a write that ends, then a read that shows it in one round
abbrev pub shown_at_once : List (Move × Listed)
shown_at_once =
    calls (Write (pos 1200)) (bare_of 100 0)
    ++ gives 3 0 (bare_of 101 0) ++ gives 2 1 (bare_of 104 0) ++ gives 1 1 (shown 0 1 1200 1)
    ++ calls (Read 1) (bare_of 100 1)
    ++ gives 3 1 (bare_of 101 1) ++ gives 2 2 (bare_of 104 1) ++ gives 1 2 (shown 1 1 1200 1)

-- three replicas know the write and a fourth does not: the read is due, tells, and ends in its second round
abbrev pub two_rounds : List (Move × Listed)
two_rounds =
    calls (Write (pos 1200)) (bare_of 100 0)
    ++ gives 3 0 (bare_of 101 0)
    ++ calls (Read 1) (bare_of 100 1)
    ++ gives 4 5 (bare_of 101 1) ++ gives 3 6 (bare_of 104 1) ++ gives 1 6 (bare_of 106 1)
    ++ calls (Tell 1) (bare_of 100 1)
    ++ gives 3 6 (bare_of 101 1) ++ gives 2 7 (bare_of 104 1) ++ gives 1 7 (shown 1 1 1200 2)

-- the second write has reached one replica: the read shows the first
abbrev pub shown_previous : List (Move × Listed)
shown_previous =
    calls (Write (pos 1200)) (bare_of 100 0)
    ++ gives 3 0 (bare_of 101 0) ++ gives 2 1 (bare_of 104 0) ++ gives 1 1 (shown 0 1 1200 1)
    ++ calls (Write (pos 1300)) (bare_of 100 0)
    ++ gives 1 1 (bare_of 101 0)
    ++ calls (Read 1) (bare_of 100 1)
    ++ gives 3 5 (bare_of 101 1) ++ gives 2 6 (bare_of 104 1) ++ gives 1 6 (shown 1 1 1200 1)

-- the writer is withdrawn while it writes, and a replica with it: the read ends and shows that write,
-- and then nothing waits
abbrev pub ended_without : List (Move × Listed)
ended_without =
    calls (Write (pos 1200)) (bare_of 100 0)
    ++ gives 1 0 (bare_of 101 0)
    ++ calls (ReplicaOut 3) (bare_of 100 3) ++ calls (ClientOut 0) (bare_of 100 0)
    ++ calls (Read 1) (bare_of 100 1) ++ calls (Write (pos 1300)) (bare_of 12 0)
    ++ calls (ReplicaOut 2) (bare_of 20 2)
    ++ gives 2 0 (bare_of 101 0) ++ gives 2 0 (bare_of 102 0) ++ gives 3 0 (bare_of 101 1) ++ gives 1 0 (bare_of 102 1)
    ++ gives 2 0 (bare_of 102 0) ++ gives 2 0 (bare_of 104 1) ++ gives 1 0 (shown 1 1 1200 1)
    ++ gives 1 0 (bare_of 18 0)

-- the messages in the order in which they were put in, and a write while another is under way
abbrev pub oldest_first : List (Move × Listed)
oldest_first =
    calls (Write (pos 1200)) (bare_of 100 0)
    ++ calls (Write (pos 5)) (bare_of 13 0)
    ++ gives 4 0 (bare_of 101 0) ++ gives 2 0 (bare_of 104 0) ++ gives 1 0 (shown 0 1 1200 1)

-- the five, each with its settings and the free places of its channel
abbrev pub examples : List Example
examples =
    record { settings = four; free = 64; moves = shown_at_once }
    ∷ record { settings = five; free = 64; moves = two_rounds }
    ∷ record { settings = four; free = 64; moves = shown_previous }
    ∷ record { settings = four; free = 64; moves = ended_without }
    ∷ record { settings = four; free = 1024; moves = oldest_first }
    ∷ []

-- ---- what stands

-- a register just opened, and nothing waits
abbrev pub opening : Example → World
opening x = world (opened x.settings) (empty x.free)

-- the entries that the moves give
abbrev pub entries_of : Example → List Entry
entries_of x = played (opening x) (map (λ y. y.0) x.moves)

-- The example is a past of a register opened over an empty channel with room, and its answers are the ones expected.
pub record Holds (x : Example) : Type 0 where
  pub room : x.settings.replicas ≤ x.free
  pub past : Past (opening x) (entries_of x) (reached (opening x) (map (λ y. y.0) x.moves))
  pub answers : map listed_as (answers_of (entries_of x)) ≡ map (λ y. y.1) x.moves

-- all five do
abbrev pub Stand : Type 0
Stand = AllByRecursion Holds examples
