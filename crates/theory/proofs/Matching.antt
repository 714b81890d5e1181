-- How a world of the register and a state of the model match.
use Rattle.std.proofs.Common.{◌≡◌, ℕ, ◌+◌, ◌-◌, ◌*◌, ◌<◌, ◌≤◌, Bool, false, cond, eqb, ltb, List, map, reverse, length, get_or, take}
use Rattle.std.specs.List.{AllByRecursion}
use Rattle.theory.proofs.Words.{clients_max, replicas_max, rounds_max, Message, Reading, Receipts, Readings, Once, Row, Checked, Phase, Idle, Writing, Asking, Due, Telling, Client, Register, opened, blank_row, blank_client, mark_of, World, world, empty, Entry, Past}
use Rattle.theory.proofs.Cards.{Params, Card, Slip, replicas_of}
use Rattle.theory.proofs.Model as model

-- the parameters of the model
abbrev pub params_of : Checked → Params
params_of k = record { replicas = k.replicas; tolerated = k.tolerated; groups = k.groups; readers = k.readers; mark = mark_of k }

-- what a row, a reading and a message hold, as a card
abbrev pub row_card : Row → Card
row_card r = record { version = r.version; value = r.value; previous = r.previous; marks = r.marks; note = r.note }

abbrev pub message_card : Message → Card
message_card m = record { version = m.version; value = m.value; previous = m.previous; marks = m.marks; note = m.note }

abbrev pub reading_slip : Reading → Slip
reading_slip s = record { replica = s.replica; card = record { version = s.version; value = s.value; previous = s.previous; marks = s.marks; note = s.note } }

-- kinds 1 and 4 are of writes, 2 and 5 of reads, the others of tells
abbrev pub kind_of : ℕ → model.Kind
kind_of n = cond (eqb n 1) model.writes (cond (eqb n 4) model.writes (cond (eqb n 2) model.reads (cond (eqb n 5) model.reads model.tells)))

abbrev pub msg_of : Message → model.Msg
msg_of m = record { reply = ltb 3 m.kind; kind = kind_of m.kind; replica = m.replica; client = m.client; round = m.round; card = message_card m }

-- The counted receipts, the newest first, name the replicas of the slips. A round that goes on has fewer than it needs.
pub record ReceiptsMatch (need : ℕ) (rs : Receipts) (ss : List Slip) : Type 0 where
  pub long : length rs.slips ≡ replicas_max
  pub got : rs.got ≡ length ss
  pub short : rs.got < need
  pub same : replicas_of ss ≡ reverse (map (λ x. x.replica) (take rs.got rs.slips))

-- the readings, the newest first, are the slips, of one replica each; their marks fit a byte
pub record ReadingsAre (xs : List Reading) (ss : List Slip) : Type 0 where
  pub same : ss ≡ reverse (map reading_slip xs)
  pub once : Once (λ x. x.replica) xs
  pub bytes : AllByRecursion (λ x. x.marks < 256) xs

pub record ReadingsMatch (need : ℕ) (rs : Readings) (ss : List Slip) : Type 0 where
  pub long : length rs.slips ≡ replicas_max
  pub got : rs.got ≡ length ss
  pub short : rs.got < need
  pub counted : ReadingsAre (take rs.got rs.slips) ss

abbrev pub PhasesMatch : Checked → Phase → model.Phase → Type 0
PhasesMatch k Idle p = p ≡ model.idle
PhasesMatch k (Writing rs) p = (ss : List Slip) × (p ≡ model.awaiting model.writes ss) × ReceiptsMatch (k.replicas - k.tolerated) rs ss
PhasesMatch k (Asking rs) p = (ss : List Slip) × (p ≡ model.awaiting model.reads ss) × ReadingsMatch (k.replicas - k.tolerated) rs ss
PhasesMatch k Due p = p ≡ model.due
PhasesMatch k (Telling rs) p = (ss : List Slip) × (p ≡ model.awaiting model.tells ss) × ReceiptsMatch (2 * k.tolerated + 1) rs ss

-- a round number leaves room for one more, and for two more before a read
abbrev pub RoundsLeft : Phase → ℕ → Type 0
RoundsLeft Idle n = n ≤ rounds_max + 1
RoundsLeft (Writing rs) n = n ≤ rounds_max + 1
RoundsLeft (Asking rs) n = n ≤ rounds_max
RoundsLeft Due n = n ≤ rounds_max
RoundsLeft (Telling rs) n = n ≤ rounds_max + 1

-- a client
pub record ClientMatches (k : Checked) (x : Client) (y : model.Client) : Type 0 where
  pub round : x.round ≡ y.round
  pub version : x.version ≡ y.version
  pub value : x.value ≡ y.value
  pub previous : x.previous ≡ y.previous
  pub phase : PhasesMatch k x.phase y.phase
  pub left : RoundsLeft x.phase x.round

-- the clients, and which of them are out
pub record ClientsMatch (k : Checked) (xs : List Client) (clients : ℕ → model.Client) (gone : ℕ → Bool) : Type 0 where
  pub long : length xs ≡ clients_max
  pub out : (c : ℕ) → c < clients_max → (get_or xs c blank_client).out ≡ gone c
  pub each : (c : ℕ) → c < clients_max → ClientMatches k (get_or xs c blank_client) (clients c)

-- a replica's row, its card, and the rounds that it heard
pub record RowMatches (r : Row) (x : Card) (rounds : ℕ → ℕ) : Type 0 where
  pub long : length r.rounds ≡ clients_max
  pub card : row_card r ≡ x
  pub sound : r.note ≤ r.version
  pub byte : r.marks < 256
  pub heard : (c : ℕ) → c < clients_max → get_or r.rounds c 0 ≡ rounds c

pub record RowsMatch (rows : List Row) (cards : ℕ → Card) (heard : ℕ → ℕ → ℕ) : Type 0 where
  pub long : length rows ≡ replicas_max
  pub each : (i : ℕ) → i < replicas_max → RowMatches (get_or rows i blank_row) (cards i) (heard i)

-- which replicas are out, and how many
pub record OutsMatch (replicas outs : ℕ) (flags : List Bool) (gone : ℕ → Bool) : Type 0 where
  pub long : length flags ≡ replicas_max
  pub each : (i : ℕ) → i < replicas_max → get_or flags i false ≡ gone i
  pub count : outs ≡ model.out_count gone replicas

-- a message of some kind, replica and client that there are, with marks that fit a byte
pub record Proper (k : Checked) (m : Message) : Type 0 where
  pub low : 1 ≤ m.kind
  pub high : m.kind ≤ 6
  pub replica : m.replica < k.replicas
  pub client : m.client ≤ k.readers
  pub byte : m.marks < 256

-- a register and a state, but for the messages that wait
pub record RegisterMatches (k : Checked) (r : Register) (b : model.State) : Type 0 where
  pub settings : r.settings ≡ k
  pub rows : RowsMatch r.rows b.replicas b.heard
  pub outs : OutsMatch k.replicas r.outs r.out b.replica_out
  pub clients : ClientsMatch k r.clients b.clients b.client_out

pub record Matches (k : Checked) (w : World) (b : model.State) : Type 0 where
  pub register : RegisterMatches k w.register b
  -- the messages that wait
  pub waiting : map msg_of w.waiting ≡ b.waiting
  pub proper : AllByRecursion (Proper k) w.waiting

-- a past of the register, as a trace of the model that ends in a state that matches
pub record Traced (k : Checked) (es : List Entry) (w : World) : Type 0 where
  pub state : model.State
  pub trace : model.Trace (params_of k) k.initial (reverse es) state
  pub matches : Matches k w state

-- every past is a trace of the model
abbrev pub AllTraced : Type 0
AllTraced = (k : Checked) (free : ℕ) (es : List Entry) (w : World) → Past (world (opened k) (empty free)) es w → Traced k es w
