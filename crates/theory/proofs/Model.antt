-- A small mathematical model of the register: tables as functions, one card for replica, slip and message, and its pasts. No statement mentions it.
use Rattle.std.proofs.Common.{◌≡◌, ℕ, zero, suc, ◌+◌, ◌*◌, ◌<◌, ◌≤◌, max, Bool, true, false, cond, eqb, ltb, ◌⊎◌, List, [], ◌∷◌, ◌++◌, length, ℤ}
use lib.Bits.{bit_or}
use Rattle.theory.proofs.Words.{Message, Order, Write, Read, Tell, Carry, ReplicaOut, ClientOut, Answer, Accepted, Replied, Counted, Ended, BecameDue, listed_as, Entry}
use Rattle.std.specs.List.{Contains}
use Rattle.theory.proofs.Members.{Among}
use Rattle.theory.proofs.Sets.{Lacks}
use Rattle.theory.proofs.Cards.{Params, Card, Slip, replicas_of, highest, Decision}

abbrev pub put : {A : Type 0} → (ℕ → A) → ℕ → A → ℕ → A
put f i a j = cond (eqb j i) a (f j)

pub data Kind : Type 0 where
  writes reads tells : Kind

pub record Msg : Type 0 where
  pub reply : Bool
  pub kind : Kind
  pub replica : ℕ
  pub client : ℕ
  pub round : ℕ
  pub card : Card

-- what a client awaits, with the slips counted
pub data Phase : Type 0 where
  idle : Phase
  due : Phase
  awaiting : Kind → List Slip → Phase

pub record Client : Type 0 where
  pub round : ℕ
  pub version : ℕ
  pub value : ℤ
  pub previous : ℤ
  pub phase : Phase

pub record State : Type 0 where
  pub replicas : ℕ → Card
  pub heard : ℕ → ℕ → ℕ
  pub replica_out : ℕ → Bool
  pub clients : ℕ → Client
  pub client_out : ℕ → Bool
  pub waiting : List Msg

-- ---- a replica and a message

-- version and marks as the message leaves them
abbrev pub taken : Card → Card → Card
taken c l =
    cond (ltb c.version l.version)
    (record l { note = c.note })
    (record c { marks = bit_or c.marks l.marks })

abbrev pub noting : Kind → ℕ → Card → Card
noting writes v c = c
noting reads v c = c
noting tells v c = record c { note = max c.note v }

abbrev pub after : Card → Msg → Card
after c l = noting l.kind l.card.version (taken c l.card)

-- ---- sets of messages

abbrev pub sent : Kind → ℕ → ℕ → Card → ℕ → List Msg
sent k c r d zero = []
sent k c r d (suc n) = record { reply = false; kind = k; replica = n; client = c; round = r; card = d } ∷ sent k c r d n

abbrev pub carried : Params → ℕ → Client → Card
carried g c x = record { version = x.version; value = x.value; previous = x.previous; marks = g.mark c; note = 0 }

-- a list without one of its elements
pub data Takes (l : Msg) : List Msg → List Msg → Type 0 where
  here : {w : List Msg} → Takes l (l ∷ w) w
  there : {x : Msg} {w v : List Msg} → Takes l w v → Takes l (x ∷ w) (x ∷ v)

-- the same messages wait, in any order
abbrev pub Same : List Msg → List Msg → Type 0
Same v w = (x : Msg) → (Among x v → Among x w) × (Among x w → Among x v)

-- ---- answers

-- an answer that neither accepts nor ends anything, nor makes a read due
pub record Quiet (a : Answer) : Type 0 where
  pub not_accepted : eqb (listed_as a).code 100 ≡ false
  pub not_ended : eqb (listed_as a).code 105 ≡ false
  pub not_due : eqb (listed_as a).code 106 ≡ false

abbrev pub entry : Order → Answer → List Message → Entry
entry o a ms = record { order = o; answer = a; sent = ms }

-- ---- changes of a state

abbrev pub sets : State → ℕ → Client → List Msg → State
sets b c x w = record b { clients = put b.clients c x; waiting = w }

abbrev pub drops : State → List Msg → State
drops b w = record b { waiting = w }

abbrev pub answers : Card → Msg → Msg
answers c l = record l { reply = true; card = after c l }

abbrev pub delivers : State → Msg → List Msg → State
delivers b l w =
    record b {
      replicas = put b.replicas l.replica (after (b.replicas l.replica) l);
      heard = put b.heard l.replica (put (b.heard l.replica) l.client l.round);
      waiting = answers (b.replicas l.replica) l ∷ w;
    }

abbrev pub phased : Client → Phase → Client
phased x p = record x { phase = p }

abbrev pub writing : Client → ℤ → Client
writing x f = record { round = suc x.round; version = suc x.round; value = f; previous = x.value; phase = awaiting writes [] }

abbrev pub asking : Client → Kind → Client
asking x k = record x { round = suc x.round; phase = awaiting k [] }

-- the client as it knows what the slips say
pub record Learnt (ss : List Slip) (x y : Client) : Type 0 where
  pub round : y.round ≡ x.round
  pub version : y.version ≡ highest ss
  pub best : Slip
  pub has : Contains ss best
  pub top : best.card.version ≡ highest ss
  pub value : y.value ≡ best.card.value
  pub previous : y.previous ≡ best.card.previous

-- a reply that counts
pub record Counting (b : State) (l : Msg) (k : Kind) (ss : List Slip) : Type 0 where
  pub replies : l.reply ≡ true
  pub kind : l.kind ≡ k
  pub awaited : (b.clients l.client).phase ≡ awaiting k ss
  pub round : l.round ≡ (b.clients l.client).round
  pub fresh : Lacks l.replica (replicas_of ss)

abbrev pub slip : Msg → Slip
slip l = record { replica = l.replica; card = l.card }

abbrev pub ended : ℕ → ℕ → ℤ → ℕ → Answer
ended c v f n = Ended (record { client = c; version = v; value = f; rounds = n })

-- fewer replies than decide
abbrev pub Short : Params → Kind → List Slip → Type 0
Short g writes ss = length ss + g.tolerated < g.replicas
Short g reads ss = length ss + g.tolerated < g.replicas
Short g tells ss = length ss < 2 * g.tolerated + 1

-- how many of the first n are out
abbrev pub out_count : (ℕ → Bool) → ℕ → ℕ
out_count p zero = 0
out_count p (suc n) = cond (p n) 1 0 + out_count p n

-- ---- the pasts of the model, the newest entry first

abbrev pub opened : ℤ → State
opened f =
    record {
      replicas = λ i. record { version = 0; value = f; previous = f; marks = 0; note = 0 };
      heard = λ i c. 0;
      replica_out = λ i. false;
      clients = λ c. record { round = 0; version = 0; value = f; previous = f; phase = idle };
      client_out = λ c. false;
      waiting = [];
    }

pub data Trace (g : Params) (f : ℤ) : List Entry → State → Type 0 where
  opening : Trace g f [] (opened f)
  stirred : {log : List Entry} {b : State} (w : List Msg) → Same b.waiting w → Trace g f log b → Trace g f log (drops b w)
  refused : {log : List Entry} {b : State} (o : Order) (a : Answer) (ms : List Message) → Quiet a → Trace g f log b → Trace g f (entry o a ms ∷ log) b
  wrote : {log : List Entry} {b : State} (v : ℤ) (ms : List Message) → b.client_out 0 ≡ false → (b.clients 0).phase ≡ idle → Trace g f log b
      → Trace g f (entry (Write v) (Accepted 0) ms ∷ log)
      (sets b 0 (writing (b.clients 0) v) (sent writes 0 (suc (b.clients 0).round) (carried g 0 (writing (b.clients 0) v)) g.replicas ++ b.waiting))
  asked : {log : List Entry} {b : State} (c : ℕ) (ms : List Message) → c < g.readers → b.client_out (suc c) ≡ false → (b.clients (suc c)).phase ≡ idle → Trace g f log b
      → Trace g f (entry (Read (suc c)) (Accepted (suc c)) ms ∷ log)
      (sets b (suc c) (asking (b.clients (suc c)) reads) (sent reads (suc c) (suc (b.clients (suc c)).round) (carried g (suc c) (b.clients (suc c))) g.replicas ++ b.waiting))
  told : {log : List Entry} {b : State} (c : ℕ) (ms : List Message) → c < g.readers → b.client_out (suc c) ≡ false → (b.clients (suc c)).phase ≡ due → Trace g f log b
      → Trace g f (entry (Tell (suc c)) (Accepted (suc c)) ms ∷ log)
      (sets b (suc c) (asking (b.clients (suc c)) tells) (sent tells (suc c) (suc (b.clients (suc c)).round) (carried g (suc c) (b.clients (suc c))) (3 * g.tolerated + 1) ++ b.waiting))
  delivered : {log : List Entry} {b : State} (l : Msg) (w : List Msg) (ms : List Message) → Takes l b.waiting w → l.reply ≡ false → b.replica_out l.replica ≡ false
      → b.heard l.replica l.client < l.round → Trace g f log b
      → Trace g f (entry Carry (Replied l.client) ms ∷ log) (delivers b l w)
  lost : {log : List Entry} {b : State} (l : Msg) (w : List Msg) (a : Answer) (ms : List Message) → Quiet a → Takes l b.waiting w → Trace g f log b
      → ((l.reply ≡ false) × ((b.replica_out l.replica ≡ true) ⊎ (l.round ≤ b.heard l.replica l.client)))
      ⊎ ((l.reply ≡ true) × ((b.client_out l.client ≡ true) ⊎ ((k : Kind) (ss : List Slip) → Counting b l k ss → ⊥)))
      → Trace g f (entry Carry a ms ∷ log) (drops b w)
  counted : {log : List Entry} {b : State} (l : Msg) (w : List Msg) (k : Kind) (ss : List Slip) (ms : List Message) → Takes l b.waiting w → b.client_out l.client ≡ false → Counting b l k ss → Short g k (slip l ∷ ss) → Trace g f log b
      → Trace g f (entry Carry (Counted l.client) ms ∷ log) (sets b l.client (phased (b.clients l.client) (awaiting k (slip l ∷ ss))) w)
  finished : {log : List Entry} {b : State} (l : Msg) (w : List Msg) (k : Kind) (ss : List Slip) (n : ℕ) (ms : List Message) → Takes l b.waiting w → b.client_out l.client ≡ false → Counting b l k ss
      → ((k ≡ writes) × (g.replicas ≡ length (slip l ∷ ss) + g.tolerated) × (n ≡ 1)) ⊎ ((k ≡ tells) × (2 * g.tolerated + 1 ≡ length (slip l ∷ ss)) × (n ≡ 2)) → Trace g f log b
      → Trace g f (entry Carry (ended l.client (b.clients l.client).version (b.clients l.client).value n) ms ∷ log) (sets b l.client (phased (b.clients l.client) idle) w)
  decided : {log : List Entry} {b : State} (l : Msg) (w : List Msg) (ss : List Slip) (y : Client) (shown : ℕ) (z : ℤ) (ms : List Message) → Takes l b.waiting w → b.client_out l.client ≡ false → Counting b l reads ss
      → g.replicas ≡ length (slip l ∷ ss) + g.tolerated → Learnt (slip l ∷ ss) (b.clients l.client) y → y.phase ≡ idle → Decision g (slip l ∷ ss) shown false
      → ((shown ≡ y.version) × (z ≡ y.value)) ⊎ ((suc shown ≡ y.version) × (z ≡ y.previous)) → Trace g f log b
      → Trace g f (entry Carry (ended l.client shown z 1) ms ∷ log) (sets b l.client y w)
  became : {log : List Entry} {b : State} (l : Msg) (w : List Msg) (ss : List Slip) (y : Client) (shown : ℕ) (ms : List Message) → Takes l b.waiting w → b.client_out l.client ≡ false → Counting b l reads ss
      → g.replicas ≡ length (slip l ∷ ss) + g.tolerated → Learnt (slip l ∷ ss) (b.clients l.client) y → y.phase ≡ due → Decision g (slip l ∷ ss) shown true → Trace g f log b
      → Trace g f (entry Carry (BecameDue l.client) ms ∷ log) (sets b l.client y w)
  replica_gone : {log : List Entry} {b : State} (i : ℕ) (ms : List Message) → i < g.replicas → b.replica_out i ≡ false → out_count b.replica_out g.replicas < g.tolerated → Trace g f log b
      → Trace g f (entry (ReplicaOut i) (Accepted i) ms ∷ log) (record b { replica_out = put b.replica_out i true })
  client_gone : {log : List Entry} {b : State} (c : ℕ) (ms : List Message) → Trace g f log b
      → Trace g f (entry (ClientOut c) (Accepted c) ms ∷ log) (record b { client_out = put b.client_out c true })
