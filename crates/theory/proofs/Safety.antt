-- What every past keeps of its replicas, messages and clients: ends in the record `Safe`.
use Rattle.std.proofs.Common.{◌≡◌, ℕ, ◌-◌, ◌<◌, ◌≤◌, true, false, List, length, ℤ}
use Rattle.std.specs.List.{AllByRecursion}
use Rattle.theory.proofs.Sets.{Distinct, Within}
use Rattle.theory.proofs.Cards.{Params, Card, Slip, replicas_of, Ahead, Later}
use Rattle.theory.proofs.Model.{Kind, writes, reads, tells, Msg, Phase, idle, due, awaiting, Client, State}
use Rattle.theory.proofs.History.{value_at}
use Rattle.theory.proofs.FineCards.{CardFine}
use Rattle.theory.proofs.Established.{Established}

-- the client awaits replies of that kind
abbrev pub Awaits : Phase → Kind → Type 0
Awaits idle k = ⊥
Awaits due k = ⊥
Awaits (awaiting j ss) k = j ≡ k

-- what a reply of replica i with card d owes client c, who awaits kind k with version v, and whose round began over the cards `old`:
-- of a write, that the replica has it; of a read, that the replica has grown since and has the reader's mark; of a tell, that the replica noted it
abbrev pub Owed : Params → ℕ → ℕ → (ℕ → Card) → Kind → ℕ → Card → Type 0
Owed g c v old writes i d = Ahead v (g.mark c) d
Owed g c v old reads i d = Later (old i) d × Within (g.mark c) d.marks
Owed g c v old tells i d = v ≤ d.note

-- what a waiting message keeps, with its client x as it is now
pub record MsgFine (g : Params) (xs : List ℤ) (f : ℤ) (replicas : ℕ → Card) (m : Msg) (x : Client) (old : ℕ → Card) : Type 0 where
  -- its card says what was written, and its replica, client and round are known
  pub card : CardFine g xs f m.card
  pub replica : m.replica < g.replicas
  pub known : m.client ≤ g.readers
  pub round : m.round ≤ x.round
  -- a request has its client's mark
  pub request : m.reply ≡ false → m.card.marks ≡ g.mark m.client
  -- a request of the present round has the kind that is awaited and the client's version
  pub current : m.reply ≡ false → m.round ≡ x.round → (k : Kind) → Awaits x.phase k → (m.kind ≡ k) × (m.card.version ≡ x.version)
  -- a reply is not ahead of its replica
  pub reply : m.reply ≡ true → Later m.card (replicas m.replica)
  -- a reply of the present round is what is owed
  pub owed : m.reply ≡ true → m.round ≡ x.round → (k : Kind) → Awaits x.phase k → Owed g m.client x.version old k m.replica m.card

-- what the slips keep that client c has counted
pub record Gathered (g : Params) (xs : List ℤ) (f : ℤ) (replicas : ℕ → Card) (c v : ℕ) (old : ℕ → Card) (k : Kind) (ss : List Slip) : Type 0 where
  -- they come from distinct replicas
  pub distinct : Distinct (replicas_of ss)
  pub below : AllByRecursion (λ s. s.replica < g.replicas) ss
  -- they say what was written, are not ahead of their replicas, and are what is owed
  pub fine : AllByRecursion (λ s. CardFine g xs f s.card) ss
  pub now : AllByRecursion (λ s. Later s.card (replicas s.replica)) ss
  pub owed : AllByRecursion (λ s. Owed g c v old k s.replica s.card) ss
  -- the replicas have grown since a read began
  pub later : k ≡ reads → (i : ℕ) → Later (old i) (replicas i)
  -- the writer writes, and none but the writer
  pub role : (k ≡ writes → c ≡ 0) × (c ≡ 0 → k ≡ writes)

abbrev pub PhaseFine : Params → List ℤ → ℤ → (ℕ → Card) → ℕ → ℕ → (ℕ → Card) → Phase → Type 0
PhaseFine g xs f replicas c v old idle = Unit {0}
PhaseFine g xs f replicas c v old due = c ≡ 0 → ⊥
PhaseFine g xs f replicas c v old (awaiting k ss) = Gathered g xs f replicas c v old k ss

-- what client c keeps
pub record ClientFine (g : Params) (xs : List ℤ) (f : ℤ) (replicas : ℕ → Card) (c : ℕ) (x : Client) (old : ℕ → Card) : Type 0 where
  -- its version was begun, and its values are those of this version and of the one before
  pub begun : x.version ≤ length xs
  pub value : x.value ≡ value_at xs f x.version
  pub previous : x.previous ≡ value_at xs f (x.version - 1)
  -- the writer's version and round are the number of writes begun
  pub writer : c ≡ 0 → (x.version ≡ length xs) × (x.round ≡ length xs)
  pub phase : PhaseFine g xs f replicas c x.version old x.phase

-- what a state keeps, when xs are the values written and `old c` the replicas' cards as the last call of client c began
pub record Safe (g : Params) (xs : List ℤ) (f : ℤ) (b : State) (old : ℕ → ℕ → Card) : Type 0 where
  pub replicas : (i : ℕ) → CardFine g xs f (b.replicas i)
  pub messages : AllByRecursion (λ m. MsgFine g xs f b.replicas m (b.clients m.client) (old m.client)) b.waiting
  pub clients : (c : ℕ) → ClientFine g xs f b.replicas c (b.clients c) (old c)
  -- every version below the last write is established, and the last while the writer is idle
  pub past : (k : ℕ) → k < length xs → Established g b.replicas k
  pub last : (b.clients 0).phase ≡ idle → Established g b.replicas (length xs)
