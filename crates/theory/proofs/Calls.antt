-- Calls as the log itself tells them.
use Rattle.std.proofs.Common.{◌≡◌, ℕ, suc, ◌<◌, ◌⊎◌, List, [], ◌∷◌, length, ℤ}
use Rattle.std.specs.List.{Contains, AllByRecursion}
use Rattle.theory.proofs.Cards.{Params, Fit}
use Rattle.theory.proofs.Words.{Order, Write, Read, Tell, ClientOut, listed_as, Entry}
use Rattle.theory.proofs.Model.{State, Trace}
use Rattle.theory.proofs.History.{Done, values, done}

-- the entry at a place, counted from the opening
abbrev pub At : List Entry → ℕ → Entry → Type 0
At [] i e = ⊥
At (x ∷ log) i e = ((i ≡ length log) × (x ≡ e)) ⊎ At log i e

abbrev pub Calls : Order → ℕ → Type 0
Calls (Write v) c = c ≡ 0
Calls (Read d) c = c ≡ d
Calls _ c = ⊥

-- an accepted write or read of the client
abbrev pub Starts : ℕ → Entry → Type 0
Starts c e = ((listed_as e.answer).code ≡ 100) × Calls e.order c

abbrev pub Ends : ℕ → Entry → Type 0
Ends c e = ((listed_as e.answer).code ≡ 105) × ((listed_as e.answer).who ≡ c)

abbrev pub BeginsAt : List Entry → ℕ → ℕ → Type 0
BeginsAt log c i = (e : Entry) × At log i e × Starts c e

abbrev pub EndsAt : List Entry → ℕ → ℕ → Type 0
EndsAt log c j = (e : Entry) × At log j e × Ends c e

-- the next end of the client after place i
pub record NextEnd (log : List Entry) (c i j : ℕ) : Type 0 where
  pub after : i < j
  pub ends : EndsAt log c j
  pub first : (m : ℕ) → i < m → m < j → EndsAt log c m → ⊥

-- ---- a read that awaits its tell, a client that is withdrawn, and the number of a write

abbrev pub TellAt : List Entry → ℕ → ℕ → Type 0
TellAt log c i = (e : Entry) × At log i e × ((listed_as e.answer).code ≡ 100) × (e.order ≡ Tell c)

abbrev pub DueAt : List Entry → ℕ → ℕ → Type 0
DueAt log c i = (e : Entry) × At log i e × ((listed_as e.answer).code ≡ 106) × ((listed_as e.answer).who ≡ c)

-- after place i the client's read became due, and no tell was accepted since
pub record AwaitsTell (log : List Entry) (c i : ℕ) : Type 0 where
  pub since : ℕ
  pub after : i < since
  pub due : DueAt log c since
  pub untold : (m : ℕ) → since < m → TellAt log c m → ⊥

abbrev pub Withdrawn : List Entry → ℕ → Type 0
Withdrawn log c = (i : ℕ) × ((e : Entry) × At log i e × ((listed_as e.answer).code ≡ 100) × (e.order ≡ ClientOut c))

-- the accepted write at place i is the nth
abbrev pub WriteNo : List Entry → ℕ → ℕ → Type 0
WriteNo [] i n = ⊥
WriteNo (x ∷ log) i n = ((i ≡ length log) × Starts 0 x × (n ≡ suc (length (values log)))) ⊎ WriteNo log i n

abbrev pub Numbered : Type 0
Numbered = (g : Params) → Fit g → (f : ℤ) (log : List Entry) (b : State) → Trace g f log b → AllByRecursion (λ d. d.client ≡ 0 → WriteNo log d.begin d.version) (done log)

abbrev pub AllEnd : Type 0
AllEnd = (g : Params) → Fit g → (f : ℤ) (log : List Entry) (b : State) → Trace g f log b → b.waiting ≡ []
    → (c i : ℕ) → BeginsAt log c i → (Withdrawn log c → ⊥) → ((j : ℕ) × NextEnd log c i j) ⊎ AwaitsTell log c i

-- the list of the ended calls is that of the calls that began and ended
pub record Faithful (log : List Entry) : Type 0 where
  pub sound : AllByRecursion (λ d. BeginsAt log d.client d.begin × NextEnd log d.client d.begin d.end) (done log)
  pub complete : (c i j : ℕ) → BeginsAt log c i → NextEnd log c i j → (d : Done) × Contains (done log) d × (d.client ≡ c) × (d.begin ≡ i) × (d.end ≡ j)

abbrev pub Tells : Type 0
Tells = (g : Params) → Fit g → (f : ℤ) (log : List Entry) (b : State) → Trace g f log b → Faithful log
