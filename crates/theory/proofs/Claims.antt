-- The other two claims.
use Rattle.std.proofs.Common.{◌≡◌, ℕ, ◌<◌, false, ◌⊎◌, List, [], ℤ}
use Rattle.std.specs.List.{AllByRecursion}
use Rattle.theory.proofs.Cards.{Params, Fit}
use Rattle.theory.proofs.Words.{Entry}
use Rattle.theory.proofs.Model.{State, Trace, idle, due}
use Rattle.theory.proofs.History.{Done, done}

-- a write takes one round, a read one or two; of two reads of two rounds that show one write neither ended before the other began
pub record FewRounds (ds : List Done) : Type 0 where
  pub told : AllByRecursion (λ d. d.rounds ≡ d.sets) ds
  pub few : AllByRecursion (λ d. (d.rounds ≡ 1) ⊎ ((d.rounds ≡ 2) × (d.client ≡ 0 → ⊥))) ds
  pub apart : AllByRecursion (λ y. AllByRecursion (λ x. x.rounds ≡ 2 → y.rounds ≡ 2 → x.version ≡ y.version → x.end < y.begin → ⊥) ds) ds

-- with no message waiting, a client still present awaits no reply
abbrev pub Settled : State → Type 0
Settled b = b.waiting ≡ [] → (c : ℕ) → b.client_out c ≡ false → ((b.clients c).phase ≡ idle) ⊎ ((b.clients c).phase ≡ due)

abbrev pub SemiFast : Type 0
SemiFast = (g : Params) → Fit g → (f : ℤ) (log : List Entry) (b : State) → Trace g f log b → FewRounds (done log)

abbrev pub Settles : Type 0
Settles = (g : Params) → Fit g → (f : ℤ) (log : List Entry) (b : State) → Trace g f log b → Settled b
