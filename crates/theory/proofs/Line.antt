-- One line of all calls of a log.
use Rattle.std.proofs.Common.{◌≡◌, ℕ, ◌<◌, ◌≤◌, Bool, true, false, ◌⊎◌, List, [], ◌∷◌, map, length, ℤ}
use Rattle.std.specs.List.{Contains, AllByRecursion}
use Rattle.theory.proofs.Sets.{Distinct}
use Rattle.theory.proofs.Cards.{Params, Fit}
use Rattle.theory.proofs.Words.{Entry}
use Rattle.theory.proofs.Model.{State, Trace}
use Rattle.theory.proofs.History.{Done, values, value_at, begun, done}

-- a write, of client 0, or a read, of a reader; a call that has not ended has the place of the next entry as its end
pub record Op : Type 0 where
  pub client : ℕ
  pub begin : ℕ
  pub ended : Bool
  pub end : ℕ
  pub version : ℕ
  pub value : ℤ

abbrev pub op : Done → Op
op d = record { client = d.client; begin = d.begin; ended = true; end = d.end; version = d.version; value = d.value }

-- x ended before y began
abbrev pub Before : Op → Op → Type 0
Before x y = (x.ended ≡ true) × (x.end < y.begin)

-- what ended before another began stands before it
abbrev pub Respects : List Op → Type 0
Respects [] = Unit {0}
Respects (x ∷ xs) = AllByRecursion (λ y. Before y x → ⊥) xs × Respects xs

-- each read shows the nearest write before it; so far that is version v with value z
abbrev pub Shows : ℕ → ℤ → List Op → Type 0
Shows v z [] = Unit {0}
Shows v z (x ∷ xs) =
    ((x.client ≡ 0) × Shows x.version x.value xs) ⊎ ((x.client ≡ 0 → ⊥) × (x.version ≡ v) × (x.value ≡ z) × Shows v z xs)

abbrev pub ends_of : List Op → List ℕ
ends_of xs = map (λ x. x.end) xs

-- an ended write, or read, of that version
pub record Wrote (ds : List Done) (v : ℕ) : Type 0 where
  pub call : Done
  pub has : Contains ds call
  pub writer : call.client ≡ 0
  pub version : call.version ≡ v

pub record Showed (ds : List Done) (v : ℕ) : Type 0 where
  pub call : Done
  pub has : Contains ds call
  pub reader : call.client ≡ 0 → ⊥
  pub version : call.version ≡ v

-- the write that has not ended and that an ended read shows
pub record Pending (log : List Entry) (x : Op) : Type 0 where
  pub writer : x.client ≡ 0
  pub begin : x.begin ≡ begun log 0
  pub ended : x.ended ≡ false
  pub end : x.end ≡ length log
  pub version : x.version ≡ length (values log)
  pub some : 1 ≤ x.version
  pub unended : Wrote (done log) x.version → ⊥
  pub shown : Showed (done log) x.version

pub record Line (f : ℤ) (log : List Entry) : Type 0 where
  pub line : List Op
  pub once : Distinct (ends_of line)
  pub only : AllByRecursion (λ x. ((d : Done) × Contains (done log) d × (x ≡ op d)) ⊎ Pending log x) line
  pub ended : AllByRecursion (λ d. Contains line (op d)) (done log)
  pub pending : (Wrote (done log) (length (values log)) → ⊥) → 1 ≤ length (values log) → Showed (done log) (length (values log)) → (x : Op) × Contains line x × Pending log x
  pub respects : Respects line
  pub given : AllByRecursion (λ x. x.value ≡ value_at (values log) f x.version) line
  pub shows : Shows 0 f line

abbrev pub Linearizable : Type 0
Linearizable = (g : Params) → Fit g → (f : ℤ) (log : List Entry) (b : State) → Trace g f log b → Line f log
