-- The laws of every past: one line, rounds, and ending. This is the statement to believe.
use Rattle.std.specs.Prelude.{◌≡◌, ℕ, suc, ◌+◌, ◌-◌, ◌*◌, ◌<◌, ◌≤◌, ◌&&◌, ◌⊎◌, List, [], ◌∷◌, map, take, drop, ℤ, Some, Contains, sum_by, count_by, ◌==◌, ◌≢◌, nat_le, nat_lt}
use Rattle.std.specs.List.{AllByRecursion}
use Rattle.orders.specs.declared.order.Order.TheVariants.{Tell, ClientOut}
use Rattle.orders.specs.Answer.{listed_as}
use Rattle.settings.specs.declared.checked.Checked.{Checked}
use Rattle.wire.specs.declared.message.Message.{Message}
use Rattle.laws.specs.Entries.{Entry}
use Rattle.laws.specs.Operations.{At, code, who, AcceptedAt, Begins, EndsAt, Operation, IsWrite, IsRead, Belongs}

-- ---- one line

-- x ended before y began
abbrev pub Before : Operation → Operation → Type 0
Before x y = (j : ℕ) × (x.end ≡ Some j) × (j < y.begin)

abbrev pub InOrder : List Operation → Type 0
InOrder [] = Unit {0}
InOrder (x ∷ xs) = AllByRecursion (λ y. Before y x → ⊥) xs × InOrder xs

abbrev pub NoTwice : List ℕ → Type 0
NoTwice [] = Unit {0}
NoTwice (i ∷ is) = AllByRecursion (λ j. i ≢ j) is × NoTwice is

-- each read shows the nearest write before it; before the rest of the line that is version v with value z
abbrev pub ShowsNearest : ℕ → ℤ → List Operation → Type 0
ShowsNearest v z [] = Unit {0}
ShowsNearest v z (x ∷ xs) =
    ((x.client ≡ 0) × ShowsNearest x.version x.value xs)
    ⊎ ((x.client ≢ 0) × (x.version ≡ v) × (x.value ≡ z) × ShowsNearest v z xs)

-- One line: the operations that belong in it, each once, stand in a list in which what ended before another began
-- stands before it, and each read shows the nearest write before it, or with none before it the initial value.
pub record OneLine (initial : ℤ) (es : List Entry) : Type 0 where
  pub line : List Operation
  pub once : NoTwice (map (λ o. o.begin) line)
  pub only : AllByRecursion (Belongs es) line
  pub all : (o : Operation) → Belongs es o → Contains line o
  pub ordered : InOrder line
  pub shows : ShowsNearest 0 initial line
  -- an ended write's 105 names its number among the accepted writes, and the value that was ordered
  pub written : (o : Operation) (j : ℕ) → IsWrite es o → (x : EndsAt es 0 o.begin j)
      → ((listed_as x.entry.answer).version ≡ o.version) × ((listed_as x.entry.answer).value ≡ o.value)

-- ---- rounds

-- the messages of an entry that the client itself put into the channel: of kind 1 to 3
abbrev pub own_messages : ℕ → Entry → ℕ
own_messages c e = count_by (λ m. nat_le m.kind 3 && m.client == c) e.sent

-- the entries from place i to place j
abbrev pub span : List Entry → ℕ → ℕ → List Entry
span es i j = take (suc j - i) (drop i es)

-- the sets of messages, and the messages, that the client put out from place i to place j
abbrev pub rounds_of : List Entry → ℕ → ℕ → ℕ → ℕ
rounds_of es c i j = count_by (λ e. nat_lt 0 (own_messages c e)) (span es i j)

abbrev pub messages_of : List Entry → ℕ → ℕ → ℕ → ℕ
messages_of es c i j = sum_by (own_messages c) (span es i j)

-- Rounds: an ended write took one round and an ended read one or two, as its 105 names; an ended read put out at most
-- S + 3t + 1 messages; of two reads of two rounds that show the same write, neither ended before the other began.
pub record FewRounds (k : Checked) (es : List Entry) : Type 0 where
  pub named : (c i j : ℕ) → Begins es c i → (x : EndsAt es c i j)
      → (listed_as x.entry.answer).rounds ≡ rounds_of es c i j
  pub write : (i j : ℕ) → Begins es 0 i → EndsAt es 0 i j → rounds_of es 0 i j ≡ 1
  pub read : (c i j : ℕ) → Begins es c i → EndsAt es c i j → (rounds_of es c i j ≡ 1) ⊎ (rounds_of es c i j ≡ 2)
  pub messages : (c i j : ℕ) → Begins es c i → EndsAt es c i j
      → messages_of es c i j ≤ k.replicas + (3 * k.tolerated + 1)
  pub apart : (o p : Operation) → (x : IsRead es o) → (y : IsRead es p)
      → rounds_of es o.client o.begin x.place ≡ 2 → rounds_of es p.client p.begin y.place ≡ 2
      → o.version ≡ p.version → Before o p → ⊥

-- ---- ending

-- since the reader's 106 after place i, no tell of it was accepted
pub record AwaitsTell (es : List Entry) (c i : ℕ) : Type 0 where
  pub place : ℕ
  pub entry : Entry
  pub at : At es place entry
  pub after : i < place
  pub due : (code entry ≡ 106) × (who entry ≡ c)
  pub untold : (m : ℕ) → place < m → AcceptedAt es (Tell c) m → ⊥

abbrev pub Withdrawn : List Entry → ℕ → Type 0
Withdrawn es c = (i : ℕ) × AcceptedAt es (ClientOut c) i

-- Ending: every accepted write or read of a client still present has ended, except a read that awaits its tell.
abbrev pub AllEnded : List Entry → Type 0
AllEnded es = (c i : ℕ) → Begins es c i → (Withdrawn es c → ⊥) → ((j : ℕ) × EndsAt es c i j) ⊎ AwaitsTell es c i

-- ---- the three laws

-- the three laws of the entries of one past, which began with the settings k; these messages wait now
pub record Lawful (k : Checked) (waiting : List Message) (es : List Entry) : Type 0 where
  pub line : OneLine k.initial es
  pub rounds : FewRounds k es
  pub ending : waiting ≡ [] → AllEnded es
