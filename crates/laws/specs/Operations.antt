-- What the entries of a past tell: where operations begin and end, and what they are.
use Rattle.std.specs.Prelude.{◌≡◌, ℕ, zero, suc, ◌<◌, Bool, true, false, ◌&&◌, ◌⊎◌, List, [], ◌∷◌, take, ℤ, Some, None, count_by, Option, ◌==◌, ◌≢◌}
use Rattle.orders.specs.declared.order.Order.{Order}
use Rattle.orders.specs.declared.order.Order.TheVariants.{Write, Read}
use Rattle.orders.specs.Answer.{listed_as}
use Rattle.laws.specs.Entries.{Entry}

-- the entry at a place, counted from 0
abbrev pub At : List Entry → ℕ → Entry → Type 0
At [] i e = ⊥
At (x ∷ es) zero e = x ≡ e
At (x ∷ es) (suc i) e = At es i e

abbrev pub code : Entry → ℕ
code e = (listed_as e.answer).code

abbrev pub who : Entry → ℕ
who e = (listed_as e.answer).who

abbrev pub is_write : Order → Bool
is_write (Write z) = true
is_write _ = false

-- how many writes were accepted before a place
abbrev pub writes_before : List Entry → ℕ → ℕ
writes_before es i = count_by (λ e. (code e == 100) && is_write e.order) (take i es)

-- the order was accepted at place i
pub record AcceptedAt (es : List Entry) (o : Order) (i : ℕ) : Type 0 where
  pub entry : Entry
  pub at : At es i entry
  pub order : entry.order ≡ o
  pub accepted : code entry ≡ 100

-- a write or read of the client begins at place i: the place of its accepted start
abbrev pub Begins : List Entry → ℕ → ℕ → Type 0
Begins es c i = ((c ≡ 0) × ((z : ℤ) × AcceptedAt es (Write z) i)) ⊎ ((c ≢ 0) × AcceptedAt es (Read c) i)

-- what the client began at place i ends at place j: the next 105 with the client as who
pub record EndsAt (es : List Entry) (c i j : ℕ) : Type 0 where
  pub entry : Entry
  pub at : At es j entry
  pub after : i < j
  pub ended : (code entry ≡ 105) × (who entry ≡ c)
  pub next : (m : ℕ) (e : Entry) → i < m → m < j → At es m e → code e ≡ 105 → who e ≢ c

-- ---- operations

-- a write, of client 0, or a read: where it began and, if it has, ended, and its version and value
pub record Operation : Type 0 where
  pub client : ℕ
  pub begin : ℕ
  pub end : Option ℕ
  pub version : ℕ
  pub value : ℤ

abbrev pub Ending : List Entry → ℕ → ℕ → Option ℕ → Type 0
Ending es c i None = (j : ℕ) → EndsAt es c i j → ⊥
Ending es c i (Some j) = EndsAt es c i j

-- an accepted write: the n-th has version n, and the value of its order
pub record IsWrite (es : List Entry) (o : Operation) : Type 0 where
  pub client : o.client ≡ 0
  pub start : AcceptedAt es (Write o.value) o.begin
  pub number : o.version ≡ suc (writes_before es o.begin)
  pub ending : Ending es 0 o.begin o.end

-- an ended read: it shows the version and value that its 105 names
pub record IsRead (es : List Entry) (o : Operation) : Type 0 where
  pub client : o.client ≡ 0 → ⊥
  pub start : AcceptedAt es (Read o.client) o.begin
  pub place : ℕ
  pub end : o.end ≡ Some place
  pub ends : EndsAt es o.client o.begin place
  pub version : o.version ≡ (listed_as ends.entry.answer).version
  pub value : o.value ≡ (listed_as ends.entry.answer).value

abbrev pub Shown : List Entry → Operation → Type 0
Shown es o = (r : Operation) × IsRead es r × (r.version ≡ o.version)

-- what stands in the line: the ended writes and reads, and each unended write that an ended read shows
abbrev pub Belongs : List Entry → Operation → Type 0
Belongs es o = (IsWrite es o × (((j : ℕ) × (o.end ≡ Some j)) ⊎ Shown es o)) ⊎ IsRead es o
