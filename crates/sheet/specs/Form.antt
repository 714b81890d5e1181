-- The form of a sheet: its words and bytes, made from settings and orders.
use Rattle.std.specs.Prelude.{◌≡◌, ℕ, ◌+◌, ◌≤◌, cond, List, [], ◌∷◌, ◌++◌, length, ℤ, codes, decimal, ◌==◌, unsigned_abs}
use Rattle.std.specs.Fmt.{signed_decimal}
use Rattle.std.specs.List.{flat_map, AllByRecursion}
use Rattle.orders.specs.declared.order.Order.{Order}
use Rattle.orders.specs.declared.order.Order.TheVariants.{Write, Read, Tell, Carry, ReplicaOut, ClientOut}
use Rattle.settings.specs.Limits.{number_max, orders_max}
use Rattle.settings.specs.declared.given.Settings.{Settings}
use Rattle.sheet.specs.declared.kind.Kind.{Kind}
use Rattle.sheet.specs.Kind.{kind_of, word_for, separator_for}
use Rattle.sheet.specs.Word.{closed}

-- what is due at a place: this word and no other, a number up to a limit, a value, or the word of an order's kind
pub data Due : Type 0 where
  fixed : List ℕ → Due
  number : ℕ → Due
  value : Due
  kind : Due

-- a word at its place, and the separator behind it
pub record Placed : Type 0 where
  pub due : Due
  pub word : List ℕ
  pub separator : ℕ

-- a placed word from its parts
abbrev pub placed : Due → List ℕ → ℕ → Placed
placed due word separator = record { due = due; word = word; separator = separator }

-- this word and no other
abbrev pub fixed_words : List ℕ → ℕ → List Placed
fixed_words word separator = placed (fixed word) word separator ∷ []

-- a number up to a limit
abbrev pub number_words : ℕ → ℕ → ℕ → List Placed
number_words limit separator n = placed (number limit) (decimal n) separator ∷ []

-- a value
abbrev pub value_words : ℕ → ℤ → List Placed
value_words separator z = placed value (signed_decimal z) separator ∷ []

-- `settings 5`
abbrev pub title_words : List Placed
title_words = fixed_words (codes "settings") 32 ++ fixed_words (codes "5") 10

-- the four numbers and the initial value
abbrev pub settings_words : Settings → List Placed
settings_words s =
    number_words number_max 32 s.replicas ++ (number_words number_max 32 s.tolerated
    ++ (number_words number_max 32 s.groups ++ (number_words number_max 32 s.readers ++ value_words 10 s.initial)))

-- `orders`
abbrev pub orders_words : List Placed
orders_words = fixed_words (codes "orders") 32

-- the first three lines, for so many orders
abbrev pub head_words : Settings → ℕ → List Placed
head_words s n = title_words ++ (settings_words s ++ (orders_words ++ number_words orders_max 10 n))

-- the word of a kind
abbrev pub kind_words : Kind → List Placed
kind_words k = placed kind (word_for k) (separator_for k) ∷ []

-- what an order is about: a value, the number of a reader, replica or client, or nothing
abbrev pub about_words : Order → List Placed
about_words (Write z) = value_words 10 z
about_words (Read n) = number_words number_max 10 n
about_words (Tell n) = number_words number_max 10 n
about_words Carry = []
about_words (ReplicaOut n) = number_words number_max 10 n
about_words (ClientOut n) = number_words number_max 10 n

-- an order's line: its kind, and what it is about
abbrev pub order_words : Order → List Placed
order_words o = kind_words (kind_of o) ++ about_words o

-- the lines of orders
abbrev pub lines_of : List Order → List Placed
lines_of orders = flat_map order_words orders

-- the bytes of words, each with its separator
abbrev pub bytes_of : List Placed → List ℕ
bytes_of ps = flat_map (λ p. closed p.word p.separator) ps

-- how many line ends stand behind words
abbrev pub lines_in : List Placed → ℕ
lines_in [] = 0
lines_in (p ∷ ps) = cond (p.separator == 10) 1 0 + lines_in ps

-- a sheet: the head for as many orders as there are, and their lines
abbrev pub sheet_of : Settings → List Order → List ℕ
sheet_of s orders = bytes_of (head_words s (length orders) ++ lines_of orders)

-- a number within the limit
abbrev pub SmallNumber : ℕ → Type 0
SmallNumber n = n ≤ number_max

-- a value within the limit, on either side of 0
abbrev pub SmallValue : ℤ → Type 0
SmallValue z = unsigned_abs z ≤ number_max

-- settings within the limits
pub record SmallSettings (s : Settings) : Type 0 where
  pub replicas : SmallNumber s.replicas
  pub tolerated : SmallNumber s.tolerated
  pub groups : SmallNumber s.groups
  pub readers : SmallNumber s.readers
  pub initial : SmallValue s.initial

-- an order whose number or value is within the limits
abbrev pub SmallOrder : Order → Type 0
SmallOrder (Write z) = SmallValue z
SmallOrder (Read n) = SmallNumber n
SmallOrder (Tell n) = SmallNumber n
SmallOrder Carry = Unit {0}
SmallOrder (ReplicaOut n) = SmallNumber n
SmallOrder (ClientOut n) = SmallNumber n

-- an order whose number or value is within the limits
pub record FineOrder (o : Order) : Type 0 where
  pub small : SmallOrder o

-- such an order of this kind
pub record OfKind (k : Kind) (o : Order) : Type 0 where
  pub fine : FineOrder o
  pub same : kind_of o ≡ k

-- what a sheet can hold
pub record Writable (s : Settings) (orders : List Order) : Type 0 where
  pub settings : SmallSettings s
  pub few : length orders ≤ orders_max
  pub each : AllByRecursion FineOrder orders
