-- What one step of the reader does: it takes words, or finds a fault at one of them.
use Rattle.std.specs.Borrow.{Bor}
use Rattle.std.specs.Prelude.{Ok, Err, length, ◌≡◌, ℕ, ◌+◌, ◌<◌, ◌≤◌, true, false, cond, List, [], ◌∷◌, ◌++◌, take, drop, ℤ, decimal, Result, MatchResult, ◌==◌, ◌≢◌}
use Rattle.std.specs.List.{AllByRecursion}
use Rattle.orders.specs.declared.order.Order.{Order}
use Rattle.settings.specs.declared.given.Settings.{Settings}
use Rattle.std.specs.Fmt.{signed_decimal}
use Rattle.sheet.specs.declared.fault.SheetFault.{SheetFault}
use Rattle.sheet.specs.declared.read.Reading.{Reading}
use Rattle.sheet.specs.declared.cursor.Cursor.{Cursor}
use Rattle.sheet.specs.Fault.{Shown, shows, shown}
use Rattle.sheet.specs.Word.{word_of, closed, amount}
use Rattle.settings.specs.Limits.{orders_max}
use Rattle.sheet.specs.Form.{Due, number, Placed, number_words, bytes_of, lines_in, title_words, settings_words, orders_words, head_words, lines_of, order_words, SmallValue, SmallSettings, FineOrder}
use Rattle.sheet.specs.FirstFault.{formed, above, Fault}

-- the word writes the number, which is within its limit
pub record Counts (limit : ℕ) (word : List ℕ) (n : ℕ) : Type 0 where
  pub small : n ≤ limit
  pub same : word ≡ decimal n

-- the word writes the value, which is within its limit
pub record Values (word : List ℕ) (z : ℤ) : Type 0 where
  pub small : SmallValue z
  pub same : word ≡ signed_decimal z

-- a word that is not admitted at a place, and what is shown of it
pub data Unfit (due : Due) (word : List ℕ) (line : ℕ) (f : Shown) : Type 0 where
  unformed : formed due word ≡ false → f ≡ shows 31 line word → Unfit due word line f
  unbounded : above due word ≡ true → f ≡ shows 32 line word → Unfit due word line f

-- a word is judged at a place: it writes this, or it is not admitted there
abbrev pub Judges : {A : Type 0} → (A → Type 0) → Due → List ℕ → ℕ → Result A SheetFault → Type 0
Judges Writes due word line r = MatchResult r Writes (λ f. Unfit due word line (shown f))

-- digits within a word are judged by their size alone
abbrev pub Bounds : ℕ → List ℕ → List ℕ → ℕ → Result ℕ SheetFault → Type 0
Bounds limit digits word line r =
    MatchResult r (λ n. (n ≡ amount digits) × (n ≤ limit))
    (λ f. (limit < amount digits) × (shown f ≡ shows 32 line word))

-- a word and its separator are taken
pub record Closed (word : List ℕ) (separator : ℕ) (rest : List ℕ) (line : ℕ) (rest' : List ℕ) (line' : ℕ) : Type 0 where
  pub bytes : rest ≡ closed word separator ++ rest'
  pub lines : line' ≡ line + cond (separator == 10) 1 0

-- behind the word its separator does not stand
pub data Unclosed (word : List ℕ) (separator : ℕ) (rest : List ℕ) (line : ℕ) (f : Shown) : Type 0 where
  broken : rest ≡ word → f ≡ shows 33 line [] → Unclosed word separator rest line f
  swapped : (b : ℕ) (more : List ℕ) → rest ≡ word ++ (b ∷ more) → word_of rest ≡ word → (b ≢ separator)
      → f ≡ shows 31 line word → Unclosed word separator rest line f

-- these words are taken
pub record Took (ps : List Placed) (rest : List ℕ) (line : ℕ) (rest' : List ℕ) (line' : ℕ) : Type 0 where
  pub bytes : rest ≡ bytes_of ps ++ rest'
  pub lines : line' ≡ line + lines_in ps

-- at the words of some admitted value the bytes fail
pub record Missed {A : Type 0} (Fine : A → Type 0) (words : A → List Placed) (rest : List ℕ) (line : ℕ) (f : Shown)
    : Type 0 where
  pub like : A
  pub fine : Fine like
  pub fault : Fault (words like) rest line f

-- a step that reads a value: its words are taken, or the bytes fail at the words of some admitted value
abbrev pub Stepped : {A : Type 0} → (A → Type 0) → (A → List Placed) → List ℕ → ℕ → List ℕ → ℕ
    → Result A SheetFault → Type 0
Stepped Fine words rest line rest' line' r =
    MatchResult r (λ a. Fine a × Took (words a) rest line rest' line') (λ f. Missed Fine words rest line (shown f))

-- at a word that is judged so, the bytes end, or it is refused, or its separator does not stand behind it
pub data Unfielded {A : Type 0} (Judged : Bor (List ℕ) → Result A SheetFault → Type 0)
    (separator : ℕ) (rest : List ℕ) (line : ℕ) (f : SheetFault) : Type 0 where
  missing : rest ≡ [] → shown f ≡ shows 33 line [] → Unfielded Judged separator rest line f
  refused : (word : Bor (List ℕ)) → word.now ≡ word_of rest → 0 < length rest → Judged word (Err f)
      → Unfielded Judged separator rest line f
  unclosed : (word : Bor (List ℕ)) (a : A) → word.now ≡ word_of rest → Judged word (Ok a)
      → Unclosed word.now separator rest line (shown f) → Unfielded Judged separator rest line f

-- a word that is judged so and its separator are taken
pub record FieldTook {A : Type 0} (Judged : Bor (List ℕ) → Result A SheetFault → Type 0)
    (separator : ℕ) (rest : List ℕ) (line : ℕ) (rest' : List ℕ) (line' : ℕ) (a : A) : Type 0 where
  pub word : Bor (List ℕ)
  pub next : word.now ≡ word_of rest
  pub judged : Judged word (Ok a)
  pub closed : Closed word.now separator rest line rest' line'

-- a step that judges a word and takes it with its separator
abbrev pub Fielded : {A : Type 0} → (Bor (List ℕ) → Result A SheetFault → Type 0) → ℕ → List ℕ → ℕ → List ℕ → ℕ
    → Result A SheetFault → Type 0
Fielded Judged separator rest line rest' line' r =
    MatchResult r (λ a. FieldTook Judged separator rest line rest' line' a)
    (λ f. Unfielded Judged separator rest line f)

-- behind these words a good number of orders stands, and there are fewer places
pub record Overfull (ps : List Placed) (places : ℕ) (rest : List ℕ) (line : ℕ) (f : Shown) : Type 0 where
  pub count : ℕ
  pub left : List ℕ
  pub few : count ≤ orders_max
  pub crowd : places < count
  pub agrees : rest ≡ bytes_of ps ++ left
  pub word : word_of left ≡ decimal count
  pub says : f ≡ shows 35 (line + lines_in ps) (decimal count)

-- a number of orders that is within its limit and for which there are places
abbrev pub Placeable : ℕ → ℕ → Type 0
Placeable places n = (n ≤ orders_max) × (n ≤ places)

-- behind these words no number of orders can be taken
pub data Miscounted (ps : List Placed) (places : ℕ) (rest : List ℕ) (line : ℕ) (f : Shown) : Type 0 where
  wrong : Missed (Placeable places) (λ n. ps ++ number_words orders_max 10 n) rest line f
      → Miscounted ps places rest line f
  many : Overfull ps places rest line f → Miscounted ps places rest line f

-- a step that reads the number of orders behind these words
abbrev pub Counted : List Placed → ℕ → List ℕ → ℕ → List ℕ → ℕ → Result ℕ SheetFault → Type 0
Counted ps places rest line rest' line' r =
    MatchResult r (λ n. Placeable places n × Took (ps ++ number_words orders_max 10 n) rest line rest' line')
    (λ f. Miscounted ps places rest line (shown f))

-- the number of orders as its word gives it, judged against the places
pub data Uncounted (places : ℕ) (word : List ℕ) (line : ℕ) (f : Shown) : Type 0 where
  unfit : Unfit (number orders_max) word line f → Uncounted places word line f
  unplaced : (n : ℕ) → n ≤ orders_max → places < n → word ≡ decimal n → f ≡ shows 35 line word
      → Uncounted places word line f

-- a word is judged as the number of orders
abbrev pub JudgesCount : ℕ → List ℕ → ℕ → Result ℕ SheetFault → Type 0
JudgesCount places word line r =
    MatchResult r (λ n. Counts orders_max word n × (n ≤ places)) (λ f. Uncounted places word line (shown f))

-- as many orders as were counted are taken and filled, and later places are unchanged
pub record Filled (count : ℕ) (rest : List ℕ) (line : ℕ) (before after : List Order) (rest' : List ℕ) (line' : ℕ)
    : Type 0 where
  pub each : AllByRecursion FineOrder (take count after)
  pub took : Took (lines_of (take count after)) rest line rest' line'
  pub lines : line' ≡ line + count
  pub kept : drop count after ≡ drop count before

-- some orders are filled, and the bytes fail in the line of the next
pub record Stopped (count : ℕ) (rest : List ℕ) (line : ℕ) (before after : List Order) (f : Shown) : Type 0 where
  pub filled : ℕ
  pub left : List ℕ
  pub order : Order
  pub due : filled < count
  pub each : AllByRecursion FineOrder (take filled after)
  pub kept : drop filled after ≡ drop filled before
  pub agrees : rest ≡ bytes_of (lines_of (take filled after)) ++ left
  pub fine : FineOrder order
  pub fault : Fault (order_words order) left (line + filled) f

-- the first three lines cannot be taken
pub data HeadFault (places : ℕ) (rest : List ℕ) (line : ℕ) (f : Shown) : Type 0 where
  spoiled : (s : Settings) (n : ℕ) → SmallSettings s → Placeable places n → Fault (head_words s n) rest line f
      → HeadFault places rest line f
  packed : (s : Settings) → SmallSettings s
      → Overfull (title_words ++ (settings_words s ++ orders_words)) places rest line f → HeadFault places rest line f

-- the first three lines are taken
pub record HeadTook (places : ℕ) (g : Reading) (rest : List ℕ) (line : ℕ) (rest' : List ℕ) (line' : ℕ) : Type 0 where
  pub small : SmallSettings g.settings
  pub room : Placeable places g.count
  pub took : Took (head_words g.settings g.count) rest line rest' line'

-- ---- the same over a cursor, before and after

-- a value is read, or the bytes fail at the words of some admitted value
abbrev pub Reads : {A : Type 0} → (A → Type 0) → (A → List Placed) → Cursor → Cursor → Result A SheetFault → Type 0
Reads Fine words c c' r = Stepped Fine words c.rest.now c.line c'.rest.now c'.line r

-- a word that is judged so, and its separator
abbrev pub ReadsField : {A : Type 0} → (Bor (List ℕ) → Result A SheetFault → Type 0) → ℕ → Cursor → Cursor
    → Result A SheetFault → Type 0
ReadsField Judged separator c c' r = Fielded Judged separator c.rest.now c.line c'.rest.now c'.line r

-- the number of orders behind these words
abbrev pub ReadsCount : List Placed → ℕ → Cursor → Cursor → Result ℕ SheetFault → Type 0
ReadsCount ps places c c' r = Counted ps places c.rest.now c.line c'.rest.now c'.line r

-- the word that stands next, or the end
abbrev pub Sees : Cursor → Result (Bor (List ℕ)) SheetFault → Type 0
Sees c r =
    MatchResult r (λ w. (w.now ≡ word_of c.rest.now) × (0 < length c.rest.now))
    (λ f. (c.rest.now ≡ []) × (shown f ≡ shows 33 c.line []))

-- nothing stands behind what was taken, or all that does is shown
abbrev pub Finishes : {A : Type 0} → Cursor → Result A SheetFault → Type 0
Finishes c r =
    MatchResult r (λ _. c.rest.now ≡ []) (λ f. (c.rest.now ≢ []) × (shown f ≡ shows 34 c.line c.rest.now))

-- a judged word and its separator are taken
abbrev pub Closes : {A : Type 0} → List ℕ → ℕ → Cursor → Cursor → Result A SheetFault → Type 0
Closes word separator c c' r =
    MatchResult r (λ _. Closed word separator c.rest.now c.line c'.rest.now c'.line)
    (λ f. Unclosed word separator c.rest.now c.line (shown f))

-- the first three lines are taken
abbrev pub ReadsHead : ℕ → Cursor → Cursor → Result Reading SheetFault → Type 0
ReadsHead places c c' r =
    MatchResult r (λ g. HeadTook places g c.rest.now c.line c'.rest.now c'.line)
    (λ f. HeadFault places c.rest.now c.line (shown f))

-- the orders are taken and filled
abbrev pub Fills : {A : Type 0} → ℕ → Cursor → List Order → List Order → Cursor → Result A SheetFault → Type 0
Fills count c before after c' r =
    MatchResult r (λ _. Filled count c.rest.now c.line before after c'.rest.now c'.line)
    (λ f. Stopped count c.rest.now c.line before after (shown f))
