-- The first fault of a sheet: where it leaves every writable sheet.
use Rattle.std.specs.Prelude.{◌≡◌, ℕ, ◌+◌, ◌<◌, ◌≤◌, Bool, true, false, ◌&&◌, ◌||◌, List, [], ◌∷◌, ◌++◌, length, drop, decimal, ◌≢◌, nat_lt, is_some}
use Rattle.std.specs.List.{AllByRecursion}
use Rattle.std.specs.Str.{bytes_eq}
use Rattle.orders.specs.declared.order.Order.{Order}
use Rattle.settings.specs.declared.given.Settings.{Settings}
use Rattle.sheet.specs.Fault.{Shown, shows}
use Rattle.sheet.specs.Kind.{kind_at}
use Rattle.sheet.specs.Word.{word_of, numeral, negated, amount}
use Rattle.settings.specs.Limits.{number_max, orders_max}
use Rattle.sheet.specs.Form.{Due, fixed, number, value, kind, Placed, bytes_of, lines_in, title_words, settings_words, orders_words, head_words, order_words, lines_of, sheet_of, SmallSettings, FineOrder, Writable}

-- the word is of the form that is due
abbrev pub formed : Due → List ℕ → Bool
formed (fixed v) w = bytes_eq w v
formed (number limit) w = numeral w
formed value w = numeral w || negated w
formed kind w = is_some (kind_at w)

-- of that form, the word is above the limit
abbrev pub above : Due → List ℕ → Bool
above (fixed v) w = false
above (number limit) w = numeral w && nat_lt limit (amount w)
above value w = (numeral w && nat_lt number_max (amount w)) || (negated w && nat_lt number_max (amount (drop 1 w)))
above kind w = false

-- the bytes that are left do not begin with the word of the place and its separator, and this is shown of it
pub data Fails (p : Placed) (left : List ℕ) (line : ℕ) (f : Shown) : Type 0 where
  -- they end where the word is due
  ended : left ≡ [] → f ≡ shows 33 line [] → Fails p left line f
  -- their word is not of the form
  misformed : (left ≢ []) → formed p.due (word_of left) ≡ false → f ≡ shows 31 line (word_of left) → Fails p left line f
  -- their word is above the limit
  excessive : above p.due (word_of left) ≡ true → f ≡ shows 32 line (word_of left) → Fails p left line f
  -- they are the word, and end where its separator is due
  cut : left ≡ p.word → f ≡ shows 33 line [] → Fails p left line f
  -- they have the word and then another separator
  parted : (b : ℕ) (more : List ℕ) → left ≡ p.word ++ (b ∷ more) → word_of left ≡ p.word → (b ≢ p.separator)
      → f ≡ shows 31 line p.word → Fails p left line f

-- the bytes agree with the words up to a place, and fail there
pub record Fault (ps : List Placed) (bytes : List ℕ) (line : ℕ) (f : Shown) : Type 0 where
  pub before : List Placed
  pub place : Placed
  pub after : List Placed
  pub left : List ℕ
  pub parts : ps ≡ before ++ (place ∷ after)
  pub agrees : bytes ≡ bytes_of before ++ left
  pub fails : Fails place left (line + lines_in before) f

-- in the first three lines; no order was filled
pub record InHead (sheet : List ℕ) (places : ℕ) (f : Shown) (filled : List Order) : Type 0 where
  pub settings : Settings
  pub count : ℕ
  pub small : SmallSettings settings
  pub few : count ≤ orders_max
  pub room : count ≤ places
  pub fault : Fault (head_words settings count) sheet 1 f
  pub none : filled ≡ []

-- the number of orders is above the places handed in, whatever stands behind it
pub record Crowded (sheet : List ℕ) (places : ℕ) (f : Shown) (filled : List Order) : Type 0 where
  pub settings : Settings
  pub count : ℕ
  pub left : List ℕ
  pub small : SmallSettings settings
  pub few : count ≤ orders_max
  pub crowd : places < count
  pub agrees : sheet ≡ bytes_of (title_words ++ (settings_words settings ++ orders_words)) ++ left
  pub word : word_of left ≡ decimal count
  pub says : f ≡ shows 35 3 (decimal count)
  pub none : filled ≡ []

-- in the line of an order; those before it were filled
pub record InOrder (sheet : List ℕ) (places : ℕ) (f : Shown) (filled : List Order) : Type 0 where
  pub settings : Settings
  pub count : ℕ
  pub order : Order
  pub left : List ℕ
  pub small : SmallSettings settings
  pub few : count ≤ orders_max
  pub room : count ≤ places
  pub due : length filled < count
  pub each : AllByRecursion FineOrder filled
  pub fine : FineOrder order
  pub agrees : sheet ≡ bytes_of (head_words settings count ++ lines_of filled) ++ left
  pub fault : Fault (order_words order) left (4 + length filled) f

-- behind a whole sheet
pub record Behind (sheet : List ℕ) (places : ℕ) (f : Shown) (filled : List Order) : Type 0 where
  pub settings : Settings
  pub surplus : List ℕ
  pub writable : Writable settings filled
  pub room : length filled ≤ places
  pub agrees : sheet ≡ sheet_of settings filled ++ surplus
  pub some : surplus ≡ [] → ⊥
  pub says : f ≡ shows 34 (4 + length filled) surplus

-- the first fault of a sheet, with the orders that were filled before it
pub data FirstFault (sheet : List ℕ) (places : ℕ) (f : Shown) (filled : List Order) : Type 0 where
  in_head : InHead sheet places f filled → FirstFault sheet places f filled
  crowded : Crowded sheet places f filled → FirstFault sheet places f filled
  in_order : InOrder sheet places f filled → FirstFault sheet places f filled
  behind : Behind sheet places f filled → FirstFault sheet places f filled
