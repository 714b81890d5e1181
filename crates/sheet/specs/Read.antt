-- What reading a sheet gives, and what it leaves in the places handed in.
use Rattle.std.specs.Prelude.{◌≡◌, ℕ, ◌≤◌, List, length, take, drop, Result, MatchResult}
use Rattle.orders.specs.declared.order.Order.{Order}
use Rattle.settings.specs.declared.given.Settings.{Settings}
use Rattle.sheet.specs.declared.fault.SheetFault.{SheetFault}
use Rattle.sheet.specs.declared.read.Reading.{Reading}
use Rattle.sheet.specs.Fault.{Shown, shown}
use Rattle.sheet.specs.Form.{sheet_of, Writable}
use Rattle.sheet.specs.FirstFault.{FirstFault}

-- the sheet is that of these settings and of the orders that stand in the first places; later places are unchanged
pub record Given (sheet : List ℕ) (before after : List Order) (settings : Settings) (count : ℕ) : Type 0 where
  pub room : count ≤ length before
  pub writable : Writable settings (take count after)
  pub same : sheet ≡ sheet_of settings (take count after)
  pub kept : drop count after ≡ drop count before

-- the sheet has a fault; the orders before it stand in the first places, and later places are unchanged
pub record Refused (sheet : List ℕ) (before after : List Order) (f : Shown) : Type 0 where
  pub filled : ℕ
  pub room : filled ≤ length before
  pub fault : FirstFault sheet (length before) f (take filled after)
  pub kept : drop filled after ≡ drop filled before

-- the outcome of reading
abbrev pub Outcome : List ℕ → List Order → List Order → Result Reading SheetFault → Type 0
Outcome sheet before after r =
    MatchResult r (λ g. Given sheet before after g.settings g.count) (λ f. Refused sheet before after (shown f))

-- the reading is of exactly these settings and orders
abbrev pub GivenAs : Settings → List Order → List Order → Result Reading SheetFault → Type 0
GivenAs settings orders after r =
    MatchResult r (λ g. (g.settings ≡ settings) × (g.count ≡ length orders) × (take g.count after ≡ orders)) (λ f. ⊥)

-- the fault is exactly this one, after exactly these orders
abbrev pub RefusedAs : Shown → List Order → List Order → Result Reading SheetFault → Type 0
RefusedAs f filled after r = MatchResult r (λ g. ⊥) (λ e. (shown e ≡ f) × (take (length filled) after ≡ filled))

-- a sheet of any settings and orders for which there are places is read as exactly these
abbrev pub ReadsExactly : List ℕ → List Order → List Order → Result Reading SheetFault → Type 0
ReadsExactly sheet before after r =
    (s : Settings) (os : List Order) → Writable s os → length os ≤ length before → sheet ≡ sheet_of s os
    → GivenAs s os after r

-- whatever is the first fault of the sheet, it is the one that is returned
abbrev pub RefusesExactly : List ℕ → List Order → List Order → Result Reading SheetFault → Type 0
RefusesExactly sheet before after r =
    (f : Shown) (filled : List Order) → FirstFault sheet (length before) f filled → RefusedAs f filled after r
