-- A fault as it is shown: its number, its line and the word's bytes.
use Rattle.std.specs.Prelude.{ℕ, List, []}
use Rattle.sheet.specs.declared.fault.SheetFault.{SheetFault}
use Rattle.sheet.specs.declared.fault.SheetFault.TheVariants.{Form, Limit, Ended, Surplus, Orders, Listing}

-- what is shown of a fault
pub record Shown : Type 0 where
  pub number : ℕ
  pub line : ℕ
  pub word : List ℕ

-- the same from its parts
abbrev pub shows : ℕ → ℕ → List ℕ → Shown
shows number line word = record { number = number; line = line; word = word }

-- the number of each case; the word is empty where the sheet ended, and a listing has neither line nor word
abbrev pub shown : SheetFault → Shown
shown (Form line word) = shows 31 line word.now
shown (Limit line word) = shows 32 line word.now
shown (Ended line) = shows 33 line []
shown (Surplus line word) = shows 34 line word.now
shown (Orders line word) = shows 35 line word.now
shown Listing = shows 36 0 []
