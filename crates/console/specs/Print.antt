-- What a program prints of a sheet.
use Rattle.std.specs.Prelude.{◌≡◌, ℕ, List, [], ◌∷◌, ◌++◌, length, take, Option, IfSome, Result, Ok, Err}
use Rattle.std.specs.Io.KnownBytes.{Appends}
use Rattle.std.specs.Option.{option_map}
use Rattle.runner.specs.declared.choice.Choice.{Choice}
use Rattle.runner.specs.declared.fault.DrillFault.{DrillFault}
use Rattle.runner.specs.Fault.{fault_text}
use Rattle.wire.specs.Channel.{empty}
use Rattle.runner.specs.Memory.{Memory}
use Rattle.runner.specs.Rehearse.{Rehearsed}
use Rattle.runner.specs.Choice.{room_of}
use Rattle.console.specs.Sizes.{queue_cells, places, sheet_bytes, listing_bytes}

-- the first n bytes of the space for the listing, or the fault and a line end
abbrev pub told : Result ℕ DrillFault → List ℕ → List ℕ
told (Ok n) out = take n out
told (Err f) out = fault_text f ++ 10 ∷ []

-- the sheet was rehearsed in memory of these sizes, and these bytes tell of it
pub record Told (choice : Choice) (sheet bytes : List ℕ) : Type 0 where
  pub before : Memory
  pub after : Memory
  pub outcome : Result ℕ DrillFault
  pub orders : length before.orders ≡ places
  pub answers : length before.answers ≡ places
  pub out : length before.out ≡ listing_bytes
  pub rehearsed : Rehearsed sheet (empty (room_of choice queue_cells)) before after outcome
  pub bytes_told : bytes ≡ told outcome after.out

-- what was printed before, if it is known, and then what is told of the sheet
abbrev pub Prints : Choice → List ℕ → Option (List ℕ) → Option (List ℕ) → Type 0
Prints choice sheet old new = (bytes : List ℕ) × Told choice sheet bytes × Appends old new bytes

-- the first bytes of an input, as many as a program takes for its sheet
unfoldable pub first_bytes : Option (List ℕ) → Option (List ℕ)
first_bytes input = option_map (take sheet_bytes) input

-- the same for the first bytes of an input, if it is known
abbrev pub PrintsInput : Choice → Option (List ℕ) → Option (List ℕ) → Option (List ℕ) → Type 0
PrintsInput choice input old new = IfSome (first_bytes input) (λ sheet. Prints choice sheet old new)
