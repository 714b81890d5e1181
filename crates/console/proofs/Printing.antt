-- What was read and what was written make what a program prints.
use Rattle.std.proofs.Common.{◌≡◌, ℕ, List, length, Option, Some, None, Result, Ok, Err, IfSome, OnOk, subst}
use Rattle.std.specs.Io.KnownBytes.{Appends}
use Rattle.runner.specs.declared.fault.DrillFault.{DrillFault}
use Rattle.wire.specs.Channel.{empty}
use Rattle.runner.specs.Memory.{Memory}
use Rattle.runner.specs.Rehearse.{Rehearsed}
use Rattle.runner.specs.Choice.{room_of}
use Rattle.runner.specs.declared.choice.Choice.{Choice}
use Rattle.console.specs.Sizes.{queue_cells, places, listing_bytes}
use Rattle.console.specs.Print.{Told, told, Prints}

-- what was written of the bytes that tell of a sheet
pub prints : {A E : Type 0} (choice : Choice) (sheet text : List ℕ) (old new : Option (List ℕ)) (r : Result A E)
    → Told choice sheet text → OnOk r (Appends old new text) → OnOk r (Prints choice sheet old new)
prints choice sheet text old new (Err e) t wrote = tt
prints choice sheet text old new (Ok x) t wrote = (text, t, wrote)

pub prints_of : {A E : Type 0} (choice : Choice) (given : Option (List ℕ)) (sheet : List ℕ) (old new : Option (List ℕ)) (r : Result A E)
    → IfSome given (λ xs. sheet ≡ xs) → OnOk r (Prints choice sheet old new) → OnOk r (IfSome given (λ xs. Prints choice xs old new))
prints_of choice given sheet old new (Err e) read wrote = tt
prints_of choice None sheet old new (Ok x) read wrote = tt
prints_of choice (Some xs) sheet old new (Ok x) read wrote = subst (λ s. Prints choice s old new) read wrote

pub tells : (choice : Choice) (sheet text : List ℕ) (cells : ℕ) (before after : Memory) (r : Result ℕ DrillFault)
    → cells ≡ queue_cells → length before.orders ≡ places → length before.answers ≡ places → length before.out ≡ listing_bytes
    → Rehearsed sheet (empty (room_of choice cells)) before after r → text ≡ told r after.out → Told choice sheet text
tells choice sheet text cells before after r e orders answers out h same = record {
  before = before;
  after = after;
  outcome = r;
  orders = orders;
  answers = answers;
  out = out;
  rehearsed = rw e at h;
  bytes_told = same;
}
