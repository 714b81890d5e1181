-- The number of the digits so far, which is below 2 ^ 32.
use Rattle.std.proofs.Common.{◌≡◌, ◌^◌, ◌<◌, take}
use Rattle.sheet.proofs.Words.{amount}
use Rattle.sheet.proofs.number.amount_of.Given as goal

abbrev pub invariant-loop-b : goal.invariant-loop-b
invariant-loop-b l = (l.n ≡ amount (take l.b-index l.digits)) × (l.n < 2 ^ 32)
