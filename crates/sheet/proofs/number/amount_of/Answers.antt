-- Where the digits so far write too much, all of them do.
use Rattle.std.proofs.Common.{◌+◌, arith}
use Rattle.sheet.proofs.Numbers.{amount_of_first}
use Rattle.std.proofs.lemmas.List.Sums.{fold_more}
use Rattle.sheet.proofs.number.amount_of.Goals as goal

pub returns-then-n-from : goal.returns-then-n-from
returns-then-n-from c = grind (arith, fold_more, amount_of_first c.args.digits.now (c.loop-b.b-index + 1))
