use Rattle.std.proofs.Common.{◌≡◌, length, ◌∙◌, arith, rules, tests}
use Rattle.std.proofs.lemmas.Iterator.{YieldsList-from_slice}
use Rattle.std.proofs.lemmas.Iterator.Consumers.{fold_from_yields_List}
use Rattle.channels.specs.Table.{gaps}
use Rattle.channels.proofs.Slotted.{less_used, fold_used, somes_gaps}
use Rattle.channels.proofs.slots.count_unused.Goals as goal

pub returns : goal.returns
returns c =
    let xs = c.args.table.now in
    let e : c.fold.result ≡ gaps xs =
    fold_from_yields_List _ less_used (length xs) c.fold.result c.fold.ensures.ran (YieldsList-from_slice xs cc) (λ a x b q k. search (rules, tests))
    ∙ omega (arith, fold_used xs (length xs) (omega arith) (omega arith)) in
    record { counted = e; few = omega (arith, somes_gaps xs) }
