use Rattle.std.proofs.Common.{refl}
use Rattle.sheet.proofs.Words.{unplaced}
use Rattle.sheet.proofs.number.count_in.Goals as goal

pub returns-then-count-places : goal.returns-then-count-places
returns-then-count-places c = let n = c.in_ok-count.ensures in unplaced c.in_ok-count.field-0 n.small c.if-count-places.true n.same refl
