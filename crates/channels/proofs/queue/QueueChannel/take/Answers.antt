use Rattle.std.proofs.Common.{arith}
use Rattle.std.proofs.lemmas.List.{get_or_default}
use Rattle.std.proofs.lemmas.List.Sorted.{IsPermutation-refl}
use Rattle.channels.proofs.Rings.{ring_pop}
use Rattle.channels.proofs.queue.QueueChannel.take.Goals as goal

pub returns : goal.returns
returns c =
    let q = c.args.self.now in
    let i = c.first_of-at in
    let e = ring_pop q.cells.now q.start q.len i.result _ q.within (omega arith) q.few i.ensures.at (get_or_default q.cells.now i.result _ _ i.ensures.within) in
    record { meets = (rw e (IsPermutation-refl _), omega arith); oldest = e }
