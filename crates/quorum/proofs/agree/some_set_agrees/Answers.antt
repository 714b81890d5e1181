-- One more mask that is not in use or does not agree.
use Rattle.std.proofs.Common.{sym, below_more}
use Rattle.quorum.proofs.agree.some_set_agrees.Goals as goal
use Rattle.quorum.proofs.agree.some_set_agrees.Goals.{else-used-mask-via-then-used-mask+else-mask_agrees-2, else-used-mask-via-else-used-mask}

pub loop-mask-preserved : goal.loop-mask-preserved
loop-mask-preserved c =
    below_more _ c.loop-mask.mask c.loop-mask.invariant
    (elim c.else-used-mask.branch [
      | else-used-mask-via-then-used-mask+else-mask_agrees-2 w ↦ λ _. sym w.if-mask_agrees-2.ensures
      | else-used-mask-via-else-used-mask w ↦ λ e. absurd (w.if-used-mask.false e)
    ])
