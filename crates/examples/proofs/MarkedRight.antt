-- The marked examples by computation.
use Rattle.std.proofs.Common.{refl}
use Rattle.quorum.specs.Agree.{agreed}
use Rattle.quorum.specs.Decide.{decided_at}
use Rattle.examples.specs.Marked.{AllRight}

pub all_right : AllRight
unfolding agreed decided_at
all_right = (refl, (refl, (refl, (refl, (refl, (refl, (refl, (refl, (refl, (refl, (refl, (refl, (refl, tt)))))))))))))
