-- The parts of what is decided, each by its own call.
use Rattle.std.proofs.Common.{rules}
use Rattle.quorum.specs.Decide.{decided_at}
use Rattle.quorum.proofs.Lowest.{lowest_found}
use Rattle.quorum.proofs.decide.decide_at.Goals as goal

pub returns : goal.returns
unfolding decided_at
returns c =
    let e = lowest_found c.lowest_at.result _ _ _ c.lowest_at.ensures c.unwrap_or_default-shown.ensures (λ y b. search rules) in search rules
