-- What is found of all replies is the reply of the lowest replica.
use Rattle.std.proofs.Common.{rules}
use Rattle.std.proofs.lemmas.List.{take_all}
use Rattle.quorum.proofs.Lowest.{lowest_or_blank}
use Rattle.quorum.proofs.highest.lowest_at.Goals as goal

pub returns : goal.returns
returns c = let e = lowest_or_blank c.args.h c.args.slips.now in search (rules, take_all)
