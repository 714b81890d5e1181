use Rattle.examples.proofs.Played.{pasts_stand_lem}
use Rattle.examples.proofs.pasts.pasts_stand.Goals as goal

pub returns : goal.returns
returns c = pasts_stand_lem
