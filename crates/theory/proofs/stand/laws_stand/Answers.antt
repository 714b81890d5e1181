use Rattle.theory.proofs.Stands.{laws}
use Rattle.theory.proofs.stand.laws_stand.Goals as goal

pub returns : goal.returns
returns c = laws
