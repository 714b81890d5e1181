use Rattle.theory.proofs.Stands.{laws}
use Rattle.session.proofs.perform.perform.Goals as goal

pub returns-clause-laws : goal.returns-clause-laws
returns-clause-laws g c = laws
