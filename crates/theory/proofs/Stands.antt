-- The laws stand: every past is a trace of the model, and every trace keeps them.
use Rattle.theory.specs.Stand.{Laws}
use Rattle.theory.proofs.MatchOpening.{params_of_fits}
use Rattle.theory.proofs.Tracing.{all_traced}
use Rattle.theory.proofs.FromModel.{lawful}

pub laws : Laws
laws = lawful all_traced params_of_fits
