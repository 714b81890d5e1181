-- Every past of the register is a trace of the model. It ends in `all_traced`.
use Rattle.std.proofs.Common.{List, [], ◌∷◌, ◌++◌, reverse, sym, subst}
use mathlib.Core.List.{reverse_aux-append}
use Rattle.theory.proofs.Words.{Checked, World, Entry, start, more}
use Rattle.theory.proofs.Model as model
use Rattle.theory.proofs.Matching.{params_of, Traced, AllTraced}
use Rattle.theory.proofs.MatchOpening.{opening_matches}
use Rattle.theory.proofs.MatchReached.{Reached}
use Rattle.theory.proofs.MatchSteps.{step_reaches}
use Rattle.theory.proofs.MatchJudging.{all_judged}

traced_on : (k : Checked) (es : List Entry) (e : Entry) (w : World) → Reached k (e ∷ reverse es) w → Traced k (es ++ e ∷ []) w
traced_on k es e w r =
    record {
      state = r.state;
      trace = subst (λ log. model.Trace (params_of k) k.initial log r.state) (sym (reverse_aux-append es (e ∷ []) [])) r.trace;
      matches = r.matches;
    }

pub all_traced : AllTraced
all_traced k free _ _ start =
    record { state = model.opened k.initial; trace = model.opening; matches = opening_matches k free }
all_traced k free _ _ (more w u es e p s) =
    let t : Traced k es w = all_traced k free es w p in
    traced_on k es e u (step_reaches all_judged k (reverse es) w u t.state t.trace t.matches e.order e.answer e.sent s.answered s.sent)
