-- Every past keeps the laws, since it is a trace of the model and the model keeps its laws. It ends in lawful.
use Rattle.std.proofs.Common.{◌≡◌, ◌+◌, ◌*◌, ◌≤◌, List, [], map, reverse, sym, ap, ◌∙◌, subst, inl, inr, mul-le-mul_right, arith}
use Rattle.std.specs.List.{AllByRecursion}
use Rattle.theory.proofs.Words.{Checked, World, Entry, AllEnded, Lawful}
use Rattle.theory.specs.Stand.{Laws}
use Rattle.theory.proofs.Lists.{All-weaker}
use Rattle.theory.proofs.Cards.{Fit}
use Rattle.theory.proofs.Model.{State, Trace}
use Rattle.theory.proofs.Matching.{params_of, msg_of, AllTraced}
use Rattle.theory.proofs.OneLine.{linearizable}
use Rattle.theory.proofs.Rounds.{semi_fast}
use Rattle.theory.proofs.Ending.{all_end, tells_calls}
use Rattle.theory.proofs.Numbering.{numbered}
use Rattle.theory.proofs.Places.{oldest, oldest_reverse, all_oldest, NoReadOfWriter, begins_log, next_told, withdrawn_told, awaits_told}
use Rattle.theory.proofs.Sent.{Regular, regular}
use Rattle.theory.proofs.Spans.{told_size}
use Rattle.theory.proofs.FromLine.{from_line}
use Rattle.theory.proofs.FromRounds.{from_rounds}

-- a tell goes to no more replicas than there are
tell_small : (k : Checked) → Fit (params_of k) → told_size k ≤ k.replicas
tell_small k fit =
    let three : 3 ≤ k.groups + 2 = omega (arith, fit.some_group) in
    let more : 3 * k.tolerated ≤ (k.groups + 2) * k.tolerated = mul-le-mul_right k.tolerated three in
    omega (arith, fit.room, more)

module _ (k : Checked) (fit : Fit (params_of k)) (log : List Entry) (b : State) (trace : Trace (params_of k) k.initial log b) where
  from_ending : b.waiting ≡ [] → AllEnded (oldest log)
  from_ending e c i h present =
      elim (all_end (params_of k) fit k.initial log b trace e c i (begins_log log c i h) (λ w. present (withdrawn_told log c w))) [
        | inl n ↦ inl (n.0, next_told log c i n.0 n.1)
        | inr a ↦ inr (awaits_told log c i a)
      ]

  from_trace : (w : World) → map msg_of w.waiting ≡ b.waiting → AllByRecursion (Regular k) log → Lawful k w.waiting (oldest log)
  from_trace w waits regular =
      let none : AllByRecursion NoReadOfWriter log = All-weaker (Regular k) NoReadOfWriter (λ e h. h.reader) log regular in
      let faith = tells_calls (params_of k) fit k.initial log b trace in
      record {
        line = from_line k.initial log none (linearizable (params_of k) fit k.initial log b trace) faith (numbered (params_of k) fit k.initial log b trace);
        rounds = from_rounds k (tell_small k fit) log regular faith (semi_fast (params_of k) fit k.initial log b trace);
        ending = λ e. from_ending (sym waits ∙ ap (map msg_of) e);
      }

-- with every past a trace, and all accepted settings fit for the model
pub lawful : AllTraced → ((k : Checked) → Fit (params_of k)) → Laws
lawful traced fits k free room es w past =
    let t = traced k free es w past in
    let old : AllByRecursion (Regular k) (oldest (reverse es)) = subst (AllByRecursion (Regular k)) (sym (oldest_reverse es)) (regular traced k free es w past) in
    subst (Lawful k w.waiting) (oldest_reverse es) (from_trace k (fits k) (reverse es) t.state t.trace w t.matches.waiting (all_oldest (Regular k) (reverse es) old))
