-- Every step of a world is a step of the model. It ends in `step_reaches`.
use Rattle.std.proofs.Common.{◌≡◌, List, ◌∷◌, ◌++◌, map, sym, ◌∙◌, subst, inl, inr}
use Rattle.std.specs.Option.{option_to_list}
use Rattle.std.specs.List.{AllByRecursion}
use Rattle.std.specs.List.Sorted.{IsPermutation}
use Rattle.std.proofs.lemmas.List.Sorted.{IsPermutation-refl}
use Rattle.std.proofs.lemmas.Bool.{cases_lt}
use Rattle.theory.proofs.Words.{Message, Order, Write, Read, Tell, Carry, ReplicaOut, ClientOut, NothingWaits, Answer, Checked, handled_reply, World, Carried, Starved, Answered, sent_in, Entry}
use Rattle.theory.proofs.Lists.{All-permutation}
use Rattle.theory.proofs.Model as model
use Rattle.theory.proofs.Model.{entry}
use Rattle.theory.proofs.Matching.{params_of, msg_of, Proper, Matches}
use Rattle.theory.proofs.MatchReached.{Reached, register_drops, reordered, refused_reaches}
use Rattle.theory.proofs.MatchCalls.{wrote_reaches, asked_reaches, told_reaches, replica_gone_reaches, client_gone_reaches, called_reaches}
use Rattle.theory.proofs.MatchCarried.{Taken}
use Rattle.theory.proofs.MatchReplicas.{replica_reaches}
use Rattle.theory.proofs.MatchReplies.{client_reaches}
use Rattle.theory.proofs.MatchDeciding.{AllJudged}

module _ (judge : AllJudged) (k : Checked) (log : List Entry) (v w : World) (b : model.State) (t : model.Trace (params_of k) k.initial log b) (h : Matches k v b) where
  took : (m : Message) (rest : List Message) → IsPermutation v.waiting (m ∷ rest) → Taken k log v.register m rest
  took m rest s =
      let p : AllByRecursion (Proper k) (m ∷ rest) = All-permutation (Proper k) v.waiting (m ∷ rest) s h.proper in
      record {
        state = model.drops b (map msg_of (m ∷ rest));
        trace = reordered k log v b (m ∷ rest) t h s;
        matches = register_drops k v.register b (map msg_of (m ∷ rest)) h.register;
        takes = model.here;
        proper = p.0;
        others = p.1;
      }

  carried_reaches : (a : Answer) (ms : List Message) → (c : Carried v a w) → ms ≡ option_to_list (handled_reply v.register c.message) → Reached k (entry Carry a ms ∷ log) w
  carried_reaches a ms c e =
      let s : IsPermutation w.waiting (ms ++ c.rest) = subst (λ y. IsPermutation w.waiting (y ++ c.rest)) (sym e) c.sends.0 in
      let m : Message = c.message in
      let g : Taken k log v.register c.message c.rest = took c.message c.rest c.waited in
      elim (cases_lt 3 m.kind) [
        | inl l ↦ client_reaches judge k log w v.register c.message c.rest a ms g c.answer c.register e s l
        | inr l ↦ replica_reaches k log w v.register c.message c.rest a ms g c.answer c.register e s l
      ]

  starved_reaches : (a : Answer) (ms : List Message) → Starved v a w → Reached k (entry Carry a ms ∷ log) w
  starved_reaches a ms c =
      subst (λ x. Reached k (entry Carry x ms ∷ log) w) (sym c.answer)
      (refused_reaches k log v w b Carry NothingWaits 0 ms t h c.register (subst (IsPermutation w.waiting) (c.waiting ∙ sym c.none) (IsPermutation-refl w.waiting)))

  pub step_reaches : (o : Order) (a : Answer) (ms : List Message) → (s : Answered v o a w) → ms ≡ sent_in v o a w s → Reached k (entry o a ms ∷ log) w
  step_reaches (Write z) a ms s e = called_reaches k log v w b (Write z) a ms t h s (wrote_reaches k log v w b t h ms z)
  step_reaches (Read c) a ms s e = called_reaches k log v w b (Read c) a ms t h s (asked_reaches k log v w b t h ms c)
  step_reaches (Tell c) a ms s e = called_reaches k log v w b (Tell c) a ms t h s (told_reaches k log v w b t h ms c)
  step_reaches Carry a ms (inl s) e = carried_reaches a ms s e
  step_reaches Carry a ms (inr s) e = starved_reaches a ms s
  step_reaches (ReplicaOut i) a ms s e = called_reaches k log v w b (ReplicaOut i) a ms t h s (replica_gone_reaches k log v w b t h ms i)
  step_reaches (ClientOut c) a ms s e = called_reaches k log v w b (ClientOut c) a ms t h s (client_gone_reaches k log v w b t h ms c)
