-- A log with a world that a trace of the model reaches, up to the order of the waiting messages. It ends in `refused_reaches`.
use Rattle.std.proofs.Common.{◌≡◌, ℕ, List, ◌∷◌, map, sym, refl, subst}
use Rattle.std.specs.List.{AllByRecursion}
use Rattle.std.specs.List.Sorted.{IsPermutation}
use Rattle.std.proofs.lemmas.List.Sorted.{IsPermutation-sym}
use Rattle.theory.proofs.Words.{Message, Order, Refusal, Unknown, Refused, Checked, Register, World, Entry}
use Rattle.theory.proofs.Lists.{All-permutation}
use Rattle.theory.proofs.Model as model
use Rattle.theory.proofs.Model.{entry, Same}
use Rattle.theory.proofs.Matching.{params_of, msg_of, Proper, RegisterMatches, Matches}
use Rattle.theory.proofs.MatchTables.{same_then, shuffled_same}

pub record Reached (k : Checked) (log : List Entry) (w : World) : Type 0 where
  pub state : model.State
  pub trace : model.Trace (params_of k) k.initial log state
  pub matches : Matches k w state

-- the waiting messages have no part in how a register matches
pub register_drops : (k : Checked) (r : Register) (b : model.State) (ms : List model.Msg) → RegisterMatches k r b → RegisterMatches k r (model.drops b ms)
register_drops k r b ms h = record { settings = h.settings; rows = h.rows; outs = h.outs; clients = h.clients }

-- a state whose waiting messages are those of the world, in another order, reaches it
pub reached_by : (k : Checked) (log : List Entry) (w : World) (b : model.State) → model.Trace (params_of k) k.initial log b → RegisterMatches k w.register b → Same b.waiting (map msg_of w.waiting) → AllByRecursion (Proper k) w.waiting → Reached k log w
reached_by k log w b t h s p =
    record {
      state = model.drops b (map msg_of w.waiting);
      trace = model.stirred (map msg_of w.waiting) s t;
      matches = record { register = register_drops k w.register b (map msg_of w.waiting) h; waiting = refl; proper = p };
    }

-- the same, from the rules' own list of the messages that wait
pub reached_with : (k : Checked) (log : List Entry) (w : World) (r : Register) (ms : List Message) (b : model.State) → model.Trace (params_of k) k.initial log b → w.register ≡ r → RegisterMatches k r b
    → IsPermutation w.waiting ms → Same b.waiting (map msg_of ms) → AllByRecursion (Proper k) ms → Reached k log w
reached_with k log w r ms b t e h s i p =
    reached_by k log w b t (subst (λ x. RegisterMatches k x b) (sym e) h)
    (same_then b.waiting (map msg_of ms) (map msg_of w.waiting) i (shuffled_same ms w.waiting (IsPermutation-sym w.waiting ms s)))
    (All-permutation (Proper k) ms w.waiting (IsPermutation-sym w.waiting ms s) p)

-- the waiting messages of a state that matches may stand in any order
pub reordered : (k : Checked) (log : List Entry) (v : World) (b : model.State) (ms : List Message) → model.Trace (params_of k) k.initial log b → Matches k v b → IsPermutation v.waiting ms → model.Trace (params_of k) k.initial log (model.drops b (map msg_of ms))
reordered k log v b ms t h s =
    model.stirred (map msg_of ms) (subst (λ x. Same x (map msg_of ms)) h.waiting (shuffled_same v.waiting ms s)) t

-- ---- a call that is sent back

pub refused_quiet : (x : Refusal) (who : ℕ) → model.Quiet (Refused x who)
refused_quiet Unknown who = record { not_accepted = refl; not_ended = refl; not_due = refl }
refused_quiet _ who = record { not_accepted = refl; not_ended = refl; not_due = refl }

pub refused_reaches : (k : Checked) (log : List Entry) (v w : World) (b : model.State) (o : Order) (x : Refusal) (who : ℕ) (ms : List Message) → model.Trace (params_of k) k.initial log b → Matches k v b
    → w.register ≡ v.register → IsPermutation w.waiting v.waiting → Reached k (entry o (Refused x who) ms ∷ log) w
refused_reaches k log v w b o x who ms t h e s =
    reached_with k (entry o (Refused x who) ms ∷ log) w v.register v.waiting b
    (model.refused o (Refused x who) ms (refused_quiet x who) t) e h.register s
    (subst (λ y. Same y (map msg_of v.waiting)) h.waiting (λ m. (λ i. i, λ i. i))) h.proper
