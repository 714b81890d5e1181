-- A message that is taken from the channel: it is never stray, and one that does nothing is lost in the model too. It ends in `lost_reaches`.
use Rattle.std.proofs.Common.{◌≡◌, ◌≤◌, true, false, leb, ◌⊎◌, not, ◌||◌, List, [], ◌∷◌, ◌++◌, map, Option, sym, refl, ap, ◌∙◌, subst, arith}
use Rattle.std.specs.Option.{option_to_list}
use Rattle.std.specs.List.{AllByRecursion}
use Rattle.std.specs.List.Sorted.{IsPermutation}
use Rattle.std.proofs.lemmas.Bool.Decides.{nat_tests}
use Rattle.std.proofs.lemmas.Bool.{le-ltb, lt-leb, or_from, cond-true, cond-false}
use Rattle.theory.proofs.Words.{Message, Carry, Answer, Lost, Checked, Register, is_request, is_reply, is_stray, is_lost, by_case, handled, handled_answer, handled_reply, World, Entry}
use Rattle.theory.proofs.Cards.{Slip}
use Rattle.theory.proofs.Model as model
use Rattle.theory.proofs.Model.{entry, Msg, Takes}
use Rattle.theory.proofs.Matching.{params_of, msg_of, Proper, RegisterMatches}
use Rattle.theory.proofs.MatchTables.{same_self}
use Rattle.theory.proofs.MatchReached.{Reached, reached_with, register_drops}

-- a message that was taken: the state that it was taken from, and what is left
pub record Taken (k : Checked) (log : List Entry) (r : Register) (m : Message) (rest : List Message) : Type 0 where
  pub state : model.State
  pub trace : model.Trace (params_of k) k.initial log state
  pub matches : RegisterMatches k r state
  pub takes : Takes (msg_of m) state.waiting (map msg_of rest)
  pub proper : Proper k m
  pub others : AllByRecursion (Proper k) rest

-- ---- the cases of a message

pub not_stray : (k : Checked) (r : Register) (m : Message) → r.settings ≡ k → Proper k m → is_stray r m ≡ false
not_stray k r m e p =
    let replicas : r.settings.replicas ≡ k.replicas = ap (λ a. a.replicas) e in
    let readers : r.settings.readers ≡ k.readers = ap (λ a. a.readers) e in
    let low : 1 ≤ m.kind = p.low in
    let high : m.kind ≤ 6 = p.high in
    let kind : not (is_request m.kind || is_reply m.kind) ≡ false = grind (arith, nat_tests) in
    or_from _ _ kind
    (or_from (leb r.settings.replicas m.replica) _ (lt-leb r.settings.replicas m.replica (omega (arith, p.replica)))
    (le-ltb r.settings.readers m.client (omega (arith, p.client))))

module _ {A : Type 0} (r : Register) (m : Message) (stray lost at_replica at_client : A) (known : is_stray r m ≡ false) where
  pub case_lost : is_lost r m ≡ true → by_case r m stray lost at_replica at_client ≡ lost
  case_lost e = cond-false (is_stray r m) _ _ known ∙ cond-true (is_lost r m) _ _ e

  pub case_replica : is_lost r m ≡ false → is_request m.kind ≡ true → by_case r m stray lost at_replica at_client ≡ at_replica
  case_replica e f = cond-false (is_stray r m) _ _ known ∙ cond-false (is_lost r m) _ _ e ∙ cond-true (is_request m.kind) _ _ f

  pub case_client : is_lost r m ≡ false → is_request m.kind ≡ false → by_case r m stray lost at_replica at_client ≡ at_client
  case_client e f = cond-false (is_stray r m) _ _ known ∙ cond-false (is_lost r m) _ _ e ∙ cond-false (is_request m.kind) _ _ f

-- ---- a message that does nothing

-- why a message does nothing in the model
abbrev pub Idles : model.State → Msg → Type 0
Idles b l =
    ((l.reply ≡ false) × ((b.replica_out l.replica ≡ true) ⊎ (l.round ≤ b.heard l.replica l.client)))
    ⊎ ((l.reply ≡ true) × ((b.client_out l.client ≡ true) ⊎ ((k : model.Kind) (ss : List Slip) → model.Counting b l k ss → ⊥)))

pub nothing_reaches : (k : Checked) (log : List Entry) (w : World) (r : Register) (m : Message) (rest : List Message) (a : Answer) (ms : List Message) (g : Taken k log r m rest)
    → model.Quiet a → Idles g.state (msg_of m) → RegisterMatches k w.register g.state → IsPermutation w.waiting rest → Reached k (entry Carry a ms ∷ log) w
nothing_reaches k log w r m rest a ms g q why h s =
    reached_with k (entry Carry a ms ∷ log) w w.register rest (model.drops g.state (map msg_of rest))
    (model.lost (msg_of m) (map msg_of rest) a ms q g.takes g.trace why) refl
    (register_drops k w.register g.state (map msg_of rest) h) s (same_self (map msg_of rest)) g.others

-- a message that is lost, where the model says why
pub lost_reaches : (k : Checked) (log : List Entry) (w : World) (r : Register) (m : Message) (rest : List Message) (a : Answer) (ms : List Message) (g : Taken k log r m rest)
    → a ≡ handled_answer r m → w.register ≡ handled r m → ms ≡ option_to_list (handled_reply r m) → IsPermutation w.waiting (ms ++ rest) → is_lost r m ≡ true → Idles g.state (msg_of m) → Reached k (entry Carry a ms ∷ log) w
lost_reaches k log w r m rest a ms g answer register sent waiting e why =
    let known = not_stray k r m g.matches.settings g.proper in
    let an : a ≡ Lost m.client = answer ∙ case_lost r m _ _ _ _ known e in
    let re : w.register ≡ r = register ∙ case_lost r m _ _ _ _ known e in
    let se : ms ≡ [] = sent ∙ ap option_to_list (case_lost {A = Option Message} r m _ _ _ _ known e) in
    subst (λ q. Reached k (entry Carry q ms ∷ log) w) (sym an)
    (nothing_reaches k log w r m rest (Lost m.client) ms g (record { not_accepted = refl; not_ended = refl; not_due = refl }) why
    (subst (λ q. RegisterMatches k q g.state) (sym re) g.matches) (subst (λ q. IsPermutation w.waiting (q ++ rest)) se waiting))
