-- One order more of a list, with its answer.
use Rattle.std.proofs.Common.{◌≡◌, ℕ, ◌+◌, ◌<◌, List, [], ◌∷◌, ◌++◌, length, take, drop, set, None, sym, refl, ap, ◌∙◌, arith}
use Rattle.std.proofs.lemmas.List.{length-drop, take_more_set, drop-drop, drop-set-lt, map_push}
use Rattle.orders.specs.declared.order.Order.{Order}
use Rattle.orders.specs.declared.answer.Answer.{Answer}
use Rattle.register.specs.World.{World, world, Answered, sent_in}
use Rattle.laws.specs.Entries.{Entry}
use Rattle.wire.specs.Channel.{Contents}
use Rattle.settings.specs.declared.given.Settings.{Settings}
use Rattle.settings.specs.declared.checked.Checked.{Checked}
use Rattle.settings.specs.Checked.{given}
use Rattle.register.specs.declared.register.Register.{Register}
use Rattle.register.specs.Register.{opened}
use Rattle.register.specs.Open.{opening_fault}
use Rattle.register.specs.Session.{Session}
use Rattle.register.specs.Past.{start, more, Ran, Filled}

-- nothing was done yet
pub ran_none : (v : World) → Ran v [] [] v
ran_none v = record { entries = []; orders = refl; answers = refl; past = start }

pub ran_more : (v w u : World) (os : List Order) (rs : List Answer) (o : Order) (a : Answer) → Ran v os rs w → Answered w o a u → Ran v (os ++ o ∷ []) (rs ++ a ∷ []) u
ran_more v w u os rs o a h s =
    let e : Entry = record { order = o; answer = a; sent = sent_in w o a u s } in
    record {
      entries = h.entries ++ e ∷ [];
      orders = map_push (λ x. x.order) h.entries e ∙ ap (λ l. l ++ o ∷ []) h.orders;
      answers = map_push (λ x. x.answer) h.entries e ∙ ap (λ l. l ++ a ∷ []) h.answers;
      past = more w u h.entries e h.past (record { answered = s; sent = refl });
    }

module _ {B : Type 0} where
  -- what lies past the answers filled stays
  pub rest_more : (ys zs : List B) (i : ℕ) (y : B) → drop i ys ≡ drop i zs → drop (i + 1) (set ys i y) ≡ drop (i + 1) zs
  rest_more ys zs i y e =
      let lt : i < i + 1 = omega arith in
      drop-set-lt (i + 1) ys i y lt ∙ sym (drop-drop 1 i ys) ∙ ap (drop 1) e ∙ drop-drop 1 i zs

-- the answers of the orders done stand in the first places
abbrev pub FilledBy : World → List Order → World → ℕ → List Answer → List Answer → Type 0
FilledBy v os w i before after = Filled (λ rs. Ran v os rs w) i before after

-- what a register does that was made by settings which passed is a session of them
pub session_ran : (r : Register) (k : Checked) (s : Settings) (x : Contents) (os : List Order) (before after : List Answer) (w : World) → r ≡ opened k → opening_fault s x ≡ None → given k ≡ s
    → Filled (λ rs. Ran (world r x) os rs w) (length os) before after → Filled (λ rs. Session s x os rs w) (length os) before after
session_ran r k s x os before after w e f g h = record { said = record { settings = k; accepted = f; passed = g; ran = rw e at h.said }; later = h.later; enough = h.enough }

pub filled_none : (v : World) (rs : List Answer) → FilledBy v [] v 0 rs rs
filled_none v rs = record { said = ran_none v; later = refl; enough = omega arith }

pub filled_more : {v w u : World} {os : List Order} {before : List Answer} (after : List Answer) (i : ℕ) (o : Order) (a : Answer) → i < length after → FilledBy v os w i before after → Answered w o a u
    → FilledBy v (os ++ o ∷ []) u (i + 1) before (set after i a)
filled_more {v} {w} {u} {os} {before} after i o a place h s =
    record {
      said = rw (take_more_set after i a place) (ran_more v w u os (take i after) o a h.said s);
      later = rest_more after before i a h.later;
      enough = omega (arith, h.enough, ap length h.later, length-drop i after, length-drop i before);
    }
