-- Cards that say what was written: ends in `after_fine`, a message with such a card leaves the replica with such a card.
use Rattle.std.proofs.Common.{◌≡◌, ℕ, suc, ◌+◌, ◌-◌, ◌^◌, ◌<◌, ◌≤◌, eqb, ltb, List, ◌∷◌, length, ℤ, sym, refl, ◌∙◌, arith}
use lib.Bits.{or_lt}
use Rattle.std.proofs.lemmas.Bool.{cond_both, eqb-true, ltb-true}
use Rattle.theory.proofs.Cards.{Params, Card}
use Rattle.theory.proofs.Model.{Kind, writes, reads, tells, Msg, taken, noting, after}
use Rattle.theory.proofs.History.{value_at}
use Rattle.theory.proofs.Growing.{taken_at_least}

-- what every card in a replica, a message or a slip keeps, when xs are the values written, the newest first, and f the initial one
pub record CardFine (g : Params) (xs : List ℤ) (f : ℤ) (c : Card) : Type 0 where
  -- its version was begun
  pub begun : c.version ≤ length xs
  -- its note is of a version that it knows
  pub known_note : c.note ≤ c.version
  -- its marks are marks of clients
  pub few : c.marks < 2 ^ (g.groups + 1)
  -- its values are those of its version and of the one before
  pub value : c.value ≡ value_at xs f c.version
  pub previous : c.previous ≡ value_at xs f (c.version - 1)

-- A version that was begun keeps its value as another write begins.
pub value_stays : (x : ℤ) (xs : List ℤ) (f : ℤ) (k : ℕ) → k ≤ length xs → value_at (x ∷ xs) f k ≡ value_at xs f k
value_stays x xs f k h =
    cond_both (eqb k (suc (length xs))) x (value_at xs f k) (λ z. z ≡ value_at xs f k) (λ e. absurd (omega (arith, eqb-true _ _ e))) (λ e. refl)

pub fine_stays : (g : Params) (x : ℤ) (xs : List ℤ) (f : ℤ) (c : Card) → CardFine g xs f c → CardFine g (x ∷ xs) f c
fine_stays g x xs f c h =
    record {
      begun = omega (arith, h.begun);
      known_note = h.known_note;
      few = h.few;
      value = h.value ∙ sym (value_stays x xs f c.version h.begun);
      previous = h.previous ∙ sym (value_stays x xs f (c.version - 1) (omega (arith, h.begun)));
    }

taken_fine : (g : Params) (xs : List ℤ) (f : ℤ) (c d : Card) → CardFine g xs f c → CardFine g xs f d → CardFine g xs f (taken c d)
taken_fine g xs f c d h k =
    cond_both (ltb c.version d.version) _ _ (CardFine g xs f)
    (λ e. record { begun = k.begun; known_note = omega (arith, h.known_note, ltb-true _ _ e); few = k.few; value = k.value; previous = k.previous })
    (λ e. record { begun = h.begun; known_note = h.known_note; few = or_lt (g.groups + 1) _ _ h.few k.few; value = h.value; previous = h.previous })

noting_fine : (g : Params) (xs : List ℤ) (f : ℤ) (k : Kind) (v : ℕ) (c : Card) → v ≤ c.version → CardFine g xs f c → CardFine g xs f (noting k v c)
noting_fine g xs f writes v c h x = x
noting_fine g xs f reads v c h x = x
noting_fine g xs f tells v c h x = record { begun = x.begun; known_note = omega (arith, x.known_note); few = x.few; value = x.value; previous = x.previous }

pub after_fine : (g : Params) (xs : List ℤ) (f : ℤ) (c : Card) (m : Msg) → CardFine g xs f c → CardFine g xs f m.card → CardFine g xs f (after c m)
after_fine g xs f c m h k = noting_fine g xs f m.kind _ _ (taken_at_least c m.card) (taken_fine g xs f c m.card h k)
