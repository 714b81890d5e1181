-- The order on cards, and what one message does to one replica: ends in `replica_only_grows`.
use Rattle.std.proofs.Common.{◌≡◌, ℕ, ◌≤◌, ltb, sym, refl, ◌∙◌, subst, inl, inr, arith}
use Rattle.std.proofs.lemmas.Bool.{cases_lt, cond_both, ltb-false, ltb-true}
use Rattle.theory.proofs.Sets.{Within}
use Rattle.theory.proofs.Cards.{Card, Ahead, Later}
use Rattle.theory.proofs.Model.{Kind, writes, reads, tells, Msg, taken, noting, after}
use Rattle.theory.proofs.Marks.{within_self, within_trans, within_or, within_or_right}

pub later_self : (c : Card) → Later c c
later_self c = record { ahead = inr (refl, within_self c.marks); note = omega arith }

-- A card that is ahead of a version with some marks stays so as it grows.
pub ahead_stays : (k common : ℕ) (c d : Card) → Ahead k common c → Later c d → Ahead k common d
ahead_stays k common c d (inl h) g = elim g.ahead [ inl j ↦ inl (omega arith) | inr j ↦ inl (omega (arith, j.0)) ]
ahead_stays k common c d (inr h) g =
    elim g.ahead [ inl j ↦ inl (omega (arith, h.0)) | inr j ↦ inr (h.0 ∙ j.0, within_trans common c.marks d.marks h.1 j.1) ]

pub later_trans : (c d e : Card) → Later c d → Later d e → Later c e
later_trans c d e p q = record { ahead = ahead_stays _ _ d e p.ahead q; note = omega (arith, p.note, q.note) }

-- ---- version and marks, by whether the message is newer

taken_grows : (c d : Card) → Later c (taken c d)
taken_grows c d =
    cond_both (ltb c.version d.version) _ _ (Later c)
    (λ e. record { ahead = inl (ltb-true _ _ e); note = omega arith })
    (λ e. record { ahead = inr (refl, within_or c.marks d.marks); note = omega arith })

taken_catches_up : (c d : Card) → Ahead d.version d.marks (taken c d)
taken_catches_up c d =
    cond_both (ltb c.version d.version) _ _ (Ahead d.version d.marks)
    (λ e. inr (refl, within_self d.marks))
    (λ e. let h : d.version ≤ c.version = ltb-false _ _ e in
    elim (cases_lt d.version c.version) [ inl k ↦ inl k | inr k ↦ inr (omega arith, within_or_right c.marks d.marks) ])

taken_has_marks : (c d : Card) → Within d.marks (taken c d).marks
taken_has_marks c d =
    cond_both (ltb c.version d.version) _ _ (λ (e : Card). Within d.marks e.marks) (λ e. within_self d.marks) (λ e. within_or_right c.marks d.marks)

pub taken_at_least : (c d : Card) → d.version ≤ (taken c d).version
taken_at_least c d =
    cond_both (ltb c.version d.version) _ _ (λ (e : Card). d.version ≤ e.version) (λ e. omega arith) (λ e. omega (arith, ltb-false _ _ e))

-- ---- the note, which only a tell raises

noting_grows : (k : Kind) (v : ℕ) (c : Card) → Later c (noting k v c)
noting_grows writes v c = later_self c
noting_grows reads v c = later_self c
noting_grows tells v c = record { ahead = inr (refl, within_self c.marks); note = omega arith }

noting_keeps_ahead : (k : Kind) (v n common : ℕ) (c : Card) → Ahead n common c → Ahead n common (noting k v c)
noting_keeps_ahead writes v n common c h = h
noting_keeps_ahead reads v n common c h = h
noting_keeps_ahead tells v n common c h = h

noting_keeps_marks : (k : Kind) (v own : ℕ) (c : Card) → Within own c.marks → Within own (noting k v c).marks
noting_keeps_marks writes v own c h = h
noting_keeps_marks reads v own c h = h
noting_keeps_marks tells v own c h = h

-- ---- the replica as it replies

-- After a message the replica is at its version with its marks, or above.
pub after_catches_up : (c : Card) (m : Msg) → Ahead m.card.version m.card.marks (after c m)
after_catches_up c m = noting_keeps_ahead m.kind _ _ _ _ (taken_catches_up c m.card)

-- The reply has the marks of the message, whatever the version.
pub after_has_marks : (c : Card) (m : Msg) → Within m.card.marks (after c m).marks
after_has_marks c m = noting_keeps_marks m.kind _ _ _ (taken_has_marks c m.card)

-- After a tell the note is at least what it tells.
pub after_noted : (c : Card) (m : Msg) → m.kind ≡ tells → m.card.version ≤ (after c m).note
after_noted c m e = subst (λ k. m.card.version ≤ (noting k m.card.version (taken c m.card)).note) (sym e) (omega arith)

-- Whatever a message says, the replica only grows by it.
pub replica_only_grows : (c : Card) (m : Msg) → Later c (after c m)
replica_only_grows c m = later_trans c _ _ (taken_grows c m.card) (noting_grows m.kind _ _)
