-- Messages that wait: ends in `sent_waits`, a set of messages put out has one to each replica that it is meant for.
use Rattle.std.proofs.Common.{◌≡◌, ℕ, zero, suc, ◌<◌, false, ◌⊎◌, List, [], ◌∷◌, ◌++◌, refl, ap, inl, inr, arith}
use Rattle.std.proofs.lemmas.Bool.{cases_eq}
use Rattle.std.specs.List.{AllByRecursion}
use Rattle.theory.proofs.Members.{Among, all_among}
use Rattle.theory.proofs.Cards.{Card}
use Rattle.theory.proofs.Model.{Kind, Msg, sent, Takes, here, there}

-- What holds of all messages holds of the one taken and of the rest.
pub all_takes : (P : Msg → Type 0) {m : Msg} {w v : List Msg} → Takes m w v → AllByRecursion P w → P m × AllByRecursion P v
all_takes P here h = h
all_takes P (there t) h = let r = all_takes P t h.1 in (r.0, (h.0, r.1))

-- What holds of all messages holds of them in any order.
pub all_same : (P : Msg → Type 0) (v w : List Msg) → ((x : Msg) → Among x w → Among x v) → AllByRecursion P v → AllByRecursion P w
all_same P v [] f h = tt
all_same P v (y ∷ w) f h = (all_among P y v h (f y (inl refl)), all_same P v w (λ x i. f x (inr i)) h)

pub taken_or_waits : {m : Msg} {w v : List Msg} (x : Msg) → Takes m w v → Among x w → (x ≡ m) ⊎ Among x v
taken_or_waits x here (inl e) = inl e
taken_or_waits x here (inr i) = inr i
taken_or_waits x (there t) (inl e) = inr (inl e)
taken_or_waits x (there t) (inr i) = elim (taken_or_waits x t i) [ inl e ↦ inl e | inr j ↦ inr (inr j) ]

pub waits_behind : (x : Msg) (u v : List Msg) → Among x v → Among x (u ++ v)
waits_behind x [] v i = i
waits_behind x (y ∷ u) v i = inr (waits_behind x u v i)

pub sent_waits : (k : Kind) (c r : ℕ) (d : Card) (n i : ℕ) (w : List Msg) → i < n → Among (record { reply = false; kind = k; replica = i; client = c; round = r; card = d }) (sent k c r d n ++ w)
sent_waits k c r d zero i w lt = absurd (omega arith)
sent_waits k c r d (suc n) i w lt =
    elim (cases_eq i n) [
      | inl e ↦ inl (ap (λ j. record { reply = false; kind = k; replica = j; client = c; round = r; card = d }) e)
      | inr e ↦ inr (sent_waits k c r d n i w (omega arith))
    ]
