-- Places: the entries oldest first and the log newest first have the same entry at each place, so operations begin and end at the same places. It ends in `begins_log`, `next_log`, `next_told`, `write_at` and `read_at`.
use Rattle.std.proofs.Common.{◌≡◌, ℕ, zero, suc, ◌⊎◌, List, [], ◌∷◌, ◌++◌, reverse, length, ℤ, sym, refl, ap, ◌∙◌, subst, inl, inr, arith}
use mathlib.Core.List.{reverse-cons, reverse-reverse}
use Rattle.std.specs.List.{AllByRecursion}
use Rattle.std.proofs.lemmas.List.{length_push}
use Rattle.std.proofs.lemmas.Bool.{cases_order}
use Rattle.theory.proofs.Words.{Order, Write, Read, Tell, ClientOut, listed_as, Entry}
use Rattle.laws.specs.Operations as entries
use Rattle.laws.specs.Laws as laws
use Rattle.theory.proofs.Tracking.{at_below}
use Rattle.theory.proofs.Calls.{At, Calls, Starts, BeginsAt, NextEnd, AwaitsTell, Withdrawn}

-- ---- a log, the oldest entry first

abbrev pub oldest : List Entry → List Entry
oldest [] = []
oldest (x ∷ log) = oldest log ++ x ∷ []

oldest_is_reverse : (log : List Entry) → oldest log ≡ reverse log
oldest_is_reverse [] = refl
oldest_is_reverse (x ∷ log) = ap (λ (es : List Entry). es ++ x ∷ []) (oldest_is_reverse log) ∙ sym (reverse-cons x log)

pub oldest_reverse : (es : List Entry) → oldest (reverse es) ≡ es
oldest_reverse es = oldest_is_reverse (reverse es) ∙ reverse-reverse es

pub length_oldest : (log : List Entry) → length (oldest log) ≡ length log
length_oldest [] = refl
length_oldest (x ∷ log) = omega (arith, length_push (oldest log) x, length_oldest log)

pub all_oldest : (P : Entry → Type 0) (log : List Entry) → AllByRecursion P (oldest log) → AllByRecursion P log
all_oldest P [] h = tt
all_oldest P (x ∷ log) h = ((all_end (oldest log) h).1, all_oldest P log (all_end (oldest log) h).0)
  where
    all_end : (es : List Entry) → AllByRecursion P (es ++ x ∷ []) → AllByRecursion P es × P x
    all_end [] h = (tt, h.0)
    all_end (e ∷ es) h = let r = all_end es h.1 in ((h.0, r.0), r.1)

-- ---- the entry at a place

at_push : (es : List Entry) (x : Entry) (i : ℕ) (e : Entry) → entries.At (es ++ x ∷ []) i e → entries.At es i e ⊎ ((i ≡ length es) × (x ≡ e))
at_push [] x zero e h = inr (refl, h)
at_push [] x (suc i) e h = absurd h
at_push (y ∷ es) x zero e h = inl h
at_push (y ∷ es) x (suc i) e h = elim (at_push es x i e h) [ inl p ↦ inl p | inr p ↦ inr (ap suc p.0, p.1) ]

at_before : (es ys : List Entry) (i : ℕ) (e : Entry) → entries.At es i e → entries.At (es ++ ys) i e
at_before [] ys i e h = absurd h
at_before (x ∷ es) ys zero e h = h
at_before (x ∷ es) ys (suc i) e h = at_before es ys i e h

at_last : (es : List Entry) (x : Entry) → entries.At (es ++ x ∷ []) (length es) x
at_last [] x = refl
at_last (y ∷ es) x = at_last es x

pub at_log : (log : List Entry) (i : ℕ) (e : Entry) → entries.At (oldest log) i e → At log i e
at_log [] i e h = absurd h
at_log (x ∷ log) i e h = elim (at_push (oldest log) x i e h) [ inl p ↦ inr (at_log log i e p) | inr p ↦ inl (p.0 ∙ length_oldest log, p.1) ]

pub at_oldest : (log : List Entry) (i : ℕ) (e : Entry) → At log i e → entries.At (oldest log) i e
at_oldest [] i e h = absurd h
at_oldest (x ∷ log) i e (inl p) = subst (λ n. entries.At (oldest log ++ x ∷ []) n e) (length_oldest log ∙ sym p.0) (subst (entries.At (oldest log ++ x ∷ []) (length (oldest log))) p.1 (at_last (oldest log) x))
at_oldest (x ∷ log) i e (inr p) = at_before (oldest log) (x ∷ []) i e (at_oldest log i e p)

-- one entry at a place
pub at_same : (log : List Entry) (i : ℕ) (e e' : Entry) → At log i e → At log i e' → e ≡ e'
at_same [] i e e' h k = absurd h
at_same (x ∷ log) i e e' (inl p) (inl q) = sym p.1 ∙ q.1
at_same (x ∷ log) i e e' (inl p) (inr q) = absurd (omega (arith, p.0, at_below log i e' q))
at_same (x ∷ log) i e e' (inr p) (inl q) = absurd (omega (arith, q.0, at_below log i e p))
at_same (x ∷ log) i e e' (inr p) (inr q) = at_same log i e e' p q

pub all_at_lem : (P : Entry → Type 0) (log : List Entry) (i : ℕ) (e : Entry) → AllByRecursion P log → At log i e → P e
all_at_lem P [] i e h k = absurd k
all_at_lem P (x ∷ log) i e h (inl p) = subst P p.1 h.0
all_at_lem P (x ∷ log) i e h (inr p) = all_at_lem P log i e h.1 p

-- ---- where operations begin and end

-- client 0 is the writer: no read of it is accepted
abbrev pub NoReadOfWriter : Entry → Type 0
NoReadOfWriter e = entries.code e ≡ 100 → e.order ≡ Read 0 → ⊥

-- one client to an entry
pub calls_same : (o : Order) (c d : ℕ) → Calls o c → Calls o d → c ≡ d
calls_same (Write v) c d p q = p ∙ sym q
calls_same (Read r) c d p q = p ∙ sym q
calls_same _ c d p q = absurd p

pub begins_same : (log : List Entry) (c d i : ℕ) → BeginsAt log c i → BeginsAt log d i → c ≡ d
begins_same log c d i b b' =
    let s : Starts c b'.0 = subst (Starts c) (at_same log i b.0 b'.0 b.1 b'.1) b.2 in
    calls_same b'.0.order c d s.1 b'.2.1

-- one next end
pub next_same : (log : List Entry) (c i j m : ℕ) → NextEnd log c i j → NextEnd log c i m → j ≡ m
next_same log c i j m h k =
    elim (cases_order j m) [
      | inl e ↦ e
      | inr e ↦ elim e [ inl l ↦ absurd (k.first j h.after l h.ends) | inr l ↦ absurd (h.first m k.after l k.ends) ]
    ]

module _ (log : List Entry) where
  pub accepted_log : (o : Order) (i : ℕ) → entries.AcceptedAt (oldest log) o i → (e : Entry) × At log i e × ((listed_as e.answer).code ≡ 100) × (e.order ≡ o)
  accepted_log o i h = (h.entry, at_log log i h.entry h.at, h.accepted, h.order)

  pub accepted_told : (o : Order) (i : ℕ) (e : Entry) → At log i e → (listed_as e.answer).code ≡ 100 → e.order ≡ o → entries.AcceptedAt (oldest log) o i
  accepted_told o i e h k p = record { entry = e; at = at_oldest log i e h; order = p; accepted = k }

  pub begins_log : (c i : ℕ) → entries.Begins (oldest log) c i → BeginsAt log c i
  begins_log c i (inl h) = let a = h.1.1 in (a.entry, at_log log i a.entry a.at, (a.accepted, subst (λ o. Calls o c) (sym a.order) h.0))
  begins_log c i (inr h) = let a = h.1 in (a.entry, at_log log i a.entry a.at, (a.accepted, subst (λ o. Calls o c) (sym a.order) refl))

  pub next_log : (c i j : ℕ) → entries.EndsAt (oldest log) c i j → NextEnd log c i j
  next_log c i j h =
      record {
        after = h.after;
        ends = (h.entry, at_log log j h.entry h.at, h.ended);
        first = λ m l k e. h.next m e.0 l k (at_oldest log m e.0 e.1) e.2.0 e.2.1;
      }

  pub next_told : (c i j : ℕ) → NextEnd log c i j → entries.EndsAt (oldest log) c i j
  next_told c i j h =
      record {
        entry = h.ends.0;
        at = at_oldest log j h.ends.0 h.ends.1;
        after = h.after;
        ended = h.ends.2;
        next = λ m e l k a p q. h.first m l k (e, at_log log m e a, (p, q));
      }

  pub withdrawn_told : (c : ℕ) → Withdrawn log c → laws.Withdrawn (oldest log) c
  withdrawn_told c h = (h.0, accepted_told (ClientOut c) h.0 h.1.0 h.1.1 h.1.2 h.1.3)

  pub awaits_told : (c i : ℕ) → AwaitsTell log c i → laws.AwaitsTell (oldest log) c i
  awaits_told c i h =
      record {
        place = h.since;
        entry = h.due.0;
        at = at_oldest log h.since h.due.0 h.due.1;
        after = h.after;
        due = (h.due.2, h.due.3);
        untold = λ m l a. h.untold m l (accepted_log (Tell c) m a);
      }

  module _ (none : AllByRecursion NoReadOfWriter log) where
    -- an accepted start of client 0 is a write, one of another a read
    pub write_at : (i : ℕ) (e : Entry) → At log i e → Starts 0 e → (z : ℤ) × (e.order ≡ Write z)
    write_at i e a s = go e.order refl s.1
      where
        go : (o : Order) → e.order ≡ o → Calls o 0 → (z : ℤ) × (e.order ≡ Write z)
        go (Write z) p q = (z, p)
        go (Read d) p q = absurd (all_at_lem NoReadOfWriter log i e none a s.0 (p ∙ ap Read (sym q)))
        go _ p q = absurd q

    pub read_at : (c i : ℕ) (e : Entry) → At log i e → Starts c e → (c ≡ 0 → ⊥) → e.order ≡ Read c
    read_at c i e a s reader = go e.order refl s.1
      where
        go : (o : Order) → e.order ≡ o → Calls o c → e.order ≡ Read c
        go (Write z) p q = absurd (reader q)
        go (Read d) p q = p ∙ ap Read (sym q)
        go _ p q = absurd q
