-- The accepted writes of a log: the nth has n - 1 before it and the value of version n, and one place. It ends in `write_no`, `write_number`, `write_order`, `write_place` and `last_write`.
use Rattle.std.proofs.Common.{◌≡◌, ℕ, suc, ◌+◌, ◌<◌, ◌≤◌, true, false, cond, ◌&&◌, eqb, ◌⊎◌, List, [], ◌∷◌, length, ℤ, count_by, sym, refl, ap, ◌∙◌, subst, inl, inr, arith}
use Rattle.std.specs.List.{AllByRecursion}
use Rattle.std.proofs.lemmas.List.{take-append-le, take_at}
use Rattle.std.proofs.lemmas.List.Sums.{sum_by_push}
use Rattle.std.proofs.lemmas.Bool.{cases_Bool, cond-true, cond-false, eqb-true, eq-eqb, ne_eqb}
use Rattle.theory.proofs.Words.{Order, Write, Read, listed_as, Entry, code, is_write, writes_before}
use Rattle.theory.proofs.History.{values, values_by, value_at, begun, begun_by}
use Rattle.theory.proofs.Calls.{At, Calls, Starts, WriteNo}
use Rattle.theory.proofs.Places.{oldest, length_oldest, NoReadOfWriter, write_at}

-- ---- how many were accepted before

writes_by : (o : Order) (vs : List ℤ) → length (values_by o vs) ≡ length vs + cond (is_write o) 1 0
writes_by (Write z) vs = omega arith
writes_by _ vs = omega arith

writes_all : (log : List Entry) → count_by (λ e. eqb (code e) 100 && is_write e.order) (oldest log) ≡ length (values log)
writes_all [] = refl
writes_all (x ∷ log) =
    let push = sum_by_push (λ (e : Entry). cond (eqb (code e) 100 && is_write e.order) 1 0) (oldest log) x in
    push ∙ ap (λ n. n + cond (eqb (code x) 100 && is_write x.order) 1 0) (writes_all log) ∙ by_code (cases_Bool (eqb (code x) 100))
  where
    by_code : (eqb (code x) 100 ≡ true) ⊎ (eqb (code x) 100 ≡ false) → length (values log) + cond (eqb (code x) 100 && is_write x.order) 1 0 ≡ length (values (x ∷ log))
    by_code (inl e) = simp e (sym (writes_by x.order (values log)))
    by_code (inr e) = simp e (omega arith)

before_more : (x : Entry) (log : List Entry) (i : ℕ) → i ≤ length log → writes_before (oldest (x ∷ log)) i ≡ writes_before (oldest log) i
before_more x log i l = ap (λ (es : List Entry). count_by (λ e. eqb (code e) 100 && is_write e.order) es) (take-append-le i (oldest log) (x ∷ []) (omega (arith, length_oldest log)))

before_last : (x : Entry) (log : List Entry) → writes_before (oldest (x ∷ log)) (length log) ≡ length (values log)
before_last x log = ap (λ (es : List Entry). count_by (λ e. eqb (code e) 100 && is_write e.order) es) (take_at (oldest log) (x ∷ []) (length log) (length_oldest log)) ∙ writes_all log

write_below : (log : List Entry) (i n : ℕ) → WriteNo log i n → i < length log
write_below [] i n h = absurd h
write_below (x ∷ log) i n (inl p) = omega (arith, p.0)
write_below (x ∷ log) i n (inr p) = omega (arith, write_below log i n p)

pub write_number : (log : List Entry) (i n : ℕ) → WriteNo log i n → n ≡ suc (writes_before (oldest log) i)
write_number [] i n h = absurd h
write_number (x ∷ log) i n (inl p) = p.2 ∙ ap suc (sym (before_last x log)) ∙ ap (λ j. suc (writes_before (oldest (x ∷ log)) j)) (sym p.0)
write_number (x ∷ log) i n (inr p) = write_number log i n p ∙ ap suc (sym (before_more x log i (omega (arith, write_below log i n p))))

pub write_no : (log : List Entry) (i : ℕ) (e : Entry) → At log i e → Starts 0 e → WriteNo log i (suc (writes_before (oldest log) i))
write_no log i e a s = let r = some log a in subst (WriteNo log i) (write_number log i r.0 r.1) r.1
  where
    some : (log : List Entry) → At log i e → (n : ℕ) × WriteNo log i n
    some [] a = absurd a
    some (x ∷ log) (inl p) = (suc (length (values log)), inl (p.0, subst (Starts 0) (sym p.1) s, refl))
    some (x ∷ log) (inr p) = let r = some log p in (r.0, inr r.1)

-- ---- what it wrote

values_cases : (x : Entry) (log : List Entry) → (values (x ∷ log) ≡ values log) ⊎ ((z : ℤ) × (values (x ∷ log) ≡ z ∷ values log))
values_cases x log =
    elim (cases_Bool (eqb (listed_as x.answer).code 100)) [
      | inl e ↦ elim (by_order x.order) [ inl p ↦ inl (cond-true _ _ _ e ∙ p) | inr p ↦ inr (p.0, cond-true _ _ _ e ∙ p.1) ]
      | inr e ↦ inl (cond-false _ _ _ e)
    ]
  where
    by_order : (o : Order) → (values_by o (values log) ≡ values log) ⊎ ((z : ℤ) × (values_by o (values log) ≡ z ∷ values log))
    by_order (Write z) = inr (z, refl)
    by_order _ = inl refl

values_write : (x : Entry) (log : List Entry) (z : ℤ) → code x ≡ 100 → x.order ≡ Write z → values (x ∷ log) ≡ z ∷ values log
values_write x log z c e = cond-true _ _ _ (eq-eqb _ 100 c) ∙ ap (λ (o : Order). values_by o (values log)) e

-- the accepted write of a number: its place, and its value
pub record TheWrite (f : ℤ) (log : List Entry) (i n : ℕ) : Type 0 where
  pub entry : Entry
  pub at : At log i entry
  pub accepted : code entry ≡ 100
  pub order : entry.order ≡ Write (value_at (values log) f n)
  pub low : 1 ≤ n
  pub high : n ≤ length (values log)

more_write : (f : ℤ) (x : Entry) (log : List Entry) (i n : ℕ) → TheWrite f log i n → TheWrite f (x ∷ log) i n
more_write f x log i n h =
    elim (values_cases x log) [
      | inl e ↦ record { entry = h.entry; at = inr h.at; accepted = h.accepted; order = subst (λ (vs : List ℤ). h.entry.order ≡ Write (value_at vs f n)) (sym e) h.order; low = h.low; high = subst (λ (vs : List ℤ). n ≤ length vs) (sym e) h.high }
      | inr e ↦ record {
        entry = h.entry;
        at = inr h.at;
        accepted = h.accepted;
        order = subst (λ (vs : List ℤ). h.entry.order ≡ Write (value_at vs f n)) (sym e.1)
            (h.order ∙ ap Write (sym (cond-false _ e.0 (value_at (values log) f n) (ne_eqb n (suc (length (values log))) (λ q. absurd (omega (arith, q, h.high)))))));
        low = h.low;
        high = subst (λ (vs : List ℤ). n ≤ length vs) (sym e.1) (omega (arith, h.high));
      }
    ]

pub write_order : (f : ℤ) (log : List Entry) → AllByRecursion NoReadOfWriter log → (i n : ℕ) → WriteNo log i n → TheWrite f log i n
write_order f [] none i n h = absurd h
write_order f (x ∷ log) none i n (inl p) =
    let w = write_at (x ∷ log) none (length log) x (inl (refl, refl)) p.1 in
    let e = values_write x log w.0 p.1.0 w.1 in
    record {
      entry = x;
      at = inl (p.0, refl);
      accepted = p.1.0;
      order = subst (λ (vs : List ℤ). x.order ≡ Write (value_at vs f n)) (sym e) (w.1 ∙ ap Write (sym (cond-true _ w.0 (value_at (values log) f n) (eq-eqb n (suc (length (values log))) p.2))));
      low = omega (arith, p.2);
      high = subst (λ (vs : List ℤ). n ≤ length vs) (sym e) (omega (arith, p.2));
    }
write_order f (x ∷ log) none i n (inr p) = more_write f x log i n (write_order f log none.1 i n p)

-- ---- one place to a number

pub write_place : (f : ℤ) (log : List Entry) → AllByRecursion NoReadOfWriter log → (i j n : ℕ) → WriteNo log i n → WriteNo log j n → i ≡ j
write_place f [] none i j n h k = absurd h
write_place f (x ∷ log) none i j n (inl p) (inl q) = p.0 ∙ sym q.0
write_place f (x ∷ log) none i j n (inl p) (inr q) = absurd (omega (arith, p.2, (write_order f log none.1 j n q).high))
write_place f (x ∷ log) none i j n (inr p) (inl q) = absurd (omega (arith, q.2, (write_order f log none.1 i n p).high))
write_place f (x ∷ log) none i j n (inr p) (inr q) = write_place f log none.1 i j n p q

last_more : (x : Entry) (log : List Entry) → NoReadOfWriter x → (1 ≤ length (values log) → WriteNo log (begun log 0) (length (values log))) → 1 ≤ length (values (x ∷ log)) → WriteNo (x ∷ log) (begun (x ∷ log) 0) (length (values (x ∷ log)))
last_more x log none last h =
    elim (cases_Bool (eqb (listed_as x.answer).code 100)) [
      | inl e ↦ accepted (eqb-true _ 100 e) (by_order x.order (none (eqb-true _ 100 e)))
      | inr e ↦ same (cond-false _ _ _ e) (ap (λ (s : ℕ → ℕ). s 0) (cond-false _ (begun_by x.order (length log) (begun log)) (begun log) e))
    ]
  where
    same : values (x ∷ log) ≡ values log → begun (x ∷ log) 0 ≡ begun log 0 → WriteNo (x ∷ log) (begun (x ∷ log) 0) (length (values (x ∷ log)))
    same v b =
        let few : 1 ≤ length (values log) = subst (λ (vs : List ℤ). 1 ≤ length vs) v h in
        inr (subst (λ n. WriteNo log n (length (values (x ∷ log)))) (sym b) (subst (λ (vs : List ℤ). WriteNo log (begun log 0) (length vs)) (sym v) (last few)))

    by_order : (o : Order) → (o ≡ Read 0 → ⊥) → (Calls o 0 × (begun_by o (length log) (begun log) 0 ≡ length log) × (length (values_by o (values log)) ≡ suc (length (values log)))) ⊎ ((values_by o (values log) ≡ values log) × (begun_by o (length log) (begun log) 0 ≡ begun log 0))
    by_order (Write z) n = inl (refl, refl, refl)
    by_order (Read c) n = inr (refl, cond-false _ _ _ (ne_eqb 0 c (λ q. n (ap Read (sym q)))))
    by_order _ n = inr (refl, refl)

    accepted : code x ≡ 100 → (Calls x.order 0 × (begun_by x.order (length log) (begun log) 0 ≡ length log) × (length (values_by x.order (values log)) ≡ suc (length (values log)))) ⊎ ((values_by x.order (values log) ≡ values log) × (begun_by x.order (length log) (begun log) 0 ≡ begun log 0))
        → WriteNo (x ∷ log) (begun (x ∷ log) 0) (length (values (x ∷ log)))
    accepted c (inl p) =
        let t = eq-eqb (listed_as x.answer).code 100 c in
        inl (ap (λ (s : ℕ → ℕ). s 0) (cond-true _ (begun_by x.order (length log) (begun log)) (begun log) t) ∙ p.1, (c, p.0), ap length (cond-true _ _ _ t) ∙ p.2)
    accepted c (inr p) =
        let t = eq-eqb (listed_as x.answer).code 100 c in
        same (cond-true _ _ _ t ∙ p.0) (ap (λ (s : ℕ → ℕ). s 0) (cond-true _ (begun_by x.order (length log) (begun log)) (begun log) t) ∙ p.1)

-- the last accepted write of all began at the place of the writer's last start
pub last_write : (log : List Entry) → AllByRecursion NoReadOfWriter log → 1 ≤ length (values log) → WriteNo log (begun log 0) (length (values log))
last_write [] none h = absurd (omega arith)
last_write (x ∷ log) none h = last_more x log none.0 (λ l. last_write log none.1 l) h
