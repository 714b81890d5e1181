-- What an ended call put out between its places, and what its 105 says. It ends in spanned and said.
use Rattle.std.proofs.Common.{◌≡◌, ℕ, zero, suc, ◌+◌, ◌-◌, ◌*◌, ◌<◌, ◌≤◌, Bool, true, false, cond, eqb, ltb, List, [], ◌∷◌, ◌++◌, length, take, drop, sum_by, count_by, sym, refl, ap, ◌∙◌, subst, inl, inr, arith}
use Rattle.std.specs.List.{Contains, AllByRecursion}
use Rattle.std.proofs.lemmas.List.{length_push, length-drop, drop-append-le, drop_at, take-append-le, take_all}
use Rattle.std.proofs.lemmas.List.Sums.{sum_by_push}
use Rattle.std.proofs.lemmas.Bool.{cases_Bool, cond-true, cond-false, lt-ltb, eqb-true}
use Rattle.theory.proofs.Words.{Order, Write, Read, Tell, listed_as, Checked, Entry, own_messages, span, rounds_of, messages_of}
use Rattle.theory.proofs.Lists.{All-weaker, All-contains}
use Rattle.theory.proofs.History.{Done, begun, begun_by, spent, spent_by, done}
use Rattle.theory.proofs.Calls.{At}
use Rattle.theory.proofs.Places.{oldest, length_oldest, at_same}
use Rattle.theory.proofs.Sent.{Regular, own_size}

-- n times m
abbrev pub times : ℕ → ℕ → ℕ
times zero m = 0
times (suc n) m = m + times n m

-- the messages of a tell
abbrev pub told_size : Checked → ℕ
told_size k = 3 * k.tolerated + 1

abbrev puts_out : ℕ → Entry → Bool
puts_out c e = ltb 0 (own_messages c e)

abbrev counted_once : ℕ → ℕ
counted_once m = cond (ltb 0 m) 1 0

-- since place b the client put out n sets: the first of at most S messages, each other one of at most 3t + 1
record Tallied (k : Checked) (c : ℕ) (es : List Entry) (b n : ℕ) : Type 0 where
  low : b ≤ length es
  rounds : count_by (puts_out c) (drop b es) ≡ n
  messages : sum_by (own_messages c) (drop b es) + told_size k ≤ k.replicas + times n (told_size k)

-- an ended call put out its sets between its places
pub record Spanned (k : Checked) (es : List Entry) (d : Done) : Type 0 where
  pub late : d.end < length es
  pub early : d.begin ≤ d.end
  pub rounds : rounds_of es d.client d.begin d.end ≡ d.sets
  pub messages : messages_of es d.client d.begin d.end + told_size k ≤ k.replicas + times d.sets (told_size k)

-- ---- one entry more

module _ (k : Checked) (c : ℕ) (es : List Entry) (x : Entry) where
  count_push : (ys : List Entry) → count_by (puts_out c) (ys ++ x ∷ []) ≡ count_by (puts_out c) ys + counted_once (own_messages c x)
  count_push ys = sum_by_push (λ (e : Entry). cond (puts_out c e) 1 0) ys x

  sum_push : (ys : List Entry) → sum_by (own_messages c) (ys ++ x ∷ []) ≡ sum_by (own_messages c) ys + own_messages c x
  sum_push ys = sum_by_push (own_messages c) ys x

  drop_push : (b : ℕ) → b ≤ length es → drop b (es ++ x ∷ []) ≡ drop b es ++ x ∷ []
  drop_push b l = drop-append-le b es (x ∷ []) l

  tallied_quiet : (b n : ℕ) → own_messages c x ≡ 0 → Tallied k c es b n → Tallied k c (es ++ x ∷ []) b n
  tallied_quiet b n e t =
      let r : counted_once (own_messages c x) ≡ 0 = ap counted_once e in
      record {
        low = omega (arith, length_push es x, t.low);
        rounds = ap (λ (ys : List Entry). count_by (puts_out c) ys) (drop_push b t.low) ∙ omega (arith, count_push (drop b es), r, t.rounds);
        messages = subst (λ (ys : List Entry). sum_by (own_messages c) ys + told_size k ≤ k.replicas + times n (told_size k)) (sym (drop_push b t.low)) (omega (arith, sum_push (drop b es), e, t.messages));
      }

  tallied_tell : (b n : ℕ) → own_messages c x ≡ told_size k → Tallied k c es b n → Tallied k c (es ++ x ∷ []) b (suc n)
  tallied_tell b n e t =
      let r : counted_once (own_messages c x) ≡ 1 = ap counted_once e ∙ cond-true _ 1 0 (lt-ltb 0 (told_size k) (omega arith)) in
      record {
        low = omega (arith, length_push es x, t.low);
        rounds = ap (λ (ys : List Entry). count_by (puts_out c) ys) (drop_push b t.low) ∙ omega (arith, count_push (drop b es), r, t.rounds);
        messages = subst (λ (ys : List Entry). sum_by (own_messages c) ys + told_size k ≤ k.replicas + times (suc n) (told_size k)) (sym (drop_push b t.low)) (omega (arith, sum_push (drop b es), e, t.messages));
      }

  tallied_start : own_messages c x ≡ k.replicas → Tallied k c (es ++ x ∷ []) (length es) 1
  tallied_start e =
      let some : 0 < k.replicas = omega (arith, k.replicated) in
      let r : counted_once (own_messages c x) ≡ 1 = ap counted_once e ∙ cond-true _ 1 0 (lt-ltb 0 k.replicas some) in
      let d : drop (length es) (es ++ x ∷ []) ≡ x ∷ [] = drop_at es (x ∷ []) (length es) refl in
      record {
        low = omega (arith, length_push es x);
        rounds = ap (λ (ys : List Entry). count_by (puts_out c) ys) d ∙ omega (arith, count_push [], r);
        messages = subst (λ (ys : List Entry). sum_by (own_messages c) ys + told_size k ≤ k.replicas + times 1 (told_size k)) (sym d) (omega (arith, sum_push [], e));
      }

  tallied_by : (o : Order) (b s : ℕ → ℕ) → own_messages c x ≡ own_size k o c → Tallied k c es (b c) (s c) → Tallied k c (es ++ x ∷ []) (begun_by o (length es) b c) (spent_by o s c)
  tallied_by (Write z) b s e t =
      elim (cases_Bool (eqb c 0)) [
        | inl p ↦ simp p (tallied_start (e ∙ cond-true _ _ _ p))
        | inr p ↦ simp p (tallied_quiet (b c) (s c) (e ∙ cond-false _ _ _ p) t)
      ]
  tallied_by (Read d) b s e t =
      elim (cases_Bool (eqb c d)) [
        | inl p ↦ simp p (tallied_start (e ∙ cond-true _ _ _ p))
        | inr p ↦ simp p (tallied_quiet (b c) (s c) (e ∙ cond-false _ _ _ p) t)
      ]
  tallied_by (Tell d) b s e t =
      elim (cases_Bool (eqb c d)) [
        | inl p ↦ simp (p, sym (ap s (eqb-true c d p))) (tallied_tell (b c) (s c) (e ∙ cond-true _ _ _ p) t)
        | inr p ↦ simp p (tallied_quiet (b c) (s c) (e ∙ cond-false _ _ _ p) t)
      ]
  tallied_by _ b s e t = tallied_quiet (b c) (s c) e t

  -- the places of a call that ended do not move
  span_push : (i j : ℕ) → i ≤ j → j < length es → span (es ++ x ∷ []) i j ≡ span es i j
  span_push i j l m = ap (take (suc j - i)) (drop_push i (omega arith)) ∙ take-append-le (suc j - i) (drop i es) (x ∷ []) (omega (arith, length-drop i es))

  span_last : (i : ℕ) → i ≤ length es → span (es ++ x ∷ []) i (length es) ≡ drop i es ++ x ∷ []
  span_last i l = ap (take (suc (length es) - i)) (drop_push i l) ∙ take_all _ (drop i es ++ x ∷ []) (omega (arith, length-drop i es, length_push (drop i es) x))

spanned_push : (k : Checked) (es : List Entry) (x : Entry) (d : Done) → Spanned k es d → Spanned k (es ++ x ∷ []) d
spanned_push k es x d h =
    let e = span_push k d.client es x d.begin d.end h.early h.late in
    record {
      late = omega (arith, length_push es x, h.late);
      early = h.early;
      rounds = ap (λ (ys : List Entry). count_by (puts_out d.client) ys) e ∙ h.rounds;
      messages = subst (λ (ys : List Entry). sum_by (own_messages d.client) ys + told_size k ≤ k.replicas + times d.sets (told_size k)) (sym e) h.messages;
    }

spanned_last : (k : Checked) (es : List Entry) (x : Entry) (d : Done) → d.end ≡ length es → own_messages d.client x ≡ 0 → Tallied k d.client es d.begin d.sets → Spanned k (es ++ x ∷ []) d
spanned_last k es x d end e t =
    let c = d.client in
    let n : span (es ++ x ∷ []) d.begin d.end ≡ drop d.begin es ++ x ∷ [] = ap (span (es ++ x ∷ []) d.begin) end ∙ span_last k c es x d.begin t.low in
    let r : counted_once (own_messages c x) ≡ 0 = ap counted_once e in
    record {
      late = omega (arith, length_push es x, end);
      early = omega (arith, t.low, end);
      rounds = ap (λ (ys : List Entry). count_by (puts_out c) ys) n ∙ omega (arith, count_push k c es x (drop d.begin es), r, t.rounds);
      messages = subst (λ (ys : List Entry). sum_by (own_messages c) ys + told_size k ≤ k.replicas + times d.sets (told_size k)) (sym n) (omega (arith, sum_push k c es x (drop d.begin es), e, t.messages));
    }

-- ---- every log

module _ (k : Checked) (small : told_size k ≤ k.replicas) where
  tallied : (log : List Entry) → AllByRecursion (Regular k) log → (c : ℕ) → Tallied k c (oldest log) (begun log c) (spent log c)
  tallied [] h c = record { low = omega arith; rounds = refl; messages = omega arith }
  tallied (x ∷ log) h c =
      let t = tallied log h.1 c in
      elim (cases_Bool (eqb (listed_as x.answer).code 100)) [
        | inl e ↦ simp (e, sym (length_oldest log)) (tallied_by k c (oldest log) x x.order (begun log) (spent log) (h.0.own c ∙ cond-true _ _ _ e) t)
        | inr e ↦ simp e (tallied_quiet k c (oldest log) x (begun log c) (spent log c) (h.0.own c ∙ cond-false _ _ _ e) t)
      ]

  pub spanned : (log : List Entry) → AllByRecursion (Regular k) log → AllByRecursion (Spanned k (oldest log)) (done log)
  spanned [] h = tt
  spanned (x ∷ log) h =
      let rest = All-weaker (Spanned k (oldest log)) (Spanned k (oldest log ++ x ∷ [])) (spanned_push k (oldest log) x) (done log) (spanned log h.1) in
      elim (cases_Bool (eqb (listed_as x.answer).code 105)) [
        | inl e ↦ simp e (spanned_last k (oldest log) x _ (sym (length_oldest log)) (own_none e) (tallied log h.1 (listed_as x.answer).who), rest)
        | inr e ↦ simp e rest
      ]
    where
      own_none : eqb (listed_as x.answer).code 105 ≡ true → own_messages (listed_as x.answer).who x ≡ 0
      own_none e =
          let n : eqb (listed_as x.answer).code 100 ≡ false = ap (λ m. eqb m 100) (eqb-true _ 105 e) in
          h.0.own (listed_as x.answer).who ∙ cond-false _ _ _ n

-- ---- what a 105 says

record Recorded (log : List Entry) (d : Done) : Type 0 where
  pub entry : Entry
  pub at : At log d.end entry
  pub version : d.version ≡ (listed_as entry.answer).version
  pub value : d.value ≡ (listed_as entry.answer).value
  pub rounds : d.rounds ≡ (listed_as entry.answer).rounds

recorded_more : (x : Entry) (log : List Entry) (d : Done) → Recorded log d → Recorded (x ∷ log) d
recorded_more x log d h = record { entry = h.entry; at = inr h.at; version = h.version; value = h.value; rounds = h.rounds }

recorded : (log : List Entry) → AllByRecursion (Recorded log) (done log)
recorded [] = tt
recorded (x ∷ log) =
    let rest = All-weaker (Recorded log) (Recorded (x ∷ log)) (recorded_more x log) (done log) (recorded log) in
    elim (cases_Bool (eqb (listed_as x.answer).code 105)) [
      | inl e ↦ simp e (record { entry = x; at = inl (refl, refl); version = refl; value = refl; rounds = refl }, rest)
      | inr e ↦ simp e rest
    ]

-- what the 105 at the end of a call says
pub said : (log : List Entry) (d : Done) → Contains (done log) d → (j : ℕ) (e : Entry) → d.end ≡ j → At log j e
    → (d.version ≡ (listed_as e.answer).version) × (d.value ≡ (listed_as e.answer).value) × (d.rounds ≡ (listed_as e.answer).rounds)
said log d h j e p a =
    let r = All-contains (Recorded log) (done log) d (recorded log) h in
    let s : r.entry ≡ e = at_same log j r.entry e (subst (λ n. At log n r.entry) p r.at) a in
    (r.version ∙ ap (λ (e : Entry). (listed_as e.answer).version) s, r.value ∙ ap (λ (e : Entry). (listed_as e.answer).value) s, r.rounds ∙ ap (λ (e : Entry). (listed_as e.answer).rounds) s)
