-- The rounds of the operations of a past, from those of the model's calls. It ends in `from_rounds`.
use Rattle.std.proofs.Common.{◌≡◌, ℕ, zero, suc, ◌+◌, ◌*◌, ◌<◌, ◌≤◌, ◌⊎◌, List, sym, ◌∙◌, subst, inl, inr, arith}
use Rattle.std.specs.List.{Contains, AllByRecursion}
use Rattle.std.proofs.lemmas.Option.{same_Some}
use Rattle.theory.proofs.Words.{listed_as, Checked, Entry, Begins, EndsAt, rounds_of, messages_of, FewRounds}
use Rattle.theory.proofs.Lists.{All-contains}
use Rattle.theory.proofs.History.{Done, done}
use Rattle.theory.proofs.Claims as model
use Rattle.theory.proofs.Calls.{Faithful}
use Rattle.theory.proofs.Places.{oldest, at_log, begins_log, next_log}
use Rattle.theory.proofs.Sent.{Regular}
use Rattle.theory.proofs.Spans.{times, told_size, Spanned, spanned, said}

module _ (k : Checked) (small : told_size k ≤ k.replicas) (log : List Entry) (regular : AllByRecursion (Regular k) log) (faith : Faithful log) (few : model.FewRounds (done log)) where
  -- the model's call of an operation that ended
  record TheCall (c i j : ℕ) (e : Entry) : Type 0 where
    call : Done
    has : Contains (done log) call
    client : call.client ≡ c
    begin : call.begin ≡ i
    end : call.end ≡ j
    version : call.version ≡ (listed_as e.answer).version
    named : call.rounds ≡ (listed_as e.answer).rounds
    -- the rounds named are the sets put out
    rounds : rounds_of (oldest log) c i j ≡ call.rounds
    messages : messages_of (oldest log) c i j + told_size k ≤ k.replicas + times call.rounds (told_size k)

  the_call : (c i j : ℕ) → Begins (oldest log) c i → (x : EndsAt (oldest log) c i j) → TheCall c i j x.entry
  the_call c i j b x =
      let r = faith.complete c i j (begins_log log c i b) (next_log log c i j x) in
      let d = r.0 in
      let s = said log d r.1 j x.entry r.4 (at_log log j x.entry x.at) in
      let p = All-contains (Spanned k (oldest log)) (done log) d (spanned k small log regular) r.1 in
      let t : d.rounds ≡ d.sets = All-contains (λ d. d.rounds ≡ d.sets) (done log) d few.told r.1 in
      let place : (P : ℕ → ℕ → ℕ → Type 0) → P d.client d.begin d.end → P c i j = λ P h. subst (λ n. P c i n) r.4 (subst (λ n. P c n d.end) r.3 (subst (λ n. P n d.begin d.end) r.2 h)) in
      record {
        call = d;
        has = r.1;
        client = r.2;
        begin = r.3;
        end = r.4;
        version = s.0;
        named = s.2;
        rounds = place (λ c i j. rounds_of (oldest log) c i j ≡ d.rounds) (p.rounds ∙ sym t);
        messages = place (λ c i j. messages_of (oldest log) c i j + told_size k ≤ k.replicas + times d.rounds (told_size k)) (subst (λ n. messages_of (oldest log) d.client d.begin d.end + told_size k ≤ k.replicas + times n (told_size k)) (sym t) p.messages);
      }

  one_or_two : (d : Done) → Contains (done log) d → (d.rounds ≡ 1) ⊎ ((d.rounds ≡ 2) × (d.client ≡ 0 → ⊥))
  one_or_two d h = All-contains (λ d. (d.rounds ≡ 1) ⊎ ((d.rounds ≡ 2) × (d.client ≡ 0 → ⊥))) (done log) d few.few h

  pub from_rounds : FewRounds k (oldest log)
  from_rounds =
      record {
        named = λ c i j b x. let r = the_call c i j b x in sym r.named ∙ sym r.rounds;
        write = λ i j b x. let r = the_call 0 i j b x in elim (one_or_two r.call r.has) [ inl e ↦ r.rounds ∙ e | inr e ↦ absurd (e.1 r.client) ];
        read = λ c i j b x. let r = the_call c i j b x in elim (one_or_two r.call r.has) [ inl e ↦ inl (r.rounds ∙ e) | inr e ↦ inr (r.rounds ∙ e.0) ];
        messages = λ c i j b x.
            let r = the_call c i j b x in
            elim (one_or_two r.call r.has) [
              | inl e ↦ bounded c i j 1 (omega arith) (subst (λ n. messages_of (oldest log) c i j + told_size k ≤ k.replicas + times n (told_size k)) e r.messages)
              | inr e ↦ bounded c i j 2 (omega arith) (subst (λ n. messages_of (oldest log) c i j + told_size k ≤ k.replicas + times n (told_size k)) e.0 r.messages)
            ];
        apart = λ o p x y n m v b.
            let r = the_call o.client o.begin x.place (inr (x.client, x.start)) x.ends in
            let s = the_call p.client p.begin y.place (inr (y.client, y.start)) y.ends in
            let e : x.place ≡ b.0 = same_Some x.place b.0 (sym x.end ∙ b.1) in
            let rest = All-contains (λ y. AllByRecursion (λ x. x.rounds ≡ 2 → y.rounds ≡ 2 → x.version ≡ y.version → x.end < y.begin → ⊥) (done log)) (done log) s.call few.apart s.has in
            All-contains (λ x. x.rounds ≡ 2 → s.call.rounds ≡ 2 → x.version ≡ s.call.version → x.end < s.call.begin → ⊥) (done log) r.call rest r.has
            (sym r.rounds ∙ n) (sym s.rounds ∙ m) (r.version ∙ sym x.version ∙ v ∙ y.version ∙ sym s.version) (omega (arith, r.end, e, b.2, s.begin));
      }
    where
      bounded : (c i j n : ℕ) → n ≤ 2 → messages_of (oldest log) c i j + told_size k ≤ k.replicas + times n (told_size k) → messages_of (oldest log) c i j ≤ k.replicas + (3 * k.tolerated + 1)
      bounded c i j zero l h = omega (arith, h)
      bounded c i j (suc zero) l h = omega (arith, h)
      bounded c i j (suc (suc zero)) l h = omega (arith, h)
      bounded c i j (suc (suc (suc n))) l h = absurd (omega arith)
