-- One line of the operations of a past, from the line of the model's calls. It ends in `from_line`.
use Rattle.std.proofs.Common.{◌≡◌, ℕ, ◌≤◌, Bool, true, false, ◌⊎◌, List, [], ◌∷◌, map, ℤ, Some, None, Option, sym, refl, ap, ◌∙◌, subst, inl, inr, arith}
use Rattle.std.specs.List.{Contains, AllByRecursion}
use Rattle.std.proofs.lemmas.Option.{none-some, same_Some}
use Rattle.std.proofs.lemmas.Bool.{cases_Bool, cases_eq}
use Rattle.theory.proofs.Words.{Order, Write, Read, Entry, Operation, EndsAt, Ending, IsWrite, IsRead, Shown, Belongs, Before, InOrder, NoTwice, ShowsNearest, OneLine}
use Rattle.theory.proofs.Lists.{All-weaker, All-contains, All-map, all_from_map, All-contains_itself, has_here, has_there}
use Rattle.theory.proofs.Sets.{Lacks, Distinct}
use Rattle.theory.proofs.History.{Done, values, value_at, begun, done}
use Rattle.theory.proofs.Line.{Op, op, Respects, Shows, ends_of, Pending, Line}
use Rattle.theory.proofs.Line as model
use Rattle.theory.proofs.Calls.{Calls, BeginsAt, NextEnd, WriteNo, Faithful}
use Rattle.theory.proofs.Places.{oldest, NoReadOfWriter, at_log, at_same, begins_same, next_same, accepted_log, accepted_told, begins_log, next_log, next_told, read_at}
use Rattle.theory.proofs.Spans.{said}
use Rattle.theory.proofs.Writes.{write_no, write_number, write_order, write_place, last_write}

-- a call of the model, as an operation
abbrev pub end_of : Bool → ℕ → Option ℕ
end_of true j = Some j
end_of false j = None

abbrev pub operation : Op → Operation
operation x = record { client = x.client; begin = x.begin; end = end_of x.ended x.end; version = x.version; value = x.value }

-- ---- lists

has_map : {X Y : Type 0} (g : X → Y) (xs : List X) (x : X) → Contains xs x → Contains (map g xs) (g x)
has_map g xs x h = All-contains (λ y. Contains (map g xs) (g y)) xs x (all_from_map (Contains (map g xs)) g xs (All-contains_itself (map g xs))) h

abbrev made : ℕ → ℕ → Option ℕ → ℕ → ℤ → Operation
made c b e v z = record { client = c; begin = b; end = e; version = v; value = z }

same_operation : (o p : Operation) → o.client ≡ p.client → o.begin ≡ p.begin → o.end ≡ p.end → o.version ≡ p.version → o.value ≡ p.value → o ≡ p
same_operation o p c b e v z =
    ap (λ i. made i o.begin o.end o.version o.value) c ∙ ap (λ i. made p.client i o.end o.version o.value) b ∙ ap (λ (t : Option ℕ). made p.client p.begin t o.version o.value) e
    ∙ ap (λ i. made p.client p.begin p.end i o.value) v ∙ ap (λ (i : ℤ). made p.client p.begin p.end p.version i) z

write_same : (y z : ℤ) → Write y ≡ Write z → y ≡ z
write_same y z e = cc

-- ---- order

before_of : (x y : Op) → Before (operation y) (operation x) → model.Before y x
before_of x y h =
    elim (cases_Bool y.ended) [
      | inl t ↦ (t, let e : y.end ≡ h.0 = same_Some y.end h.0 (ap (λ b. end_of b y.end) (sym t) ∙ h.1) in omega (arith, e, h.2))
      | inr t ↦ absurd (none-some h.0 (ap (λ b. end_of b y.end) (sym t) ∙ h.1))
    ]

in_order : (xs : List Op) → Respects xs → InOrder (map operation xs)
in_order [] h = tt
in_order (x ∷ xs) h = (All-map (λ y. Before y (operation x) → ⊥) operation xs (All-weaker _ (λ y. Before (operation y) (operation x) → ⊥) (λ y p b. p (before_of x y b)) xs h.0), in_order xs h.1)

shows_nearest : (v : ℕ) (z : ℤ) (xs : List Op) → Shows v z xs → ShowsNearest v z (map operation xs)
shows_nearest v z [] h = tt
shows_nearest v z (x ∷ xs) (inl h) = inl (h.0, shows_nearest x.version x.value xs h.1)
shows_nearest v z (x ∷ xs) (inr h) = inr (h.0, h.1, h.2, shows_nearest v z xs h.3)

-- what a read shows stands in the line
shown_stands : (v : ℕ) (z : ℤ) (xs : List Op) → Shows v z xs → AllByRecursion (λ x. (x.client ≡ 0 → ⊥) → (x.version ≡ v) ⊎ ((y : Op) × Contains xs y × (y.client ≡ 0) × (y.version ≡ x.version))) xs
shown_stands v z [] h = tt
shown_stands v z (x ∷ xs) (inl h) =
    ((λ r. absurd (r h.0)), All-weaker _ _ (λ y p r. elim (p r) [ inl e ↦ inr (x, has_here x xs, h.0, sym e) | inr q ↦ inr (q.0, has_there x q.0 xs q.1, q.2, q.3) ]) xs (shown_stands x.version x.value xs h.1))
shown_stands v z (x ∷ xs) (inr h) =
    ((λ r. inl h.1), All-weaker _ _ (λ y p r. elim (p r) [ inl e ↦ inl e | inr q ↦ inr (q.0, has_there x q.0 xs q.1, q.2, q.3) ]) xs (shown_stands v z xs h.3))

-- ---- a log with its line

module _ (f : ℤ) (log : List Entry) (none : AllByRecursion NoReadOfWriter log) (on : Line f log) (faith : Faithful log) (nums : AllByRecursion (λ d. d.client ≡ 0 → WriteNo log d.begin d.version) (done log)) where
  begins_of : (d : Done) → Contains (done log) d → BeginsAt log d.client d.begin
  begins_of d h = (All-contains (λ d. BeginsAt log d.client d.begin × NextEnd log d.client d.begin d.end) (done log) d faith.sound h).0

  next_of : (d : Done) → Contains (done log) d → NextEnd log d.client d.begin d.end
  next_of d h = (All-contains (λ d. BeginsAt log d.client d.begin × NextEnd log d.client d.begin d.end) (done log) d faith.sound h).1

  number_of : (d : Done) → Contains (done log) d → d.client ≡ 0 → WriteNo log d.begin d.version
  number_of d h = All-contains (λ d. d.client ≡ 0 → WriteNo log d.begin d.version) (done log) d nums h

  given_of : (x : Op) → Contains on.line x → x.value ≡ value_at (values log) f x.version
  given_of x h = All-contains (λ x. x.value ≡ value_at (values log) f x.version) on.line x on.given h

  only_of : (x : Op) → Contains on.line x → ((d : Done) × Contains (done log) d × (x ≡ op d)) ⊎ Pending log x
  only_of x h = All-contains (λ x. ((d : Done) × Contains (done log) d × (x ≡ op d)) ⊎ Pending log x) on.line x on.only h

  stands : (d : Done) → Contains (done log) d → Contains on.line (op d)
  stands d h = All-contains (λ d. Contains on.line (op d)) (done log) d on.ended h

  -- ---- writes

  begins_write : (i n : ℕ) → WriteNo log i n → BeginsAt log 0 i
  begins_write i n h = let w = write_order f log none i n h in (w.entry, w.at, (w.accepted, subst (λ (o : Order). Calls o 0) (sym w.order) refl))

  same_number : (i m n : ℕ) → WriteNo log i m → WriteNo log i n → m ≡ n
  same_number i m n h k = write_number log i m h ∙ sym (write_number log i n k)

  number_at : (o : Operation) → IsWrite (oldest log) o → WriteNo log o.begin o.version
  number_at o w =
      let a = accepted_log log (Write o.value) o.begin w.start in
      subst (WriteNo log o.begin) (sym w.number) (write_no log o.begin a.0 a.1 (a.2, subst (λ (o : Order). Calls o 0) (sym a.3) refl))

  value_at_lem : (o : Operation) → IsWrite (oldest log) o → o.value ≡ value_at (values log) f o.version
  value_at_lem o w =
      let a = accepted_log log (Write o.value) o.begin w.start in
      let t = write_order f log none o.begin o.version (number_at o w) in
      write_same o.value _ (sym a.3 ∙ ap (λ (e : Entry). e.order) (at_same log o.begin a.0 t.entry a.1 t.at) ∙ t.order)

  is_write_lem : (x : Op) → x.client ≡ 0 → WriteNo log x.begin x.version → x.value ≡ value_at (values log) f x.version → Ending (oldest log) 0 x.begin (end_of x.ended x.end) → IsWrite (oldest log) (operation x)
  is_write_lem x c h z e =
      let w = write_order f log none x.begin x.version h in
      record { client = c; start = accepted_told log (Write x.value) x.begin w.entry w.at w.accepted (w.order ∙ ap Write (sym z)); number = write_number log x.begin x.version h; ending = e }

  -- the model's call of an operation that ended
  record EndedCall (o : Operation) (j : ℕ) : Type 0 where
    call : Done
    has : Contains (done log) call
    client : call.client ≡ o.client
    begin : call.begin ≡ o.begin
    end : call.end ≡ j
    version : call.version ≡ o.version
    value : call.value ≡ o.value

  ended_write : (o : Operation) (j : ℕ) → IsWrite (oldest log) o → NextEnd log 0 o.begin j → EndedCall o j
  ended_write o j w n =
      let r = faith.complete 0 o.begin j (begins_write o.begin o.version (number_at o w)) n in
      let d = r.0 in
      let v : d.version ≡ o.version = same_number o.begin d.version o.version (subst (λ i. WriteNo log i d.version) r.3 (number_of d r.1 r.2)) (number_at o w) in
      record {
        call = d;
        has = r.1;
        client = r.2 ∙ sym w.client;
        begin = r.3;
        end = r.4;
        version = v;
        value = given_of (op d) (stands d r.1) ∙ ap (value_at (values log) f) v ∙ sym (value_at_lem o w);
      }

  -- ---- the write under way

  number_pending : (x : Op) → Pending log x → WriteNo log x.begin x.version
  number_pending x p =
      subst (λ i. WriteNo log i x.version) (sym p.begin) (subst (WriteNo log (begun log 0)) (sym p.version) (last_write log none (subst (λ n. 1 ≤ n) p.version p.some)))

  not_ended : (x : Op) → Pending log x → (d : Done) → Contains (done log) d → d.client ≡ 0 → d.begin ≡ x.begin → ⊥
  not_ended x p d h c b =
      p.unended (record { call = d; has = h; writer = c; version = same_number x.begin d.version x.version (subst (λ i. WriteNo log i d.version) b (number_of d h c)) (number_pending x p) })

  -- ---- reads

  is_read : (d : Done) → Contains (done log) d → (d.client ≡ 0 → ⊥) → IsRead (oldest log) (operation (op d))
  is_read d h reader =
      let b = begins_of d h in
      let n = next_told log d.client d.begin d.end (next_of d h) in
      let s = said log d h d.end n.entry refl (at_log log d.end n.entry n.at) in
      record {
        client = reader;
        start = accepted_told log (Read d.client) d.begin b.0 b.1 b.2.0 (read_at log none d.client d.begin b.0 b.1 b.2 reader);
        place = d.end;
        end = refl;
        ends = n;
        version = s.0;
        value = s.1;
      }

  ended_read : (o : Operation) → (r : IsRead (oldest log) o) → EndedCall o r.place
  ended_read o r =
      let s = faith.complete o.client o.begin r.place (begins_log log o.client o.begin (inr (r.client, r.start))) (next_log log o.client o.begin r.place r.ends) in
      let t = said log s.0 s.1 r.place r.ends.entry s.4 (at_log log r.place r.ends.entry r.ends.at) in
      record { call = s.0; has = s.1; client = s.2; begin = s.3; end = s.4; version = t.0 ∙ sym r.version; value = t.1 ∙ sym r.value }

  -- ---- only

  shown_of : (x : Op) → Pending log x → Shown (oldest log) (operation x)
  shown_of x p = (operation (op p.shown.call), is_read p.shown.call p.shown.has p.shown.reader, p.shown.version)

  belongs : (x : Op) → Contains on.line x → Belongs (oldest log) (operation x)
  belongs x h =
      elim (only_of x h) [
        | inl q ↦ subst (λ x. Belongs (oldest log) (operation x)) (sym q.2) (elim (cases_eq q.0.client 0) [
          | inl c ↦ inl (is_write_lem (op q.0) c (number_of q.0 q.1 c) (given_of (op q.0) (stands q.0 q.1)) (next_told log 0 q.0.begin q.0.end (subst (λ c. NextEnd log c q.0.begin q.0.end) c (next_of q.0 q.1))), inl (q.0.end, refl))
          | inr r ↦ inr (is_read q.0 q.1 r)
        ])
        | inr p ↦ inl (is_write_lem x p.writer (number_pending x p) (given_of x h) (unended p), inr (shown_of x p))
      ]
    where
      unended : Pending log x → Ending (oldest log) 0 x.begin (end_of x.ended x.end)
      unended p =
          subst (λ b. Ending (oldest log) 0 x.begin (end_of b x.end)) (sym p.ended) (λ j e.
          let r = faith.complete 0 x.begin j (begins_write x.begin x.version (number_pending x p)) (next_log log 0 x.begin j e) in
          not_ended x p r.0 r.1 r.2 r.3)

  -- ---- once

  apart : (x y : Op) → Contains on.line x → Contains on.line y → (x.end ≡ y.end → ⊥) → x.begin ≡ y.begin → ⊥
  apart x y h k ends begins =
      elim (only_of x h) [
        | inl q ↦ elim (only_of y k) [
          | inl r ↦ both q r
          | inr p ↦ one y p q.0 q.1 (ap (λ (o : Op). o.begin) (sym q.2) ∙ begins)
        ]
        | inr p ↦ elim (only_of y k) [
          | inl r ↦ one x p r.0 r.1 (ap (λ (o : Op). o.begin) (sym r.2) ∙ sym begins)
          | inr p' ↦ ends (p.end ∙ sym p'.end)
        ]
      ]
    where
      one : (x : Op) → Pending log x → (d : Done) → Contains (done log) d → d.begin ≡ x.begin → ⊥
      one x p d h b =
          let c : d.client ≡ 0 = begins_same log d.client 0 x.begin (subst (BeginsAt log d.client) b (begins_of d h)) (begins_write x.begin x.version (number_pending x p)) in
          not_ended x p d h c b

      both : (d : Done) × Contains (done log) d × (x ≡ op d) → (d : Done) × Contains (done log) d × (y ≡ op d) → ⊥
      both q r =
          let b : q.0.begin ≡ r.0.begin = ap (λ (o : Op). o.begin) (sym q.2) ∙ begins ∙ ap (λ (o : Op). o.begin) r.2 in
          let s : BeginsAt log q.0.client r.0.begin = subst (BeginsAt log q.0.client) b (begins_of q.0 q.1) in
          let c : q.0.client ≡ r.0.client = begins_same log q.0.client r.0.client r.0.begin s (begins_of r.0 r.1) in
          let n : NextEnd log r.0.client r.0.begin q.0.end = subst (λ c. NextEnd log c r.0.begin q.0.end) c (subst (λ i. NextEnd log q.0.client i q.0.end) b (next_of q.0 q.1)) in
          ends (ap (λ (o : Op). o.end) q.2 ∙ next_same log r.0.client r.0.begin q.0.end r.0.end n (next_of r.0 r.1) ∙ ap (λ (o : Op). o.end) (sym r.2))

  once_of : (xs : List Op) → Distinct (ends_of xs) → AllByRecursion (Contains on.line) xs → NoTwice (map (λ o. o.begin) (map operation xs))
  once_of [] d h = tt
  once_of (x ∷ xs) d h = (others xs d.0 h.1, once_of xs d.1 h.1)
    where
      others : (ys : List Op) → Lacks x.end (ends_of ys) → AllByRecursion (Contains on.line) ys → AllByRecursion (λ j. x.begin ≡ j → ⊥) (map (λ o. o.begin) (map operation ys))
      others [] l k = tt
      others (y ∷ ys) l k = (apart x y h.0 k.0 l.0, others ys l.1 k.1)

  -- ---- all

  has_call : (d : Done) → Contains (done log) d → (o : Operation) → operation (op d) ≡ o → Contains (map operation on.line) o
  has_call d h o e = subst (Contains (map operation on.line)) e (has_map operation on.line (op d) (stands d h))

  has_ended : (o : Operation) (j : ℕ) → o.end ≡ Some j → EndedCall o j → Contains (map operation on.line) o
  has_ended o j e s = has_call s.call s.has o (same_operation _ o s.client s.begin (ap Some s.end ∙ sym e) s.version s.value)

  has_read : (o : Operation) → IsRead (oldest log) o → Contains (map operation on.line) o
  has_read o r = has_ended o r.place r.end (ended_read o r)

  -- an unended write that a read shows
  has_unended : (o : Operation) → IsWrite (oldest log) o → o.end ≡ None → ((j : ℕ) → EndsAt (oldest log) 0 o.begin j → ⊥) → (d : Done) → Contains (done log) d → (d.client ≡ 0 → ⊥) → d.version ≡ o.version → Contains (map operation on.line) o
  has_unended o w e n d h reader v =
      elim (All-contains (λ x. (x.client ≡ 0 → ⊥) → (x.version ≡ 0) ⊎ ((y : Op) × Contains on.line y × (y.client ≡ 0) × (y.version ≡ x.version))) on.line (op d) (shown_stands 0 f on.line on.shows) (stands d h) reader) [
        | inl z ↦ absurd (omega (arith, z, v, w.number))
        | inr q ↦ elim (only_of q.0 q.1) [
          | inl r ↦ absurd (ended r (sym (ap (λ (o : Op). o.client) r.2) ∙ q.2) (sym (ap (λ (o : Op). o.version) r.2) ∙ q.3 ∙ v))
          | inr p ↦ (let u = q.3 ∙ v in
              subst (Contains (map operation on.line))
              (same_operation _ o (p.writer ∙ sym w.client) (write_place f log none q.0.begin o.begin o.version (subst (WriteNo log q.0.begin) u (number_pending q.0 p)) (number_at o w))
              (ap (λ b. end_of b q.0.end) p.ended ∙ sym e) u (given_of q.0 q.1 ∙ ap (value_at (values log) f) u ∙ sym (value_at_lem o w)))
              (has_map operation on.line q.0 q.1))
        ]
      ]
    where
      ended : {y : Op} → (r : (d : Done) × Contains (done log) d × (y ≡ op d)) → r.0.client ≡ 0 → r.0.version ≡ o.version → ⊥
      ended r c u =
          let b : r.0.begin ≡ o.begin = write_place f log none r.0.begin o.begin o.version (subst (WriteNo log r.0.begin) u (number_of r.0 r.1 c)) (number_at o w) in
          let m : NextEnd log 0 o.begin r.0.end = subst (λ i. NextEnd log 0 i r.0.end) b (subst (λ c. NextEnd log c r.0.begin r.0.end) c (next_of r.0 r.1)) in
          n r.0.end (next_told log 0 o.begin r.0.end m)

  has_write : (o : Operation) → IsWrite (oldest log) o → ((j : ℕ) × (o.end ≡ Some j)) ⊎ Shown (oldest log) o → Contains (map operation on.line) o
  has_write o w why = go o.end refl w.ending
    where
      go : (t : Option ℕ) → o.end ≡ t → Ending (oldest log) 0 o.begin t → Contains (map operation on.line) o
      go (Some j) e n = has_ended o j e (ended_write o j w (next_log log 0 o.begin j n))
      go None e n =
          elim why [
            | inl q ↦ absurd (none-some q.0 (sym e ∙ q.1))
            | inr q ↦ (let s = ended_read q.0 q.1 in has_unended o w e n s.call s.has (λ c. q.1.client (sym s.client ∙ c)) (s.version ∙ q.2))
          ]

  pub from_line : OneLine f (oldest log)
  from_line =
      record {
        line = map operation on.line;
        once = once_of on.line on.once (All-contains_itself on.line);
        only = All-map (Belongs (oldest log)) operation on.line (All-weaker (Contains on.line) (λ x. Belongs (oldest log) (operation x)) belongs on.line (All-contains_itself on.line));
        all = λ o b. elim b [ inl q ↦ has_write o q.0 q.1 | inr r ↦ has_read o r ];
        ordered = in_order on.line on.respects;
        shows = shows_nearest 0 f on.line on.shows;
        written = λ o j w x.
            let s = ended_write o j w (next_log log 0 o.begin j x) in
            let t = said log s.call s.has j x.entry s.end (at_log log j x.entry x.at) in
            (sym t.0 ∙ s.version, sym t.1 ∙ s.value);
      }
