-- All calls of a past stand in one line: ends in `linearizable`.
use Rattle.std.proofs.Common.{◌≡◌, ℕ, suc, ◌<◌, ◌≤◌, false, ◌⊎◌, List, [], ◌∷◌, length, ℤ, sym, refl, ap, ◌∙◌, subst, inl, inr, arith}
use Rattle.std.proofs.lemmas.Bool.{cases_eq, cases_lt, cond-false, ne_eqb, false≢true}
use Rattle.std.specs.List.{Contains, AllByRecursion}
use Rattle.theory.proofs.Words.{Entry}
use Rattle.theory.proofs.Lists.{All-map, All-contains, All-contains_itself, All-weaker, has_here, has_there}
use Rattle.theory.proofs.Sets.{Distinct}
use Rattle.theory.proofs.Cards.{Params, Fit}
use Rattle.theory.proofs.Model.{writes, Phase, idle, due, awaiting, State, Trace}
use Rattle.theory.proofs.History.{Done, values, value_at, begun, spent, done, Ordered}
use Rattle.theory.proofs.Line.{Op, op, Before, Respects, ends_of, Wrote, Showed, Pending, Line, Linearizable}
use Rattle.theory.proofs.Members.{Among}
use Rattle.theory.proofs.Safety.{PhaseFine}
use Rattle.theory.proofs.Orderly.{OpenFine, EndedFine, OneWriteEach, NewestFirst, wrote_more}
use Rattle.theory.proofs.Invariant.{Invariant, invariant}
use Rattle.theory.proofs.Insertion.{key, key_write, key_most, key_read, insert, Sorted, all_insert, in_insert, in_insert_more, sorted_insert, respects_insert, once_insert, in_has, HasWrite, OneWrite, one_write_insert, sorted_shows}

-- the ended calls, in a line
abbrev line_of : List Done → List Op
line_of [] = []
line_of (d ∷ ds) = insert (op d) (line_of ds)

all_line : (P : Op → Type 0) (ds : List Done) → AllByRecursion (λ d. P (op d)) ds → AllByRecursion P (line_of ds)
all_line P [] h = tt
all_line P (d ∷ ds) h = all_insert P (op d) (line_of ds) h.0 (all_line P ds h.1)

-- A call with the higher key did not end before one with the lower began.
not_before : (d y : Done) → (y.end < d.begin → Ordered y d) → key (op d) < key (op y) → Before (op y) (op d) → ⊥
not_before d y h k b =
    let o = h b.1 in
    elim (cases_eq d.client 0) [
      | inl e ↦ (let p = o.over e in let q = key_write (op d) e in let r = key_most (op y) in omega arith)
      | inr e ↦ (let p = o.up in let q = key_read (op d) e in let r = key_most (op y) in omega arith)
    ]

-- what the line of the ended calls keeps
record LineFine (ds : List Done) : Type 0 where
  sorted : Sorted (line_of ds)
  respects : Respects (line_of ds)
  once : Distinct (ends_of (line_of ds))
  one_write : OneWrite (line_of ds)
  members : AllByRecursion (λ d. Among (op d) (line_of ds)) ds

line_fine : (ds : List Done) → AllByRecursion (λ d. d.begin ≤ d.end) ds → NewestFirst ds → OneWriteEach ds → AllByRecursion (λ y. AllByRecursion (λ x. x.end < y.begin → Ordered x y) ds) ds → LineFine ds
line_fine [] c h s p = record { sorted = tt; respects = tt; once = tt; one_write = tt; members = tt }
line_fine (d ∷ ds) c h s p =
    let r = line_fine ds c.1 h.1 s.1 (All-weaker _ (λ y. AllByRecursion (λ x. x.end < y.begin → Ordered x y) ds) (λ y q. q.1) ds p.1) in
    record {
      sorted = sorted_insert (op d) (line_of ds) r.sorted;
      respects = respects_insert (op d) (line_of ds) r.sorted r.respects
          (all_line (λ x. Before (op d) x → ⊥) ds (newest ds c.1 h.0))
          (all_line (λ y. key (op d) < key y → Before y (op d) → ⊥) ds (All-weaker _ _ (λ y q. not_before d y q) ds p.0.1));
      once = once_insert (op d) (line_of ds) r.once (All-map (λ n. d.end ≡ n → ⊥) (λ x. x.end) (line_of ds) (all_line (λ x. d.end ≡ x.end → ⊥) ds (All-weaker _ _ (λ x q e. absurd (omega arith)) ds h.0)));
      one_write = one_write_insert (op d) (line_of ds) r.one_write (all_line (λ x. d.client ≡ 0 → x.client ≡ 0 → d.version ≡ x.version → ⊥) ds (All-weaker _ _ (λ x q e f v. absurd (omega (arith, q e f))) ds s.0));
      members = (in_insert (op d) (line_of ds), All-weaker _ _ (λ x q. in_insert_more (op d) (op x) (line_of ds) q) ds r.members);
    }
  where
    newest : (es : List Done) → AllByRecursion (λ d. d.begin ≤ d.end) es → AllByRecursion (λ x. x.end < d.end) es → AllByRecursion (λ x. Before (op d) (op x) → ⊥) es
    newest [] a b = tt
    newest (x ∷ xs) a b = ((λ q. absurd (omega (arith, q.1, a.0, b.0))), newest xs a.1 b.1)

-- ---- the last write

wrote? : (ds : List Done) (v : ℕ) → Wrote ds v ⊎ (Wrote ds v → ⊥)
wrote? [] v = inr (λ w. let h = w.has.1 in omega arith)
wrote? (d ∷ ds) v =
    elim (cases_eq d.client 0) [
      | inl e ↦ elim (cases_eq d.version v) [ inl q ↦ inl (record { call = d; has = has_here d ds; writer = e; version = q }) | inr q ↦ more (wrote? ds v) (λ e' q'. q q') ]
      | inr e ↦ more (wrote? ds v) (λ e' q'. e e')
    ]
  where
    more : Wrote ds v ⊎ (Wrote ds v → ⊥) → (d.client ≡ 0 → d.version ≡ v → ⊥) → Wrote (d ∷ ds) v ⊎ (Wrote (d ∷ ds) v → ⊥)
    more (inl w) n = inl (wrote_more d ds v w)
    more (inr w) n = inr (λ x. All-contains (λ y. y.client ≡ 0 → y.version ≡ v → ⊥) (d ∷ ds) x.call (n, none) x.has x.writer x.version)
      where
        none : AllByRecursion (λ y. y.client ≡ 0 → y.version ≡ v → ⊥) ds
        none = All-weaker (Contains ds) _ (λ y h e q. w (record { call = y; has = h; writer = e; version = q })) ds (All-contains_itself ds)

showed? : (ds : List Done) (v : ℕ) → Showed ds v ⊎ (Showed ds v → ⊥)
showed? [] v = inr (λ w. let h = w.has.1 in omega arith)
showed? (d ∷ ds) v =
    elim (cases_eq d.client 0) [
      | inr e ↦ elim (cases_eq d.version v) [ inl q ↦ inl (record { call = d; has = has_here d ds; reader = e; version = q }) | inr q ↦ more (showed? ds v) (λ e' q'. q q') ]
      | inl e ↦ more (showed? ds v) (λ e' q'. e' e)
    ]
  where
    more : Showed ds v ⊎ (Showed ds v → ⊥) → ((d.client ≡ 0 → ⊥) → d.version ≡ v → ⊥) → Showed (d ∷ ds) v ⊎ (Showed (d ∷ ds) v → ⊥)
    more (inl w) n = inl (record { call = w.call; has = has_there d w.call ds w.has; reader = w.reader; version = w.version })
    more (inr w) n = inr (λ x. All-contains (λ y. (y.client ≡ 0 → ⊥) → y.version ≡ v → ⊥) (d ∷ ds) x.call (n, none) x.has x.reader x.version)
      where
        none : AllByRecursion (λ y. (y.client ≡ 0 → ⊥) → y.version ≡ v → ⊥) ds
        none = All-weaker (Contains ds) _ (λ y h e q. w (record { call = y; has = h; reader = e; version = q })) ds (All-contains_itself ds)

value_zero : (xs : List ℤ) (f : ℤ) → value_at xs f 0 ≡ f
value_zero [] f = refl
value_zero (x ∷ xs) f = cond-false _ x (value_at xs f 0) (ne_eqb 0 (suc (length xs)) (λ e. omega arith)) ∙ value_zero xs f

module _ (g : Params) (fit : Fit g) (f : ℤ) (log : List Entry) (b : State) (p : Trace g f log b) where
  u : Invariant g f log b
  u = invariant g fit f log b p

  ended_fine : (d : Done) → Contains (done log) d → EndedFine g (values log) f b.replicas (length log) d
  ended_fine d h = All-contains (EndedFine g (values log) f b.replicas (length log)) (done log) d u.calls.ended h

  ends : AllByRecursion (λ d. d.begin ≤ d.end) (done log)
  ends = All-weaker _ (λ d. d.begin ≤ d.end) (λ d q. q.clock.1) (done log) u.calls.ended

  whole : LineFine (done log)
  whole = line_fine (done log) ends u.calls.newest_first u.calls.one_write_each u.calls.ordered

  -- a read in the line shows the initial value, or its write is in the line
  Backed : List Op → Op → Type 0
  Backed line x = (x.client ≡ 0 → ⊥) → ((x.version ≡ 0) × (x.value ≡ f)) ⊎ HasWrite x.version x.value line

  -- The write of a read that shows an ended write is in the line.
  from_done : (line : List Op) → ((d : Done) → Contains (done log) d → Among (op d) line) → (d : Done) → Contains (done log) d → Wrote (done log) d.version → HasWrite d.version d.value line
  from_done line has d h w =
      let mine = ended_fine d h in
      let its = ended_fine w.call w.has in
      record {
        call = op w.call;
        has = has w.call w.has;
        writer = w.writer;
        version = w.version;
        value = its.value ∙ ap (value_at (values log) f) w.version ∙ sym mine.value;
      }

  -- Each ended read is backed, if the line has the ended calls and the last write when that is shown and has not ended.
  back : (line : List Op) → ((d : Done) → Contains (done log) d → Among (op d) line)
      → ((d : Done) → Contains (done log) d → (d.client ≡ 0 → ⊥) → d.version ≡ length (values log) → 1 ≤ d.version → (Wrote (done log) d.version → ⊥) → HasWrite d.version d.value line)
      → (d : Done) → Contains (done log) d → Backed line (op d)
  unfolding Backed
  back line has last d h reader =
      let mine = ended_fine d h in
      elim (cases_eq d.version 0) [
        | inl z ↦ inl (z, mine.value ∙ ap (value_at (values log) f) z ∙ value_zero (values log) f)
        | inr z ↦ inr (elim (cases_lt d.version (length (values log))) [
          | inl below ↦ from_done line has d h (u.calls.earlier_ended d.version (omega arith) below)
          | inr top ↦ elim (wrote? (done log) d.version) [ inl w ↦ from_done line has d h w | inr w ↦ last d h reader (omega (arith, mine.begun)) (omega arith) w ]
        ])
      ]

  all_ops : (P : Op → Type 0) → ((d : Done) → Contains (done log) d → P (op d)) → AllByRecursion P (line_of (done log))
  all_ops P h = all_line P (done log) (All-weaker (Contains (done log)) (λ d. P (op d)) h (done log) (All-contains_itself (done log)))

  has_ended : (d : Done) → Contains (done log) d → Among (op d) (line_of (done log))
  has_ended d h = All-contains (λ d. Among (op d) (line_of (done log))) (done log) d whole.members h

  write_not_initial : (d : Done) → Contains (done log) d → d.client ≡ 0 → 0 < d.version
  write_not_initial d h e = (ended_fine d h).first e

  -- The line, when no write is shown that has not ended.
  plain_line : ((Wrote (done log) (length (values log)) → ⊥) → 1 ≤ length (values log) → Showed (done log) (length (values log)) → ⊥) → Line f log
  unfolding Backed
  plain_line none =
      record {
        line = line_of (done log);
        once = whole.once;
        only = all_ops _ (λ d h. inl (d, h, refl));
        ended = All-weaker _ _ (λ d q. in_has (op d) (line_of (done log)) q) (done log) whole.members;
        pending = λ w o s. absurd (none w o s);
        respects = whole.respects;
        given = all_ops _ (λ d h. (ended_fine d h).value);
        shows = sorted_shows 0 f (line_of (done log)) whole.sorted whole.one_write (all_ops _ (λ d h e. write_not_initial d h e))
            (all_ops _ (λ d h. back (line_of (done log)) has_ended
            (λ d h reader e o w. absurd (none (λ q. w (subst (Wrote (done log)) (sym e) q)) (omega arith) (record { call = d; has = h; reader = reader; version = e }))) d h));
      }

  -- The line, when a write is shown that has not ended.
  module _ (w : Wrote (done log) (length (values log)) → ⊥) (o : 1 ≤ length (values log)) (s : Showed (done log) (length (values log))) where
    the_pending : Op
    the_pending = record { client = 0; begin = begun log 0; ended = false; end = length log; version = length (values log); value = value_at (values log) f (length (values log)) }

    -- What ended before the last write began is below it.
    writing_now : (d : Done) → Contains (done log) d → d.end < begun log 0 → d.version < length (values log)
    writing_now d h = go (b.clients 0).phase refl
      where
        go : (q : Phase) → (b.clients 0).phase ≡ q → d.end < begun log 0 → d.version < length (values log)
        go idle e early = absurd (w (u.calls.last_ended e o))
        go due e early = absurd (subst (PhaseFine g (values log) f b.replicas 0 (b.clients 0).version (u.snapshot 0)) e (u.safe.clients 0).phase refl)
        go (awaiting k ss) e early =
            let got = subst (PhaseFine g (values log) f b.replicas 0 (b.clients 0).version (u.snapshot 0)) e (u.safe.clients 0).phase in
            let busy : (b.clients 0).phase ≡ awaiting writes ss = e ∙ ap (λ j. awaiting j ss) (got.role.1 refl) in
            let mine = subst (OpenFine g (begun log 0) (spent log 0) (u.snapshot 0) (done log) (b.clients 0).version) busy (u.calls.running 0) in
            let lt : d.version < (b.clients 0).version = All-contains (λ x. x.end < begun log 0 → x.version < (b.clients 0).version) (done log) d mine.1 h early in
            omega (arith, ((u.safe.clients 0).writer refl).0)

    pending_line : Line f log
    unfolding the_pending Backed
    pending_line =
        record {
          line = insert the_pending (line_of (done log));
          once = once_insert the_pending (line_of (done log)) whole.once
              (All-map (λ n. length log ≡ n → ⊥) (λ x. x.end) (line_of (done log)) (all_ops (λ x. length log ≡ x.end → ⊥) (λ d h e. absurd (omega (arith, (ended_fine d h).clock.0)))));
          only = all_insert _ the_pending (line_of (done log)) (inr is_pending) (all_ops _ (λ d h. inl (d, h, refl)));
          ended = All-weaker _ _ (λ d q. in_has (op d) (insert the_pending (line_of (done log))) (in_insert_more the_pending (op d) (line_of (done log)) q)) (done log) whole.members;
          pending = λ a c e. (the_pending, in_has the_pending (insert the_pending (line_of (done log))) (in_insert the_pending (line_of (done log))), is_pending);
          given = all_insert _ the_pending (line_of (done log)) refl (all_ops _ (λ d h. (ended_fine d h).value));
          respects = respects_insert the_pending (line_of (done log)) whole.sorted whole.respects
              (all_ops _ (λ d h q. absurd (false≢true q.0)))
              (all_ops _ (λ d h k q. absurd (let lt = writing_now d h q.1 in let most = key_most (op d) in let r : ⊥ = omega arith in r)));
          shows = sorted_shows 0 f (insert the_pending (line_of (done log))) (sorted_insert the_pending (line_of (done log)) whole.sorted)
              (one_write_insert the_pending (line_of (done log)) whole.one_write (all_ops _ (λ d h e k v. w (record { call = d; has = h; writer = k; version = sym v }))))
              (all_insert _ the_pending (line_of (done log)) (λ e. o) (all_ops _ (λ d h e. write_not_initial d h e)))
              (all_insert _ the_pending (line_of (done log)) (λ reader. absurd (reader refl))
              (all_ops _ (λ d h. back (insert the_pending (line_of (done log))) (λ d h. in_insert_more the_pending (op d) (line_of (done log)) (has_ended d h))
              (λ d h reader e k n. record {
                call = the_pending;
                has = in_insert the_pending (line_of (done log));
                writer = refl;
                version = sym e;
                value = ap (value_at (values log) f) (sym e) ∙ sym (ended_fine d h).value;
              }) d h)));
        }
      where
        is_pending : Pending log the_pending
        is_pending = record { writer = refl; begin = refl; ended = refl; end = refl; version = refl; some = o; unended = w; shown = s }

  the_line : Line f log
  the_line =
      elim (wrote? (done log) (length (values log))) [
        | inl w ↦ plain_line (λ n o s. n w)
        | inr w ↦ elim (cases_lt 0 (length (values log))) [
          | inr z ↦ plain_line (λ n o s. omega arith)
          | inl o ↦ elim (showed? (done log) (length (values log))) [ inl s ↦ pending_line w o s | inr s ↦ plain_line (λ n o q. s q) ]
        ]
      ]

-- All calls of every past stand in one line.
pub linearizable : Linearizable
linearizable g fit f log b p = the_line g fit f log b p
