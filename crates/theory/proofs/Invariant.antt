-- Every past of the model is safe and orderly: ends in `invariant`.
use Rattle.std.proofs.Common.{◌≡◌, ℕ, suc, ◌+◌, ◌*◌, ◌<◌, ◌≤◌, true, false, eqb, ◌⊎◌, List, [], ◌∷◌, length, ℤ, sym, refl, ap, ◌∙◌, subst, inl, inr, arith, pow_pos}
use Rattle.std.proofs.lemmas.Bool.{cases_lt}
use Rattle.std.specs.List.{AllByRecursion}
use Rattle.theory.proofs.Words.{Message, listed_as, BecameDue, Carry, Entry}
use Rattle.theory.proofs.Lists.{All-weaker}
use Rattle.theory.proofs.Cards.{Params, Fit, Card, Slip, highest, Decision}
use Rattle.theory.proofs.Model.{put, Kind, writes, reads, tells, Msg, Phase, idle, due, awaiting, Client, State, Takes, entry, sets, phased, writing, Learnt, Counting, slip, ended, opened, Trace, opening, stirred, refused, wrote, asked, told, delivered, lost, counted, finished, decided, became, replica_gone, client_gone}
use Rattle.theory.proofs.History.{Done, values, value_at, begun, spent, done}
use Rattle.theory.proofs.Line.{Wrote}
use Rattle.theory.proofs.Tables.{put_case}
use Rattle.theory.proofs.Apart.{reads_not_writes, tells_not_writes, due_not_idle, awaiting_not_idle}
use Rattle.theory.proofs.Waiting.{all_same}
use Rattle.theory.proofs.FineCards.{CardFine}
use Rattle.theory.proofs.Established.{Established, Posted, posted_established}
use Rattle.theory.proofs.Deciding.{three_times, Round, decided_at_least, one_round_when_posted, decided_established, due_shows_highest}
use Rattle.theory.proofs.Safety.{Gathered, PhaseFine, ClientFine, Safe}
use Rattle.theory.proofs.SafeSteps.{safe_dropped, replicas_only_grow, safe_delivered, gathered_more, safe_counted, written_established, told_posted, safe_finished, safe_learnt, safe_asked, safe_wrote}
use Rattle.theory.proofs.Orderly.{Below, OpenFine, EndedFine, Orderly, ended_more_writes, orderly_next, orderly_grown, orderly_moved, orderly_told, orderly_begun, orderly_ended}

-- what a past keeps, with a snapshot for each client: the replicas' cards as its last round began
pub record Invariant (g : Params) (f : ℤ) (log : List Entry) (b : State) : Type 0 where
  pub snapshot : ℕ → ℕ → Card
  pub safe : Safe g (values log) f b snapshot
  pub calls : Orderly g (values log) f b.replicas b.clients snapshot (length log) (begun log) (spent log) (done log)

-- An entry that begins and ends nothing.
quiet_entry : (g : Params) (f : ℤ) (e : Entry) (log : List Entry) (b : State) (old : ℕ → ℕ → Card) → eqb (listed_as e.answer).code 100 ≡ false → eqb (listed_as e.answer).code 105 ≡ false
    → Safe g (values log) f b old → Orderly g (values log) f b.replicas b.clients old (suc (length log)) (begun log) (spent log) (done log) → Invariant g f (e ∷ log) b
quiet_entry g f e log b old p q s h =
    record { snapshot = old; safe = simp p s; calls = simp (p, q) h }

module _ (g : Params) (fit : Fit g) (f : ℤ) where
  -- The slips of a read make a round over its snapshot.
  round_of : (xs : List ℤ) (replicas : ℕ → Card) (c v : ℕ) (o : ℕ → Card) (ss : List Slip) → g.replicas ≡ length ss + g.tolerated → Gathered g xs f replicas c v o reads ss → Round g o (g.mark c) ss
  round_of xs replicas c v o ss h x =
      record {
        distinct = x.distinct;
        enough = omega arith;
        below = x.below;
        after = All-weaker _ _ (λ s p. p.0) ss x.owed;
        marked = All-weaker _ _ (λ s p. p.1) ss x.owed;
        known_note = All-weaker _ _ (λ s p. p.known_note) ss x.fine;
      }

  open_at : (log : List Entry) (b : State) (k : Invariant g f log b) (c : ℕ) (p : Phase) → (b.clients c).phase ≡ p
      → OpenFine g (begun log c) (spent log c) (k.snapshot c) (done log) (b.clients c).version p
  open_at log b k c p e = subst (OpenFine g (begun log c) (spent log c) (k.snapshot c) (done log) (b.clients c).version) e (k.calls.running c)

  open_more : (at n : ℕ) (o : ℕ → Card) (ds : List Done) (v : ℕ) (k : Kind) (s : Slip) (ss : List Slip) → OpenFine g at n o ds v (awaiting k ss) → OpenFine g at n o ds v (awaiting k (s ∷ ss))
  open_more at n o ds v writes s ss h = h
  open_more at n o ds v reads s ss h = h
  open_more at n o ds v tells s ss h = h

  -- Only the writer writes.
  role : (log : List Entry) (b : State) (u : Invariant g f log b) (j : ℕ) (ss : List Slip) → (b.clients j).phase ≡ awaiting writes ss → j ≡ 0
  role log b u j ss e = (subst (PhaseFine g (values log) f b.replicas j (b.clients j).version (u.snapshot j)) e (u.safe.clients j).phase).role.0 refl

  -- A write ends, or a tell.
  invariant_finished : (log : List Entry) (b : State) (m : Msg) (w : List Msg) (k : Kind) (ss : List Slip) (r : ℕ) (ms : List Message) → Takes m b.waiting w → Counting b m k ss
      → ((k ≡ writes) × (g.replicas ≡ length (slip m ∷ ss) + g.tolerated) × (r ≡ 1)) ⊎ ((k ≡ tells) × (2 * g.tolerated + 1 ≡ length (slip m ∷ ss)) × (r ≡ 2)) → Invariant g f log b
      → Invariant g f (entry Carry (ended m.client (b.clients m.client).version (b.clients m.client).value r) ms ∷ log) (sets b m.client (phased (b.clients m.client) idle) w)
  invariant_finished log b m w k ss r ms t n (inl why) u =
      let so = u.safe.clients m.client in
      let got : Gathered g (values log) f b.replicas m.client (b.clients m.client).version (u.snapshot m.client) writes (slip m ∷ ss) =
      subst (λ j. Gathered g (values log) f b.replicas m.client (b.clients m.client).version (u.snapshot m.client) j (slip m ∷ ss)) why.0 (gathered_more g _ f b u.snapshot m w k ss t n u.safe) in
      let o = open_at log b u m.client (awaiting writes ss) (n.awaited ∙ ap (λ j. awaiting j ss) why.0) in
      record {
        snapshot = u.snapshot;
        safe = safe_finished g _ f fit b u.snapshot m w k ss t n (λ e. omega (arith, why.1)) u.safe;
        calls = orderly_ended g f _ _ _ _ _ _ _ _ u.calls m.client (phased (b.clients m.client) idle) (b.clients m.client).version (b.clients m.client).value r refl so.begun so.value
            (written_established g _ f fit b.replicas m.client _ (u.snapshot m.client) (slip m ∷ ss) (omega (arith, why.1)) got)
            (λ e. absurd (omega (arith, why.2))) (why.2 ∙ sym o.0) (inl why.2) (λ e. (o.3, (so.writer e).0)) (All-weaker _ _ (λ d p e. p) (done log) o.2) (role log b u)
            (All-weaker _ _ (λ d p q. (omega (arith, p q), (λ e. p q), (λ e r. p q))) (done log) o.1);
      }
  invariant_finished log b m w k ss r ms t n (inr why) u =
      let so = u.safe.clients m.client in
      let got : Gathered g (values log) f b.replicas m.client (b.clients m.client).version (u.snapshot m.client) tells (slip m ∷ ss) =
      subst (λ j. Gathered g (values log) f b.replicas m.client (b.clients m.client).version (u.snapshot m.client) j (slip m ∷ ss)) why.0 (gathered_more g _ f b u.snapshot m w k ss t n u.safe) in
      let o = open_at log b u m.client (awaiting tells ss) (n.awaited ∙ ap (λ j. awaiting j ss) why.0) in
      let post : Posted g b.replicas (b.clients m.client).version = told_posted g _ f b.replicas m.client _ (u.snapshot m.client) (slip m ∷ ss) (omega (arith, why.1)) got in
      let reader : m.client ≡ 0 → ⊥ = λ e. tells_not_writes (got.role.1 e) in
      record {
        snapshot = u.snapshot;
        safe = safe_finished g _ f fit b u.snapshot m w k ss t n (λ e. absurd (tells_not_writes (sym why.0 ∙ e))) u.safe;
        calls = orderly_ended g f _ _ _ _ _ _ _ _ u.calls m.client (phased (b.clients m.client) idle) (b.clients m.client).version (b.clients m.client).value r refl so.begun so.value
            (posted_established g b.replicas _ post)
            (λ e. post) (why.2 ∙ sym o.0) (inr (why.2, reader)) (λ e. absurd (reader e)) (All-weaker (λ d. Below _ _ d) _ (λ d p e. absurd (reader e)) (done log) o.1) (role log b u)
            (All-weaker _ _ (λ d p q. ((p q).0, (λ e. absurd (reader e)), (λ e r. (p q).1 e))) (done log) o.1);
      }

  -- A read is decided.
  module _ (log : List Entry) (b : State) (m : Msg) (w : List Msg) (ss : List Slip) (t : Takes m b.waiting w) (n : Counting b m reads ss)
      (full : g.replicas ≡ length (slip m ∷ ss) + g.tolerated) (u : Invariant g f log b) where
    got : Gathered g (values log) f b.replicas m.client (b.clients m.client).version (u.snapshot m.client) reads (slip m ∷ ss)
    got = gathered_more g _ f b u.snapshot m w reads ss t n u.safe

    reader : m.client ≡ 0 → ⊥
    reader e = reads_not_writes (got.role.1 e)

    the_round : Round g (u.snapshot m.client) (g.mark m.client) (slip m ∷ ss)
    the_round = round_of (values log) b.replicas m.client _ (u.snapshot m.client) (slip m ∷ ss) full got

    was : OpenFine g (begun log m.client) (spent log m.client) (u.snapshot m.client) (done log) (b.clients m.client).version (awaiting reads ss)
    was = open_at log b u m.client (awaiting reads ss) n.awaited

    -- no slip is of a version that was not begun
    top_begun : highest (slip m ∷ ss) ≤ length (values log)
    top_begun = go (slip m ∷ ss) got.fine
      where
        go : (ys : List Slip) → AllByRecursion (λ s. CardFine g (values log) f s.card) ys → highest ys ≤ length (values log)
        go [] h = omega arith
        go (y ∷ ys) h = omega (arith, h.0.begun, go ys h.1)

    -- It ends: what it shows is established, and at or above all that was established as it began.
    invariant_decided : (y : Client) (shown : ℕ) (z : ℤ) (ms : List Message) → Learnt (slip m ∷ ss) (b.clients m.client) y → y.phase ≡ idle → Decision g (slip m ∷ ss) shown false
        → ((shown ≡ y.version) × (z ≡ y.value)) ⊎ ((suc shown ≡ y.version) × (z ≡ y.previous))
        → Invariant g f (entry Carry (ended m.client shown z 1) ms ∷ log) (sets b m.client y w)
    invariant_decided y shown z ms le rest d how =
        let s' : Safe g (values log) f (sets b m.client y w) u.snapshot = safe_learnt g _ f b u.snapshot m w ss y t n le (inl rest) u.safe in
        let yf : ClientFine g (values log) f b.replicas m.client y (u.snapshot m.client) =
        put_case (λ j x. j ≡ m.client → ClientFine g (values log) f b.replicas j x (u.snapshot j) → ClientFine g (values log) f b.replicas m.client y (u.snapshot m.client)) b.clients m.client y m.client (λ e q z. z) (λ ne q z. absurd (ne refl)) refl (s'.clients m.client) in
        let shown_begun : shown ≤ length (values log) = elim how [ inl q ↦ omega (arith, q.0, yf.begun) | inr q ↦ omega (arith, q.0, yf.begun) ] in
        let fine : z ≡ value_at (values log) f shown =
        elim how [
          | inl q ↦ q.1 ∙ yf.value ∙ ap (value_at (values log) f) (sym q.0)
          | inr q ↦ q.1 ∙ yf.previous ∙ ap (value_at (values log) f) (omega (arith, q.0))
        ] in
        let up : Established g b.replicas shown =
        decided_established g fit b.replicas (slip m ∷ ss) got.below got.now (All-weaker _ _ (λ s p. p.few) (slip m ∷ ss) got.fine) shown false
        (λ e. u.safe.past shown (omega (arith, top_begun))) d refl in
        record {
          snapshot = u.snapshot;
          safe = s';
          calls = orderly_ended g f _ _ _ _ _ _ _ _ u.calls m.client y shown z 1 rest shown_begun fine up (λ e. absurd (omega arith)) (sym was.0) (inl refl) (λ e. absurd (reader e)) (All-weaker (EndedFine g (values log) f b.replicas (length log)) _ (λ d p e. absurd (reader e)) (done log) u.calls.ended) (role log b u)
              (All-weaker _ _ (λ x p q. (decided_at_least g fit (u.snapshot m.client) (g.mark m.client) (slip m ∷ ss) the_round x.version shown false (fit.two_marks m.client reader) (p q).0 d, (λ e. absurd (reader e)), (λ e r. absurd (omega arith)))) (done log) was.1);
        }

    -- It becomes due: what it knows is above all that was posted as it began.
    invariant_became : (y : Client) (shown : ℕ) (ms : List Message) → Learnt (slip m ∷ ss) (b.clients m.client) y → y.phase ≡ due → Decision g (slip m ∷ ss) shown true
        → Invariant g f (entry Carry (BecameDue m.client) ms ∷ log) (sets b m.client y w)
    invariant_became y shown ms le rest d =
        let same : shown ≡ y.version = due_shows_highest g (slip m ∷ ss) shown d ∙ sym le.version in
        record {
          snapshot = u.snapshot;
          safe = safe_learnt g _ f b u.snapshot m w ss y t n le (inr rest) u.safe;
          calls = orderly_moved g f _ _ _ _ _ _ _ _ u.calls m.client y (λ q. due_not_idle (sym rest ∙ q))
              (subst (OpenFine g (begun log m.client) (spent log m.client) (u.snapshot m.client) (done log) y.version) (sym rest) (
                was.0,
                All-weaker _ _ (λ x p q. (
                  subst (λ v. x.version ≤ v) same (decided_at_least g fit (u.snapshot m.client) (g.mark m.client) (slip m ∷ ss) the_round x.version shown true (fit.two_marks m.client reader) (p q).0 d),
                  (λ e. subst (λ v. x.version < v) same (one_round_when_posted g fit (u.snapshot m.client) (g.mark m.client) (slip m ∷ ss) the_round x.version shown true ((p q).1 e) d refl)),
                )) (done log) was.1,
              ));
        }

  -- Every past of the model is safe and orderly.
  pub invariant : (log : List Entry) (b : State) → Trace g f log b → Invariant g f log b
  invariant log b opening =
      record {
        snapshot = λ c. (opened f).replicas;
        safe = record {
          replicas = λ i. record { begun = omega arith; known_note = omega arith; few = pow_pos (g.groups + 1); value = refl; previous = refl };
          messages = tt;
          clients = λ c. record { begun = omega arith; value = refl; previous = refl; writer = λ e. (refl, refl); phase = tt };
          past = λ k h. absurd (omega arith);
          last = λ e. Established.opening refl;
        };
        calls = record { ended = tt; starts = λ c. omega arith; running = λ c. tt; ordered = tt; one_write_each = tt; newest_first = tt; earlier_ended = λ k p q. absurd (omega arith); last_ended = λ e q. absurd (omega arith) };
      }
  invariant log b (stirred {b = b₀} w same p) =
      let u = invariant log b₀ p in
      record {
        snapshot = u.snapshot;
        safe = record { replicas = u.safe.replicas; messages = all_same _ b₀.waiting w (λ x i. (same x).1 i) u.safe.messages; clients = u.safe.clients; past = u.safe.past; last = u.safe.last };
        calls = u.calls;
      }
  invariant log b (refused {log = log₀} o a ms q p) =
      let k = invariant log₀ b p in
      quiet_entry g f (entry o a ms) log₀ b k.snapshot q.not_accepted q.not_ended k.safe (orderly_next g f _ _ _ _ _ _ _ _ k.calls)
  invariant log b (wrote {log = log₀} {b = b₀} v ms present rest p) =
      let k = invariant log₀ b₀ p in
      record {
        snapshot = put k.snapshot 0 b₀.replicas;
        safe = safe_wrote g fit _ f b₀ k.snapshot v rest k.safe;
        calls =
            orderly_begun g f (values log₀) b₀.replicas b₀.clients k.snapshot (length log₀) (begun log₀) (spent log₀) (done log₀) k.calls
            (v ∷ values log₀) 0 (writing (b₀.clients 0) v) b₀.replicas awaiting_not_idle
            (All-weaker _ _ (ended_more_writes g f v (values log₀) b₀.replicas (length log₀)) (done log₀) k.calls.ended)
            (λ n p q. elim (cases_lt n (length (values log₀))) [ inl r ↦ k.calls.earlier_ended n p r | inr r ↦ subst (Wrote (done log₀)) (omega arith) (k.calls.last_ended rest (omega arith)) ])
            (λ e. absurd (e refl)) (
              refl,
              All-weaker _ _ (λ d p q. omega (arith, p.begun, ((k.safe.clients 0).writer refl).1)) (done log₀) k.calls.ended,
              All-weaker _ _ (λ d p q. omega (arith, p.begun, ((k.safe.clients 0).writer refl).1)) (done log₀) k.calls.ended,
              omega arith,
            );
      }
  invariant log b (asked {log = log₀} {b = b₀} c ms lt present rest p) =
      let k = invariant log₀ b₀ p in
      record {
        snapshot = put k.snapshot (suc c) b₀.replicas;
        safe = safe_asked g fit _ f b₀ k.snapshot c reads g.replicas (omega arith) lt reads_not_writes k.safe;
        calls = orderly_begun g f _ _ _ _ _ _ _ _ k.calls (values log₀) (suc c) _ b₀.replicas awaiting_not_idle k.calls.ended k.calls.earlier_ended (λ e. k.calls.last_ended) (refl, All-weaker _ _ (λ d p q. (p.stands, p.posted)) _ k.calls.ended);
      }
  invariant log b (told {log = log₀} {b = b₀} c ms lt present rest p) =
      let k = invariant log₀ b₀ p in
      record {
        snapshot = put k.snapshot (suc c) b₀.replicas;
        safe = safe_asked g fit _ f b₀ k.snapshot c tells (3 * g.tolerated + 1) (three_times g fit) lt tells_not_writes k.safe;
        calls = orderly_told g f _ _ _ _ _ _ _ _ k.calls (suc c) _ b₀.replicas awaiting_not_idle
            (let o : OpenFine g (begun log₀ (suc c)) (spent log₀ (suc c)) (k.snapshot (suc c)) (done log₀) (b₀.clients (suc c)).version due = subst (OpenFine g (begun log₀ (suc c)) (spent log₀ (suc c)) (k.snapshot (suc c)) (done log₀) (b₀.clients (suc c)).version) rest (k.calls.running (suc c)) in
            (ap suc o.0, o.1));
      }
  invariant log b (delivered {log = log₀} {b = b₀} m w ms t nr stays lt p) =
      let k = invariant log₀ b₀ p in
      record { snapshot = k.snapshot; safe = safe_delivered g _ f b₀ k.snapshot m w t nr k.safe; calls = orderly_grown g f _ _ _ _ _ _ _ _ k.calls _ (replicas_only_grow g (values log₀) f b₀ m) }
  invariant log b (lost {log = log₀} {b = b₀} m w a ms q t p why) =
      let k = invariant log₀ b₀ p in
      quiet_entry g f _ log₀ _ k.snapshot q.not_accepted q.not_ended (safe_dropped g _ f b₀ k.snapshot m w t k.safe) (orderly_next g f _ _ _ _ _ _ _ _ k.calls)
  invariant log b (counted {log = log₀} {b = b₀} m w k ss ms t present n sh p) =
      let u = invariant log₀ b₀ p in
      record { snapshot = u.snapshot; safe = safe_counted g _ f b₀ u.snapshot m w k ss t n u.safe; calls = orderly_moved g f _ _ _ _ _ _ _ _ u.calls m.client _ awaiting_not_idle (open_more _ _ _ _ _ k (slip m) ss (open_at log₀ b₀ u m.client (awaiting k ss) n.awaited)) }
  invariant log b (finished {log = log₀} {b = b₀} m w k ss r ms t present n why p) = invariant_finished log₀ b₀ m w k ss r ms t n why (invariant log₀ b₀ p)
  invariant log b (decided {log = log₀} {b = b₀} m w ss y shown z ms t present n full le rest d how p) = invariant_decided log₀ b₀ m w ss t n full (invariant log₀ b₀ p) y shown z ms le rest d how
  invariant log b (became {log = log₀} {b = b₀} m w ss y shown ms t present n full le rest d p) = invariant_became log₀ b₀ m w ss t n full (invariant log₀ b₀ p) y shown ms le rest d
  invariant log b (replica_gone {log = log₀} {b = b₀} i ms lt ni few p) =
      let u = invariant log₀ b₀ p in
      record { snapshot = u.snapshot; safe = record { replicas = u.safe.replicas; messages = u.safe.messages; clients = u.safe.clients; past = u.safe.past; last = u.safe.last }; calls = orderly_next g f _ _ _ _ _ _ _ _ u.calls }
  invariant log b (client_gone {log = log₀} {b = b₀} c ms p) =
      let u = invariant log₀ b₀ p in
      record { snapshot = u.snapshot; safe = record { replicas = u.safe.replicas; messages = u.safe.messages; clients = u.safe.clients; past = u.safe.past; last = u.safe.last }; calls = orderly_next g f _ _ _ _ _ _ _ _ u.calls }
