-- Each change of a state keeps `Safe`: ends in `safe_wrote`, the last of seven such lemmas.
use Rattle.std.proofs.Common.{◌≡◌, ℕ, zero, suc, ◌+◌, ◌-◌, ◌*◌, ◌<◌, ◌≤◌, false, eqb, ◌⊎◌, List, [], ◌∷◌, ◌++◌, length, ℤ, sym, refl, ap, ◌∙◌, subst, inl, inr, arith}
use Rattle.std.proofs.lemmas.List.{length-map}
use Rattle.std.proofs.lemmas.Bool.{cases_lt, cond-true, eq-eqb, true≢false, false≢true}
use Rattle.std.specs.List.{AllByRecursion}
use Rattle.theory.proofs.Lists.{All-map, All-append, All-contains, All-weaker}
use Rattle.theory.proofs.Sets.{Within, Many}
use Rattle.theory.proofs.Cards.{Params, Fit, Card, Slip, replicas_of, Ahead, Later}
use Rattle.theory.proofs.Model.{put, Kind, writes, reads, tells, Msg, Phase, idle, due, awaiting, Client, State, after, sent, carried, Takes, sets, drops, delivers, phased, writing, asking, Learnt, Counting, slip}
use Rattle.theory.proofs.History.{value_at}
use Rattle.theory.proofs.Tables.{put_case, put_two}
use Rattle.theory.proofs.Apart.{reads_not_writes, awaiting_not_idle}
use Rattle.theory.proofs.Waiting.{all_takes}
use Rattle.theory.proofs.Growing.{later_self, ahead_stays, later_trans, after_catches_up, after_has_marks, after_noted, replica_only_grows}
use Rattle.theory.proofs.FineCards.{CardFine, value_stays, fine_stays, after_fine}
use Rattle.theory.proofs.Established.{Established, written, Posted, established_stays}
use Rattle.theory.proofs.Safety.{Awaits, Owed, MsgFine, Gathered, PhaseFine, ClientFine, Safe}

-- ---- a message, as its client, the replicas or the writes move on

module _ (g : Params) (xs : List ℤ) (f : ℤ) where
  -- A new round of its client makes nothing of a message but an old one.
  message_outdated : (replicas : ℕ → Card) (m : Msg) (x x' : Client) (o o' : ℕ → Card) → x'.round ≡ suc x.round
      → MsgFine g xs f replicas m x o → MsgFine g xs f replicas m x' o'
  message_outdated replicas m x x' o o' e h =
      let r = h.round in
      record {
        card = h.card;
        replica = h.replica;
        known = h.known;
        round = omega arith;
        request = h.request;
        current = λ p q k a. absurd (omega arith);
        reply = h.reply;
        owed = λ p q k a. absurd (omega arith);
      }

  -- A client that moves on within its round awaits no more than before.
  message_same_round : (replicas : ℕ → Card) (m : Msg) (x x' : Client) (o : ℕ → Card) → x'.round ≡ x.round
      → ((k : Kind) → Awaits x'.phase k → Awaits x.phase k × (x.version ≡ x'.version))
      → MsgFine g xs f replicas m x o → MsgFine g xs f replicas m x' o
  message_same_round replicas m x x' o e a h =
      record {
        card = h.card;
        replica = h.replica;
        known = h.known;
        round = omega (arith, h.round);
        request = h.request;
        current = λ p q k w. let u = h.current p (q ∙ e) k (a k w).0 in (u.0, u.1 ∙ (a k w).1);
        reply = h.reply;
        owed = λ p q k w. subst (λ v. Owed g m.client v o k m.replica m.card) (a k w).1 (h.owed p (q ∙ e) k (a k w).0);
      }

  -- The replicas grow.
  message_grown : (replicas replicas' : ℕ → Card) (m : Msg) (x : Client) (o : ℕ → Card) → ((i : ℕ) → Later (replicas i) (replicas' i))
      → MsgFine g xs f replicas m x o → MsgFine g xs f replicas' m x o
  message_grown replicas replicas' m x o a h =
      record {
        card = h.card;
        replica = h.replica;
        known = h.known;
        round = h.round;
        request = h.request;
        current = h.current;
        reply = λ p. later_trans _ _ _ (h.reply p) (a m.replica);
        owed = h.owed;
      }

  -- Another write begins.
  pub message_more_writes : (z : ℤ) (replicas : ℕ → Card) (m : Msg) (x : Client) (o : ℕ → Card) → MsgFine g xs f replicas m x o → MsgFine g (z ∷ xs) f replicas m x o
  message_more_writes z replicas m x o h =
      record { card = fine_stays g z xs f m.card h.card; replica = h.replica; known = h.known; round = h.round; request = h.request; current = h.current; reply = h.reply; owed = h.owed }

  phase_grown : (replicas replicas' : ℕ → Card) (c v : ℕ) (o : ℕ → Card) (p : Phase) → ((i : ℕ) → Later (replicas i) (replicas' i))
      → PhaseFine g xs f replicas c v o p → PhaseFine g xs f replicas' c v o p
  phase_grown replicas replicas' c v o idle a h = h
  phase_grown replicas replicas' c v o due a h = h
  phase_grown replicas replicas' c v o (awaiting k ss) a h =
      record {
        distinct = h.distinct;
        below = h.below;
        fine = h.fine;
        now = All-weaker (λ s. Later s.card (replicas s.replica)) (λ s. Later s.card (replicas' s.replica)) (λ s p. later_trans _ _ _ p (a s.replica)) ss h.now;
        owed = h.owed;
        later = λ e i. later_trans _ _ _ (h.later e i) (a i);
        role = h.role;
      }

  phase_more_writes : (z : ℤ) (replicas : ℕ → Card) (c v : ℕ) (o : ℕ → Card) (p : Phase) → PhaseFine g xs f replicas c v o p → PhaseFine g (z ∷ xs) f replicas c v o p
  phase_more_writes z replicas c v o idle h = h
  phase_more_writes z replicas c v o due h = h
  phase_more_writes z replicas c v o (awaiting k ss) h =
      record {
        distinct = h.distinct;
        below = h.below;
        fine = All-weaker (λ s. CardFine g xs f s.card) (λ s. CardFine g (z ∷ xs) f s.card) (λ s p. fine_stays g z xs f s.card p) ss h.fine;
        now = h.now;
        owed = h.owed;
        later = h.later;
        role = h.role;
      }

  client_grown : (replicas replicas' : ℕ → Card) (c : ℕ) (x : Client) (o : ℕ → Card) → ((i : ℕ) → Later (replicas i) (replicas' i))
      → ClientFine g xs f replicas c x o → ClientFine g xs f replicas' c x o
  client_grown replicas replicas' c x o a h =
      record { begun = h.begun; value = h.value; previous = h.previous; writer = h.writer; phase = phase_grown replicas replicas' c x.version o x.phase a h.phase }

  client_more_writes : (z : ℤ) (replicas : ℕ → Card) (c : ℕ) (x : Client) (o : ℕ → Card) → (c ≡ 0 → ⊥)
      → ClientFine g xs f replicas c x o → ClientFine g (z ∷ xs) f replicas c x o
  client_more_writes z replicas c x o ne h =
      record {
        begun = omega (arith, h.begun);
        value = h.value ∙ sym (value_stays z xs f x.version h.begun);
        previous = h.previous ∙ sym (value_stays z xs f (x.version - 1) (omega (arith, h.begun)));
        writer = λ e. absurd (ne e);
        phase = phase_more_writes z replicas c x.version o x.phase h.phase;
      }

  -- Messages put out by a client that awaits replies to them are fine.
  pub sent_are_fine : (replicas : ℕ → Card) (k : Kind) (c r : ℕ) (d : Card) (x : Client) (o : ℕ → Card) (n : ℕ) → n ≤ g.replicas → c ≤ g.readers → CardFine g xs f d → d.marks ≡ g.mark c
      → r ≡ x.round → ((j : Kind) → Awaits x.phase j → (k ≡ j) × (d.version ≡ x.version))
      → AllByRecursion (λ m. MsgFine g xs f replicas m x o × (m.client ≡ c)) (sent k c r d n)
  sent_are_fine replicas k c r d x o zero h kc fine own e a = tt
  sent_are_fine replicas k c r d x o (suc n) h kc fine own e a = (
    (
      record {
        card = fine;
        replica = omega arith;
        known = kc;
        round = omega arith;
        request = λ p. own;
        current = λ p q j w. a j w;
        reply = λ p. absurd (false≢true p);
        owed = λ p. absurd (false≢true p);
      },
      refl,
    ),
    sent_are_fine replicas k c r d x o n (omega arith) kc fine own e a,
  )

  -- ---- a message is lost

  pub safe_dropped : (b : State) (old : ℕ → ℕ → Card) (m : Msg) (w : List Msg) → Takes m b.waiting w → Safe g xs f b old → Safe g xs f (drops b w) old
  safe_dropped b old m w t s = record { replicas = s.replicas; messages = (all_takes _ t s.messages).1; clients = s.clients; past = s.past; last = s.last }

  -- ---- a message comes to a replica

  -- The reply to a request of the present round is what is owed.
  reply_owes : (replicas : ℕ → Card) (m : Msg) (x : Client) (o : ℕ → Card) → m.reply ≡ false → MsgFine g xs f replicas m x o → (p : Phase) → x.phase ≡ p
      → PhaseFine g xs f replicas m.client x.version o p → m.round ≡ x.round → (k : Kind) → Awaits p k → Owed g m.client x.version o k m.replica (after (replicas m.replica) m)
  reply_owes replicas m x o nr h idle e q r k a = absurd a
  reply_owes replicas m x o nr h due e q r k a = absurd a
  reply_owes replicas m x o nr h (awaiting j ss) e q r k a =
      subst (λ k. Owed g m.client x.version o k m.replica (after (replicas m.replica) m)) a (by j q (h.current nr r j (subst (λ p. Awaits p j) (sym e) refl)))
    where
      by : (j : Kind) → Gathered g xs f replicas m.client x.version o j ss → (m.kind ≡ j) × (m.card.version ≡ x.version)
          → Owed g m.client x.version o j m.replica (after (replicas m.replica) m)
      by writes q u =
          subst (λ n. Ahead x.version n (after (replicas m.replica) m)) (h.request nr)
          (subst (λ v. Ahead v m.card.marks (after (replicas m.replica) m)) u.1 (after_catches_up (replicas m.replica) m))
      by reads q u = (
        later_trans _ _ _ (q.later refl m.replica) (replica_only_grows (replicas m.replica) m),
        subst (λ n. Within n (after (replicas m.replica) m).marks) (h.request nr) (after_has_marks (replicas m.replica) m),
      )
      by tells q u = subst (λ v. v ≤ (after (replicas m.replica) m).note) u.1 (after_noted (replicas m.replica) m u.0)

  -- Every replica only grows as a message is delivered.
  pub replicas_only_grow : (b : State) (m : Msg) (i : ℕ) → Later (b.replicas i) (put b.replicas m.replica (after (b.replicas m.replica) m) i)
  replicas_only_grow b m i =
      put_case (λ j d. Later (b.replicas j) d) b.replicas m.replica (after (b.replicas m.replica) m) i (λ e. replica_only_grows (b.replicas m.replica) m) (λ ne. later_self (b.replicas i))

  pub safe_delivered : (b : State) (old : ℕ → ℕ → Card) (m : Msg) (w : List Msg) → Takes m b.waiting w → m.reply ≡ false
      → Safe g xs f b old → Safe g xs f (delivers b m w) old
  safe_delivered b old m w t nr s =
      let replicas' = put b.replicas m.replica (after (b.replicas m.replica) m) in
      let x = b.clients m.client in
      let lt : (i : ℕ) → Later (b.replicas i) (replicas' i) = replicas_only_grow b m in
      let both = all_takes _ t s.messages in
      let mine : MsgFine g xs f b.replicas m x (old m.client) = both.0 in
      let fine : CardFine g xs f (after (b.replicas m.replica) m) = after_fine g xs f (b.replicas m.replica) m (s.replicas m.replica) mine.card in
      record {
        replicas = λ i. put_case (λ j d. CardFine g xs f d) b.replicas m.replica (after (b.replicas m.replica) m) i (λ e. fine) (λ ne. s.replicas i);
        messages = (
          record {
            card = fine;
            replica = mine.replica;
            known = mine.known;
            round = mine.round;
            request = λ p. absurd (true≢false p);
            current = λ p. absurd (true≢false p);
            reply = λ p. put_case (λ j d. Later (after (b.replicas m.replica) m) d) b.replicas m.replica (after (b.replicas m.replica) m) m.replica (λ e. later_self _) (λ ne. absurd (ne refl));
            owed = λ p r k a. reply_owes b.replicas m x (old m.client) nr mine x.phase refl (s.clients m.client).phase r k a;
          },
          All-weaker _ _ (λ y h. message_grown b.replicas replicas' y (b.clients y.client) (old y.client) lt h) w both.1,
        );
        clients = λ c. client_grown b.replicas replicas' c (b.clients c) (old c) lt (s.clients c);
        past = λ k h. established_stays g b.replicas replicas' k lt (s.past k h);
        last = λ e. established_stays g b.replicas replicas' (length xs) lt (s.last e);
      }

  -- ---- a client moves on within its round

  safe_moved : (b : State) (old : ℕ → ℕ → Card) (m : Msg) (w : List Msg) (x' : Client) (c : ℕ) → Takes m b.waiting w → x'.round ≡ (b.clients c).round
      → ((k : Kind) → Awaits x'.phase k → Awaits (b.clients c).phase k × ((b.clients c).version ≡ x'.version))
      → ClientFine g xs f b.replicas c x' (old c) → (c ≡ 0 → x'.phase ≡ idle → Established g b.replicas (length xs))
      → Safe g xs f b old → Safe g xs f (sets b c x' w) old
  safe_moved b old m w x' c t e a fine est s =
      record {
        replicas = s.replicas;
        messages = All-weaker _ _
            (λ y h. put_case (λ j x. j ≡ y.client → MsgFine g xs f b.replicas y x (old y.client)) b.clients c x' y.client
            (λ q p. message_same_round b.replicas y (b.clients c) x' (old y.client) e a (subst (λ j. MsgFine g xs f b.replicas y (b.clients j) (old y.client)) q h))
            (λ q p. h) refl)
            w (all_takes _ t s.messages).1;
        clients = λ c₁. put_case (λ j x. ClientFine g xs f b.replicas j x (old j)) b.clients c x' c₁ (λ q. fine) (λ q. s.clients c₁);
        past = s.past;
        last = put_case (λ j x. x.phase ≡ idle → Established g b.replicas (length xs)) b.clients c x' 0 (λ q. est (sym q)) (λ q. s.last);
      }

  -- The slips with one more are as they must be.
  pub gathered_more : (b : State) (old : ℕ → ℕ → Card) (m : Msg) (w : List Msg) (k : Kind) (ss : List Slip) → Takes m b.waiting w → Counting b m k ss → Safe g xs f b old
      → Gathered g xs f b.replicas m.client (b.clients m.client).version (old m.client) k (slip m ∷ ss)
  gathered_more b old m w k ss t n s =
      let mine : MsgFine g xs f b.replicas m (b.clients m.client) (old m.client) = (all_takes _ t s.messages).0 in
      let so : Gathered g xs f b.replicas m.client (b.clients m.client).version (old m.client) k ss =
      subst (λ p. PhaseFine g xs f b.replicas m.client (b.clients m.client).version (old m.client) p) n.awaited (s.clients m.client).phase in
      record {
        distinct = (n.fresh, so.distinct);
        below = (mine.replica, so.below);
        fine = (mine.card, so.fine);
        now = (mine.reply n.replies, so.now);
        owed = (mine.owed n.replies n.round k (subst (λ p. Awaits p k) (sym n.awaited) refl), so.owed);
        later = so.later;
        role = so.role;
      }

  pub safe_counted : (b : State) (old : ℕ → ℕ → Card) (m : Msg) (w : List Msg) (k : Kind) (ss : List Slip) → Takes m b.waiting w → Counting b m k ss → Safe g xs f b old
      → Safe g xs f (sets b m.client (phased (b.clients m.client) (awaiting k (slip m ∷ ss))) w) old
  safe_counted b old m w k ss t n s =
      let so = s.clients m.client in
      safe_moved b old m w _ m.client t refl (λ j a. (subst (λ p. Awaits p j) (sym n.awaited) a, refl))
      (record { begun = so.begun; value = so.value; previous = so.previous; writer = so.writer; phase = gathered_more b old m w k ss t n s })
      (λ e p. absurd (awaiting_not_idle p)) s

  -- What is owed by slips, and lasts, holds of the cards of as many replicas now.
  pub gathered_many : (replicas : ℕ → Card) (c v : ℕ) (o : ℕ → Card) (k : Kind) (ss : List Slip) (n : ℕ) (Q : Card → Type 0) → n ≤ length ss
      → ((i : ℕ) (d e : Card) → Owed g c v o k i d → Later d e → Q e) → Gathered g xs f replicas c v o k ss → Many g.replicas n (λ i. Q (replicas i))
  gathered_many replicas c v o k ss n Q h lasts x =
      record {
        places = replicas_of ss;
        distinct = x.distinct;
        below = All-map (λ i. i < g.replicas) (λ s. s.replica) ss x.below;
        enough = omega (arith, length-map ss (λ s. s.replica));
        each = All-map (λ i. Q (replicas i)) (λ s. s.replica) ss (go ss x.owed x.now);
      }
    where
      go : (ys : List Slip) → AllByRecursion (λ s. Owed g c v o k s.replica s.card) ys → AllByRecursion (λ s. Later s.card (replicas s.replica)) ys → AllByRecursion (λ s. Q (replicas s.replica)) ys
      go [] p q = tt
      go (y ∷ ys) p q = (lasts y.replica y.card (replicas y.replica) p.0 q.0, go ys p.1 q.1)

  -- A write with replies of all but t replicas is established.
  pub written_established : Fit g → (replicas : ℕ → Card) (c v : ℕ) (o : ℕ → Card) (ss : List Slip) → g.replicas ≤ length ss + g.tolerated → Gathered g xs f replicas c v o writes ss → Established g replicas v
  written_established fit replicas c v o ss h x =
      written (gathered_many replicas c v o writes ss _ (Ahead v 1) (omega arith)
      (λ i d e p grown. ahead_stays v 1 d e (subst (λ n. Ahead v n d) (ap g.mark (x.role.0 refl) ∙ fit.writer_mark) p) grown) x)

  -- A tell with more than 2t replies has posted its version.
  pub told_posted : (replicas : ℕ → Card) (c v : ℕ) (o : ℕ → Card) (ss : List Slip) → 2 * g.tolerated + 1 ≤ length ss → Gathered g xs f replicas c v o tells ss → Posted g replicas v
  told_posted replicas c v o ss h x = gathered_many replicas c v o tells ss _ (λ d. v ≤ d.note) h (λ i d e p grown. omega (arith, grown.note)) x

  -- ---- a client's call ends, or is due

  pub safe_finished : Fit g → (b : State) (old : ℕ → ℕ → Card) (m : Msg) (w : List Msg) (k : Kind) (ss : List Slip) → Takes m b.waiting w → Counting b m k ss
      → (k ≡ writes → g.replicas ≤ length (slip m ∷ ss) + g.tolerated) → Safe g xs f b old
      → Safe g xs f (sets b m.client (phased (b.clients m.client) idle) w) old
  safe_finished fit b old m w k ss t n full s =
      let so = s.clients m.client in
      let cm = gathered_more b old m w k ss t n s in
      safe_moved b old m w _ m.client t refl (λ j a. absurd a)
      (record { begun = so.begun; value = so.value; previous = so.previous; writer = so.writer; phase = tt })
      (λ e p. subst (Established g b.replicas) (so.writer e).0
      (written_established fit b.replicas m.client (b.clients m.client).version (old m.client) (slip m ∷ ss) (full (cm.role.1 e))
      (subst (λ j. Gathered g xs f b.replicas m.client (b.clients m.client).version (old m.client) j (slip m ∷ ss)) (cm.role.1 e) cm))) s

  pub safe_learnt : (b : State) (old : ℕ → ℕ → Card) (m : Msg) (w : List Msg) (ss : List Slip) (y : Client) → Takes m b.waiting w → Counting b m reads ss
      → Learnt (slip m ∷ ss) (b.clients m.client) y → (y.phase ≡ idle) ⊎ (y.phase ≡ due) → Safe g xs f b old
      → Safe g xs f (sets b m.client y w) old
  safe_learnt b old m w ss y t n le ph s =
      let cm = gathered_more b old m w reads ss t n s in
      let reader : m.client ≡ 0 → ⊥ = λ e. reads_not_writes (cm.role.1 e) in
      let best : CardFine g xs f le.best.card = All-contains (λ s. CardFine g xs f s.card) (slip m ∷ ss) le.best cm.fine le.has in
      let same : le.best.card.version ≡ y.version = le.top ∙ sym le.version in
      safe_moved b old m w y m.client t le.round (λ j a. absurd (quiet y ph j a))
      (record {
        begun = omega (arith, best.begun);
        value = le.value ∙ best.value ∙ ap (value_at xs f) same;
        previous = le.previous ∙ best.previous ∙ ap (λ v. value_at xs f (v - 1)) same;
        writer = λ e. absurd (reader e);
        phase = resting y ph reader;
      })
      (λ e. absurd (reader e)) s
    where
      quiet : (y : Client) → (y.phase ≡ idle) ⊎ (y.phase ≡ due) → (j : Kind) → Awaits y.phase j → ⊥
      quiet y (inl e) j a = subst (λ p. Awaits p j) e a
      quiet y (inr e) j a = subst (λ p. Awaits p j) e a

      resting : (y : Client) → (y.phase ≡ idle) ⊎ (y.phase ≡ due) → (m.client ≡ 0 → ⊥) → PhaseFine g xs f b.replicas m.client y.version (old m.client) y.phase
      resting y (inl e) reader = subst (PhaseFine g xs f b.replicas m.client y.version (old m.client)) (sym e) tt
      resting y (inr e) reader = subst (PhaseFine g xs f b.replicas m.client y.version (old m.client)) (sym e) reader

  -- ---- a client puts out messages

  messages_sent : (b : State) (old : ℕ → ℕ → Card) (c : ℕ) (x' : Client) (o' : ℕ → Card) (new : List Msg) → x'.round ≡ suc (b.clients c).round
      → AllByRecursion (λ m. MsgFine g xs f b.replicas m x' o' × (m.client ≡ c)) new
      → AllByRecursion (λ m. MsgFine g xs f b.replicas m (b.clients m.client) (old m.client)) b.waiting
      → AllByRecursion (λ m. MsgFine g xs f b.replicas m (put b.clients c x' m.client) (put old c o' m.client)) (new ++ b.waiting)
  messages_sent b old c x' o' new e p q =
      All-append _ new b.waiting
      (All-weaker _ _ (λ m h. put_two (λ j x o. MsgFine g xs f b.replicas m x o) b.clients old c x' o' m.client (λ r. h.0) (λ r. absurd (r h.1))) new p)
      (All-weaker _ _ (λ m h. put_two (λ j x o. j ≡ m.client → MsgFine g xs f b.replicas m x o) b.clients old c x' o' m.client
      (λ r u. message_outdated b.replicas m (b.clients m.client) x' (old m.client) o' (e ∙ ap (λ j. suc (b.clients j).round) (sym r)) h) (λ r u. h) refl) b.waiting q)

carried_fine : (g : Params) → Fit g → (xs : List ℤ) (f : ℤ) (replicas : ℕ → Card) (c : ℕ) (x : Client) (o : ℕ → Card) → ClientFine g xs f replicas c x o → CardFine g xs f (carried g c x)
carried_fine g fit xs f replicas c x o h = record { begun = h.begun; known_note = omega arith; few = fit.few_marks c; value = h.value; previous = h.previous }

-- A reader asks or tells.
pub safe_asked : (g : Params) → Fit g → (xs : List ℤ) (f : ℤ) (b : State) (old : ℕ → ℕ → Card) (c : ℕ) (k : Kind) (n : ℕ) → n ≤ g.replicas → c < g.readers → (k ≡ writes → ⊥) → Safe g xs f b old
    → Safe g xs f (sets b (suc c) (asking (b.clients (suc c)) k) (sent k (suc c) (suc (b.clients (suc c)).round) (carried g (suc c) (b.clients (suc c))) n ++ b.waiting)) (put old (suc c) b.replicas)
safe_asked g fit xs f b old c k n h kc reader s =
    let so = s.clients (suc c) in
    let x' = asking (b.clients (suc c)) k in
    record {
      replicas = s.replicas;
      messages = messages_sent g xs f b old (suc c) x' b.replicas _ refl
          (sent_are_fine g xs f b.replicas k (suc c) (suc (b.clients (suc c)).round) (carried g (suc c) (b.clients (suc c))) x' b.replicas n h kc
          (carried_fine g fit xs f b.replicas (suc c) (b.clients (suc c)) (old (suc c)) so) refl refl (λ j a. (a, refl)))
          s.messages;
      clients = λ c₁. put_two (λ j x o. ClientFine g xs f b.replicas j x o) b.clients old (suc c) x' b.replicas c₁
          (λ e. record {
            begun = so.begun;
            value = so.value;
            previous = so.previous;
            writer = λ z. absurd (omega arith);
            phase = record { distinct = tt; below = tt; fine = tt; now = tt; owed = tt; later = λ e i. later_self (b.replicas i); role = ((λ z. absurd (reader z)), (λ z. absurd (omega arith))) };
          })
          (λ e. s.clients c₁);
      past = s.past;
      last = put_case (λ j x. x.phase ≡ idle → Established g b.replicas (length xs)) b.clients (suc c) x' 0 (λ e. absurd (omega arith)) (λ e. s.last);
    }

-- The writer writes.
pub safe_wrote : (g : Params) → Fit g → (xs : List ℤ) (f : ℤ) (b : State) (old : ℕ → ℕ → Card) (v : ℤ) → (b.clients 0).phase ≡ idle → Safe g xs f b old
    → Safe g (v ∷ xs) f (sets b 0 (writing (b.clients 0) v) (sent writes 0 (suc (b.clients 0).round) (carried g 0 (writing (b.clients 0) v)) g.replicas ++ b.waiting)) (put old 0 b.replicas)
safe_wrote g fit xs f b old v rest s =
    let so = s.clients 0 in
    let x' = writing (b.clients 0) v in
    let at : ((b.clients 0).version ≡ length xs) × ((b.clients 0).round ≡ length xs) = so.writer refl in
    let fig : value_at (v ∷ xs) f (suc (b.clients 0).round) ≡ v =
    cond-true (eqb (suc (b.clients 0).round) (suc (length xs))) v (value_at xs f (suc (b.clients 0).round)) (eq-eqb _ _ (omega (arith, at.1))) in
    let prev : value_at (v ∷ xs) f (suc (b.clients 0).round - 1) ≡ (b.clients 0).value =
    value_stays v xs f (suc (b.clients 0).round - 1) (omega (arith, at.1)) ∙ ap (value_at xs f) (omega (arith, at.0, at.1)) ∙ sym so.value in
    let me : ClientFine g (v ∷ xs) f b.replicas 0 x' b.replicas =
    record {
      begun = omega (arith, at.1);
      value = sym fig;
      previous = sym prev;
      writer = λ z. (omega (arith, at.1), omega (arith, at.1));
      phase = record { distinct = tt; below = tt; fine = tt; now = tt; owed = tt; later = λ e i. later_self (b.replicas i); role = ((λ z. refl), (λ z. refl)) };
    } in
    record {
      replicas = λ i. fine_stays g v xs f (b.replicas i) (s.replicas i);
      messages = messages_sent g (v ∷ xs) f b old 0 x' b.replicas _ refl
          (sent_are_fine g (v ∷ xs) f b.replicas writes 0 (suc (b.clients 0).round) (carried g 0 x') x' b.replicas g.replicas (omega arith) (omega arith)
          (carried_fine g fit (v ∷ xs) f b.replicas 0 x' b.replicas me) refl refl (λ j a. (a, refl)))
          (All-weaker _ _ (λ m h. message_more_writes g xs f v b.replicas m (b.clients m.client) (old m.client) h) b.waiting s.messages);
      clients = λ c. put_two (λ j x o. ClientFine g (v ∷ xs) f b.replicas j x o) b.clients old 0 x' b.replicas c
          (λ e. me) (λ e. client_more_writes g xs f v b.replicas c (b.clients c) (old c) e (s.clients c));
      past = λ k h. elim (cases_lt k (length xs)) [ inl j ↦ s.past k j | inr j ↦ subst (Established g b.replicas) (omega arith) (s.last rest) ];
      last = λ e. absurd (awaiting_not_idle e);
    }
