-- What every past keeps of the calls that ended and of those under way: ends in the record `Orderly` and, for each kind of entry, a lemma that keeps it.
use Rattle.std.proofs.Common.{◌≡◌, ℕ, suc, ◌<◌, ◌≤◌, ◌⊎◌, List, [], ◌∷◌, length, ℤ, sym, refl, ◌∙◌, subst, arith}
use Rattle.std.specs.List.{AllByRecursion}
use Rattle.theory.proofs.Lists.{All-weaker, has_here, has_there, all_two}
use Rattle.theory.proofs.Cards.{Params, Card, Slip, Later}
use Rattle.theory.proofs.Model.{put, writes, reads, tells, Phase, idle, due, awaiting, Client, sets}
use Rattle.theory.proofs.History.{Done, value_at, Ordered}
use Rattle.theory.proofs.Line.{Wrote}
use Rattle.theory.proofs.Tables.{put_case, put_three, put_four}
use Rattle.theory.proofs.FineCards.{value_stays}
use Rattle.theory.proofs.Established.{Established, Posted, established_stays, posted_stays}

-- what ended before place `at` is at or below version v, and below it if it took two rounds
abbrev pub Below : ℕ → ℕ → Done → Type 0
Below at v d = d.end < at → (d.version ≤ v) × (d.rounds ≡ 2 → d.version < v)

-- what a call keeps that began at place `at` over the cards `old`, put out n sets of messages since, and knows version v
abbrev pub OpenFine : Params → ℕ → ℕ → (ℕ → Card) → List Done → ℕ → Phase → Type 0
OpenFine g at n old ds v idle = Unit {0}
OpenFine g at n old ds v due = (n ≡ 1) × AllByRecursion (Below at v) ds
OpenFine g at n old ds v (awaiting writes ss) = (n ≡ 1) × AllByRecursion (λ d. d.end < at → d.version < v) ds × AllByRecursion (λ d. d.client ≡ 0 → d.version < v) ds × (1 ≤ v)
OpenFine g at n old ds v (awaiting reads ss) = (n ≡ 1) × AllByRecursion (λ d. d.end < at → Established g old d.version × (d.rounds ≡ 2 → Posted g old d.version)) ds
OpenFine g at n old ds v (awaiting tells ss) = (n ≡ 2) × AllByRecursion (Below at v) ds

-- what an ended call keeps
pub record EndedFine (g : Params) (xs : List ℤ) (f : ℤ) (replicas : ℕ → Card) (now : ℕ) (d : Done) : Type 0 where
  pub clock : (d.end < now) × (d.begin ≤ d.end)
  -- it shows the value of a version that was begun
  pub begun : d.version ≤ length xs
  pub value : d.value ≡ value_at xs f d.version
  -- that version is established, and posted by a call of two rounds
  pub stands : Established g replicas d.version
  pub posted : d.rounds ≡ 2 → Posted g replicas d.version
  -- its rounds are the sets of messages that it put out: one, or two for a read
  pub sets : d.rounds ≡ d.sets
  pub rounds : (d.rounds ≡ 1) ⊎ ((d.rounds ≡ 2) × (d.client ≡ 0 → ⊥))
  -- a write is not of the initial version
  pub first : d.client ≡ 0 → 1 ≤ d.version

-- no two writes have one version
abbrev pub OneWriteEach : List Done → Type 0
OneWriteEach [] = Unit {0}
OneWriteEach (d ∷ ds) = AllByRecursion (λ x. d.client ≡ 0 → x.client ≡ 0 → x.version < d.version) ds × OneWriteEach ds

abbrev pub NewestFirst : List Done → Type 0
NewestFirst [] = Unit {0}
NewestFirst (d ∷ ds) = AllByRecursion (λ x. x.end < d.end) ds × NewestFirst ds

-- what a past keeps of its calls: ds ended, and each client's last call began at its place in `begun`
pub record Orderly (g : Params) (xs : List ℤ) (f : ℤ) (replicas : ℕ → Card) (clients : ℕ → Client) (old : ℕ → ℕ → Card) (now : ℕ) (begun spent : ℕ → ℕ) (ds : List Done) : Type 0 where
  pub ended : AllByRecursion (EndedFine g xs f replicas now) ds
  pub starts : (c : ℕ) → begun c ≤ now
  pub running : (c : ℕ) → OpenFine g (begun c) (spent c) (old c) ds (clients c).version (clients c).phase
  -- a call that ended before another began shows no more
  pub ordered : AllByRecursion (λ y. AllByRecursion (λ x. x.end < y.begin → Ordered x y) ds) ds
  pub one_write_each : OneWriteEach ds
  pub newest_first : NewestFirst ds
  -- every write but the last has ended, and the last if the writer is idle
  pub earlier_ended : (k : ℕ) → 1 ≤ k → k < length xs → Wrote ds k
  pub last_ended : (clients 0).phase ≡ idle → 1 ≤ length xs → Wrote ds (length xs)

pub wrote_more : (d : Done) (ds : List Done) (k : ℕ) → Wrote ds k → Wrote (d ∷ ds) k
wrote_more d ds k w = record { call = w.call; has = has_there d w.call ds w.has; writer = w.writer; version = w.version }

module _ (g : Params) (f : ℤ) where
  ended_next : (xs : List ℤ) (replicas : ℕ → Card) (now : ℕ) (d : Done) → EndedFine g xs f replicas now d → EndedFine g xs f replicas (suc now) d
  ended_next xs replicas now d h =
      record { clock = (omega (arith, h.clock.0), h.clock.1); begun = h.begun; value = h.value; stands = h.stands; posted = h.posted; sets = h.sets; rounds = h.rounds; first = h.first }

  ended_grown : (xs : List ℤ) (replicas replicas' : ℕ → Card) (now : ℕ) (d : Done) → ((i : ℕ) → Later (replicas i) (replicas' i)) → EndedFine g xs f replicas now d → EndedFine g xs f replicas' now d
  ended_grown xs replicas replicas' now d grown h =
      record {
        clock = h.clock;
        begun = h.begun;
        value = h.value;
        stands = established_stays g replicas replicas' d.version grown h.stands;
        posted = λ e. posted_stays g replicas replicas' d.version grown (h.posted e);
        sets = h.sets;
        rounds = h.rounds;
        first = h.first;
      }

  pub ended_more_writes : (z : ℤ) (xs : List ℤ) (replicas : ℕ → Card) (now : ℕ) (d : Done) → EndedFine g xs f replicas now d → EndedFine g (z ∷ xs) f replicas now d
  ended_more_writes z xs replicas now d h =
      record { clock = h.clock; begun = omega (arith, h.begun); value = h.value ∙ sym (value_stays z xs f d.version h.begun); stands = h.stands; posted = h.posted; sets = h.sets; rounds = h.rounds; first = h.first }

  module _ (xs : List ℤ) (replicas : ℕ → Card) (clients : ℕ → Client) (old : ℕ → ℕ → Card) (now : ℕ) (begun spent : ℕ → ℕ) (ds : List Done)
      (h : Orderly g xs f replicas clients old now begun spent ds) where
    -- Nothing began or ended.
    pub orderly_next : Orderly g xs f replicas clients old (suc now) begun spent ds
    orderly_next = record { ended = All-weaker _ _ (ended_next xs replicas now) ds h.ended; starts = λ c. omega (arith, h.starts c); running = h.running; ordered = h.ordered; one_write_each = h.one_write_each; newest_first = h.newest_first; earlier_ended = h.earlier_ended; last_ended = h.last_ended }

    -- A replica took a message.
    pub orderly_grown : (replicas' : ℕ → Card) → ((i : ℕ) → Later (replicas i) (replicas' i)) → Orderly g xs f replicas' clients old (suc now) begun spent ds
    orderly_grown replicas' grown =
        record { ended = All-weaker _ _ (λ d p. ended_grown xs replicas replicas' (suc now) d grown (ended_next xs replicas now d p)) ds h.ended; starts = λ c. omega (arith, h.starts c); running = h.running; ordered = h.ordered; one_write_each = h.one_write_each; newest_first = h.newest_first; earlier_ended = h.earlier_ended; last_ended = h.last_ended }

    -- A client moved on within its call.
    pub orderly_moved : (c : ℕ) (x' : Client) → (x'.phase ≡ idle → ⊥) → OpenFine g (begun c) (spent c) (old c) ds x'.version x'.phase → Orderly g xs f replicas (put clients c x') old (suc now) begun spent ds
    orderly_moved c x' ni o =
        record {
          ended = orderly_next.ended;
          starts = orderly_next.starts;
          running = λ j. put_case (λ j x. OpenFine g (begun j) (spent j) (old j) ds x.version x.phase) clients c x' j (λ e. o) (λ e. h.running j);
          ordered = h.ordered;
          one_write_each = h.one_write_each;
          newest_first = h.newest_first;
          earlier_ended = h.earlier_ended;
          last_ended = put_case (λ j x. x.phase ≡ idle → 1 ≤ length xs → Wrote ds (length xs)) clients c x' 0 (λ e q. absurd (ni q)) (λ e. h.last_ended);
        }

    -- A reader tells.
    pub orderly_told : (c : ℕ) (x' : Client) (o' : ℕ → Card) → (x'.phase ≡ idle → ⊥) → OpenFine g (begun c) (suc (spent c)) o' ds x'.version x'.phase
        → Orderly g xs f replicas (put clients c x') (put old c o') (suc now) begun (put spent c (suc (spent c))) ds
    orderly_told c x' o' ni o =
        record {
          ended = orderly_next.ended;
          starts = orderly_next.starts;
          running = λ j. put_three (λ j x w m. OpenFine g (begun j) m w ds x.version x.phase) clients old spent c x' o' (suc (spent c)) j (λ e. o) (λ e. h.running j);
          ordered = h.ordered;
          one_write_each = h.one_write_each;
          newest_first = h.newest_first;
          earlier_ended = h.earlier_ended;
          last_ended = put_case (λ j x. x.phase ≡ idle → 1 ≤ length xs → Wrote ds (length xs)) clients c x' 0 (λ e q. absurd (ni q)) (λ e. h.last_ended);
        }

    -- A write or read began.
    pub orderly_begun : (xs' : List ℤ) (c : ℕ) (x' : Client) (o' : ℕ → Card) → (x'.phase ≡ idle → ⊥) → AllByRecursion (EndedFine g xs' f replicas now) ds
        → ((k : ℕ) → 1 ≤ k → k < length xs' → Wrote ds k) → ((0 ≡ c → ⊥) → (clients 0).phase ≡ idle → 1 ≤ length xs' → Wrote ds (length xs'))
        → OpenFine g now 1 o' ds x'.version x'.phase
        → Orderly g xs' f replicas (put clients c x') (put old c o') (suc now) (put begun c now) (put spent c 1) ds
    orderly_begun xs' c x' o' ni fine wr la o =
        record {
          ended = All-weaker _ _ (ended_next xs' replicas now) ds fine;
          starts = λ j. put_case (λ j n. n ≤ suc now) begun c now j (λ e. omega arith) (λ e. omega (arith, h.starts j));
          running = λ j. put_four (λ j x w n m. OpenFine g n m w ds x.version x.phase) clients old begun spent c x' o' now 1 j (λ e. o) (λ e. h.running j);
          ordered = h.ordered;
          one_write_each = h.one_write_each;
          newest_first = h.newest_first;
          earlier_ended = wr;
          last_ended = put_case (λ j x. x.phase ≡ idle → 1 ≤ length xs' → Wrote ds (length xs')) clients c x' 0 (λ e q. absurd (ni q)) (λ e. la e);
        }

    -- A call ended.
    pub orderly_ended : (c : ℕ) (x' : Client) (v : ℕ) (z : ℤ) (r : ℕ) → x'.phase ≡ idle → v ≤ length xs → z ≡ value_at xs f v → Established g replicas v → (r ≡ 2 → Posted g replicas v)
        → r ≡ spent c → (r ≡ 1) ⊎ ((r ≡ 2) × (c ≡ 0 → ⊥)) → (c ≡ 0 → (1 ≤ v) × (v ≡ length xs)) → AllByRecursion (λ d. c ≡ 0 → d.client ≡ 0 → d.version < v) ds
        → ((j : ℕ) (ss : List Slip) → (clients j).phase ≡ awaiting writes ss → j ≡ 0)
        → AllByRecursion (λ d. d.end < begun c → (d.version ≤ v) × (c ≡ 0 → d.version < v) × (d.rounds ≡ 2 → r ≡ 2 → d.version < v)) ds
        → Orderly g xs f replicas (put clients c x') old (suc now) begun spent (record { client = c; begin = begun c; end = now; version = v; value = z; rounds = r; sets = spent c } ∷ ds)
    orderly_ended c x' v z r rest le fig est post sets rounds mine alone role below =
        let d : Done = record { client = c; begin = begun c; end = now; version = v; value = z; rounds = r; sets = spent c } in
        record {
          ended = (record { clock = (omega arith, h.starts c); begun = le; value = fig; stands = est; posted = post; sets = sets; rounds = rounds; first = λ e. (mine e).0 }, orderly_next.ended);
          starts = orderly_next.starts;
          running = λ j. put_case (λ j x. OpenFine g (begun j) (spent j) (old j) (d ∷ ds) x.version x.phase) clients c x' j
              (λ e. subst (OpenFine g (begun c) (spent c) (old c) (d ∷ ds) x'.version) (sym rest) tt)
              (λ e. longer d j (clients j).version (clients j).phase (h.running j) refl (λ ss q k. absurd (e (role j ss q ∙ sym k))));
          ordered = (
            ((λ q. absurd (omega (arith, h.starts c))), All-weaker _ _ (λ x p q. let u = p q in record { up = u.0; over = u.1; twice = u.2 }) ds below),
            All-weaker _ _ (λ y p. ((λ q. absurd (omega (arith, p.0.clock.0, p.0.clock.1))), p.1)) ds (all_two (EndedFine g xs f replicas now) (λ y. AllByRecursion (λ x. x.end < y.begin → Ordered x y) ds) ds h.ended h.ordered),
          );
          one_write_each = (alone, h.one_write_each);
          newest_first = (All-weaker _ (λ x. x.end < now) (λ x p. p.clock.0) ds h.ended, h.newest_first);
          earlier_ended = λ k p q. wrote_more d ds k (h.earlier_ended k p q);
          last_ended = put_case (λ j x. j ≡ 0 → x.phase ≡ idle → 1 ≤ length xs → Wrote (d ∷ ds) (length xs)) clients c x' 0 (λ e z q p. record { call = d; has = has_here d ds; writer = z; version = (mine z).1 }) (λ e z q p. wrote_more d ds (length xs) (h.last_ended q p)) refl;
        }
      where
        longer : (d : Done) (j v : ℕ) (p : Phase) → OpenFine g (begun j) (spent j) (old j) ds v p → d.end ≡ now → ((ss : List Slip) → p ≡ awaiting writes ss → d.client ≡ 0 → d.version < v) → OpenFine g (begun j) (spent j) (old j) (d ∷ ds) v p
        longer d j v idle o e z = o
        longer d j v due o e z = (o.0, ((λ q. absurd (omega (arith, h.starts j))), o.1))
        longer d j v (awaiting writes ss) o e z = (o.0, ((λ q. absurd (omega (arith, h.starts j))), o.1), (z ss refl, o.2), o.3)
        longer d j v (awaiting reads ss) o e z = (o.0, ((λ q. absurd (omega (arith, h.starts j))), o.1))
        longer d j v (awaiting tells ss) o e z = (o.0, ((λ q. absurd (omega (arith, h.starts j))), o.1))
