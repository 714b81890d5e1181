-- The nth accepted write has version n: ends in `numbered`.
use Rattle.std.proofs.Common.{◌≡◌, ℕ, suc, List, ◌∷◌, length, ℤ, sym, refl, ap, ◌∙◌, subst, inl, inr, arith}
use Rattle.std.specs.List.{AllByRecursion}
use Rattle.theory.proofs.Words.{Message, Accepted, Write, Carry, Entry}
use Rattle.theory.proofs.Lists.{All-weaker}
use Rattle.theory.proofs.Cards.{Params, Fit, Slip}
use Rattle.theory.proofs.Model.{put, Kind, reads, Msg, idle, Client, State, Takes, entry, Counting, ended, Trace, opening, stirred, refused, wrote, asked, told, delivered, lost, counted, finished, decided, became, replica_gone, client_gone}
use Rattle.theory.proofs.History.{Done, values, begun, done}
use Rattle.theory.proofs.Calls.{WriteNo, Numbered}
use Rattle.theory.proofs.Tables.{put_case}
use Rattle.theory.proofs.Apart.{reads_not_writes, awaiting_not_idle}
use Rattle.theory.proofs.SafeSteps.{gathered_more}
use Rattle.theory.proofs.Invariant.{invariant}

abbrev EndedNo : List Entry → Done → Type 0
EndedNo log d = d.client ≡ 0 → WriteNo log d.begin d.version

-- what every past keeps of the numbers of its writes: those ended, and that under way
record Numbers (log : List Entry) (clients : ℕ → Client) : Type 0 where
  ended : AllByRecursion (EndedNo log) (done log)
  running : ((clients 0).phase ≡ idle → ⊥) → WriteNo log (begun log 0) (clients 0).version

ended_more : (x : Entry) (log : List Entry) (ds : List Done) → AllByRecursion (EndedNo log) ds → AllByRecursion (EndedNo (x ∷ log)) ds
ended_more x log ds h = All-weaker _ _ (λ d p e. inr (p e)) ds h

-- An entry that starts no write and ends no call.
module _ (x : Entry) (log : List Entry) (clients : ℕ → Client) (h : Numbers log clients) where
  numbers_quiet : done (x ∷ log) ≡ done log → begun (x ∷ log) 0 ≡ begun log 0 → Numbers (x ∷ log) clients
  numbers_quiet ed eb =
      record {
        ended = subst (AllByRecursion (EndedNo (x ∷ log))) (sym ed) (ended_more x log (done log) h.ended);
        running = λ q. inr (subst (λ n. WriteNo log n (clients 0).version) (sym eb) (h.running q));
      }

-- A client changes; if it is the writer, it goes on with its write.
numbers_set : (log : List Entry) (clients : ℕ → Client) (c : ℕ) (y : Client) → (c ≡ 0 → (y.phase ≡ idle → ⊥) → ((clients 0).phase ≡ idle → ⊥) × ((clients 0).version ≡ y.version)) → Numbers log clients → Numbers log (put clients c y)
numbers_set log clients c y same h =
    record {
      ended = h.ended;
      running = put_case (λ j z. j ≡ 0 → (z.phase ≡ idle → ⊥) → WriteNo log (begun log 0) z.version) clients c y 0
          (λ e z q. let r = same z q in subst (WriteNo log (begun log 0)) r.1 (h.running r.0)) (λ e z q. h.running q) refl;
    }

-- A call ends.
numbers_ended : (log : List Entry) (clients : ℕ → Client) (c v : ℕ) (z : ℤ) (n : ℕ) (ms : List Message) (y : Client) → y.phase ≡ idle → (c ≡ 0 → (v ≡ (clients 0).version) × ((clients 0).phase ≡ idle → ⊥)) → Numbers log clients → Numbers (entry Carry (ended c v z n) ms ∷ log) (put clients c y)
numbers_ended log clients c v z n ms y rest mine h =
    let x : Entry = entry Carry (ended c v z n) ms in
    record {
      ended = ((λ e. inr (subst (λ k. WriteNo log k v) (ap (begun log) (sym e)) (subst (WriteNo log (begun log 0)) (sym (mine e).0) (h.running (mine e).1)))), ended_more x log (done log) h.ended);
      running = put_case (λ j w. (w.phase ≡ idle → ⊥) → WriteNo (x ∷ log) (begun log 0) w.version) clients c y 0 (λ e q. absurd (q rest)) (λ e q. inr (h.running q));
    }

module _ (g : Params) (fit : Fit g) (f : ℤ) where
  -- Who counts replies to a read is a reader.
  reader_reads : (log : List Entry) (b : State) (m : Msg) (w : List Msg) (ss : List Slip) → Takes m b.waiting w → Counting b m reads ss → Trace g f log b → m.client ≡ 0 → ⊥
  reader_reads log b m w ss t n p e =
      let u = invariant g fit f log b p in
      reads_not_writes ((gathered_more g (values log) f b u.snapshot m w reads ss t n u.safe).role.1 e)

  busy : (b : State) (m : Msg) (k : Kind) (ss : List Slip) → Counting b m k ss → m.client ≡ 0 → (b.clients 0).phase ≡ idle → ⊥
  busy b m k ss n e q = awaiting_not_idle (sym n.awaited ∙ ap (λ c. (b.clients c).phase) e ∙ q)

  -- Every past of the model numbers its writes.
  numbers : (log : List Entry) (b : State) → Trace g f log b → Numbers log b.clients
  numbers log b opening = record { ended = tt; running = λ q. absurd (q refl) }
  numbers log b (stirred {b = b₀} w same p) = numbers log b₀ p
  numbers log b (refused {log = log₀} o a ms q p) =
      numbers_quiet (entry o a ms) log₀ b.clients (numbers log₀ b p) (simp q.not_ended) (simp q.not_accepted)
  numbers log b (wrote {log = log₀} {b = b₀} v ms present rest p) =
      let u = invariant g fit f log₀ b₀ p in
      record { ended = ended_more (entry (Write v) (Accepted 0) ms) log₀ (done log₀) (numbers log₀ b₀ p).ended; running = λ q. inl (refl, (refl, refl), ap suc ((u.safe.clients 0).writer refl).1) }
  numbers log b (asked {log = log₀} {b = b₀} c ms lt present rest p) =
      numbers_set _ b₀.clients (suc c) _ (λ e. absurd (omega arith))
      (numbers_quiet _ log₀ b₀.clients (numbers log₀ b₀ p) refl (put_case (λ j n. j ≡ 0 → n ≡ begun log₀ 0) (begun log₀) (suc c) (length log₀) 0 (λ e. absurd (omega arith)) (λ e z. refl) refl))
  numbers log b (told {log = log₀} {b = b₀} c ms lt present rest p) = numbers_set _ b₀.clients (suc c) _ (λ e. absurd (omega arith)) (numbers_quiet _ log₀ b₀.clients (numbers log₀ b₀ p) refl refl)
  numbers log b (delivered {log = log₀} {b = b₀} m w ms t nr inside lt p) = numbers_quiet _ log₀ b₀.clients (numbers log₀ b₀ p) refl refl
  numbers log b (lost {log = log₀} {b = b₀} m w a ms q t p why) =
      numbers_quiet (entry Carry a ms) log₀ b₀.clients (numbers log₀ b₀ p) (simp q.not_ended) (simp q.not_accepted)
  numbers log b (counted {log = log₀} {b = b₀} m w k ss ms t present n sh p) =
      numbers_set _ b₀.clients m.client _ (λ e q. (busy b₀ m k ss n e, ap (λ c. (b₀.clients c).version) (sym e))) (numbers_quiet _ log₀ b₀.clients (numbers log₀ b₀ p) refl refl)
  numbers log b (finished {log = log₀} {b = b₀} m w k ss r ms t present n why p) =
      numbers_ended log₀ b₀.clients m.client _ _ r ms _ refl (λ e. (ap (λ c. (b₀.clients c).version) e, busy b₀ m k ss n e)) (numbers log₀ b₀ p)
  numbers log b (decided {log = log₀} {b = b₀} m w ss y shown z ms t present n full le rest d how p) =
      numbers_ended log₀ b₀.clients m.client shown z 1 ms y rest (λ e. absurd (reader_reads log₀ b₀ m w ss t n p e)) (numbers log₀ b₀ p)
  numbers log b (became {log = log₀} {b = b₀} m w ss y shown ms t present n full le rest d p) =
      numbers_set _ b₀.clients m.client y (λ e. absurd (reader_reads log₀ b₀ m w ss t n p e)) (numbers_quiet _ log₀ b₀.clients (numbers log₀ b₀ p) refl refl)
  numbers log b (replica_gone {log = log₀} {b = b₀} i ms lt ni few p) = numbers_quiet _ log₀ b₀.clients (numbers log₀ b₀ p) refl refl
  numbers log b (client_gone {log = log₀} {b = b₀} c ms p) = numbers_quiet _ log₀ b₀.clients (numbers log₀ b₀ p) refl refl

-- The nth accepted write has version n.
pub numbered : Numbered
numbered g fit f log b p = (numbers g fit f log b p).ended
