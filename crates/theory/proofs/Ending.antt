-- Calls come to an end: ends in `tells_calls`, the list of the ended calls is what the log says, and `all_end`, with no message waiting every call has ended or awaits its tell.
use Rattle.std.proofs.Common.{◌≡◌, ℕ, suc, true, false, eqb, ◌⊎◌, List, [], ◌∷◌, length, ℤ, sym, refl, ap, ◌∙◌, subst, inl, inr, arith}
use Rattle.std.proofs.lemmas.Bool.{cases_Bool, cases_eq, eqb-false, false≢true}
use Rattle.std.specs.List.{AllByRecursion}
use Rattle.theory.proofs.Words.{Message, listed_as, Accepted, Counted, BecameDue, Order, Write, Read, Tell, Carry, ClientOut, Entry}
use Rattle.theory.proofs.Cards.{Params, Slip}
use Rattle.theory.proofs.Model.{put, Kind, writes, reads, Phase, idle, due, awaiting, Client, State, entry, ended, Trace, opening, stirred, refused, wrote, asked, told, delivered, lost, counted, finished, decided, became, replica_gone, client_gone}
use Rattle.theory.proofs.History.{begun, done}
use Rattle.theory.proofs.Calls.{Starts, BeginsAt, NextEnd, AwaitsTell, Withdrawn, AllEnd, Tells}
use Rattle.theory.proofs.Tables.{put_case, put_two}
use Rattle.theory.proofs.Apart.{awaiting_not_due, awaiting_not_idle}
use Rattle.theory.proofs.Progress.{settles}
use Rattle.theory.proofs.Tracking.{at_below, begins_below, at_more, Open, Track, Apart, Tracked, track_quiet, apart_quiet, open_start, apart_start, the_next, track_end, apart_end, sound_more, faithful}

abbrev IsNoTell : Order → Type 0
IsNoTell (Tell c) = ⊥
IsNoTell _ = Unit {0}

tell_client : {i j : ℕ} → Tell i ≡ Tell j → i ≡ j
tell_client e = cc

module _ (g : Params) (f : ℤ) where
  -- An entry that starts no call, ends none and is no tell of a read that is due.
  tracked_quiet : (x : Entry) (log : List Entry) (clients : ℕ → Client) → ((c : ℕ) → Starts c x → ⊥) → eqb (listed_as x.answer).code 105 ≡ false → ((c : ℕ) → (clients c).phase ≡ due → ((listed_as x.answer).code ≡ 100) × (x.order ≡ Tell c) → ⊥) → begun (x ∷ log) ≡ begun log → Tracked log clients → Tracked (x ∷ log) clients
  tracked_quiet x log clients ns ne nt e t =
      record {
        each = λ c. subst (λ (s : ℕ → ℕ). Track (x ∷ log) c (s c) (clients c).phase) (sym e) (track_quiet x log c (ns c) (λ p. eqb-false _ 105 ne p.0) (begun log c) (clients c).phase (nt c) (t.each c));
        apart = λ c. apart_quiet x log c (ns c) (λ p. eqb-false _ 105 ne p.0) (t.apart c);
        sound = simp ne (sound_more x log (done log) t.sound);
      }

  -- A client moves on within its call.
  tracked_moved : (log : List Entry) (clients : ℕ → Client) (c : ℕ) (y : Client) → (Track log c (begun log c) (clients c).phase → Track log c (begun log c) y.phase) → Tracked log clients → Tracked log (put clients c y)
  tracked_moved log clients c y move t =
      record { each = λ j. put_case (λ j z. Track log j (begun log j) z.phase) clients c y j (λ e. move (t.each c)) (λ e. t.each j); apart = t.apart; sound = t.sound }

  -- A call ends.
  tracked_ended : (log : List Entry) (clients : ℕ → Client) (c v : ℕ) (z : ℤ) (n : ℕ) (ms : List Message) (y : Client) → y.phase ≡ idle → Open log c (begun log c) → Tracked log clients
      → Tracked (entry Carry (ended c v z n) ms ∷ log) (put clients c y)
  tracked_ended log clients c v z n ms y rest o t =
      let not_100 : ◌≡◌ {A = ℕ} 105 100 → ⊥ = λ e. omega arith in
      let x : Entry = entry Carry (ended c v z n) ms in
      record {
        each = λ j. put_case (λ j w. Track (x ∷ log) j (begun log j) w.phase) clients c y j
            (λ e. subst (Track (x ∷ log) c (begun log c)) (sym rest) (track_end x log c (begun log c) (refl, refl) o))
            (λ e. track_quiet x log j (λ s. s.1) (λ s. e (sym s.1)) (begun log j) (clients j).phase (λ q r. not_100 r.0) (t.each j));
        apart = λ j. elim (cases_eq j c) [
          | inl e ↦ subst (Apart (x ∷ log)) (sym e) (apart_end x log c (begun log c) (refl, refl) o (t.apart c))
          | inr e ↦ apart_quiet x log j (λ s. s.1) (λ s. e (sym s.1)) (t.apart j)
        ];
        sound = ((at_more (Starts c) x log (begun log c) o.begins, the_next x log c (begun log c) (refl, refl) o), sound_more x log (done log) t.sound);
      }

  -- A call starts.
  tracked_started : (x : Entry) (log : List Entry) (clients : ℕ → Client) (c : ℕ) (k : Kind) (y : Client) → y.phase ≡ awaiting k [] → (clients c).phase ≡ idle → Starts c x → ((j : ℕ) → (j ≡ c → ⊥) → Starts j x → ⊥) → ((j : ℕ) → x.order ≡ Tell j → ⊥)
      → begun (x ∷ log) ≡ put (begun log) c (length log) → done (x ∷ log) ≡ done log → Tracked log clients → Tracked (x ∷ log) (put clients c y)
  tracked_started x log clients c k y ph rest st only nt eb ed t =
      let free : (i : ℕ) → BeginsAt log c i → (j : ℕ) × NextEnd log c i j = subst (Track log c (begun log c)) rest (t.each c) in
      record {
        each = λ j. subst (λ (s : ℕ → ℕ). Track (x ∷ log) j (s j) (put clients c y j).phase) (sym eb)
            (put_two (λ j w s. Track (x ∷ log) j s w.phase) clients (begun log) c y (length log) j
            (λ e. subst (Track (x ∷ log) c (length log)) (sym ph) (open_start x log c st free))
            (λ e. track_quiet x log j (only j e) (λ p. no_end p.0) (begun log j) (clients j).phase (λ q r. nt j r.1) (t.each j)));
        apart = λ j. elim (cases_eq j c) [
          | inl e ↦ subst (Apart (x ∷ log)) (sym e) (apart_start x log c st free (t.apart c))
          | inr e ↦ apart_quiet x log j (only j e) (λ p. no_end p.0) (t.apart j)
        ];
        sound = subst (AllByRecursion (λ d. BeginsAt (x ∷ log) d.client d.begin × NextEnd (x ∷ log) d.client d.begin d.end)) (sym ed) (sound_more x log (done log) t.sound);
      }
    where
      no_end : (listed_as x.answer).code ≡ 105 → ⊥
      no_end p = let z : ◌≡◌ {A = ℕ} 100 105 = sym st.0 ∙ p in omega arith

  open_of : (log : List Entry) (clients : ℕ → Client) (c : ℕ) (k : Kind) (ss : List Slip) → (clients c).phase ≡ awaiting k ss → Tracked log clients → Open log c (begun log c)
  open_of log clients c k ss e t = subst (Track log c (begun log c)) e (t.each c)

  no_tell : {o : Order} {j : ℕ} → IsNoTell o → o ≡ Tell j → ⊥
  no_tell {o} {j} h e = subst IsNoTell e h

  -- Every past of the model keeps track of its calls.
  tracked : (log : List Entry) (b : State) → Trace g f log b → Tracked log b.clients
  tracked log b opening = record { each = λ c i h. absurd h.1; apart = λ c i i' h. absurd h.1; sound = tt }
  tracked log b (stirred {b = b₀} w same p) = tracked log b₀ p
  tracked log b (refused {log = log₀} o a ms q p) =
      tracked_quiet (entry o a ms) log₀ b.clients (λ c s. eqb-false _ 100 q.not_accepted s.0) q.not_ended (λ c d r. eqb-false _ 100 q.not_accepted r.0) (simp q.not_accepted) (tracked log₀ b p)
  tracked log b (wrote {log = log₀} {b = b₀} v ms present rest p) =
      tracked_started (entry (Write v) (Accepted 0) ms) log₀ b₀.clients 0 writes _ refl rest (refl, refl) (λ j ne s. ne s.1) (λ j e. no_tell tt e) refl refl (tracked log₀ b₀ p)
  tracked log b (asked {log = log₀} {b = b₀} c ms lt present rest p) =
      tracked_started (entry (Read (suc c)) (Accepted (suc c)) ms) log₀ b₀.clients (suc c) reads _ refl rest (refl, refl) (λ j ne s. ne s.1) (λ j e. no_tell tt e) refl refl (tracked log₀ b₀ p)
  tracked log b (told {log = log₀} {b = b₀} c ms lt present rest p) =
      let x = entry (Tell (suc c)) (Accepted (suc c)) ms in
      tracked_quiet x log₀ _ (λ j s. s.1) refl
      (λ j. put_case (λ j z. z.phase ≡ due → (◌≡◌ {A = ℕ} 100 100) × (Tell (suc c) ≡ Tell j) → ⊥) b₀.clients (suc c) _ j (λ e q r. awaiting_not_due q) (λ e q r. e (sym (tell_client r.1))))
      refl (tracked_moved log₀ b₀.clients (suc c) _ (λ h. (subst (Track log₀ (suc c) (begun log₀ (suc c))) rest h).0) (tracked log₀ b₀ p))
  tracked log b (delivered {log = log₀} {b = b₀} m w ms t nr inside lt p) = tracked_quiet _ log₀ b₀.clients (λ j s. s.1) refl (λ j q r. no_tell tt r.1) refl (tracked log₀ b₀ p)
  tracked log b (lost {log = log₀} {b = b₀} m w a ms q t p why) =
      tracked_quiet (entry Carry a ms) log₀ b₀.clients (λ j s. s.1) q.not_ended (λ j d r. no_tell tt r.1) (simp q.not_accepted) (tracked log₀ b₀ p)
  tracked log b (counted {log = log₀} {b = b₀} m w k ss ms t present n sh p) =
      let x = entry Carry (Counted m.client) ms in
      tracked_moved (x ∷ log₀) b₀.clients m.client _ (λ h. subst (Track (x ∷ log₀) m.client (begun log₀ m.client)) n.awaited h) (tracked_quiet x log₀ b₀.clients (λ j s. s.1) refl (λ j q r. no_tell tt r.1) refl (tracked log₀ b₀ p))
  tracked log b (finished {log = log₀} {b = b₀} m w k ss r ms t present n why p) =
      let u = tracked log₀ b₀ p in tracked_ended log₀ b₀.clients m.client _ _ r ms _ refl (open_of log₀ b₀.clients m.client k ss n.awaited u) u
  tracked log b (decided {log = log₀} {b = b₀} m w ss y shown z ms t present n full le rest d how p) =
      let u = tracked log₀ b₀ p in tracked_ended log₀ b₀.clients m.client shown z 1 ms y rest (open_of log₀ b₀.clients m.client reads ss n.awaited u) u
  tracked log b (became {log = log₀} {b = b₀} m w ss y shown ms t present n full le rest d p) =
      let x = entry Carry (BecameDue m.client) ms in
      let o = open_of log₀ b₀.clients m.client reads ss n.awaited (tracked log₀ b₀ p) in
      tracked_moved (x ∷ log₀) b₀.clients m.client y
      (λ h. subst (Track (x ∷ log₀) m.client (begun log₀ m.client)) (sym rest) (
        subst (Track (x ∷ log₀) m.client (begun log₀ m.client)) n.awaited h,
        record { since = length log₀; after = begins_below log₀ m.client _ o.begins; due = (x, inl (refl, refl), refl, refl); untold = λ n lt q. absurd (omega (arith, at_below (x ∷ log₀) n q.0 q.1)) },
      ))
      (tracked_quiet x log₀ b₀.clients (λ j s. s.1) refl (λ j q r. no_tell tt r.1) refl (tracked log₀ b₀ p))
  tracked log b (replica_gone {log = log₀} {b = b₀} i ms lt ni few p) = tracked_quiet _ log₀ b₀.clients (λ j s. s.1) refl (λ j q r. no_tell tt r.1) refl (tracked log₀ b₀ p)
  tracked log b (client_gone {log = log₀} {b = b₀} c ms p) = tracked_quiet _ log₀ b₀.clients (λ j s. s.1) refl (λ j q r. no_tell tt r.1) refl (tracked log₀ b₀ p)

-- The list of the ended calls is what the log says.
pub tells_calls : Tells
tells_calls g fit f log b p = faithful log b.clients (tracked g f log b p)

-- ---- with no message waiting

withdrawn_more : (x : Entry) (log : List Entry) (c : ℕ) → Withdrawn log c → Withdrawn (x ∷ log) c
withdrawn_more x log c h = (h.0, (h.1.0, inr h.1.1, h.1.2, h.1.3))

-- A client that is out was withdrawn.
out_is_told : (g : Params) (f : ℤ) (log : List Entry) (b : State) → Trace g f log b → (c : ℕ) → b.client_out c ≡ true → Withdrawn log c
out_is_told g f log b opening c h = absurd (false≢true h)
out_is_told g f log b (stirred {b = b₀} w same p) c h = out_is_told g f log b₀ p c h
out_is_told g f log b (refused {log = log₀} o a ms q p) c h = withdrawn_more _ log₀ c (out_is_told g f log₀ b p c h)
out_is_told g f log b (wrote {log = log₀} {b = b₀} v ms present rest p) c h = withdrawn_more _ log₀ c (out_is_told g f log₀ b₀ p c h)
out_is_told g f log b (asked {log = log₀} {b = b₀} d ms lt present rest p) c h = withdrawn_more _ log₀ c (out_is_told g f log₀ b₀ p c h)
out_is_told g f log b (told {log = log₀} {b = b₀} d ms lt present rest p) c h = withdrawn_more _ log₀ c (out_is_told g f log₀ b₀ p c h)
out_is_told g f log b (delivered {log = log₀} {b = b₀} m w ms t nr inside lt p) c h = withdrawn_more _ log₀ c (out_is_told g f log₀ b₀ p c h)
out_is_told g f log b (lost {log = log₀} {b = b₀} m w a ms q t p why) c h = withdrawn_more _ log₀ c (out_is_told g f log₀ b₀ p c h)
out_is_told g f log b (counted {log = log₀} {b = b₀} m w k ss ms t present n sh p) c h = withdrawn_more _ log₀ c (out_is_told g f log₀ b₀ p c h)
out_is_told g f log b (finished {log = log₀} {b = b₀} m w k ss r ms t present n why p) c h = withdrawn_more _ log₀ c (out_is_told g f log₀ b₀ p c h)
out_is_told g f log b (decided {log = log₀} {b = b₀} m w ss y shown z ms t present n full le rest d how p) c h = withdrawn_more _ log₀ c (out_is_told g f log₀ b₀ p c h)
out_is_told g f log b (became {log = log₀} {b = b₀} m w ss y shown ms t present n full le rest d p) c h = withdrawn_more _ log₀ c (out_is_told g f log₀ b₀ p c h)
out_is_told g f log b (replica_gone {log = log₀} {b = b₀} i ms lt ni few p) c h = withdrawn_more _ log₀ c (out_is_told g f log₀ b₀ p c h)
out_is_told g f log b (client_gone {log = log₀} {b = b₀} d ms p) c h =
    elim (cases_eq c d) [
      | inl e ↦ (length log₀, (_, inl (refl, refl), refl, ap ClientOut (sym e)))
      | inr e ↦ withdrawn_more _ log₀ c (out_is_told g f log₀ b₀ p c (put_case (λ j t. t ≡ true → b₀.client_out j ≡ true) b₀.client_out d true c (λ q. absurd (e q)) (λ q r. r) h))
    ]

-- With no message waiting every call of a client that was not withdrawn has ended, or awaits its tell.
pub all_end : AllEnd
all_end g fit f log b p none c i h stayed =
    go (b.clients c).phase ((tracked g f log b p).each c) (settles g fit f log b p none c present)
  where
    present : b.client_out c ≡ false
    present = elim (cases_Bool (b.client_out c)) [ inl e ↦ absurd (stayed (out_is_told g f log b p c e)) | inr e ↦ e ]

    go : (q : Phase) → Track log c (begun log c) q → (q ≡ idle) ⊎ (q ≡ due) → ((j : ℕ) × NextEnd log c i j) ⊎ AwaitsTell log c i
    go idle t r = inl (t i h)
    go due t r = elim (t.0.others i h) [ inl e ↦ inr (subst (AwaitsTell log c) (sym e) t.1) | inr e ↦ inl (e.0, e.1) ]
    go (awaiting k ss) t (inl e) = absurd (awaiting_not_idle e)
    go (awaiting k ss) t (inr e) = absurd (awaiting_not_due e)
