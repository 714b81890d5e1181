-- A reply at its client: lost, ignored, counted, or completing its round, as in the model. It ends in `client_reaches`.
use Rattle.std.proofs.Common.{◌≡◌, ℕ, suc, ◌+◌, ◌-◌, ◌*◌, ◌<◌, ◌≤◌, true, false, cond, ◌&&◌, eqb, leb, ltb, ◌⊎◌, List, [], ◌∷◌, ◌++◌, map, length, take, Option, sym, refl, ap, ◌∙◌, subst, inl, inr, arith}
use Rattle.std.specs.Option.{option_to_list}
use Rattle.std.specs.List.Sorted.{IsPermutation}
use Rattle.std.proofs.lemmas.List.{set-get_or, length-reverse, length-map}
use Rattle.std.proofs.lemmas.Bool.{cases_Bool, eqb-true, eq-eqb, leb-true, lt-leb, lt-ltb, and_parts, and_from, and_right, both_ways, cond-true, cond-false}
use Rattle.theory.proofs.Words.{clients_max, rounds_max, Message, Carry, Answer, Ignored, Counted, BecameDue, Reading, Highest, Previous, reading_of, with_reading, Checked, Phase, Idle, Writing, Asking, Due, Telling, Client, Register, client_at, with_client, blank_client, is_request, is_stray, is_lost, handled, handled_answer, handled_reply, World, Entry}
use Rattle.quorum.specs.declared.decide.Verdict.{Verdict}
use Rattle.quorum.specs.declared.decide.Verdict.TheVariants.{Due as Delayed}
use Rattle.client.specs.Client.{in_phase}
use Rattle.client.specs.Hear.{awaited, uncounted, joined, counts, is_complete, heard, heard_answer, completed, completion, completed_in, completion_in, ended_as, shown_by, phase_by, knowing}
use Rattle.theory.proofs.Sets.{Lacks}
use Rattle.theory.proofs.Cards.{Slip, replicas_of, highest, Decision}
use Rattle.theory.proofs.Model as model
use Rattle.theory.proofs.Model.{entry}
use Rattle.theory.proofs.Matching.{params_of, msg_of, kind_of, PhasesMatch, RoundsLeft, ClientMatches, ClientsMatch, RegisterMatches}
use Rattle.theory.proofs.MatchTables.{same_self}
use Rattle.theory.proofs.MatchReached.{Reached, reached_with}
use Rattle.theory.proofs.MatchCalls.{register_client, three_fit}
use Rattle.theory.proofs.MatchCarried.{Taken, not_stray, case_client, nothing_reaches, lost_reaches}
use Rattle.theory.proofs.MatchCounting.{receipts_counted, readings_counted, ReceiptsCounted, ReadingsCounted}
use Rattle.theory.proofs.MatchPhases.{Progress, phase_counts, counts_if}
use Rattle.theory.proofs.MatchDeciding.{Judged, VerdictFits, judgement, AllJudged}

-- ---- a client that changes

module _ (k : Checked) (log : List Entry) (w : World) (r : Register) (m : Message) (rest : List Message) (ms : List Message) (g : Taken k log r m rest) (from : 4 ≤ m.kind) (waiting : IsPermutation w.waiting rest) where
  abbrev b : model.State
  b = g.state

  abbrev x : Client
  x = client_at r m.client

  abbrev y : model.Client
  y = g.state.clients m.client

  low : m.client < clients_max
  low = omega (arith, g.proper.client, k.read.1)

  matched : ClientMatches k x y
  matched = g.matches.clients.each m.client low

  is_reply : ltb 3 m.kind ≡ true
  is_reply = lt-ltb 3 m.kind from

  changed : (a : Answer) (x' : Client) (y' : model.Client) → x'.out ≡ x.out → ClientMatches k x' y' → w.register ≡ with_client r m.client x'
      → model.Trace (params_of k) k.initial (entry Carry a ms ∷ log) (model.sets b m.client y' (map msg_of rest)) → Reached k (entry Carry a ms ∷ log) w
  changed a x' y' o h re t =
      reached_with k (entry Carry a ms ∷ log) w (with_client r m.client x') rest (model.sets b m.client y' (map msg_of rest)) t re
      (register_client k r b m.client x' y' (map msg_of rest) low g.matches o h) waiting (same_self (map msg_of rest)) g.others

  module _ (present : b.client_out m.client ≡ false) (round : m.round ≡ x.round) where
    counting : (kd : model.Kind) (ss : List Slip) → kind_of m.kind ≡ kd → y.phase ≡ model.awaiting kd ss → Lacks m.replica (replicas_of ss) → model.Counting b (msg_of m) kd ss
    counting kd ss e h l = record { replies = is_reply; kind = e; awaited = h; round = round ∙ matched.round; fresh = l }

    -- ---- counted, and the round goes on
    goes_on : (a : Answer) → Progress k x.phase y.phase m → is_complete k (joined x.phase m) ≡ false → a ≡ Counted m.client → w.register ≡ with_client r m.client (in_phase x (joined x.phase m)) → Reached k (entry Carry a ms ∷ log) w
    goes_on a u e an re =
        let n = u.next e in
        subst (λ z. Reached k (entry Carry z ms ∷ log) w) (sym an)
        (changed (Counted m.client) (in_phase x (joined x.phase m)) (model.phased y (model.awaiting u.kind (model.slip (msg_of m) ∷ u.slips))) refl
        (record { round = matched.round; version = matched.version; value = matched.value; previous = matched.previous; phase = n.0; left = left_joined x.phase x.round matched.left }) re
        (model.counted (msg_of m) (map msg_of rest) u.kind u.slips ms g.takes present (counting u.kind u.slips u.sort u.awaits u.fresh) n.1 g.trace))
      where
        left_joined : (p : Phase) (n : ℕ) → RoundsLeft p n → RoundsLeft (joined p m) n
        left_joined Idle n l = l
        left_joined (Writing rs) n l = l
        left_joined (Asking rs) n l = l
        left_joined Due n l = l
        left_joined (Telling rs) n l = l

    -- ---- a write or a tell that is complete
    ends : (kd : model.Kind) (ss : List Slip) (n : ℕ) (a : Answer) → model.Counting b (msg_of m) kd ss → ((kd ≡ model.writes) × (k.replicas ≡ length (model.slip (msg_of m) ∷ ss) + k.tolerated) × (n ≡ 1)) ⊎ ((kd ≡ model.tells) × (2 * k.tolerated + 1 ≡ length (model.slip (msg_of m) ∷ ss)) × (n ≡ 2))
        → x.round ≤ rounds_max + 1 → a ≡ ended_as m.client x.version x.value n → w.register ≡ with_client r m.client (in_phase x Idle) → Reached k (entry Carry a ms ∷ log) w
    ends kd ss n a cu why l an re =
        let version : x.version ≡ y.version = matched.version in
        let value : x.value ≡ y.value = matched.value in
        let alike : ended_as m.client x.version x.value n ≡ model.ended m.client y.version y.value n = cc in
        subst (λ z. Reached k (entry Carry z ms ∷ log) w) (sym (an ∙ alike))
        (changed (model.ended m.client y.version y.value n) (in_phase x Idle) (model.phased y model.idle) refl
        (record { round = matched.round; version = version; value = value; previous = matched.previous; phase = refl; left = l }) re
        (model.finished (msg_of m) (map msg_of rest) kd ss n ms g.takes present cu why g.trace))

    -- ---- a first round that is complete
    module _ (ss : List Slip) (xs : List Reading) (cu : model.Counting b (msg_of m) model.reads ss) (total : k.replicas ≡ length (model.slip (msg_of m) ∷ ss) + k.tolerated) (few : x.round ≤ rounds_max) (j : Judged k xs (model.slip (msg_of m) ∷ ss)) where
      -- the client as it knows what was decided
      abbrev learnt : model.Phase → model.Client
      learnt q = record { round = y.round; version = (judgement k xs).version; value = (judgement k xs).value; previous = (judgement k xs).previous; phase = q }

      learns : (q : model.Phase) → model.Learnt (model.slip (msg_of m) ∷ ss) y (learnt q)
      learns q =
          record { round = refl; version = j.version; best = j.best; has = j.has; top = j.top; value = j.value; previous = j.previous }

      judged : (v : Verdict) (a : Answer) → VerdictFits (params_of k) (model.slip (msg_of m) ∷ ss) v → a ≡ shown_by v m.client (judgement k xs) → w.register ≡ with_client r m.client (knowing x (judgement k xs) (phase_by v)) → Reached k (entry Carry a ms ∷ log) w
      judged Highest a fits an re =
          subst (λ z. Reached k (entry Carry z ms ∷ log) w) (sym an)
          (changed (ended_as m.client (judgement k xs).version (judgement k xs).value 1) (knowing x (judgement k xs) Idle) (learnt model.idle) refl
          (record { round = matched.round; version = refl; value = refl; previous = refl; phase = refl; left = omega arith }) re
          (model.decided (msg_of m) (map msg_of rest) ss (learnt model.idle) (judgement k xs).version (judgement k xs).value ms g.takes present cu total (learns model.idle) refl
          (subst (λ n. Decision (params_of k) (model.slip (msg_of m) ∷ ss) n false) (sym j.version) fits) (inl (refl, refl)) g.trace))
      judged Delayed a fits an re =
          subst (λ z. Reached k (entry Carry z ms ∷ log) w) (sym an)
          (changed (BecameDue m.client) (knowing x (judgement k xs) Due) (learnt model.due) refl
          (record { round = matched.round; version = refl; value = refl; previous = refl; phase = refl; left = few }) re
          (model.became (msg_of m) (map msg_of rest) ss (learnt model.due) (highest (model.slip (msg_of m) ∷ ss)) ms g.takes present cu total (learns model.due) refl fits g.trace))
      judged Previous a fits an re =
          let version : (judgement k xs).version ≡ highest (model.slip (msg_of m) ∷ ss) = j.version in
          let some : 0 < highest (model.slip (msg_of m) ∷ ss) = fits.0 in
          let back : suc ((judgement k xs).version - 1) ≡ (judgement k xs).version = omega arith in
          subst (λ z. Reached k (entry Carry z ms ∷ log) w) (sym an)
          (changed (ended_as m.client ((judgement k xs).version - 1) (judgement k xs).previous 1) (knowing x (judgement k xs) Idle) (learnt model.idle) refl
          (record { round = matched.round; version = refl; value = refl; previous = refl; phase = refl; left = omega arith }) re
          (model.decided (msg_of m) (map msg_of rest) ss (learnt model.idle) ((judgement k xs).version - 1) (judgement k xs).previous ms g.takes present cu total (learns model.idle) refl
          (subst (λ n. Decision (params_of k) (model.slip (msg_of m) ∷ ss) (n - 1) false) (sym version) fits.1) (inr (back, refl)) g.trace))

    -- ---- any round that is complete
    ends_round : AllJudged → (p : Phase) (a : Answer) → PhasesMatch k p y.phase → RoundsLeft p x.round → eqb m.kind (awaited p) ≡ true → uncounted p m ≡ true → is_complete k (joined p m) ≡ true
        → a ≡ completion_in k m.client (in_phase x (joined p m)) (joined p m) → w.register ≡ with_client r m.client (completed_in k (in_phase x (joined p m)) (joined p m)) → Reached k (entry Carry a ms ∷ log) w
    ends_round judge Idle a h l e u c an re = grind arith
    ends_round judge Due a h l e u c an re = grind arith
    ends_round judge (Writing rs) a h l e u c an re =
        let t : ReceiptsCounted (k.replicas - k.tolerated) rs h.0 m = receipts_counted (k.replicas - k.tolerated) rs h.0 m h.2 u in
        ends model.writes h.0 1 a (counting model.writes h.0 (ap kind_of (eqb-true m.kind 4 e)) h.1 t.fresh)
        (inl (refl, omega (arith, three_fit k, t.total, h.2.short, h.2.got, leb-true _ _ c), refl)) l an re
    ends_round judge (Telling rs) a h l e u c an re =
        let t : ReceiptsCounted (2 * k.tolerated + 1) rs h.0 m = receipts_counted (2 * k.tolerated + 1) rs h.0 m h.2 u in
        ends model.tells h.0 2 a (counting model.tells h.0 (ap kind_of (eqb-true m.kind 6 e)) h.1 t.fresh)
        (inr (refl, omega (arith, t.total, h.2.short, h.2.got, leb-true _ _ c), refl)) l an re
    ends_round judge (Asking rs) a h l e u c an re =
        let t : ReadingsCounted (k.replicas - k.tolerated) rs h.0 m = readings_counted (k.replicas - k.tolerated) rs h.0 m g.proper.byte h.2 u in
        let xs : List Reading = take (with_reading rs (reading_of m)).got (with_reading rs (reading_of m)).slips in
        let many : suc (length h.0) ≡ length xs = simp (length-reverse, length-map) at (ap length t.counted.same) in
        let j : Judged k xs (model.slip (msg_of m) ∷ h.0) = judge k xs (model.slip (msg_of m) ∷ h.0) t.counted (omega arith) in
        judged h.0 xs (counting model.reads h.0 (ap kind_of (eqb-true m.kind 5 e)) h.1 t.fresh) (omega (arith, three_fit k, t.total, h.2.short, h.2.got, leb-true _ _ c)) l j
        (judgement k xs).verdict a j.verdict an re

-- ---- every way of a reply

module _ (judge : AllJudged) (k : Checked) (log : List Entry) (w : World) (r : Register) (m : Message) (rest : List Message) (a : Answer) (ms : List Message) (g : Taken k log r m rest)
    (answer : a ≡ handled_answer r m) (register : w.register ≡ handled r m) (sent : ms ≡ option_to_list (handled_reply r m)) (waiting : IsPermutation w.waiting (ms ++ rest)) (from : 4 ≤ m.kind) where
  abbrev s : model.State
  s = g.state

  abbrev z : Client
  z = client_at r m.client

  known : is_stray r m ≡ false
  known = not_stray k r m g.matches.settings g.proper

  reply : is_request m.kind ≡ false
  reply = and_right (leb 1 m.kind) _ (lt-leb m.kind 3 from)

  place : m.client < clients_max
  place = omega (arith, g.proper.client, k.read.1)

  out_is : is_lost r m ≡ s.client_out m.client
  out_is = cond-false (is_request m.kind) _ _ reply ∙ g.matches.clients.out m.client place

  lost_there : is_lost r m ≡ true → Reached k (entry Carry a ms ∷ log) w
  lost_there e = lost_reaches k log w r m rest a ms g answer register sent waiting e (inr (lt-ltb 3 m.kind from, inl (sym out_is ∙ e)))

  module _ (there : is_lost r m ≡ false) where
    left : IsPermutation w.waiting rest
    left =
        let se : ms ≡ [] = sent ∙ ap option_to_list (case_client {A = Option Message} r m _ _ _ _ known there reply) in
        subst (λ q. IsPermutation w.waiting (q ++ rest)) se waiting

    answer_is : a ≡ heard_answer k z m
    answer_is = answer ∙ case_client r m _ _ _ _ known there reply ∙ ap (λ c. heard_answer c z m) g.matches.settings

    register_is : w.register ≡ with_client r m.client (heard k z m)
    register_is = register ∙ case_client r m _ _ _ _ known there reply ∙ ap (λ c. with_client r m.client (heard c z m)) g.matches.settings

    ignored_there : counts z m ≡ false → Reached k (entry Carry a ms ∷ log) w
    ignored_there e =
        let an : a ≡ Ignored m.client = answer_is ∙ cond-false (counts z m) _ _ e in
        let re : w.register ≡ with_client r m.client z = register_is ∙ ap (with_client r m.client) (cond-false (counts z m) _ _ e) in
        subst (λ q. Reached k (entry Carry q ms ∷ log) w) (sym an)
        (nothing_reaches k log w r m rest (Ignored m.client) ms g (record { not_accepted = refl; not_ended = refl; not_due = refl })
        (inr (lt-ltb 3 m.kind from, inr none)) (subst (λ q. RegisterMatches k q s) (sym re) same) left)
      where
        h : ClientMatches k z (s.clients m.client)
        h = g.matches.clients.each m.client place

        none : (kd : model.Kind) (ss : List Slip) → model.Counting s (msg_of m) kd ss → ⊥
        none kd ss c =
            let p = counts_if k z.phase (s.clients m.client).phase m kd ss from g.proper.high h.phase c.awaited c.kind c.fresh in
            both_ways (counts z m) e
            (and_from (eqb m.round z.round) _ (eq-eqb m.round z.round (c.round ∙ sym h.round)) (and_from (eqb m.kind (awaited z.phase)) _ p.0 p.1))

        same : RegisterMatches k (with_client r m.client z) s
        same = record { settings = g.matches.settings; rows = g.matches.rows; outs = g.matches.outs; clients = subst (λ q. ClientsMatch k q s.clients s.client_out) (sym (set-get_or r.clients m.client blank_client)) g.matches.clients }

    counted_there : counts z m ≡ true → Reached k (entry Carry a ms ∷ log) w
    counted_there e =
        let p = and_parts (eqb m.round z.round) (eqb m.kind (awaited z.phase) && uncounted z.phase m) e in
        let q = and_parts (eqb m.kind (awaited z.phase)) (uncounted z.phase m) p.1 in
        let round : m.round ≡ z.round = eqb-true m.round z.round p.0 in
        let present : s.client_out m.client ≡ false = sym out_is ∙ there in
        let h : ClientMatches k z (s.clients m.client) = g.matches.clients.each m.client place in
        let d : Client = in_phase z (joined z.phase m) in
        let an : a ≡ cond (is_complete k (joined z.phase m)) (completion k m.client d) (Counted m.client) = answer_is ∙ cond-true (counts z m) _ _ e in
        let re : w.register ≡ with_client r m.client (cond (is_complete k (joined z.phase m)) (completed k d) d) = register_is ∙ ap (with_client r m.client) (cond-true (counts z m) _ _ e) in
        elim (cases_Bool (is_complete k (joined z.phase m))) [
          | inl f ↦
              ends_round k log w r m rest ms g from left present round judge z.phase a h.phase h.left q.0 q.1 f
              (an ∙ cond-true (is_complete k (joined z.phase m)) _ _ f)
              (re ∙ ap (with_client r m.client) (cond-true (is_complete k (joined z.phase m)) _ _ f))
          | inr f ↦
              goes_on k log w r m rest ms g from left present round a
              (phase_counts k z.phase (s.clients m.client).phase m g.proper.byte h.phase q.0 q.1) f
              (an ∙ cond-false (is_complete k (joined z.phase m)) _ _ f)
              (re ∙ ap (with_client r m.client) (cond-false (is_complete k (joined z.phase m)) _ _ f))
        ]

  pub client_reaches : Reached k (entry Carry a ms ∷ log) w
  client_reaches =
      elim (cases_Bool (is_lost r m)) [
        | inl e ↦ lost_there e
        | inr e ↦ elim (cases_Bool (counts z m)) [ inl f ↦ counted_there e f | inr f ↦ ignored_there e f ]
      ]
