-- A message at its replica: lost, stale, or taken and replied to, as in the model. It ends in `replica_reaches`.
use Rattle.std.proofs.Common.{◌≡◌, ℕ, ◌+◌, ◌<◌, ◌≤◌, min, max, true, false, not, cond, ◌||◌, eqb, ltb, leb, ◌⊎◌, List, [], ◌∷◌, ◌++◌, map, get_or, set, Some, None, Option, sym, refl, ap, ◌∙◌, subst, inl, inr, arith}
use lib.Bits.{bit_or, or_lt}
use Rattle.std.specs.Option.{option_to_list}
use Rattle.std.specs.List.Sorted.{IsPermutation}
use Rattle.std.proofs.lemmas.List.{length-set, set-get_or}
use Rattle.std.proofs.lemmas.Bool.Decides.{nat_tests}
use Rattle.std.proofs.lemmas.Bool.{cases_Bool, ltb-true, ltb-false, leb-true, leb-false, le-ltb, lt-ltb, lt-leb, le-leb, or_from, or_right, and_from, cond_both, cond-true, cond-false}
use Rattle.theory.proofs.Words.{clients_max, replicas_max, Message, Carry, Answer, Replied, Ignored, Row, record_of, delivered, delivered_reply, Checked, Register, row_at, with_row, blank_row, is_request, is_stray, is_lost, handled, handled_answer, handled_reply, replied_or, World, Entry}
use Rattle.replica.specs.Replica.{misdirected, is_stale, is_news, fresh, reply_from}
use Rattle.theory.proofs.Cards.{Card}
use Rattle.theory.proofs.Model as model
use Rattle.theory.proofs.Model.{entry, put, Msg, Same, taken, noting, after}
use Rattle.theory.proofs.Matching.{msg_of, kind_of, row_card, message_card, Proper, RowMatches, RegisterMatches}
use Rattle.theory.proofs.MatchTables.{each_set, each_set_two, same_self}
use Rattle.theory.proofs.MatchReached.{Reached, reached_with}
use Rattle.theory.proofs.MatchCarried.{Taken, not_stray, case_replica, nothing_reaches, lost_reaches}

-- ---- one row and a fresh message

-- the record of a sound row is the row
record_is_row : (r : Row) → r.note ≤ r.version → record_of r ≡ r
record_is_row r h =
    let e : min r.note r.version ≡ r.note = omega arith in
    ap (λ (n : ℕ). record r { note = n }) e

-- a card as a fresh message leaves it, but for the note
abbrev fresh_card : Row → Message → ℕ → Card
fresh_card r m n =
    record {
      version = max r.version m.version;
      value = cond (is_news r m) m.value r.value;
      previous = cond (is_news r m) m.previous r.previous;
      marks = cond (is_news r m) m.marks (bit_or r.marks m.marks);
      note = n;
    }

taken_is_fresh : (r : Row) (m : Message) → taken (row_card r) (message_card m) ≡ fresh_card r m r.note
taken_is_fresh r m =
    elim (cases_Bool (is_news r m)) [
      | inl e ↦
          let v : max r.version m.version ≡ m.version = omega (arith, ltb-true r.version m.version e) in
          simp (e, v)
      | inr e ↦
          let v : max r.version m.version ≡ r.version = omega (arith, ltb-false r.version m.version e) in
          simp (e, v)
    ]

-- the kinds of messages to replicas
kinds_to_replicas : (n : ℕ) → 1 ≤ n → n ≤ 3 → (n ≡ 1) ⊎ ((n ≡ 2) ⊎ (n ≡ 3))
kinds_to_replicas n a b = grind (arith, nat_tests)

noting_is_fresh : (r : Row) (m : Message) → 1 ≤ m.kind → m.kind ≤ 3 → noting (kind_of m.kind) m.version (fresh_card r m r.note) ≡ row_card (fresh r m)
noting_is_fresh r m a b =
    elim (kinds_to_replicas m.kind a b) [
      | inl e ↦ simp e
      | inr (inl e) ↦ simp e
      | inr (inr e) ↦ simp e
    ]

after_is_fresh : (r : Row) (m : Message) (c : Card) → 1 ≤ m.kind → m.kind ≤ 3 → row_card r ≡ c → row_card (fresh r m) ≡ after c (msg_of m)
after_is_fresh r m c a b e =
    sym (noting_is_fresh r m a b) ∙ ap (noting (kind_of m.kind) m.version) (sym (taken_is_fresh r m))
    ∙ ap (λ x. noting (kind_of m.kind) m.version (taken x (message_card m))) e

fresh_sound : (r : Row) (m : Message) → r.note ≤ r.version → (fresh r m).note ≤ (fresh r m).version
fresh_sound r m h =
    cond_both (eqb m.kind 3) (max r.note m.version) r.note (λ n. n ≤ max r.version m.version) (λ e. omega arith) (λ e. omega arith)

fresh_byte : (r : Row) (m : Message) → r.marks < 256 → m.marks < 256 → (fresh r m).marks < 256
fresh_byte r m a b =
    cond_both (is_news r m) m.marks (bit_or r.marks m.marks) (λ n. n < 256) (λ e. b) (λ e. or_lt 8 r.marks m.marks a b)

fresh_matches : (r : Row) (m : Message) (c : Card) (f : ℕ → ℕ) → 1 ≤ m.kind → m.kind ≤ 3 → m.client < clients_max → m.marks < 256 → RowMatches r c f → RowMatches (fresh r m) (after c (msg_of m)) (put f m.client m.round)
fresh_matches r m c f a b l d h =
    record {
      long = length-set r.rounds m.client m.round ∙ h.long;
      card = after_is_fresh r m c a b h.card;
      sound = fresh_sound r m h.sound;
      byte = fresh_byte r m h.byte d;
      heard = each_set (λ x y. x ≡ y) clients_max r.rounds m.client m.round 0 f m.round (omega (arith, h.long)) refl h.heard;
    }

reply_kind : (n : ℕ) → 1 ≤ n → n ≤ 3 → kind_of (n + 3) ≡ kind_of n
reply_kind n a b =
    elim (kinds_to_replicas n a b) [
      | inl e ↦ simp e
      | inr (inl e) ↦ simp e
      | inr (inr e) ↦ simp e
    ]

reply_is_answer : (r : Row) (m : Message) (c : Card) → 1 ≤ m.kind → m.kind ≤ 3 → row_card r ≡ c → msg_of (reply_from (fresh r m) m) ≡ model.answers c (msg_of m)
reply_is_answer r m c a b e =
    let reply : ltb 3 (m.kind + 3) ≡ true = lt-ltb 3 (m.kind + 3) (omega arith) in
    let kind : kind_of (m.kind + 3) ≡ kind_of m.kind = reply_kind m.kind a b in
    let card : row_card (fresh r m) ≡ after c (msg_of m) = after_is_fresh r m c a b e in
    cc

-- ---- the table of rows

module _ (k : Checked) (r : Register) (b : model.State) (m : Message) (h : RegisterMatches k r b) (p : Proper k m) (to : m.kind ≤ 3) where
  abbrev row : Row
  row = row_at r m.replica

  few : m.replica < replicas_max
  few = omega (arith, p.replica, k.replicated.1)

  low_client : m.client < clients_max
  low_client = omega (arith, p.client, k.read.1)

  row_matches : RowMatches row (b.replicas m.replica) (b.heard m.replica)
  row_matches = h.rows.each m.replica few

  sound_row : record_of row ≡ row
  sound_row = record_is_row row row_matches.sound

  directed : misdirected m ≡ false
  directed =
      let low : 1 ≤ m.kind = p.low in
      let kind : not (is_request m.kind) ≡ false = grind (arith, nat_tests) in
      or_from _ (leb clients_max m.client) kind (lt-leb clients_max m.client low_client)

  stale_row : is_stale row m ≡ true → (delivered row m ≡ row) × (delivered_reply row m ≡ None)
  stale_row e =
      let t : (misdirected m || is_stale (record_of row) m) ≡ true = or_right (misdirected m) (is_stale (record_of row) m) e in (
        cond-true (misdirected m || is_stale (record_of row) m) (record_of row) (fresh (record_of row) m) t ∙ sound_row,
        cond-true (misdirected m || is_stale (record_of row) m) None (Some (reply_from (fresh (record_of row) m) m)) t,
      )

  fresh_row : is_stale row m ≡ false → (delivered row m ≡ fresh row m) × (delivered_reply row m ≡ Some (reply_from (fresh row m) m))
  fresh_row e =
      let t : (misdirected m || is_stale (record_of row) m) ≡ false = or_from (misdirected m) (is_stale (record_of row) m) directed e in (
        cond-false (misdirected m || is_stale (record_of row) m) (record_of row) (fresh (record_of row) m) t ∙ ap (λ x. fresh x m) sound_row,
        cond-false (misdirected m || is_stale (record_of row) m) None (Some (reply_from (fresh (record_of row) m) m)) t ∙ ap (λ x. Some (reply_from (fresh x m) m)) sound_row,
      )

  -- a stale message leaves the register as it matched
  stale_register : RegisterMatches k (with_row r m.replica row) b
  stale_register =
      record {
        settings = h.settings;
        rows =
            record {
              long = length-set r.rows m.replica row ∙ h.rows.long;
              each = each_set_rows;
            };
        outs = h.outs;
        clients = h.clients;
      }
    where
      each_set_rows : (i : ℕ) → i < replicas_max → RowMatches (get_or (set r.rows m.replica row) i blank_row) (b.replicas i) (b.heard i)
      each_set_rows i l = subst (λ x. RowMatches (get_or x i blank_row) (b.replicas i) (b.heard i)) (sym (set-get_or r.rows m.replica blank_row)) (h.rows.each i l)

  fresh_register : (rest : List Msg) → RegisterMatches k (with_row r m.replica (fresh row m)) (model.delivers b (msg_of m) rest)
  fresh_register rest =
      record {
        settings = h.settings;
        rows =
            record {
              long = length-set r.rows m.replica (fresh row m) ∙ h.rows.long;
              each = each_set_two RowMatches replicas_max r.rows m.replica (fresh row m) blank_row b.replicas (after (b.replicas m.replica) (msg_of m)) b.heard (put (b.heard m.replica) m.client m.round)
                  (omega (arith, few, h.rows.long)) (fresh_matches row m (b.replicas m.replica) (b.heard m.replica) p.low to low_client p.byte row_matches) h.rows.each;
            };
        outs = h.outs;
        clients = h.clients;
      }

-- ---- the three ways

module _ (k : Checked) (log : List Entry) (w : World) (r : Register) (m : Message) (rest : List Message) (a : Answer) (ms : List Message) (g : Taken k log r m rest)
    (answer : a ≡ handled_answer r m) (register : w.register ≡ handled r m) (sent : ms ≡ option_to_list (handled_reply r m)) (waiting : IsPermutation w.waiting (ms ++ rest)) (to : m.kind ≤ 3) where
  abbrev b : model.State
  b = g.state

  known : is_stray r m ≡ false
  known = not_stray k r m g.matches.settings g.proper

  request : is_request m.kind ≡ true
  request = and_from _ _ (le-leb 1 m.kind g.proper.low) (le-leb m.kind 3 to)

  place : m.replica < replicas_max
  place = omega (arith, g.proper.replica, k.replicated.1)

  out_is : is_lost r m ≡ b.replica_out m.replica
  out_is = cond-true (is_request m.kind) _ _ request ∙ g.matches.outs.each m.replica place

  no_reply : ltb 3 m.kind ≡ false
  no_reply = le-ltb 3 m.kind to

  lost_there : is_lost r m ≡ true → Reached k (entry Carry a ms ∷ log) w
  lost_there e = lost_reaches k log w r m rest a ms g answer register sent waiting e (inl (no_reply, inl (sym out_is ∙ e)))

  module _ (there : is_lost r m ≡ false) where
    stale_there : is_stale (row_at r m.replica) m ≡ true → Reached k (entry Carry a ms ∷ log) w
    stale_there e =
        let s = stale_row k r b m g.matches g.proper to e in
        let an : a ≡ Ignored m.client = answer ∙ case_replica r m _ _ _ _ known there request ∙ ap (λ x. replied_or x m.client) s.1 in
        let re : w.register ≡ with_row r m.replica (row_at r m.replica) = register ∙ case_replica r m _ _ _ _ known there request ∙ ap (with_row r m.replica) s.0 in
        let se : ms ≡ [] = sent ∙ ap option_to_list (case_replica {A = Option Message} r m _ _ _ _ known there request ∙ s.1) in
        let heard : get_or (row_at r m.replica).rounds m.client 0 ≡ b.heard m.replica m.client = (row_matches k r b m g.matches g.proper to).heard m.client (low_client k r b m g.matches g.proper to) in
        let late : m.round ≤ b.heard m.replica m.client = omega (arith, leb-true m.round (get_or (row_at r m.replica).rounds m.client 0) e) in
        subst (λ x. Reached k (entry Carry x ms ∷ log) w) (sym an)
        (nothing_reaches k log w r m rest (Ignored m.client) ms g (record { not_accepted = refl; not_ended = refl; not_due = refl })
        (inl (no_reply, inr late)) (subst (λ x. RegisterMatches k x b) (sym re) (stale_register k r b m g.matches g.proper to)) (subst (λ x. IsPermutation w.waiting (x ++ rest)) se waiting))

    fresh_there : is_stale (row_at r m.replica) m ≡ false → Reached k (entry Carry a ms ∷ log) w
    fresh_there e =
        let s = fresh_row k r b m g.matches g.proper to e in
        let row : Row = row_at r m.replica in
        let reply : Message = reply_from (fresh row m) m in
        let h : RowMatches row (b.replicas m.replica) (b.heard m.replica) = row_matches k r b m g.matches g.proper to in
        let low : m.client < clients_max = low_client k r b m g.matches g.proper to in
        let an : a ≡ Replied m.client = answer ∙ case_replica r m _ _ _ _ known there request ∙ ap (λ x. replied_or x m.client) s.1 in
        let re : w.register ≡ with_row r m.replica (fresh row m) = register ∙ case_replica r m _ _ _ _ known there request ∙ ap (with_row r m.replica) s.0 in
        let se : ms ≡ reply ∷ [] = sent ∙ ap option_to_list (case_replica {A = Option Message} r m _ _ _ _ known there request ∙ s.1) in
        let heard : get_or row.rounds m.client 0 ≡ b.heard m.replica m.client = h.heard m.client low in
        let later : b.heard m.replica m.client < m.round = omega (arith, leb-false m.round (get_or row.rounds m.client 0) e) in
        let same : msg_of reply ≡ model.answers (b.replicas m.replica) (msg_of m) = reply_is_answer row m (b.replicas m.replica) g.proper.low to h.card in
        subst (λ x. Reached k (entry Carry x ms ∷ log) w) (sym an)
        (reached_with k (entry Carry (Replied m.client) ms ∷ log) w (with_row r m.replica (fresh row m)) (reply ∷ rest) (model.delivers b (msg_of m) (map msg_of rest))
        (model.delivered (msg_of m) (map msg_of rest) ms g.takes no_reply (sym out_is ∙ there) later g.trace) re
        (fresh_register k r b m g.matches g.proper to (map msg_of rest))
        (subst (λ x. IsPermutation w.waiting (x ++ rest)) se waiting)
        (subst (λ x. Same (x ∷ map msg_of rest) (msg_of reply ∷ map msg_of rest)) same (same_self (msg_of reply ∷ map msg_of rest)))
        (record { low = omega arith; high = omega arith; replica = g.proper.replica; client = g.proper.client; byte = fresh_byte row m h.byte g.proper.byte }, g.others))

  pub replica_reaches : Reached k (entry Carry a ms ∷ log) w
  replica_reaches =
      elim (cases_Bool (is_lost r m)) [
        | inl e ↦ lost_there e
        | inr e ↦ elim (cases_Bool (is_stale (row_at r m.replica) m)) [ inl f ↦ stale_there e f | inr f ↦ fresh_there e f ]
      ]
