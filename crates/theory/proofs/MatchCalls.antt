-- Calls: one that is accepted is a step of the model, as is one that is sent back. It ends in `called_reaches`.
use Rattle.std.proofs.Common.{◌≡◌, ℕ, zero, suc, ◌+◌, ◌-◌, ◌*◌, ◌%◌, ◌^◌, ◌<◌, ◌≤◌, Bool, true, false, eqb, ltb, List, [], ◌∷◌, ◌++◌, map, length, get_or, set, ℤ, Some, None, Option, sym, refl, ap, ◌∙◌, subst, inl, inr, mul-le-mul_right, arith, lit<, lit≤}
use Rattle.std.specs.List.{AllByRecursion}
use Rattle.std.specs.List.Sorted.{IsPermutation}
use Rattle.std.proofs.lemmas.List.{map-append, length-replicate, length-set}
use Rattle.std.proofs.lemmas.Bool.{ltb-false, cases_eq, ne_eqb, eq-eqb, cond_both}
use Rattle.std.proofs.lemmas.Bool.Decides.{nat_tests}
use Rattle.std.proofs.lemmas.Nat.{pow_below, mod_below}
use Rattle.theory.proofs.Words.{clients_max, replicas_max, rounds_max, Message, Order, Write, Read, Tell, ReplicaOut, ClientOut, Refusal, Answer, Accepted, Refused, no_receipts, no_readings, blank_receipt, blank_reading, Checked, Phase, Idle, Writing, Asking, Due, Telling, Client, Register, client_at, with_client, blank_client, mark_of, World, Called, sent_by, Entry}
use Rattle.client.specs.declared.start.Round.TheVariants.{Write as WriteRound, Read as ReadRound, Tell as TellRound}
use Rattle.register.specs.Refuse as refuse
use Rattle.register.specs.Send.{toward, copies}
use Rattle.register.specs.Refuse.{is_idle, is_due, refusal}
use Rattle.register.specs.Calls.{accepted, put_out, unless, answer_by, gone}
use Rattle.client.specs.Start.{outgoing, raised, started, set_size}
use Rattle.orders.specs.Order.{named}
use Rattle.theory.proofs.Lists.{All-append, All-push}
use Rattle.theory.proofs.Members.{Among}
use Rattle.theory.proofs.Cards.{Card}
use Rattle.theory.proofs.Model as model
use Rattle.theory.proofs.Model.{entry, put, Msg, Same, sent}
use Rattle.theory.proofs.Matching.{params_of, msg_of, kind_of, Proper, ReceiptsMatch, ReadingsMatch, PhasesMatch, RoundsLeft, ClientMatches, ClientsMatch, OutsMatch, RegisterMatches, Matches}
use Rattle.theory.proofs.Waiting.{waits_behind}
use Rattle.theory.proofs.MatchTables.{each_set, each_set_beside, in_left, in_cases, same_self}
use Rattle.theory.proofs.MatchReached.{Reached, reached_with, refused_reaches}

-- ---- the messages of a set

same_append : (u v w : List Msg) → Same u v → Same (u ++ w) (v ++ w)
same_append u v w s x = (
  λ h. elim (in_cases x u w h) [ inl i ↦ in_left x v w ((s x).0 i) | inr i ↦ waits_behind x v w i ],
  λ h. elim (in_cases x v w h) [ inl i ↦ in_left x u w ((s x).1 i) | inr i ↦ waits_behind x u w i ],
)

-- a message of a set, as the model has it
abbrev aimed : model.Kind → ℕ → ℕ → Card → ℕ → Msg
aimed kd c r d i = record { reply = false; kind = kd; replica = i; client = c; round = r; card = d }

module _ (m : Message) (kd : model.Kind) (c r : ℕ) (d : Card) (is : (i : ℕ) → msg_of (toward m i) ≡ aimed kd c r d i) where
  more_same : (n : ℕ) (x : Msg) → (Among x (sent kd c r d n) → Among x (map msg_of (copies m n))) × (Among x (map msg_of (copies m n)) → Among x (sent kd c r d n))
      → (Among x (sent kd c r d (suc n)) → Among x (map msg_of (copies m n) ++ msg_of (toward m n) ∷ [])) × (Among x (map msg_of (copies m n) ++ msg_of (toward m n) ∷ []) → Among x (sent kd c r d (suc n)))
  more_same n x h = (into, back)
    where
      into : Among x (sent kd c r d (suc n)) → Among x (map msg_of (copies m n) ++ msg_of (toward m n) ∷ [])
      into (inl e) = waits_behind x (map msg_of (copies m n)) (msg_of (toward m n) ∷ []) (inl (e ∙ sym (is n)))
      into (inr i) = in_left x (map msg_of (copies m n)) (msg_of (toward m n) ∷ []) (h.0 i)

      last : Among x (msg_of (toward m n) ∷ []) → Among x (sent kd c r d (suc n))
      last (inl e) = inl (e ∙ is n)
      last (inr i) = elim i [ ]

      back : Among x (map msg_of (copies m n) ++ msg_of (toward m n) ∷ []) → Among x (sent kd c r d (suc n))
      back i = elim (in_cases x (map msg_of (copies m n)) (msg_of (toward m n) ∷ []) i) [ inl j ↦ inr (h.1 j) | inr j ↦ last j ]

  copies_same : (n : ℕ) → Same (sent kd c r d n) (map msg_of (copies m n))
  copies_same zero x = (λ h. h, λ h. h)
  copies_same (suc n) x =
      let e : map msg_of (copies m n ++ toward m n ∷ []) ≡ map msg_of (copies m n) ++ msg_of (toward m n) ∷ [] = map-append msg_of (copies m n) (toward m n ∷ []) in
      subst (λ w. (Among x (sent kd c r d (suc n)) → Among x w) × (Among x w → Among x (sent kd c r d (suc n)))) (sym e) (more_same n x (copies_same n x))

  set_same : (n j : ℕ) (vs : List Message) → n ≡ j → Same (sent kd c r d n ++ map msg_of vs) (map msg_of (copies m j ++ vs))
  set_same n j vs e =
      subst (λ i. Same (sent kd c r d n ++ map msg_of vs) (map msg_of (copies m i ++ vs))) e
      (subst (Same (sent kd c r d n ++ map msg_of vs)) (sym (map-append msg_of (copies m n) vs))
      (same_append (sent kd c r d n) (map msg_of (copies m n)) (map msg_of vs) (copies_same n)))

copies_proper : (k : Checked) (m : Message) (n : ℕ) → n ≤ k.replicas → 1 ≤ m.kind → m.kind ≤ 6 → m.client ≤ k.readers → m.marks < 256 → AllByRecursion (Proper k) (copies m n)
copies_proper k m zero l a b c d = tt
copies_proper k m (suc n) l a b c d =
    All-push (Proper k) (copies m n) (toward m n) (copies_proper k m n (omega arith) a b c d)
    (record { low = a; high = b; replica = omega arith; client = c; byte = d })

mark_byte : (k : Checked) (c : ℕ) → mark_of k c < 256
mark_byte k c =
    cond_both (eqb c 0) 1 (2 ^ (1 + c % k.groups)) (λ m. m < 256) (λ e. lit< tt)
    (λ e. pow_below (1 + c % k.groups) 8 (omega (arith, mod_below c k.groups k.grouped.0, k.grouped.1)))

-- ---- refusals

-- what an accepted write, read and tell passed
pub write_passed : (r : Register) (free : ℕ) (z : ℤ) → refuse.write_refusal r free z ≡ None
    → ((client_at r 0).out ≡ false) × (is_idle (client_at r 0).phase ≡ true) × ((client_at r 0).round < rounds_max) × (set_size r.settings 1 ≤ free)
write_passed r free z e = grind (arith, nat_tests)

pub read_passed : (r : Register) (free c : ℕ) → refuse.read_refusal r free c ≡ None
    → (refuse.no_reader r c ≡ false) × ((client_at r c).out ≡ false) × (is_idle (client_at r c).phase ≡ true) × ((client_at r c).round < rounds_max) × (set_size r.settings 2 ≤ free)
read_passed r free c e = grind (arith, nat_tests)

pub tell_passed : (r : Register) (free c : ℕ) → refuse.tell_refusal r free c ≡ None
    → (refuse.no_reader r c ≡ false) × ((client_at r c).out ≡ false) × (is_due (client_at r c).phase ≡ true) × (set_size r.settings 3 ≤ free)
tell_passed r free c e = grind (arith, nat_tests)

reader_below : (r : Register) (c : ℕ) → refuse.no_reader r c ≡ false → c ≤ r.settings.readers
reader_below r c e = grind (arith, nat_tests)

idle_matches : (k : Checked) (p : Phase) (q : model.Phase) → is_idle p ≡ true → PhasesMatch k p q → q ≡ model.idle
idle_matches k Idle q e h = h
idle_matches k (Writing rs) q e h = grind arith
idle_matches k (Asking rs) q e h = grind arith
idle_matches k Due q e h = grind arith
idle_matches k (Telling rs) q e h = grind arith

due_matches : (k : Checked) (p : Phase) (q : model.Phase) (n : ℕ) → is_due p ≡ true → PhasesMatch k p q → RoundsLeft p n → (q ≡ model.due) × (n ≤ rounds_max)
due_matches k Idle q n e h l = grind arith
due_matches k (Writing rs) q n e h l = grind arith
due_matches k (Asking rs) q n e h l = grind arith
due_matches k Due q n e h l = (h, l)
due_matches k (Telling rs) q n e h l = grind arith

-- ---- clients that start a round

-- three times the tolerated ones are fewer than the replicas
pub three_fit : (k : Checked) → 3 * k.tolerated < k.replicas
three_fit k =
    let l : 3 ≤ k.groups + 2 = omega (arith, k.grouped.0) in omega (arith, mul-le-mul_right k.tolerated l, k.overlap)

no_receipts_lem : (need : ℕ) → 0 < need → ReceiptsMatch need no_receipts []
no_receipts_lem need l = record { long = length-replicate replicas_max blank_receipt; got = refl; short = l; same = refl }

no_readings_lem : (need : ℕ) → 0 < need → ReadingsMatch need no_readings []
no_readings_lem need l =
    record { long = length-replicate replicas_max blank_reading; got = refl; short = l; counted = record { same = refl; once = tt; bytes = tt } }

raised_is : (m n : ℕ) → m ≡ n → m ≤ rounds_max + 1 → raised m ≡ suc n
raised_is m n e l = omega arith

pub clients_set : (k : Checked) (xs : List Client) (f : ℕ → model.Client) (g : ℕ → Bool) (c : ℕ) (x : Client) (y : model.Client) → c < clients_max → ClientsMatch k xs f g → x.out ≡ g c → ClientMatches k x y → ClientsMatch k (set xs c x) (put f c y) g
clients_set k xs f g c x y l h o m =
    let i : c < length xs = omega (arith, h.long) in
    record {
      long = length-set xs c x ∙ h.long;
      out = each_set_beside (λ z b. z.out ≡ b) clients_max xs c x blank_client g i o h.out;
      each = each_set (ClientMatches k) clients_max xs c x blank_client f y i m h.each;
    }

pub register_client : (k : Checked) (r : Register) (b : model.State) (c : ℕ) (x : Client) (y : model.Client) (ms : List Msg) → c < clients_max → RegisterMatches k r b → x.out ≡ (client_at r c).out → ClientMatches k x y → RegisterMatches k (with_client r c x) (model.sets b c y ms)
register_client k r b c x y ms l h o m =
    record {
      settings = h.settings;
      rows = h.rows;
      outs = h.outs;
      clients = clients_set k r.clients b.clients b.client_out c x y l h.clients (o ∙ h.clients.out c l) m;
    }

-- ---- withdrawals

count_below : (p : ℕ → Bool) (i n : ℕ) → n ≤ i → model.out_count (put p i true) n ≡ model.out_count p n
count_below p i zero l = refl
count_below p i (suc n) l =
    let e : eqb n i ≡ false = ne_eqb n i (λ q. omega arith) in
    simp e (omega (arith, count_below p i n (omega arith)))

count_put : (p : ℕ → Bool) (i n : ℕ) → i < n → p i ≡ false → model.out_count (put p i true) n ≡ model.out_count p n + 1
count_put p i zero l f = absurd (omega arith)
count_put p i (suc n) l f =
    elim (cases_eq n i) [
      | inl q ↦
          let e : eqb n i ≡ true = eq-eqb n i q in
          let g : p n ≡ false = ap p q ∙ f in
          simp (e, g) (omega (arith, count_below p i n (omega arith)))
      | inr q ↦
          let e : eqb n i ≡ false = ne_eqb n i q in
          simp e (omega (arith, count_put p i n (omega (arith, q)) f))
    ]

replica_passed : (r : Register) (i : ℕ) → refuse.replica_out_refusal r i ≡ None
    → (i < r.settings.replicas) × (get_or r.out i false ≡ false) × (r.outs < r.settings.tolerated)
replica_passed r i e = grind (arith, nat_tests)

client_passed : (r : Register) (c : ℕ) → refuse.client_out_refusal r c ≡ None → c ≤ r.settings.readers
client_passed r c e = grind (arith, nat_tests)

-- ---- each call, accepted

-- an accepted call leads from one world to the other, and so does the model
abbrev pub Reaches : Checked → List Entry → World → World → List Message → Order → Type 0
Reaches k log v w ms o =
    refusal v.register v.free o ≡ None → w.register ≡ accepted v.register o → IsPermutation w.waiting (put_out v.register o ++ v.waiting)
    → Reached k (entry o (Accepted (named o)) ms ∷ log) w

module _ (k : Checked) (log : List Entry) (v w : World) (b : model.State) (t : model.Trace (params_of k) k.initial log b) (h : Matches k v b) (ms : List Message) where
  abbrev r : Register
  r = v.register

  same : r.settings ≡ k
  same = h.register.settings

  reader_few : (c : ℕ) → refuse.no_reader r c ≡ false → c ≤ k.readers
  reader_few c e = subst (λ a. c ≤ a.readers) same (reader_below r c e)

  module _ (c : ℕ) (few : c ≤ k.readers) where
    low : c < clients_max
    low = omega (arith, k.read.1)

    client : ClientMatches k (client_at r c) (b.clients c)
    client = h.register.clients.each c low

    present : (client_at r c).out ≡ false → b.client_out c ≡ false
    present e = sym (h.register.clients.out c low) ∙ e

    -- the round goes up, and the client puts out a set of messages of that kind
    started_reaches : (o : Order) (x : Client) (y : model.Client) (i : ℕ) (kd : model.Kind) (count : Checked → ℕ)
        → model.Trace (params_of k) k.initial (entry o (Accepted c) ms ∷ log) (model.sets b c y (sent kd c y.round (model.carried (params_of k) c y) (count k) ++ b.waiting))
        → x.out ≡ (client_at r c).out → ClientMatches k x y → (1 ≤ i) × (ltb 3 i ≡ false) × (kind_of i ≡ kd) → count k ≤ k.replicas
        → w.register ≡ with_client r c x → IsPermutation w.waiting (copies (outgoing r.settings i c x) (count r.settings) ++ v.waiting)
        → Reached k (entry o (Accepted c) ms ∷ log) w
    started_reaches o x y i kd count step out fits sort all reg s =
        let m : Message = outgoing r.settings i c x in
        let new : List Msg = sent kd c y.round (model.carried (params_of k) c y) (count k) in
        let e : count k ≡ count r.settings = ap count (sym same) in
        reached_with k (entry o (Accepted c) ms ∷ log) w (with_client r c x) (copies m (count r.settings) ++ v.waiting) _ step reg
        (register_client k r b c x y (new ++ b.waiting) low h.register out fits) s
        (subst (λ q. Same (new ++ q) (map msg_of (copies m (count r.settings) ++ v.waiting))) h.waiting (set_same m kd c y.round (model.carried (params_of k) c y) (λ n. cc) (count k) (count r.settings) v.waiting e))
        (All-append (Proper k) (copies m (count r.settings)) v.waiting (copies_proper k m (count r.settings) (omega (arith, e)) sort.0 (omega (arith, ltb-false 3 i sort.1)) few (mark_byte r.settings c)) h.proper)

  pub wrote_reaches : (z : ℤ) → Reaches k log v w ms (Write z)
  wrote_reaches z e reg s =
      let p = write_passed r v.free z e in
      let few : 0 ≤ k.readers = omega arith in
      let q : ClientMatches k (client_at r 0) (b.clients 0) = client 0 few in
      let up : raised (client_at r 0).round ≡ suc (b.clients 0).round = raised_is _ _ q.round (omega (arith, p.2)) in
      started_reaches 0 few (Write z) (started (client_at r 0) (WriteRound z)) (model.writing (b.clients 0) z) 1 model.writes (λ a. a.replicas) (model.wrote z ms (present 0 few p.0) (idle_matches k _ _ p.1 q.phase) t) refl
      (record { round = up; version = up; value = refl; previous = q.value; phase = ([], refl, no_receipts_lem (k.replicas - k.tolerated) (omega (arith, three_fit k))); left = omega (arith, p.2) })
      (lit≤ tt, refl, refl) (omega arith) reg s

  pub asked_reaches : (c : ℕ) → Reaches k log v w ms (Read c)
  asked_reaches zero e reg s = grind arith
  asked_reaches (suc c) e reg s =
      let p = read_passed r v.free (suc c) e in
      let few : suc c ≤ k.readers = reader_few (suc c) p.0 in
      let q : ClientMatches k (client_at r (suc c)) (b.clients (suc c)) = client (suc c) few in
      let up : raised (client_at r (suc c)).round ≡ suc (b.clients (suc c)).round = raised_is _ _ q.round (omega (arith, p.3)) in
      started_reaches (suc c) few (Read (suc c)) (started (client_at r (suc c)) (ReadRound (suc c))) (model.asking (b.clients (suc c)) model.reads) 2 model.reads (λ a. a.replicas) (model.asked c ms (omega arith) (present (suc c) few p.1) (idle_matches k _ _ p.2 q.phase) t) refl
      (record { round = up; version = q.version; value = q.value; previous = q.previous; phase = ([], refl, no_readings_lem (k.replicas - k.tolerated) (omega (arith, three_fit k))); left = omega (arith, p.3) })
      (lit≤ tt, refl, refl) (omega arith) reg s

  pub told_reaches : (c : ℕ) → Reaches k log v w ms (Tell c)
  told_reaches zero e reg s = grind arith
  told_reaches (suc c) e reg s =
      let p = tell_passed r v.free (suc c) e in
      let few : suc c ≤ k.readers = reader_few (suc c) p.0 in
      let q : ClientMatches k (client_at r (suc c)) (b.clients (suc c)) = client (suc c) few in
      let due = due_matches k _ _ _ p.2 q.phase q.left in
      let up : raised (client_at r (suc c)).round ≡ suc (b.clients (suc c)).round = raised_is _ _ q.round (omega (arith, due.1)) in
      started_reaches (suc c) few (Tell (suc c)) (started (client_at r (suc c)) (TellRound (suc c))) (model.asking (b.clients (suc c)) model.tells) 3 model.tells (λ a. 3 * a.tolerated + 1) (model.told c ms (omega arith) (present (suc c) few p.1) due.0 t) refl
      (record { round = up; version = q.version; value = q.value; previous = q.previous; phase = ([], refl, no_receipts_lem (2 * k.tolerated + 1) (omega arith)); left = omega (arith, due.1) })
      (lit≤ tt, refl, refl) (omega (arith, three_fit k)) reg s

  pub replica_gone_reaches : (i : ℕ) → Reaches k log v w ms (ReplicaOut i)
  replica_gone_reaches i e reg s =
      let p = replica_passed r i e in
      let below : i < k.replicas = subst (λ a. i < a.replicas) same p.0 in
      let few : i < replicas_max = omega (arith, k.replicated.1) in
      let o : OutsMatch k.replicas r.outs r.out b.replica_out = h.register.outs in
      let present : b.replica_out i ≡ false = sym (o.each i few) ∙ p.1 in
      let less : model.out_count b.replica_out k.replicas < k.tolerated = subst (λ n. n < k.tolerated) o.count (subst (λ a. r.outs < a.tolerated) same p.2) in
      reached_with k (entry (ReplicaOut i) (Accepted i) ms ∷ log) w (accepted r (ReplicaOut i)) v.waiting _ (model.replica_gone i ms below present less t) reg
      (record {
        settings = same;
        rows = h.register.rows;
        outs =
            record {
              long = length-set r.out i true ∙ o.long;
              each = each_set (λ x y. x ≡ y) replicas_max r.out i true false b.replica_out true (omega (arith, o.long)) refl o.each;
              count = omega (arith, o.count, count_put b.replica_out i k.replicas below present);
            };
        clients = h.register.clients;
      }) s (subst (λ y. Same y (map msg_of v.waiting)) h.waiting (same_self (map msg_of v.waiting))) h.proper

  pub client_gone_reaches : (c : ℕ) → Reaches k log v w ms (ClientOut c)
  client_gone_reaches c e reg s =
      let few : c ≤ k.readers = subst (λ a. c ≤ a.readers) same (client_passed r c e) in
      let x : ClientMatches k (client_at r c) (b.clients c) = client c few in
      let cs : ClientsMatch k r.clients b.clients b.client_out = h.register.clients in
      let i : c < length r.clients = omega (arith, cs.long, low c few) in
      reached_with k (entry (ClientOut c) (Accepted c) ms ∷ log) w (accepted r (ClientOut c)) v.waiting _ (model.client_gone c ms t) reg
      (record {
        settings = same;
        rows = h.register.rows;
        outs = h.register.outs;
        clients =
            record {
              long = length-set r.clients c (gone (client_at r c)) ∙ cs.long;
              out = each_set (λ z y. z.out ≡ y) clients_max r.clients c (gone (client_at r c)) blank_client b.client_out true i refl cs.out;
              each = each_set_beside (ClientMatches k) clients_max r.clients c (gone (client_at r c)) blank_client b.clients i
                  (record { round = x.round; version = x.version; value = x.value; previous = x.previous; phase = x.phase; left = x.left }) cs.each;
            };
      }) s (subst (λ y. Same y (map msg_of v.waiting)) h.waiting (same_self (map msg_of v.waiting))) h.proper

-- ---- a call, accepted or sent back

-- an accepted call reaches its world if the call's own lemma says so
called_by : (k : Checked) (log : List Entry) (v w : World) (b : model.State) (o : Order) (a : Answer) (ms : List Message) (x : Option Refusal)
    → refusal v.register v.free o ≡ x → model.Trace (params_of k) k.initial log b → Matches k v b → Called v o a w → Reaches k log v w ms o → Reached k (entry o a ms ∷ log) w
called_by k log v w b o a ms (Some x) e t h c f =
    let answer : a ≡ Refused x (named o) = c.answer ∙ ap (λ y. answer_by y (named o)) e in
    let register : w.register ≡ v.register = c.register ∙ ap (λ y. unless y (accepted v.register o) v.register) e in
    let none : sent_by v o ≡ [] = ap (λ y. unless y (put_out v.register o) []) e in
    let s : IsPermutation w.waiting v.waiting = subst (λ y. IsPermutation w.waiting (y ++ v.waiting)) none c.sends.0 in
    subst (λ y. Reached k (entry o y ms ∷ log) w) (sym answer) (refused_reaches k log v w b o x (named o) ms t h register s)
called_by k log v w b o a ms None e t h c f =
    let answer : a ≡ Accepted (named o) = c.answer ∙ ap (λ y. answer_by y (named o)) e in
    let register : w.register ≡ accepted v.register o = c.register ∙ ap (λ y. unless y (accepted v.register o) v.register) e in
    let set : sent_by v o ≡ put_out v.register o = ap (λ y. unless y (put_out v.register o) []) e in
    let s : IsPermutation w.waiting (put_out v.register o ++ v.waiting) = subst (λ y. IsPermutation w.waiting (y ++ v.waiting)) set c.sends.0 in
    subst (λ y. Reached k (entry o y ms ∷ log) w) (sym answer) (f e register s)

pub called_reaches : (k : Checked) (log : List Entry) (v w : World) (b : model.State) (o : Order) (a : Answer) (ms : List Message)
    → model.Trace (params_of k) k.initial log b → Matches k v b → Called v o a w → Reaches k log v w ms o → Reached k (entry o a ms ∷ log) w
called_reaches k log v w b o a ms t h c f = called_by k log v w b o a ms (refusal v.register v.free o) refl t h c f
