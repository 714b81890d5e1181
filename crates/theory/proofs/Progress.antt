-- Every reply that is awaited is on its way, so with no message waiting no call awaits one: ends in `settles`.
use Rattle.std.proofs.Common.{◌≡◌, ℕ, zero, suc, ◌+◌, ◌*◌, ◌<◌, ◌≤◌, Bool, true, false, cond, eqb, ◌⊎◌, List, [], ◌∷◌, ◌++◌, length, ℤ, sym, refl, ap, ◌∙◌, subst, inl, inr, arith}
use Rattle.std.proofs.lemmas.List.{length-map}
use Rattle.std.proofs.lemmas.Bool.{cases_Bool, cases_eq, eqb-true, both_ways, true≢false}
use Rattle.theory.proofs.Words.{Entry}
use Rattle.theory.proofs.Cards.{Params, Fit, Card, Slip, replicas_of}
use Rattle.theory.proofs.Model.{put, Kind, writes, reads, tells, Msg, Phase, idle, due, awaiting, Client, State, sent, carried, Takes, sets, drops, answers, delivers, phased, writing, asking, Counting, slip, Short, out_count, Trace, opening, stirred, refused, wrote, asked, told, delivered, lost, counted, finished, decided, became, replica_gone, client_gone}
use Rattle.theory.proofs.History.{values}
use Rattle.theory.proofs.Claims.{Settled, Settles}
use Rattle.theory.proofs.Members.{Among, among?, without, without_less, without_keeps}
use Rattle.theory.proofs.Tables.{put_case}
use Rattle.theory.proofs.Waiting.{all_takes, taken_or_waits, waits_behind, sent_waits}
use Rattle.theory.proofs.Deciding.{three_times}
use Rattle.theory.proofs.Safety.{Awaits, MsgFine, Safe}
use Rattle.theory.proofs.Invariant.{invariant}

-- If all of the first n that are not out are in a list, it lacks at most those that are out.
present_few_out : (p : ℕ → Bool) (n : ℕ) (is : List ℕ) → ((i : ℕ) → i < n → p i ≡ false → Among i is) → n ≤ length is + out_count p n
present_few_out p zero is h = omega arith
present_few_out p (suc n) is h =
    elim (cases_Bool (p n)) [
      | inl e ↦ (let ih : n ≤ length is + out_count p n = present_few_out p n is (λ i lt q. h i (omega arith) q) in simp e (omega arith))
      | inr e ↦ (let ih : n ≤ length (without n is) + out_count p n = present_few_out p n (without n is) (λ i lt q. without_keeps n i is (λ z. omega arith) (h i (omega arith) q)) in
          let k : suc (length (without n is)) ≤ length is = without_less n is (h n (omega arith) e) in simp e (omega arith))
    ]

-- Of fewer replicas no more are out.
out_fewer : (p : ℕ → Bool) (n n' : ℕ) → n ≤ n' → out_count p n ≤ out_count p n'
out_fewer p n zero h = subst (λ k. out_count p k ≤ 0) (let e : 0 ≡ n = omega arith in e) (omega arith)
out_fewer p n (suc n') h =
    elim (cases_eq n (suc n')) [
      | inl e ↦ subst (λ k. out_count p k ≤ cond (p n') 1 0 + out_count p n') (sym e) (omega arith)
      | inr e ↦ (let ih : out_count p n ≤ out_count p n' = out_fewer p n n' (omega arith) in omega arith)
    ]

-- A withdrawal puts at most one more out.
out_one_more : (p : ℕ → Bool) (i n : ℕ) → out_count (put p i true) n ≤ suc (out_count p n)
out_one_more p i n = (go n).0
  where
    go : (n : ℕ) → (out_count (put p i true) n ≤ suc (out_count p n)) × (n ≤ i → out_count (put p i true) n ≤ out_count p n)
    go zero = (omega arith, λ lt. omega arith)
    go (suc n) =
        let ih = go n in
        elim (cases_Bool (eqb n i)) [
          | inl e ↦ (let q : n ≡ i = eqb-true n i e in let r : out_count (put p i true) n ≤ out_count p n = ih.1 (omega arith) in
              (simp e (one_more (p n) _ _ r), λ lt. absurd (omega arith)))
          | inr e ↦ (simp e (omega (arith, ih.0)), λ lt. simp e (omega (arith, ih.1 (omega arith))))
        ]
      where
        one_more : (t : Bool) (x y : ℕ) → x ≤ y → 1 + x ≤ suc (cond t 1 0 + y)
        one_more true x y lt = omega arith
        one_more false x y lt = omega arith

-- ---- messages on their way

-- a message of client c's round r to or from replica i waits, and if it is to the replica, that has not yet heard of the round
pub record OnWay (w : List Msg) (heard : ℕ → ℕ → ℕ) (k : Kind) (c r i : ℕ) : Type 0 where
  pub message : Msg
  pub waits : Among message w
  pub kind : message.kind ≡ k
  pub client : message.client ≡ c
  pub round : message.round ≡ r
  pub replica : message.replica ≡ i
  pub open_yet : message.reply ≡ false → heard i c < r

on_way : (w w' : List Msg) (heard heard' : ℕ → ℕ → ℕ) (k : Kind) (c r i : ℕ) (a : OnWay w heard k c r i) → Among a.message w' → (a.message.reply ≡ false → heard' i c < r) → OnWay w' heard' k c r i
on_way w w' heard heard' k c r i a waits yet = record { message = a.message; waits = waits; kind = a.kind; client = a.client; round = a.round; replica = a.replica; open_yet = yet }

-- the replicas that a set of messages goes to
abbrev pub targets : Params → Kind → ℕ
targets g writes = g.replicas
targets g reads = g.replicas
targets g tells = 3 * g.tolerated + 1

-- what a call keeps that awaits replies: they are too few, and each replica of those asked that is not out has replied or has a message on its way
pub record Owing (g : Params) (b : State) (c : ℕ) (r : ℕ) (k : Kind) (ss : List Slip) : Type 0 where
  pub short : Short g k ss
  pub each : (i : ℕ) → i < targets g k → b.replica_out i ≡ false → Among i (replicas_of ss) ⊎ OnWay b.waiting b.heard k c r i

abbrev pub ProgressAt : Params → State → ℕ → ℕ → Phase → Type 0
ProgressAt g b c r idle = Unit {0}
ProgressAt g b c r due = Unit {0}
ProgressAt g b c r (awaiting k ss) = Owing g b c r k ss

-- what every past keeps so that calls come to an end
pub record Progress (g : Params) (b : State) : Type 0 where
  -- no replica has heard of a round to come
  pub heard : (i c : ℕ) → b.heard i c ≤ (b.clients c).round
  -- at most t replicas are out
  pub out : out_count b.replica_out g.replicas ≤ g.tolerated
  -- every client that is not out makes progress
  pub calls : (c : ℕ) → b.client_out c ≡ false → ProgressAt g b c (b.clients c).round (b.clients c).phase

-- ---- what follows when nothing waits

module _ (g : Params) (fit : Fit g) where
  -- The replies of all replicas asked that are not out are enough.
  enough : (b : State) (k : Kind) (ss : List Slip) → out_count b.replica_out g.replicas ≤ g.tolerated
      → ((i : ℕ) → i < targets g k → b.replica_out i ≡ false → Among i (replicas_of ss)) → Short g k ss → ⊥
  enough b writes ss o h s = omega (arith, present_few_out b.replica_out g.replicas (replicas_of ss) h, length-map ss (λ s. s.replica))
  enough b reads ss o h s = omega (arith, present_few_out b.replica_out g.replicas (replicas_of ss) h, length-map ss (λ s. s.replica))
  enough b tells ss o h s = omega (arith, present_few_out b.replica_out (3 * g.tolerated + 1) (replicas_of ss) h, length-map ss (λ s. s.replica), out_fewer b.replica_out (3 * g.tolerated + 1) g.replicas (three_times g fit))

  -- With nothing waiting no client awaits a reply.
  settled : (b : State) → Progress g b → Settled b
  settled b h e c present = go (b.clients c).phase (h.calls c present)
    where
      go : (p : Phase) → ProgressAt g b c (b.clients c).round p → (p ≡ idle) ⊎ (p ≡ due)
      go idle h = inl refl
      go due h = inr refl
      go (awaiting k ss) owing =
          absurd (enough b k ss h.out (λ i lt o. elim (owing.each i lt o) [ inl a ↦ a | inr a ↦ absurd (subst (Among a.message) e a.waits) ]) owing.short)

-- ---- each change keeps it

put_false : (p : ℕ → Bool) (i j : ℕ) → put p i true j ≡ false → p j ≡ false
put_false p i j h = put_case (λ n t. t ≡ false → p n ≡ false) p i true j (λ e q. absurd (true≢false q)) (λ e q. q) h

-- why a message is lost or ignored: its replica or client is out, it is old, or it does not count
abbrev Idle : State → Msg → Type 0
Idle b m =
    ((m.reply ≡ false) × ((b.replica_out m.replica ≡ true) ⊎ (m.round ≤ b.heard m.replica m.client)))
    ⊎ ((m.reply ≡ true) × ((b.client_out m.client ≡ true) ⊎ ((k : Kind) (ss : List Slip) → Counting b m k ss → ⊥)))

module _ (g : Params) where
  -- A call keeps making progress if each message on its way to it stays so, or its reply was counted.
  progress_kept : (b b' : State) (c r : ℕ) (p : Phase) → ((i : ℕ) → b'.replica_out i ≡ false → b.replica_out i ≡ false)
      → ((k : Kind) (ss : List Slip) (i : ℕ) → p ≡ awaiting k ss → b'.replica_out i ≡ false → OnWay b.waiting b.heard k c r i → Among i (replicas_of ss) ⊎ OnWay b'.waiting b'.heard k c r i)
      → ProgressAt g b c r p → ProgressAt g b' c r p
  progress_kept b b' c r idle o f h = tt
  progress_kept b b' c r due o f h = tt
  progress_kept b b' c r (awaiting k ss) o f h =
      record { short = h.short; each = λ i lt q. elim (h.each i lt (o i q)) [ inl a ↦ inl a | inr a ↦ f k ss i refl q a ] }

  -- A message other than the one taken still waits.
  still : (w v : List Msg) (heard : ℕ → ℕ → ℕ) (k : Kind) (c r i : ℕ) (m : Msg) → Takes m w v → (a : OnWay w heard k c r i) → (a.message ≡ m) ⊎ OnWay v heard k c r i
  still w v heard k c r i m t a =
      elim (taken_or_waits a.message t a.waits) [
        | inl e ↦ inl e
        | inr j ↦ inr (on_way w v heard heard k c r i a j a.open_yet)
      ]

  -- Other clients go on as one client's reply is taken.
  others : (b : State) (m : Msg) (w : List Msg) (x : Client) (c : ℕ) → Takes m b.waiting w → (c ≡ m.client → ⊥)
      → ProgressAt g b c (b.clients c).round (b.clients c).phase → ProgressAt g (sets b m.client x w) c (b.clients c).round (b.clients c).phase
  others b m w x c t ne h =
      progress_kept b (sets b m.client x w) c (b.clients c).round (b.clients c).phase (λ i q. q)
      (λ k ss i e q a. elim (still b.waiting w b.heard k c (b.clients c).round i m t a) [
        | inl z ↦ absurd (ne (sym a.client ∙ ap (λ (y : Msg). y.client) z))
        | inr z ↦ inr z
      ]) h

  -- A reply is taken, and its client moves on.
  progress_set : (b : State) (m : Msg) (w : List Msg) (x : Client) → Takes m b.waiting w → x.round ≡ (b.clients m.client).round → Progress g b
      → (b.client_out m.client ≡ false → ProgressAt g (sets b m.client x w) m.client x.round x.phase) → Progress g (sets b m.client x w)
  progress_set b m w x t e h mine =
      record {
        heard = λ i c. put_case (λ j y. b.heard i j ≤ y.round) b.clients m.client x c (λ q. subst (λ n. b.heard i m.client ≤ n) (sym e) (h.heard i m.client)) (λ q. h.heard i c);
        out = h.out;
        calls = λ c present. put_case (λ j y. b.client_out j ≡ false → ProgressAt g (sets b m.client x w) j y.round y.phase) b.clients m.client x c
            mine' (λ ne p. others b m w x c t ne (h.calls c p)) present;
      }
    where
      mine' : {c : ℕ} → c ≡ m.client → b.client_out m.client ≡ false → ProgressAt g (sets b m.client x w) m.client x.round x.phase
      mine' q p = mine p

  -- It counts the reply.
  progress_counted : (b : State) (m : Msg) (w : List Msg) (k : Kind) (ss : List Slip) → Takes m b.waiting w → Counting b m k ss → Short g k (slip m ∷ ss) → Progress g b
      → Progress g (sets b m.client (phased (b.clients m.client) (awaiting k (slip m ∷ ss))) w)
  progress_counted b m w k ss t n sh h =
      progress_set b m w (phased (b.clients m.client) (awaiting k (slip m ∷ ss))) t refl h
      (λ p. let o : Owing g b m.client (b.clients m.client).round k ss = subst (ProgressAt g b m.client (b.clients m.client).round) n.awaited (h.calls m.client p) in
      record {
        short = sh;
        each = λ i lt q. elim (o.each i lt q) [
          | inl a ↦ inl (inr a)
          | inr a ↦ elim (still b.waiting w b.heard k m.client _ i m t a) [ inl z ↦ inl (inl (sym a.replica ∙ ap (λ (y : Msg). y.replica) z)) | inr z ↦ inr z ]
        ];
      })

  -- Its call ends, or is due.
  progress_rested : (b : State) (m : Msg) (w : List Msg) (y : Client) → Takes m b.waiting w → y.round ≡ (b.clients m.client).round → (y.phase ≡ idle) ⊎ (y.phase ≡ due) → Progress g b → Progress g (sets b m.client y w)
  progress_rested b m w y t e r h = progress_set b m w y t e h (λ p. quiet r)
    where
      quiet : (y.phase ≡ idle) ⊎ (y.phase ≡ due) → ProgressAt g (sets b m.client y w) m.client y.round y.phase
      quiet (inl q) = subst (ProgressAt g (sets b m.client y w) m.client y.round) (sym q) tt
      quiet (inr q) = subst (ProgressAt g (sets b m.client y w) m.client y.round) (sym q) tt

  -- A message is lost or ignored.
  progress_dropped : (b : State) (m : Msg) (w : List Msg) → Takes m b.waiting w
      → Idle b m → Progress g b → Progress g (drops b w)
  progress_dropped b m w t why h =
      record {
        heard = h.heard;
        out = h.out;
        calls = λ c present. progress_kept b (drops b w) c (b.clients c).round (b.clients c).phase (λ i q. q)
            (λ k ss i e q a. elim (still b.waiting w b.heard k c (b.clients c).round i m t a) [ inl z ↦ inl (gone c present k ss i e q a z why) | inr z ↦ inr z ]) (h.calls c present);
      }
    where
      gone : (c : ℕ) → b.client_out c ≡ false → (k : Kind) (ss : List Slip) (i : ℕ) → (b.clients c).phase ≡ awaiting k ss → b.replica_out i ≡ false
          → (a : OnWay b.waiting b.heard k c (b.clients c).round i) → a.message ≡ m
          → Idle b m → Among i (replicas_of ss)
      gone c present k ss i e q a z y =
          let at : m.replica ≡ i = ap (λ (y : Msg). y.replica) (sym z) ∙ a.replica in
          let cl : m.client ≡ c = ap (λ (y : Msg). y.client) (sym z) ∙ a.client in
          let rd : m.round ≡ (b.clients c).round = ap (λ (y : Msg). y.round) (sym z) ∙ a.round in
          let kd : m.kind ≡ k = ap (λ (y : Msg). y.kind) (sym z) ∙ a.kind in
          elim y [
            | inl p ↦ elim p.1 [
              | inl o ↦ absurd (both_ways (b.replica_out i) q (subst (λ n. b.replica_out n ≡ true) at o))
              | inr s ↦ absurd (let ok : b.heard i c < (b.clients c).round = a.open_yet (ap (λ (y : Msg). y.reply) z ∙ p.0) in
                  let s2 : m.round ≤ b.heard i c = subst (λ n. m.round ≤ b.heard i n) cl (subst (λ n. m.round ≤ b.heard n m.client) at s) in let r : ⊥ = omega arith in r)
            ]
            | inr p ↦ elim p.1 [
              | inl o ↦ absurd (both_ways (b.client_out c) present (subst (λ n. b.client_out n ≡ true) cl o))
              | inr no' ↦ elim (among? m.replica (replicas_of ss)) [
                | inl a' ↦ subst (λ n. Among n (replicas_of ss)) at a'
                | inr a' ↦ absurd (no' k ss (record { replies = p.0; kind = kd; awaited = ap (λ n. (b.clients n).phase) cl ∙ e; round = rd ∙ ap (λ n. (b.clients n).round) (sym cl); fresh = a' }))
              ]
            ]
          ]

  -- A replica replies.
  progress_delivered : (xs : List ℤ) (f : ℤ) (old : ℕ → ℕ → Card) (b : State) (m : Msg) (w : List Msg) → Takes m b.waiting w → m.reply ≡ false → Safe g xs f b old → Progress g b → Progress g (delivers b m w)
  progress_delivered xs f old b m w t nr s h =
      record {
        heard = λ i c. put_case (λ j y. y c ≤ (b.clients c).round) b.heard m.replica (put (b.heard m.replica) m.client m.round) i
            (λ e. put_case (λ j n. n ≤ (b.clients j).round) (b.heard m.replica) m.client m.round c (λ q. lf.round) (λ q. h.heard m.replica c)) (λ e. h.heard i c);
        out = h.out;
        calls = λ c present. progress_kept b (delivers b m w) c (b.clients c).round (b.clients c).phase (λ i q. q)
            (λ k ss i e q a. inr (elim (still b.waiting w b.heard k c (b.clients c).round i m t a) [
              | inl z ↦ new k c i (ap (λ (y : Msg). y.kind) (sym z) ∙ a.kind) (ap (λ (y : Msg). y.client) (sym z) ∙ a.client) (ap (λ (y : Msg). y.round) (sym z) ∙ a.round) (ap (λ (y : Msg). y.replica) (sym z) ∙ a.replica)
              | inr z ↦ stays k ss c i e z
            ])) (h.calls c present);
      }
    where
      lf : MsgFine g xs f b.replicas m (b.clients m.client) (old m.client)
      lf = (all_takes _ t s.messages).0

      heard' : ℕ → ℕ → ℕ
      heard' = put b.heard m.replica (put (b.heard m.replica) m.client m.round)

      w' : List Msg
      w' = answers (b.replicas m.replica) m ∷ w

      new : (k : Kind) (c i : ℕ) → m.kind ≡ k → m.client ≡ c → m.round ≡ (b.clients c).round → m.replica ≡ i → OnWay w' heard' k c (b.clients c).round i
      new k c i kd cl rd at = record { message = answers (b.replicas m.replica) m; waits = inl refl; kind = kd; client = cl; round = rd; replica = at; open_yet = λ q. absurd (true≢false q) }

      stays : (k : Kind) (ss : List Slip) (c i : ℕ) → (b.clients c).phase ≡ awaiting k ss → OnWay w b.heard k c (b.clients c).round i → OnWay w' heard' k c (b.clients c).round i
      stays k ss c i e a =
          elim (cases_eq i m.replica) [
            | inr ne ↦ plainly (put_case (λ j y. (a.message.reply ≡ false → b.heard j c < (b.clients c).round) → a.message.reply ≡ false → y c < (b.clients c).round) b.heard m.replica _ i (λ q. absurd (ne q)) (λ q r. r) a.open_yet)
            | inl at ↦ elim (cases_eq c m.client) [
              | inr ne ↦ plainly (put_case (λ j y. (a.message.reply ≡ false → b.heard j c < (b.clients c).round) → a.message.reply ≡ false → y c < (b.clients c).round) b.heard m.replica (put (b.heard m.replica) m.client m.round) i
                  (λ q r. put_case (λ j n. (a.message.reply ≡ false → b.heard m.replica j < (b.clients c).round) → a.message.reply ≡ false → n < (b.clients c).round) (b.heard m.replica) m.client m.round c (λ z. absurd (ne z)) (λ z y. y) r)
                  (λ q r. r) a.open_yet)
              | inl cl ↦ elim (cases_eq m.round (b.clients c).round) [
                | inl rd ↦ new k c i (lf.current nr (rd ∙ ap (λ n. (b.clients n).round) cl) k (subst (λ p. Awaits p k) (sym e ∙ ap (λ n. (b.clients n).phase) cl) refl)).0 (sym cl) rd (sym at)
                | inr ne ↦ (let le : m.round ≤ (b.clients c).round = subst (λ n. m.round ≤ (b.clients n).round) (sym cl) lf.round in
                    plainly (λ q. put_case (λ j y. y c < (b.clients c).round) b.heard m.replica (put (b.heard m.replica) m.client m.round) i
                    (λ z. put_case (λ j n. n < (b.clients c).round) (b.heard m.replica) m.client m.round c (λ y. omega arith) (λ y. absurd (y cl))) (λ z. absurd (z at))))
              ]
            ]
          ]
        where
          plainly : (a.message.reply ≡ false → heard' i c < (b.clients c).round) → OnWay w' heard' k c (b.clients c).round i
          plainly yet = on_way w w' b.heard heard' k c (b.clients c).round i a (inr a.waits) yet

  -- A client puts out messages, in a round that no replica has heard of.
  progress_sent : (b : State) (c : ℕ) (x : Client) (k : Kind) (d : Card) → x.round ≡ suc (b.clients c).round → x.phase ≡ awaiting k [] → Short g k [] → Progress g b
      → Progress g (sets b c x (sent k c x.round d (targets g k) ++ b.waiting))
  progress_sent b c x k d e p sh h =
      record {
        heard = λ i j. put_case (λ n y. b.heard i n ≤ y.round) b.clients c x j (λ q. omega (arith, h.heard i c)) (λ q. h.heard i j);
        out = h.out;
        calls = λ j present. put_case (λ n y. b.client_out n ≡ false → ProgressAt g b' n y.round y.phase) b.clients c x j
            (λ q z. subst (ProgressAt g b' c x.round) (sym p)
            (record { short = sh; each = λ i lt o. inr (record { message = _; waits = sent_waits k c x.round d (targets g k) i b.waiting lt; kind = refl; client = refl; round = refl; replica = refl; open_yet = λ y. omega (arith, h.heard i c) }) }))
            (λ q z. progress_kept b b' j (b.clients j).round (b.clients j).phase (λ i o. o)
            (λ k₁ ss i y o a. inr (on_way b.waiting _ b.heard b.heard k₁ j (b.clients j).round i a (waits_behind a.message (sent k c x.round d (targets g k)) b.waiting a.waits) a.open_yet)) (h.calls j z))
            present;
      }
    where
      b' : State
      b' = sets b c x (sent k c x.round d (targets g k) ++ b.waiting)

pub none_out : (n : ℕ) → out_count (λ i. false) n ≡ 0
none_out zero = refl
none_out (suc n) = omega (arith, none_out n)

module _ (g : Params) (fit : Fit g) (f : ℤ) where
  none_yet : (k : Kind) → Short g k []
  none_yet writes = omega (arith, three_times g fit)
  none_yet reads = omega (arith, three_times g fit)
  none_yet tells = omega arith

  -- Every past of the model makes progress.
  pub progress : (log : List Entry) (b : State) → Trace g f log b → Progress g b
  progress log b opening = record { heard = λ i c. omega arith; out = omega (arith, none_out g.replicas); calls = λ c p. tt }
  progress log b (stirred {b = b₀} w same p) =
      let h = progress log b₀ p in
      record {
        heard = h.heard;
        out = h.out;
        calls = λ c q. progress_kept g b₀ (drops b₀ w) c (b₀.clients c).round (b₀.clients c).phase (λ i o. o)
            (λ k ss i e o a. inr (on_way b₀.waiting w b₀.heard b₀.heard k c (b₀.clients c).round i a ((same a.message).0 a.waits) a.open_yet)) (h.calls c q);
      }
  progress log b (refused {log = log₀} o a ms q p) = progress log₀ b p
  progress log b (wrote {log = log₀} {b = b₀} v ms present rest p) = progress_sent g b₀ 0 (writing (b₀.clients 0) v) writes (carried g 0 (writing (b₀.clients 0) v)) refl refl (none_yet writes) (progress log₀ b₀ p)
  progress log b (asked {log = log₀} {b = b₀} c ms lt present rest p) = progress_sent g b₀ (suc c) (asking (b₀.clients (suc c)) reads) reads (carried g (suc c) (b₀.clients (suc c))) refl refl (none_yet reads) (progress log₀ b₀ p)
  progress log b (told {log = log₀} {b = b₀} c ms lt present rest p) = progress_sent g b₀ (suc c) (asking (b₀.clients (suc c)) tells) tells (carried g (suc c) (b₀.clients (suc c))) refl refl (none_yet tells) (progress log₀ b₀ p)
  progress log b (delivered {log = log₀} {b = b₀} m w ms t nr inside lt p) = let u = invariant g fit f log₀ b₀ p in progress_delivered g (values log₀) f u.snapshot b₀ m w t nr u.safe (progress log₀ b₀ p)
  progress log b (lost {log = log₀} {b = b₀} m w a ms q t p why) = progress_dropped g b₀ m w t why (progress log₀ b₀ p)
  progress log b (counted {log = log₀} {b = b₀} m w k ss ms t present n sh p) = progress_counted g b₀ m w k ss t n sh (progress log₀ b₀ p)
  progress log b (finished {log = log₀} {b = b₀} m w k ss r ms t present n why p) = progress_rested g b₀ m w _ t refl (inl refl) (progress log₀ b₀ p)
  progress log b (decided {log = log₀} {b = b₀} m w ss y shown z ms t present n full le rest d how p) = progress_rested g b₀ m w y t le.round (inl rest) (progress log₀ b₀ p)
  progress log b (became {log = log₀} {b = b₀} m w ss y shown ms t present n full le rest d p) = progress_rested g b₀ m w y t le.round (inr rest) (progress log₀ b₀ p)
  progress log b (replica_gone {log = log₀} {b = b₀} i ms lt ni few p) =
      let h = progress log₀ b₀ p in
      record {
        heard = h.heard;
        out = omega (arith, out_one_more b₀.replica_out i g.replicas);
        calls = λ c q. progress_kept g b₀ _ c (b₀.clients c).round (b₀.clients c).phase (λ j o. put_false b₀.replica_out i j o) (λ k ss j e o a. inr a) (h.calls c q);
      }
  progress log b (client_gone {log = log₀} {b = b₀} c ms p) =
      let h = progress log₀ b₀ p in
      record {
        heard = h.heard;
        out = h.out;
        calls = λ j q. progress_kept g b₀ _ j (b₀.clients j).round (b₀.clients j).phase (λ i o. o) (λ k ss i e o a. inr a) (h.calls j (put_false b₀.client_out c j q));
      }

-- In every past with no message waiting no client that is not out awaits a reply.
pub settles : Settles
settles g fit f log b p = settled g fit b (progress g fit f log b p)
