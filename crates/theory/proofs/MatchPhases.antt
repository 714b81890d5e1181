-- What a phase of a client counts, the model counts, and nothing else. It ends in `phase_counts`.
use Rattle.std.proofs.Common.{◌≡◌, ℕ, suc, ◌+◌, ◌-◌, ◌*◌, ◌<◌, ◌≤◌, true, false, eqb, ◌⊎◌, List, map, reverse, ◌∷◌, length, take, sym, refl, ap, ◌∙◌, subst, inl, inr, arith}
use Rattle.std.proofs.lemmas.Bool.Decides.{nat_tests}
use Rattle.std.proofs.lemmas.Bool.{eqb-true, eq-eqb, leb-false}
use Rattle.theory.proofs.Words.{Message, receipt_of, reading_of, adds, Checked, Phase, Idle, Writing, Asking, Due, Telling}
use Rattle.quorum.specs.declared.replies.Replies.{Replies}
use Rattle.client.specs.Hear.{awaited, uncounted, joined, tallied, quorum_of, is_complete}
use Rattle.theory.proofs.Sets.{Lacks}
use Rattle.theory.proofs.Cards.{Slip, replicas_of}
use Rattle.theory.proofs.Model as model
use Rattle.theory.proofs.Matching.{params_of, msg_of, kind_of, PhasesMatch}
use Rattle.theory.proofs.MatchCounting.{adds_if_lacks, replicas_of_readings, receipts_counted, readings_counted, ReceiptsCounted, ReadingsCounted}

-- ---- kinds of replies

kinds_to_clients : (n : ℕ) → 4 ≤ n → n ≤ 6 → (n ≡ 4) ⊎ ((n ≡ 5) ⊎ (n ≡ 6))
kinds_to_clients n a b = grind (arith, nat_tests)

-- the number of the kind of reply that a round awaits
abbrev numbered : model.Kind → ℕ
numbered model.writes = 4
numbered model.reads = 5
numbered model.tells = 6

kind_number : (n : ℕ) (kd : model.Kind) → 4 ≤ n → n ≤ 6 → kind_of n ≡ kd → n ≡ numbered kd
kind_number n kd a b e =
    elim (kinds_to_clients n a b) [
      | inl q ↦ q ∙ ap numbered (ap kind_of (sym q) ∙ e)
      | inr (inl q) ↦ q ∙ ap numbered (ap kind_of (sym q) ∙ e)
      | inr (inr q) ↦ q ∙ ap numbered (ap kind_of (sym q) ∙ e)
    ]

-- ---- from the model to the rules

-- what the model counts, the replies of a phase count
module _ (m : Message) (kd : model.Kind) (ss : List Slip) (from : 4 ≤ m.kind) (to : m.kind ≤ 6) (sort : kind_of m.kind ≡ kd) where
  replies_count : {X : Type 0} (f : X → ℕ) (rs : Replies X) (s : X) (j : model.Kind) (ts : List Slip)
      → model.awaiting j ts ≡ model.awaiting kd ss → Lacks (f s) (replicas_of ss) → rs.got < length rs.slips → replicas_of ts ≡ reverse (map f (take rs.got rs.slips))
      → (eqb m.kind (numbered j) ≡ true) × (adds f rs.slips rs.got s ≡ true)
  replies_count f rs s j ts e l room same =
      let kinds : j ≡ kd = cc in
      let slips : ss ≡ ts = cc in (
        eq-eqb m.kind (numbered j) (kind_number m.kind j from to (sort ∙ sym kinds)),
        adds_if_lacks f rs.slips rs.got ts same s room (subst (λ us. Lacks (f s) (replicas_of us)) slips l),
      )

-- what the model counts, the phase counts
pub counts_if : (k : Checked) (p : Phase) (q : model.Phase) (m : Message) (kd : model.Kind) (ss : List Slip) → 4 ≤ m.kind → m.kind ≤ 6 → PhasesMatch k p q → q ≡ model.awaiting kd ss → kind_of m.kind ≡ kd → Lacks m.replica (replicas_of ss)
    → (eqb m.kind (awaited p) ≡ true) × (uncounted p m ≡ true)
counts_if k Idle q m kd ss a b h e n l = grind arith
counts_if k Due q m kd ss a b h e n l = grind arith
counts_if k (Writing rs) q m kd ss a b h e n l =
    replies_count m kd ss a b n (λ x. x.replica) rs (receipt_of m) model.writes h.0 (sym h.1 ∙ e) l (omega (arith, h.2.long, h.2.short, k.replicated.1)) h.2.same
counts_if k (Asking rs) q m kd ss a b h e n l =
    replies_count m kd ss a b n (λ x. x.replica) rs (reading_of m) model.reads h.0 (sym h.1 ∙ e) l (omega (arith, h.2.long, h.2.short, k.replicated.1)) (replicas_of_readings (take rs.got rs.slips) h.0 h.2.counted.same)
counts_if k (Telling rs) q m kd ss a b h e n l =
    replies_count m kd ss a b n (λ x. x.replica) rs (receipt_of m) model.tells h.0 (sym h.1 ∙ e) l (omega (arith, h.2.long, h.2.short, k.tolerant.1)) h.2.same

-- ---- from the rules to the model

-- a reply that a phase counts
pub record Progress (k : Checked) (p : Phase) (q : model.Phase) (m : Message) : Type 0 where
  pub kind : model.Kind
  pub slips : List Slip
  pub awaits : q ≡ model.awaiting kind slips
  pub sort : kind_of m.kind ≡ kind
  pub fresh : Lacks m.replica (replicas_of slips)
  pub next : is_complete k (joined p m) ≡ false → PhasesMatch k (joined p m) (model.awaiting kind (model.slip (msg_of m) ∷ slips)) × model.Short (params_of k) kind (model.slip (msg_of m) ∷ slips)

-- one reply more of the kind that is awaited
progressed : (k : Checked) (p : Phase) (q : model.Phase) (m : Message) (kd : model.Kind) (ss : List Slip)
    → q ≡ model.awaiting kd ss → eqb m.kind (numbered kd) ≡ true → kind_of (numbered kd) ≡ kd → Lacks m.replica (replicas_of ss) → tallied (joined p m) ≡ suc (length ss)
    → (suc (length ss) < quorum_of k (joined p m) → PhasesMatch k (joined p m) (model.awaiting kd (model.slip (msg_of m) ∷ ss)) × model.Short (params_of k) kd (model.slip (msg_of m) ∷ ss))
    → Progress k p q m
progressed k p q m kd ss awaits e sort fresh total next =
    record {
      kind = kd;
      slips = ss;
      awaits = awaits;
      sort = ap kind_of (eqb-true m.kind (numbered kd) e) ∙ sort;
      fresh = fresh;
      next = λ f. next (omega (arith, leb-false _ _ f, total));
    }

pub phase_counts : (k : Checked) (p : Phase) (q : model.Phase) (m : Message) → m.marks < 256 → PhasesMatch k p q → eqb m.kind (awaited p) ≡ true → uncounted p m ≡ true → Progress k p q m
phase_counts k Idle q m byte h e u = grind arith
phase_counts k Due q m byte h e u = grind arith
phase_counts k (Writing rs) q m byte h e u =
    let c : ReceiptsCounted (k.replicas - k.tolerated) rs h.0 m = receipts_counted (k.replicas - k.tolerated) rs h.0 m h.2 u in
    progressed k (Writing rs) q m model.writes h.0 h.1 e refl c.fresh c.total (λ l. ((_, refl, c.next l), omega (arith, l)))
phase_counts k (Asking rs) q m byte h e u =
    let c : ReadingsCounted (k.replicas - k.tolerated) rs h.0 m = readings_counted (k.replicas - k.tolerated) rs h.0 m byte h.2 u in
    progressed k (Asking rs) q m model.reads h.0 h.1 e refl c.fresh c.total (λ l. ((_, refl, c.next l), omega (arith, l)))
phase_counts k (Telling rs) q m byte h e u =
    let c : ReceiptsCounted (2 * k.tolerated + 1) rs h.0 m = receipts_counted (2 * k.tolerated + 1) rs h.0 m h.2 u in
    progressed k (Telling rs) q m model.tells h.0 h.1 e refl c.fresh c.total (λ l. ((_, refl, c.next l), omega (arith, l)))
