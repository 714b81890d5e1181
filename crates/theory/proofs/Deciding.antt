-- What a first round decides: ends in `decided_at_least`, `one_round_when_posted` and `decided_established`.
use Rattle.std.proofs.Common.{◌≡◌, ℕ, suc, ◌+◌, ◌-◌, ◌*◌, ◌^◌, ◌<◌, ◌≤◌, Bool, true, false, ◌⊎◌, List, [], ◌∷◌, length, sym, refl, ◌∙◌, subst, inl, inr, mul-le-mul_right, arith}
use lib.Bits.{and_le_r, bit_or}
use lib.Count.{ones, ones-le}
use Rattle.std.proofs.lemmas.List.{length-map}
use Rattle.std.proofs.lemmas.Bool.{cases_lt, both_ways, true≢false}
use Rattle.std.specs.List.{Contains, AllByRecursion}
use Rattle.theory.proofs.Lists.{All-map, All-contains, All-contains_itself, All-weaker}
use Rattle.theory.proofs.Sets.{Distinct, Within, Many}
use Rattle.theory.proofs.Cards.{Params, Fit, Card, Slip, replicas_of, highest, Several, Noted, Seen, Decision, nothing, noted, seen, due, older, Ahead, Later}
use Rattle.theory.proofs.Overlap.{many_both, many_weaker}
use Rattle.theory.proofs.Marks.{or_within}
use Rattle.theory.proofs.Growing.{ahead_stays}
use Rattle.theory.proofs.Slips.{highest_tops, several_weaker, several_with, some_card, several_from_many}
use Rattle.theory.proofs.Established.{Established, opening, written, witnessed, recorded, Posted}

pub three_times : (g : Params) → Fit g → 3 * g.tolerated + 1 ≤ g.replicas
three_times g fit = omega (arith, fit.room, mul-le-mul_right g.tolerated fit.some_group)

-- the slips of a full round, against the cards that the replicas had as it began
pub record Round (g : Params) (old : ℕ → Card) (own : ℕ) (ss : List Slip) : Type 0 where
  -- they come from distinct replicas, all but t of them
  pub distinct : Distinct (replicas_of ss)
  pub enough : g.replicas ≤ length ss + g.tolerated
  pub below : AllByRecursion (λ s. s.replica < g.replicas) ss
  -- each replica has grown since, and has the reader's own mark
  pub after : AllByRecursion (λ s. Later (old s.replica) s.card) ss
  pub marked : AllByRecursion (λ s. Within own s.card.marks) ss
  -- a note is of a known version
  pub known_note : AllByRecursion (λ s. s.card.note ≤ s.card.version) ss

-- ---- from below: what was established as the round began

module _ (g : Params) (fit : Fit g) (old : ℕ → Card) (own : ℕ) (ss : List Slip) (r : Round g old own ss) where
  -- all slips, by their replicas
  all_sent : Many g.replicas (length ss) (λ i. (s : Slip) × Contains ss s × (s.replica ≡ i))
  all_sent =
      record {
        places = replicas_of ss;
        distinct = r.distinct;
        below = All-map (λ i. i < g.replicas) (λ s. s.replica) ss r.below;
        enough = omega (arith, length-map ss (λ s. s.replica));
        each = All-map _ (λ s. s.replica) ss (All-weaker (Contains ss) (λ (s : Slip). (x : Slip) × Contains ss x × (x.replica ≡ s.replica)) (λ s h. (s, h, refl)) ss (All-contains_itself ss));
      }

  -- What held of the cards of many replicas as the round began, and lasts, holds of all but t as many slips.
  met : (m n : ℕ) (P Q : Card → Type 0) → n + g.tolerated ≤ m → ((c d : Card) → P c → Later c d → Q d) → Many g.replicas m (λ i. P (old i)) → Several ss n Q
  met m n P Q h lasts x =
      several_from_many g.replicas ss n Q
      (many_weaker _ _ _ _
      (λ i p. (p.1.0, p.1.1, p.1.2, lasts (old p.1.0.replica) p.1.0.card (subst (λ j. P (old j)) (sym p.1.2) p.0) (All-contains (λ s. Later (old s.replica) s.card) ss p.1.0 r.after p.1.1)))
      (many_both g.replicas m (length ss) n _ _ x all_sent (omega (arith, r.enough))))

  -- Several slips ahead of k: the highest is above k, or it is k and they are at it.
  above_or_at : (n k common : ℕ) → 1 ≤ n → Several ss n (Ahead k common)
      → (k < highest ss) ⊎ ((k ≡ highest ss) × Several ss n (λ c. (c.version ≡ highest ss) × Within common c.marks))
  above_or_at n k common h x =
      elim (cases_lt k (highest ss)) [
        | inl above ↦ inl above
        | inr top ↦ inr (same top, several_weaker ss n _ _ (λ c. at top c) y)
      ]
    where
      y : Several ss n (λ c. Ahead k common c × (c.version ≤ highest ss))
      y = several_with ss n (Ahead k common) (λ c. c.version ≤ highest ss) (highest_tops ss) x

      one : (c : Card) × (Ahead k common c × (c.version ≤ highest ss))
      one = some_card ss n (λ c. Ahead k common c × (c.version ≤ highest ss)) h y

      same : highest ss ≤ k → k ≡ highest ss
      same top = elim one.1.0 [ inl p ↦ omega (arith, one.1.1) | inr p ↦ omega (arith, one.1.1, p.0) ]

      at : highest ss ≤ k → (c : Card) → Ahead k common c × (c.version ≤ highest ss) → (c.version ≡ highest ss) × Within common c.marks
      at top c p = elim p.0 [ inl q ↦ absurd (omega (arith, p.1)) | inr q ↦ (omega (arith, p.1, q.0), q.1) ]

  -- Several slips with a note of k or above: the highest is above k, or it is k and they note it.
  above_or_noted : (k n : ℕ) → 1 ≤ n → Several ss n (λ c. k ≤ c.note) → (k < highest ss) ⊎ ((k ≡ highest ss) × Noted ss n)
  above_or_noted k n h x =
      elim (cases_lt k (highest ss)) [ inl above ↦ inl above | inr top ↦ inr (same top, several_weaker ss n _ _ (λ c p. at top c p) y) ]
    where
      Between : Card → Type 0
      Between c = ((k ≤ c.note) × (c.note ≤ c.version)) × (c.version ≤ highest ss)

      y : Several ss n Between
      y = several_with ss n (λ c. (k ≤ c.note) × (c.note ≤ c.version)) (λ c. c.version ≤ highest ss) (highest_tops ss) (several_with ss n (λ c. k ≤ c.note) (λ c. c.note ≤ c.version) r.known_note x)

      one : (c : Card) × Between c
      one = some_card ss n Between h y

      same : highest ss ≤ k → k ≡ highest ss
      same top = omega (arith, one.1.0.0, one.1.0.1, one.1.1)

      at : highest ss ≤ k → (c : Card) → Between c → c.note ≡ highest ss
      at top c p = omega (arith, p.0.0, p.0.1, p.1)

  -- the slips show k: it is 0, or below the highest, or the highest and seen or noted
  Reached : ℕ → Type 0
  Reached k = (k ≡ 0) ⊎ ((k < highest ss) ⊎ ((k ≡ highest ss) × (Seen g ss 0 ⊎ Noted ss 1)))

  room_for : (a : ℕ) → a ≤ g.groups + 1 → suc a * g.tolerated < g.replicas
  room_for a h = omega (arith, fit.room, mul-le-mul_right g.tolerated h)

  -- The slips of a round show what was established as it began.
  established_reached : (k : ℕ) → 2 ≤ ones (bit_or 1 own) → Established g old k → Reached k
  unfolding Reached
  established_reached k two (opening e) = inl e
  established_reached k two (written x) =
      let room : suc 1 * g.tolerated < g.replicas = room_for 1 (omega arith) in
      let n = g.replicas - 2 * g.tolerated in
      let got : Several ss n (Ahead k 1) = met _ n (Ahead k 1) (Ahead k 1) (omega arith) (λ c d. ahead_stays k 1 c d) x in
      elim (above_or_at n k 1 (omega arith) got) [
        | inl above ↦ inr (inl above)
        | inr p ↦ inr (inr (
          p.0,
          inl (record {
            factor = 2;
            low = omega arith;
            high = omega (arith, fit.some_group);
            common = bit_or 1 own;
            many = omega arith;
            replies = several_weaker ss n _ _ (λ c q. (q.0.0, or_within 1 own c.marks q.0.1 q.1))
                (several_with ss n _ (λ c. Within own c.marks) r.marked p.1);
          }),
        ))
      ]
  established_reached k two (witnessed a common low high more x) =
      let room : suc a * g.tolerated < g.replicas = room_for a (omega arith) in
      let n = g.replicas - (a + 1) * g.tolerated in
      let got : Several ss n (Ahead k common) = met _ n (Ahead k common) (Ahead k common) (omega arith) (λ c d. ahead_stays k common c d) x in
      elim (above_or_at n k common (omega arith) got) [
        | inl above ↦ inr (inl above)
        | inr p ↦ inr (inr (
          p.0,
          inl (record {
            factor = a + 1;
            low = omega arith;
            high = omega arith;
            common = common;
            many = omega arith;
            replies = p.1;
          }),
        ))
      ]
  established_reached k two (recorded x) =
      let got : Several ss 1 (λ c. k ≤ c.note) = met _ 1 (λ c. k ≤ c.note) (λ c. k ≤ c.note) (omega arith) (λ c d h grown. omega (arith, grown.note)) x in
      elim (above_or_noted k 1 (omega arith) got) [ inl above ↦ inr (inl above) | inr p ↦ inr (inr (p.0, inr p.1)) ]

  -- What was established as the round began is not above what it shows.
  pub decided_at_least : (k shown : ℕ) (is_due : Bool) → 2 ≤ ones (bit_or 1 own) → Established g old k → Decision g ss shown is_due → k ≤ shown
  unfolding Reached
  decided_at_least k shown is_due two e d = go (established_reached k two e) d
    where
      go : Reached k → Decision g ss shown is_due → k ≤ shown
      go (inl z) d = omega arith
      go (inr (inl above)) (nothing h s f) = omega arith
      go (inr (inl above)) (noted h s f) = omega arith
      go (inr (inl above)) (seen h s f) = omega arith
      go (inr (inl above)) (due h i j s f) = omega arith
      go (inr (inl above)) (older h i s f) = omega arith
      go (inr (inr p)) (nothing h s f) = omega (arith, p.0)
      go (inr (inr p)) (noted h s f) = omega (arith, p.0)
      go (inr (inr p)) (seen h s f) = omega (arith, p.0)
      go (inr (inr p)) (due h i j s f) = omega (arith, p.0)
      go (inr (inr p)) (older h i s f) = absurd (i p.1)

  -- A read that shows what was posted as it began takes one round: one that becomes due shows more.
  pub one_round_when_posted : (k shown : ℕ) (is_due : Bool) → Posted g old k → Decision g ss shown is_due → is_due ≡ true → k < shown
  one_round_when_posted k shown is_due x d e = go (above_or_noted k (g.tolerated + 1) (omega arith) got) d
    where
      got : Several ss (g.tolerated + 1) (λ c. k ≤ c.note)
      got = met _ (g.tolerated + 1) (λ c. k ≤ c.note) (λ c. k ≤ c.note) (omega arith) (λ c d h grown. omega (arith, grown.note)) x

      go : (k < highest ss) ⊎ ((k ≡ highest ss) × Noted ss (g.tolerated + 1)) → Decision g ss shown is_due → k < shown
      go p (nothing h s f) = absurd (both_ways is_due f e)
      go p (noted h s f) = absurd (both_ways is_due f e)
      go p (seen h s f) = absurd (both_ways is_due f e)
      go p (older h i s f) = absurd (both_ways is_due f e)
      go (inl above) (due h i j s f) = omega arith
      go (inr p) (due h i j s f) = absurd (h p.1)

-- ---- from above: what is established as the round is decided

module _ (g : Params) (fit : Fit g) (now : ℕ → Card) (ss : List Slip)
    (below : AllByRecursion (λ s. s.replica < g.replicas) ss) (before : AllByRecursion (λ s. Later s.card (now s.replica)) ss)
    (few : AllByRecursion (λ s. s.card.marks < 2 ^ (g.groups + 1)) ss) where
  -- What holds of several slips, and lasts, holds of the cards of as many replicas now.
  many_from_several : (m : ℕ) (P Q : Card → Type 0) → ((c d : Card) → P c → Later c d → Q d) → Several ss m P → Many g.replicas m (λ i. Q (now i))
  many_from_several m P Q lasts x =
      record {
        places = replicas_of x.chosen;
        distinct = x.distinct;
        below = All-map (λ i. i < g.replicas) (λ s. s.replica) x.chosen (All-weaker (Contains ss) (λ s. s.replica < g.replicas) (λ s h. All-contains (λ s. s.replica < g.replicas) ss s below h) x.chosen x.from);
        enough = omega (arith, x.enough, length-map x.chosen (λ s. s.replica));
        each = All-map (λ i. Q (now i)) (λ s. s.replica) x.chosen (go x.chosen x.from x.each);
      }
    where
      go : (xs : List Slip) → AllByRecursion (Contains ss) xs → AllByRecursion (λ s. P s.card) xs → AllByRecursion (λ s. Q (now s.replica)) xs
      go [] f p = tt
      go (y ∷ ys) f p = (lasts y.card (now y.replica) p.0 (All-contains (λ s. Later s.card (now s.replica)) ss y before f.0), go ys f.1 p.1)

  -- There are V + 1 marks, so more than a in common means a is at most V.
  seen_factor : (x : Seen g ss 1) → x.factor ≤ g.groups
  seen_factor x = go x.replies.chosen x.replies.from x.replies.each (omega (arith, x.replies.enough, fit.room, mul-le-mul_right g.tolerated x.high))
    where
      go : (xs : List Slip) → AllByRecursion (Contains ss) xs → AllByRecursion (λ s. (s.card.version ≡ highest ss) × Within x.common s.card.marks) xs → 1 ≤ length xs → x.factor ≤ g.groups
      go [] f p some = absurd (omega arith)
      go (y ∷ ys) f p some =
          let lt : y.card.marks < 2 ^ (g.groups + 1) = All-contains (λ s. s.card.marks < 2 ^ (g.groups + 1)) ss y few f.0 in
          let le : x.common ≤ y.card.marks = subst (λ n. n ≤ y.card.marks) p.0.1 (and_le_r x.common y.card.marks) in
          omega (arith, ones-le (g.groups + 1) x.common (omega arith), x.many)

  -- A round that ends its read shows what is established, if the version below the highest is.
  pub decided_established : (shown : ℕ) (is_due : Bool) → (suc shown ≡ highest ss → Established g now shown) → Decision g ss shown is_due → is_due ≡ false → Established g now shown
  decided_established shown is_due under (nothing h s f) e = opening s
  decided_established shown is_due under (noted x s f) e =
      recorded (many_from_several (g.tolerated + 1) (λ c. c.note ≡ highest ss) (λ c. shown ≤ c.note) (λ c d p grown. omega (arith, grown.note)) x)
  decided_established shown is_due under (seen x s f) e =
      witnessed x.factor x.common x.low (seen_factor x) (omega (arith, x.many))
      (many_from_several _ (λ c. (c.version ≡ highest ss) × Within x.common c.marks) (Ahead shown x.common)
      (λ c d p grown. ahead_stays shown x.common c d (inr (s ∙ sym p.0, p.1)) grown) x.replies)
  decided_established shown is_due under (due h i j s f) e = absurd (both_ways is_due e f)
  decided_established shown is_due under (older h i s f) e = under s

-- A read that becomes due shows the highest version.
pub due_shows_highest : (g : Params) (ss : List Slip) (shown : ℕ) → Decision g ss shown true → shown ≡ highest ss
due_shows_highest g ss shown (nothing h s e) = absurd (true≢false e)
due_shows_highest g ss shown (noted h s e) = s
due_shows_highest g ss shown (seen h s e) = s
due_shows_highest g ss shown (due h i j s e) = s
due_shows_highest g ss shown (older h i s e) = absurd (true≢false e)
