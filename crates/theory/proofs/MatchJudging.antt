-- What the readings of a first round decide, the model decides from their slips. It ends in `all_judged`.
use Rattle.std.proofs.Common.{◌≡◌, ℕ, suc, ◌+◌, ◌-◌, ◌*◌, ◌<◌, ◌≤◌, max, Bool, true, false, cond, ◌||◌, eqb, ltb, leb, ◌⊎◌, List, [], ◌∷◌, map, length, fold, filter, sym, refl, ap, ◌∙◌, inl, inr, mul-le-mul_right, arith}
use mathlib.Core.List.{reverse_aux}
use lib.Bits.{bit_and, and_comm, and_le_r}
use Rattle.std.specs.List.{Contains, AllByRecursion, best_of}
use Rattle.std.proofs.lemmas.List.{length-reverse, length-map}
use Rattle.std.proofs.lemmas.Bool.{cases_lt, cond_both, both_ways, eqb-true, eqb-false, eq-eqb, leb-true, leb-false, le-leb, and_parts, and_from, or_cases, or_parts}
use Rattle.theory.proofs.Words.{Reading, Highest, Previous, Checked}
use Rattle.quorum.specs.declared.decide.Verdict.TheVariants.{Due}
use Rattle.quorum.specs.Masks.{covers}
use Rattle.quorum.specs.Highest.{highest_of, notes_at, lowest_of, lowest_at}
use Rattle.quorum.specs.Agree.{agreed}
use Rattle.quorum.specs.Decide.{verdict_at, decided_at}
use Rattle.quorum.proofs.Agreements.{SomeMaskAgreement, mask_from_agreed, agreed_from_mask}
use Rattle.theory.proofs.Lists.{All-contains, All-filter, All-weaker, filter_passes, has_here, has_there}
use Rattle.theory.proofs.Sets.{Within}
use Rattle.theory.proofs.Cards.{Params, Slip, highest, Several, Noted, Seen}
use Rattle.theory.proofs.Cards as cards
use Rattle.theory.proofs.Matching.{params_of, reading_slip, ReadingsAre}
use Rattle.theory.proofs.MatchSlips.{all_slips, slips_have, several_from_count, count_from_several}
use Rattle.theory.proofs.MatchDeciding.{VerdictFits, AllJudged}

-- ---- the highest version

highest_onto : (xs : List Reading) (ss : List Slip) → highest (reverse_aux (map reading_slip xs) ss) ≡ fold (λ a (s : Reading). max a s.version) (highest ss) xs
highest_onto [] ss = refl
highest_onto (x ∷ xs) ss =
    let e : max x.version (highest ss) ≡ max (highest ss) x.version = omega arith in
    highest_onto xs (reading_slip x ∷ ss) ∙ ap (λ n. fold (λ a (s : Reading). max a s.version) n xs) e

highest_is : (xs : List Reading) (ss : List Slip) → ReadingsAre xs ss → highest_of xs ≡ highest ss
highest_is xs ss h = sym (ap highest h.same ∙ highest_onto xs [])

-- some slip has it
pub record Top (ss : List Slip) : Type 0 where
  pub slip : Slip
  pub has : Contains ss slip
  pub top : slip.card.version ≡ highest ss

top_more : (s : Slip) (ss : List Slip) → Top ss → Top (s ∷ ss)
top_more s ss t =
    elim (cases_lt s.card.version (highest ss)) [
      | inl l ↦ record { slip = t.slip; has = has_there s t.slip ss t.has; top = omega (arith, t.top) }
      | inr l ↦ record { slip = s; has = has_here s ss; top = omega arith }
    ]

top_of : (s : Slip) (ss : List Slip) → Top (s ∷ ss)
top_of s [] = record { slip = s; has = has_here s []; top = omega arith }
top_of s (t ∷ ss) = top_more s (t ∷ ss) (top_of t ss)

-- ---- the reply of the lowest replica

all_best : (P : Reading → Type 0) (lt : Reading → Reading → Bool) (x : Reading) (xs : List Reading) → P x → AllByRecursion P xs → P (best_of lt x xs)
all_best P lt x [] a h = a
all_best P lt x (y ∷ ys) a h = all_best P lt (cond (lt y x) y x) ys (cond_both (lt y x) y x P (λ e. h.0) (λ e. a)) h.1

all_lowest : (P : Reading → Type 0) (xs : List Reading) → 0 < length xs → AllByRecursion P xs → P (lowest_of xs)
all_lowest P [] l h = absurd (omega arith)
all_lowest P (x ∷ xs) l h = all_best P (λ y z. ltb y.replica z.replica) x xs h.0 h.1

-- a reading that passes is kept
kept_some : (p : Reading → Bool) (xs : List Reading) → AllByRecursion (λ x. p x ≡ true → 0 < length (filter p xs)) xs
kept_some p [] = tt
kept_some p (x ∷ xs) = (
  cond_both (p x) (x ∷ filter p xs) (filter p xs) (λ (ys : List Reading). p x ≡ true → 0 < length ys) (λ e q. omega arith) (λ e q. absurd (both_ways (p x) e q)),
  All-weaker (λ (z : Reading). p z ≡ true → 0 < length (filter p xs)) (λ (z : Reading). p z ≡ true → 0 < length (filter p (x ∷ xs)))
      (λ z f q. cond_both (p x) (x ∷ filter p xs) (filter p xs) (λ (ys : List Reading). 0 < length ys) (λ e. omega arith) (λ e. f q)) xs (kept_some p xs),
)

module _ (k : Checked) (xs : List Reading) (ss : List Slip) (r : ReadingsAre xs ss) where
  abbrev g : Params
  g = params_of k

  abbrev h : ℕ
  h = highest_of xs

  level : highest_of xs ≡ highest ss
  level = highest_is xs ss r

  -- ---- notes

  noted_from_count : (m : ℕ) → m ≤ notes_at h xs → Noted ss m
  noted_from_count m l =
      several_from_count xs ss r (λ s. eqb s.note h) (λ c. c.note ≡ highest ss) m (λ x e. eqb-true x.note h e ∙ level) l

  count_from_noted : (m : ℕ) → Noted ss m → m ≤ notes_at h xs
  count_from_noted m v =
      count_from_several xs ss r (λ s. eqb s.note h) (λ c. c.note ≡ highest ss) m (λ x e. eq-eqb x.note h (e ∙ sym level)) v

  -- ---- agreements

  seen_from_agreed : (extra : ℕ) → agreed k.replicas k.tolerated k.groups h extra xs ≡ true → Seen g ss extra
  seen_from_agreed extra e =
      let a : SomeMaskAgreement k.replicas k.tolerated k.groups (highest_of xs) extra xs = mask_from_agreed k.replicas k.tolerated k.groups h extra xs e in
      record {
        factor = a.a;
        low = a.low;
        high = a.high;
        common = a.found.mask;
        many = a.found.marks;
        replies = several_from_count xs ss r (covers h a.found.mask) (λ c. (c.version ≡ highest ss) × Within a.found.mask c.marks) (k.replicas - a.a * k.tolerated)
            (λ x q.
            let p = and_parts (eqb x.version h) (eqb (bit_and x.marks a.found.mask) a.found.mask) q in
            (eqb-true x.version h p.0 ∙ level, and_comm a.found.mask x.marks ∙ eqb-true (bit_and x.marks a.found.mask) a.found.mask p.1))
            a.found.many;
      }

  -- marks common to some replies fit a byte
  common_byte : (common need : ℕ) → 0 < need → Several ss need (λ c. (c.version ≡ highest ss) × Within common c.marks) → common < 256
  common_byte common need l v = go v.chosen v.from v.each (omega (arith, v.enough))
    where
      bytes : AllByRecursion (λ s. s.card.marks < 256) ss
      bytes = all_slips xs ss r (λ s. s.card.marks < 256) r.bytes

      go : (ys : List Slip) → AllByRecursion (Contains ss) ys → AllByRecursion (λ s. (s.card.version ≡ highest ss) × Within common s.card.marks) ys → 0 < length ys → common < 256
      go [] f e n = absurd (omega arith)
      go (y ∷ ys) f e n =
          let b : y.card.marks < 256 = All-contains (λ s. s.card.marks < 256) ss y bytes f.0 in
          let w : bit_and common y.card.marks ≡ common = e.0.1 in
          omega (arith, and_le_r common y.card.marks)

  agreed_from_seen : (extra : ℕ) → Seen g ss extra → agreed k.replicas k.tolerated k.groups h extra xs ≡ true
  agreed_from_seen extra v =
      let few : v.factor * k.tolerated ≤ (k.groups + 2) * k.tolerated = mul-le-mul_right k.tolerated (let z : v.factor ≤ k.groups + 2 = omega (arith, v.high) in z) in
      let some : 0 < k.replicas - v.factor * k.tolerated = omega (arith, k.overlap) in
      agreed_from_mask k.replicas k.tolerated k.groups h extra xs
      (record {
        a = v.factor;
        low = v.low;
        high = v.high;
        found =
            record {
              mask = v.common;
              small = common_byte v.common (k.replicas - v.factor * k.tolerated) some v.replies;
              marks = v.many;
              many = count_from_several xs ss r (covers h v.common) (λ c. (c.version ≡ highest ss) × Within v.common c.marks) (k.replicas - v.factor * k.tolerated)
                  (λ x p. and_from (eqb x.version h) (eqb (bit_and x.marks v.common) v.common) (eq-eqb x.version h (p.0 ∙ sym level)) (eq-eqb (bit_and x.marks v.common) v.common (and_comm x.marks v.common ∙ p.1)))
                  v.replies;
            };
      })

  -- ---- the verdict

  abbrev seen : ℕ → Bool
  seen extra = agreed k.replicas k.tolerated k.groups h extra xs

  -- what is not shown at once: due if some reply has the note or a set agrees, else the version before
  late_fits : eqb h 0 ≡ false → leb (k.tolerated + 1) (notes_at h xs) ≡ false → seen 1 ≡ false → VerdictFits g ss (cond (seen 0 || leb 1 (notes_at h xs)) Due Previous)
  late_fits some few less =
      cond_both (seen 0 || leb 1 (notes_at h xs)) Due Previous (VerdictFits g ss)
      (λ e. cards.due no_notes no_set (due_by e) refl refl)
      (λ e. (high, cards.older high (not_by e) back refl))
    where
      no_notes : Noted ss (k.tolerated + 1) → ⊥
      no_notes v =
          let l : k.tolerated + 1 ≤ notes_at h xs = count_from_noted (k.tolerated + 1) v in
          let n : notes_at h xs < k.tolerated + 1 = leb-false (k.tolerated + 1) (notes_at h xs) few in
          omega arith

      no_set : Seen g ss 1 → ⊥
      no_set v = both_ways (seen 1) less (agreed_from_seen 1 v)

      due_by : (seen 0 || leb 1 (notes_at h xs)) ≡ true → Seen g ss 0 ⊎ Noted ss 1
      due_by e = elim (or_cases (seen 0) (leb 1 (notes_at h xs)) e) [ inl q ↦ inl (seen_from_agreed 0 q) | inr q ↦ inr (noted_from_count 1 (leb-true 1 (notes_at h xs) q)) ]

      not_by : (seen 0 || leb 1 (notes_at h xs)) ≡ false → Seen g ss 0 ⊎ Noted ss 1 → ⊥
      not_by e (inl v) = both_ways (seen 0) (or_parts (seen 0) (leb 1 (notes_at h xs)) e).0 (agreed_from_seen 0 v)
      not_by e (inr v) = both_ways (leb 1 (notes_at h xs)) (or_parts (seen 0) (leb 1 (notes_at h xs)) e).1 (le-leb 1 (notes_at h xs) (count_from_noted 1 v))

      high : 0 < highest ss
      high = omega (arith, level, eqb-false h 0 some)

      back : suc (highest ss - 1) ≡ highest ss
      back = omega (arith, high)

  verdict_fits : VerdictFits g ss (verdict_at k h xs)
  verdict_fits =
      cond_both (eqb h 0) Highest _ (VerdictFits g ss) (λ e. let z : highest ss ≡ 0 = sym level ∙ eqb-true h 0 e in cards.nothing z z refl)
      (λ e. cond_both (leb (k.tolerated + 1) (notes_at h xs)) Highest _ (VerdictFits g ss) (λ f. cards.noted (noted_from_count (k.tolerated + 1) (leb-true (k.tolerated + 1) (notes_at h xs) f)) refl refl)
      (λ f. cond_both (seen 1) Highest _ (VerdictFits g ss) (λ a. cards.seen (seen_from_agreed 1 a) refl refl) (λ a. late_fits e f a)))

  -- ---- what is learnt

  -- the reply of the lowest replica at the highest version is one of the slips
  lowest_is : 0 < length xs → Contains ss (reading_slip (lowest_at h xs)) × ((lowest_at h xs).version ≡ highest ss)
  lowest_is l =
      let t : Top ss = some_top ss (omega (arith, lengths)) in
      let found : AllByRecursion (λ (s : Slip). s.card.version ≡ highest ss → 0 < length (filter (λ s. eqb s.version h) xs)) ss =
      all_slips xs ss r (λ s. s.card.version ≡ highest ss → 0 < length (filter (λ s. eqb s.version h) xs))
      (All-weaker (λ (x : Reading). eqb x.version h ≡ true → 0 < length (filter (λ s. eqb s.version h) xs)) (λ (x : Reading). x.version ≡ highest ss → 0 < length (filter (λ s. eqb s.version h) xs))
      (λ x f e. f (eq-eqb x.version h (e ∙ sym level))) xs (kept_some (λ s. eqb s.version h) xs)) in
      let some : 0 < length (filter (λ s. eqb s.version h) xs) = All-contains (λ (s : Slip). s.card.version ≡ highest ss → 0 < length (filter (λ s. eqb s.version h) xs)) ss t.slip found t.has t.top in (
        all_lowest (λ x. Contains ss (reading_slip x)) (filter (λ s. eqb s.version h) xs) some (All-filter (λ s. eqb s.version h) (λ x. Contains ss (reading_slip x)) xs (slips_have xs ss r)),
        eqb-true (lowest_at h xs).version h (all_lowest (λ x. eqb x.version h ≡ true) (filter (λ s. eqb s.version h) xs) some (filter_passes (λ s. eqb s.version h) xs)) ∙ level,
      )
    where
      lengths : length ss ≡ length xs
      lengths = ap length r.same ∙ simp (length-reverse, length-map)

      some_top : (ts : List Slip) → 0 < length ts → Top ts
      some_top [] n = absurd (omega arith)
      some_top (s ∷ ts) n = top_of s ts

pub all_judged : AllJudged
unfolding decided_at
all_judged k xs ss r l =
    let best = lowest_is k xs ss r l in
    record {
      version = level k xs ss r;
      best = reading_slip (lowest_at (highest_of xs) xs);
      has = best.0;
      top = best.1;
      value = refl;
      previous = refl;
      verdict = verdict_fits k xs ss r;
    }
