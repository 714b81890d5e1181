-- Counting replies: what the rules count is what the model counts, and one more keeps that. It ends in `readings_counted`.
use Rattle.std.proofs.Common.{◌≡◌, ℕ, suc, ◌+◌, ◌<◌, true, false, not, eqb, ltb, List, [], ◌∷◌, ◌++◌, map, reverse, length, take, set, sym, refl, ap, ◌∙◌, subst, arith}
use mathlib.Core.List.{reverse_aux, reverse_aux-append}
use Rattle.std.specs.List.{AllByRecursion}
use Rattle.std.proofs.lemmas.List.{take_more_set, length-set, map-append}
use Rattle.std.proofs.lemmas.Bool.{and_parts, and_from, or_parts, or_from, ltb-true, lt-ltb, not-true, not_from_false, eqb-false, ne_eqb, cond-true}
use Rattle.theory.proofs.Words.{Message, Reading, from, adds, Receipts, Readings, with_receipt, with_reading, receipt_of, reading_of}
use Rattle.quorum.specs.declared.slip.Receipt.{Receipt}
use Rattle.quorum.proofs.From.{once_added}
use Rattle.theory.proofs.Lists.{all_reverse, all_from_reverse, All-push}
use Rattle.theory.proofs.Sets.{Lacks}
use Rattle.theory.proofs.Cards.{Slip, replicas_of}
use Rattle.theory.proofs.Model as model
use Rattle.theory.proofs.Matching.{msg_of, reading_slip, ReceiptsMatch, ReadingsAre, ReadingsMatch}

-- ---- who is counted

pub lacks_from_not : {X : Type 0} (f : X → ℕ) (n : ℕ) (xs : List X) → from f n xs ≡ false → Lacks n (map f xs)
lacks_from_not f n [] e = tt
lacks_from_not f n (x ∷ xs) e =
    let p = or_parts (eqb (f x) n) (from f n xs) e in
    (λ q. eqb-false (f x) n p.0 (sym q), lacks_from_not f n xs p.1)

not_from_lacks : {X : Type 0} (f : X → ℕ) (n : ℕ) (xs : List X) → Lacks n (map f xs) → from f n xs ≡ false
not_from_lacks f n [] h = refl
not_from_lacks f n (x ∷ xs) h =
    or_from (eqb (f x) n) (from f n xs) (ne_eqb (f x) n (λ q. h.0 (sym q))) (not_from_lacks f n xs h.1)

reverse_more : {A : Type 0} (xs : List A) (y : A) → reverse (xs ++ y ∷ []) ≡ y ∷ reverse xs
reverse_more xs y = reverse_aux-append xs (y ∷ []) []

map_reverse_more : {A B : Type 0} (f : A → B) (xs : List A) (y : A) → reverse (map f (xs ++ y ∷ [])) ≡ f y ∷ reverse (map f xs)
map_reverse_more f xs y = ap reverse (map-append f xs (y ∷ [])) ∙ reverse_more (map f xs) (f y)

module _ {X : Type 0} (f : X → ℕ) (slips : List X) (got : ℕ) (ss : List Slip) (same : replicas_of ss ≡ reverse (map f (take got slips))) where
  pub lacks_if_adds : (s : X) → adds f slips got s ≡ true → Lacks (f s) (replicas_of ss)
  lacks_if_adds s e =
      let p = and_parts (not (from f (f s) (take got slips))) (ltb got (length slips)) e in
      subst (Lacks (f s)) (sym same) (all_reverse (λ y. f s ≡ y → ⊥) (map f (take got slips)) (lacks_from_not f (f s) (take got slips) (not-true (from f (f s) (take got slips)) p.0)))

  pub adds_if_lacks : (s : X) → got < length slips → Lacks (f s) (replicas_of ss) → adds f slips got s ≡ true
  adds_if_lacks s l h =
      let o : Lacks (f s) (map f (take got slips)) = all_from_reverse (λ y. f s ≡ y → ⊥) (map f (take got slips)) (subst (Lacks (f s)) same h) in
      and_from (not (from f (f s) (take got slips))) (ltb got (length slips)) (not_from_false (from f (f s) (take got slips)) (not_from_lacks f (f s) (take got slips) o)) (lt-ltb got (length slips) l)

  pub one_more : (s : X) (t : Slip) → got < length slips → t.replica ≡ f s → replicas_of (t ∷ ss) ≡ reverse (map f (take (got + 1) (set slips got s)))
  one_more s t l e =
      let p : take (got + 1) (set slips got s) ≡ take got slips ++ s ∷ [] = take_more_set slips got s l in
      let q : reverse (map f (take got slips ++ s ∷ [])) ≡ f s ∷ reverse (map f (take got slips)) = map_reverse_more f (take got slips) s in
      let u : reverse (map f (take (got + 1) (set slips got s))) ≡ reverse (map f (take got slips ++ s ∷ [])) = ap (λ ys. reverse (map f ys)) p in
      cc

adds_below : {X : Type 0} (f : X → ℕ) (slips : List X) (got : ℕ) (s : X) → adds f slips got s ≡ true → got < length slips
adds_below f slips got s e = ltb-true got (length slips) (and_parts (not (from f (f s) (take got slips))) (ltb got (length slips)) e).1

-- ---- receipts

-- what a counted receipt leaves
pub record ReceiptsCounted (need : ℕ) (rs : Receipts) (ss : List Slip) (m : Message) : Type 0 where
  pub fresh : Lacks m.replica (replicas_of ss)
  pub total : (with_receipt rs (receipt_of m)).got ≡ suc (length ss)
  pub next : suc (length ss) < need → ReceiptsMatch need (with_receipt rs (receipt_of m)) (model.slip (msg_of m) ∷ ss)

abbrev receipt_from : Receipt → ℕ
receipt_from x = x.replica

pub receipts_counted : (need : ℕ) (rs : Receipts) (ss : List Slip) (m : Message) → ReceiptsMatch need rs ss → adds receipt_from rs.slips rs.got (receipt_of m) ≡ true → ReceiptsCounted need rs ss m
receipts_counted need rs ss m h e =
    let after : Receipts = record { got = rs.got + 1; slips = set rs.slips rs.got (receipt_of m) } in
    let is : with_receipt rs (receipt_of m) ≡ after = cond-true (adds receipt_from rs.slips rs.got (receipt_of m)) after rs e in
    let got : rs.got ≡ length ss = h.got in
    record {
      fresh = lacks_if_adds receipt_from rs.slips rs.got ss h.same (receipt_of m) e;
      total = ap (λ x. x.got) is ∙ (let z : rs.got + 1 ≡ suc (length ss) = omega arith in z);
      next = λ l. subst (λ x. ReceiptsMatch need x (model.slip (msg_of m) ∷ ss)) (sym is)
          (record {
            long = length-set rs.slips rs.got (receipt_of m) ∙ h.long;
            got = omega arith;
            short = omega arith;
            same = one_more receipt_from rs.slips rs.got ss h.same (receipt_of m) (model.slip (msg_of m)) (adds_below receipt_from rs.slips rs.got (receipt_of m) e) refl;
          });
    }

-- ---- readings

pub record ReadingsCounted (need : ℕ) (rs : Readings) (ss : List Slip) (m : Message) : Type 0 where
  pub fresh : Lacks m.replica (replicas_of ss)
  pub total : (with_reading rs (reading_of m)).got ≡ suc (length ss)
  pub counted : ReadingsAre (take (with_reading rs (reading_of m)).got (with_reading rs (reading_of m)).slips) (model.slip (msg_of m) ∷ ss)
  pub next : suc (length ss) < need → ReadingsMatch need (with_reading rs (reading_of m)) (model.slip (msg_of m) ∷ ss)

abbrev pub reading_from : Reading → ℕ
reading_from x = x.replica

replicas_reversed : (xs : List Reading) (ss : List Slip) → replicas_of (reverse_aux (map reading_slip xs) ss) ≡ reverse_aux (map reading_from xs) (replicas_of ss)
replicas_reversed [] ss = refl
replicas_reversed (x ∷ xs) ss = replicas_reversed xs (reading_slip x ∷ ss)

pub replicas_of_readings : (xs : List Reading) (ss : List Slip) → ss ≡ reverse (map reading_slip xs) → replicas_of ss ≡ reverse (map reading_from xs)
replicas_of_readings xs ss e = ap replicas_of e ∙ replicas_reversed xs []

pub readings_counted : (need : ℕ) (rs : Readings) (ss : List Slip) (m : Message) → m.marks < 256 → ReadingsMatch need rs ss → adds reading_from rs.slips rs.got (reading_of m) ≡ true → ReadingsCounted need rs ss m
readings_counted need rs ss m byte h e =
    let after : Readings = record { got = rs.got + 1; slips = set rs.slips rs.got (reading_of m) } in
    let is : with_reading rs (reading_of m) ≡ after = cond-true (adds reading_from rs.slips rs.got (reading_of m)) after rs e in
    let got : rs.got ≡ length ss = h.got in
    let below : rs.got < length rs.slips = adds_below reading_from rs.slips rs.got (reading_of m) e in
    let old : List Reading = take rs.got rs.slips in
    let all : take (rs.got + 1) (set rs.slips rs.got (reading_of m)) ≡ old ++ reading_of m ∷ [] = take_more_set rs.slips rs.got (reading_of m) below in
    let now : ReadingsAre (take (rs.got + 1) (set rs.slips rs.got (reading_of m))) (model.slip (msg_of m) ∷ ss) =
    record {
      same = ap (λ ts. model.slip (msg_of m) ∷ ts) h.counted.same ∙ sym (map_reverse_more reading_slip old (reading_of m)) ∙ ap (λ ys. reverse (map reading_slip ys)) (sym all);
      once = once_added reading_from rs.slips rs.got (reading_of m) (sym e) h.counted.once;
      bytes = subst (AllByRecursion (λ x. x.marks < 256)) (sym all) (All-push (λ x. x.marks < 256) old (reading_of m) h.counted.bytes byte);
    } in
    record {
      fresh = lacks_if_adds reading_from rs.slips rs.got ss (replicas_of_readings old ss h.counted.same) (reading_of m) e;
      total = ap (λ x. x.got) is ∙ (let z : rs.got + 1 ≡ suc (length ss) = omega arith in z);
      counted = subst (λ x. ReadingsAre (take x.got x.slips) (model.slip (msg_of m) ∷ ss)) (sym is) now;
      next = λ l. subst (λ x. ReadingsMatch need x (model.slip (msg_of m) ∷ ss)) (sym is)
          (record { long = length-set rs.slips rs.got (reading_of m) ∙ h.long; got = omega arith; short = omega arith; counted = now });
    }
