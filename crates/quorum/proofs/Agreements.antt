-- `agreed` holds exactly when, for some a from 1 to v + 1, there is a set of s - a * t replies, all at
-- version h, with a + extra marks in common; and exactly when there is such a mask.
use Rattle.std.proofs.Common.{◌≡◌, ℕ, ◌+◌, ◌-◌, ◌*◌, ◌<◌, ◌≤◌, Bool, true, cond, ◌&&◌, eqb, leb, List, [], ◌∷◌, map, length, count_by, filter, sym, refl, ap, subst, arith}
use lib.Bits.{bit_and}
use lib.Count.{ones}
use Rattle.std.proofs.lemmas.Bool.Decides.{nat_tests}
use Rattle.std.proofs.lemmas.Bool.{and_parts, and_from, leb-true, le-leb, eqb-true, eq-eqb}
use Rattle.std.proofs.lemmas.List.Sums.{length-filter}
use Rattle.std.proofs.lemmas.List.Elements.{filter_passes, All-weaker, recursion_from_All}
use Rattle.std.specs.List.{AllByRecursion}
use Rattle.quorum.specs.declared.slip.Reading.{Reading}
use Rattle.quorum.specs.Agree.{all_have, common_marks, all_at, agree, agreed, some_set}
use Rattle.quorum.specs.Masks.{covers}
use Rattle.std.specs.Int.{bit_at}
use Rattle.std.proofs.lemmas.Nat.Bits.{bit_at_and}
use Rattle.quorum.proofs.Digits.{within_from_digits, ones_in_lem, sum_to, mask_of, mask_below, digit_mask, ones_mask, ones_le_sum}
use Rattle.quorum.proofs.Sets.{chosen, chosen_map, chosen_le_count, number_from_some, some_from_number, set_from_some, some_from_set}

-- a set of at least `need` of the replies, all at version h, with at least `least` marks in common
pub record Agreement (xs : List Reading) (h need least : ℕ) : Type 0 where
  pub sel : List Bool
  pub many : need ≤ length (chosen sel xs)
  pub level : AllByRecursion (λ y. y.version ≡ h) (chosen sel xs)
  pub common : least ≤ common_marks (chosen sel xs)

-- a mask of at least `least` marks, all of which at least `need` of the replies at version h have
pub record MaskAgreement (xs : List Reading) (h need least : ℕ) : Type 0 where
  pub mask : ℕ
  pub small : mask < 256
  pub marks : least ≤ ones mask
  pub many : need ≤ count_by (covers h mask) xs

-- for some a from 1 to v + 1, a set that agrees
pub record SomeAgreement (s t v h extra : ℕ) (xs : List Reading) : Type 0 where
  pub a : ℕ
  pub low : 1 ≤ a
  pub high : a ≤ v + 1
  pub set : Agreement xs h (s - a * t) (a + extra)

-- for some a from 1 to v + 1, a mask that agrees
pub record SomeMaskAgreement (s t v h extra : ℕ) (xs : List Reading) : Type 0 where
  pub a : ℕ
  pub low : 1 ≤ a
  pub high : a ≤ v + 1
  pub found : MaskAgreement xs h (s - a * t) (a + extra)

-- ---- from a mask to a set

-- the marks common to the replies, as flags
abbrev flag : List Reading → ℕ → ℕ
flag ys k = cond (all_have ys k) 1 0

flag_below : (ys : List Reading) (k : ℕ) → flag ys k < 2
flag_below ys k = grind arith

common_is_sum : (ys : List Reading) → common_marks ys ≡ sum_to 8 (flag ys)
common_is_sum ys = omega arith

all_have_from_mask : (m k : ℕ) (ys : List Reading) → bit_at m k ≡ 1 → AllByRecursion (λ y. bit_and y.marks m ≡ m) ys → all_have ys k ≡ true
all_have_from_mask m k [] e a = refl
all_have_from_mask m k (y ∷ ys) e a =
    let i : bit_at (bit_and y.marks m) k ≡ bit_at m k = ap (λ n. bit_at n k) a.0 in
    let b : bit_at y.marks k ≡ 1 = omega (arith, bit_at_and y.marks m k) in
    let r : all_have ys k ≡ true = all_have_from_mask m k ys e a.1 in
    grind (arith, nat_tests)

digit_le_flag : (m k : ℕ) (ys : List Reading) → AllByRecursion (λ y. bit_and y.marks m ≡ m) ys → bit_at m k ≤ flag ys k
digit_le_flag m k ys a =
    let f : bit_at m k ≡ 1 → all_have ys k ≡ true = λ e. all_have_from_mask m k ys e a in grind arith

pub set_from_mask : (xs : List Reading) (h need least : ℕ) → MaskAgreement xs h need least → Agreement xs h need least
set_from_mask xs h need least g =
    let m : ℕ = g.mask in
    let p : Reading → Bool = covers h m in
    let e : chosen (map p xs) xs ≡ filter p xs = chosen_map p xs in
    let kept : (Q : Reading → Type 0) → ((y : Reading) → p y ≡ true → Q y) → AllByRecursion Q (filter p xs) =
    λ Q f. recursion_from_All Q (filter p xs) (All-weaker (λ y. p y ≡ true) Q f (filter p xs) (filter_passes p xs)) in
    let marks = kept (λ y. bit_and y.marks m ≡ m) (λ y t. grind (arith, nat_tests)) in
    let P : List Reading → Type 0 = λ ys. (need ≤ length ys) × AllByRecursion (λ y. y.version ≡ h) ys × (least ≤ common_marks ys) in
    let made : P (filter p xs) = (
      omega (arith, g.many, length-filter p xs),
      kept (λ y. y.version ≡ h) (λ y t. grind (arith, nat_tests)),
      omega (arith, g.marks, ones_in_lem 8 m g.small, common_is_sum (filter p xs), ones_le_sum 8 m (flag (filter p xs)) (λ i _. digit_le_flag m i (filter p xs) marks)),
    )
    in
    let got : P (chosen (map p xs) xs) = subst P (sym e) made in
    record { sel = map p xs; many = got.0; level = got.1; common = got.2 }

-- ---- from a set to a mask

each_has : (ys : List Reading) (k : ℕ) → all_have ys k ≡ true → AllByRecursion (λ y. bit_at y.marks k ≡ 1) ys
each_has [] k t = tt
each_has (y ∷ ys) k t = (grind (arith, nat_tests), each_has ys k (grind (arith, nat_tests)))

rest_have : (y : Reading) (ys : List Reading) (k : ℕ) → all_have (y ∷ ys) k ≡ true → all_have ys k ≡ true
rest_have y ys k t = grind (arith, nat_tests)

-- the mask of marks that all the replies have is within the marks of each
each_has_mask : (m : ℕ) (ys : List Reading) → m < 256 → ((i : ℕ) → i < 8 → bit_at m i ≡ 1 → all_have ys i ≡ true) → AllByRecursion (λ y. bit_and y.marks m ≡ m) ys
each_has_mask m [] small f = tt
each_has_mask m (y ∷ ys) small f = (
  within_from_digits 8 y.marks m small
      (λ i k. let g : bit_at m i ≡ 1 → bit_at y.marks i ≡ 1 = λ e. (each_has (y ∷ ys) i (f i k e)).0 in grind arith),
  each_has_mask m ys small (λ i k e. rest_have y ys i (f i k e)),
)

each_is_covered : (h m : ℕ) (ys : List Reading) → AllByRecursion (λ y. y.version ≡ h) ys → AllByRecursion (λ y. bit_and y.marks m ≡ m) ys → AllByRecursion (λ y. covers h m y ≡ true) ys
each_is_covered h m [] a b = tt
each_is_covered h m (y ∷ ys) a b =
    let v : y.version ≡ h = a.0 in
    let s : bit_and y.marks m ≡ m = b.0 in
    (grind (arith, nat_tests), each_is_covered h m ys a.1 b.1)

pub mask_from_set : (xs : List Reading) (h need least : ℕ) → Agreement xs h need least → MaskAgreement xs h need least
mask_from_set xs h need least g =
    let ys : List Reading = chosen g.sel xs in
    let m : ℕ = mask_of 8 (flag ys) in
    let small : m < 256 = mask_below 8 (flag ys) (flag_below ys) in
    let sub : AllByRecursion (λ y. bit_and y.marks m ≡ m) ys =
    each_has_mask m ys small (λ i k e. let f : bit_at m i ≡ flag ys i = digit_mask 8 (flag ys) (flag_below ys) i k in grind arith) in
    record {
      mask = m;
      small = small;
      marks = omega (arith, ones_in_lem 8 m small, ones_mask 8 (flag ys) (flag_below ys), common_is_sum ys, g.common);
      many = omega (arith, g.many, chosen_le_count (covers h m) g.sel xs (each_is_covered h m ys g.level sub));
    }

-- ---- the test of one set

all_at_each : (h : ℕ) (ys : List Reading) → all_at h ys ≡ true → AllByRecursion (λ y. y.version ≡ h) ys
all_at_each h [] e = tt
all_at_each h (y ∷ ys) e =
    let p = and_parts (eqb y.version h) (all_at h ys) e in (eqb-true y.version h p.0, all_at_each h ys p.1)

each_all_at : (h : ℕ) (ys : List Reading) → AllByRecursion (λ y. y.version ≡ h) ys → all_at h ys ≡ true
each_all_at h [] a = refl
each_all_at h (y ∷ ys) a =
    and_from (eqb y.version h) (all_at h ys) (eq-eqb y.version h a.0) (each_all_at h ys a.1)

agreement_from_agree : (s t h extra a : ℕ) (sel : List Bool) (xs : List Reading) → agree s t h extra a (chosen sel xs) ≡ true → Agreement xs h (s - a * t) (a + extra)
agreement_from_agree s t h extra a sel xs e =
    let ys : List Reading = chosen sel xs in
    let p = and_parts (leb (s - a * t) (length ys)) (all_at h ys && leb (a + extra) (common_marks ys)) e in
    let q = and_parts (all_at h ys) (leb (a + extra) (common_marks ys)) p.1 in
    record {
      sel = sel;
      many = leb-true (s - a * t) (length ys) p.0;
      level = all_at_each h ys q.0;
      common = leb-true (a + extra) (common_marks ys) q.1;
    }

agree_from_agreement : (s t h extra a : ℕ) (xs : List Reading) → (g : Agreement xs h (s - a * t) (a + extra)) → agree s t h extra a (chosen g.sel xs) ≡ true
agree_from_agreement s t h extra a xs g =
    let ys : List Reading = chosen g.sel xs in
    and_from (leb (s - a * t) (length ys)) (all_at h ys && leb (a + extra) (common_marks ys))
    (le-leb (s - a * t) (length ys) g.many)
    (and_from (all_at h ys) (leb (a + extra) (common_marks ys)) (each_all_at h ys g.level)
    (le-leb (a + extra) (common_marks ys) g.common))

-- ---- both ways

pub set_from_agreed : (s t v h extra : ℕ) (xs : List Reading) → agreed s t v h extra xs ≡ true → SomeAgreement s t v h extra xs
unfolding agreed
set_from_agreed s t v h extra xs e =
    let n = number_from_some (v + 1) (λ a. some_set (agree s t h extra a) xs) e in
    let g = set_from_some (agree s t h extra n.a) xs n.passes in
    record { a = n.a; low = n.low; high = n.high; set = agreement_from_agree s t h extra n.a g.sel xs g.passes }

pub agreed_from_set : (s t v h extra : ℕ) (xs : List Reading) → SomeAgreement s t v h extra xs → agreed s t v h extra xs ≡ true
unfolding agreed
agreed_from_set s t v h extra xs g =
    some_from_number (v + 1) (λ a. some_set (agree s t h extra a) xs) g.a g.low g.high
    (some_from_set (agree s t h extra g.a) g.set.sel xs (agree_from_agreement s t h extra g.a xs g.set))

pub mask_from_agreed : (s t v h extra : ℕ) (xs : List Reading) → agreed s t v h extra xs ≡ true → SomeMaskAgreement s t v h extra xs
mask_from_agreed s t v h extra xs e =
    let g = set_from_agreed s t v h extra xs e in
    record { a = g.a; low = g.low; high = g.high; found = mask_from_set xs h (s - g.a * t) (g.a + extra) g.set }

pub agreed_from_mask : (s t v h extra : ℕ) (xs : List Reading) → SomeMaskAgreement s t v h extra xs → agreed s t v h extra xs ≡ true
agreed_from_mask s t v h extra xs g =
    agreed_from_set s t v h extra xs
    (record { a = g.a; low = g.low; high = g.high; set = set_from_mask xs h (s - g.a * t) (g.a + extra) g.found })
