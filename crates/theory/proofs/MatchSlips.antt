-- Sets of slips and counts of readings: a set of m exists exactly if at least m readings pass. It ends in `count_from_several`.
use Rattle.std.proofs.Common.{◌≡◌, ℕ, ◌≤◌, Bool, true, List, [], ◌∷◌, map, count_by, sym, subst, arith}
use Rattle.std.specs.List.{Contains, AllByRecursion}
use Rattle.std.proofs.lemmas.List.Sums.{length-filter}
use Rattle.theory.proofs.Words.{Reading, Once}
use Rattle.theory.proofs.Lists.{all_reverse, all_from_reverse, all_from_map, All-map, All-contains_itself}
use Rattle.theory.proofs.Sets.{Distinct}
use Rattle.theory.proofs.Cards.{Card, Slip, Several}
use Rattle.theory.proofs.Slips.{tallied_several, several_tallied}
use Rattle.theory.proofs.Matching.{reading_slip, ReadingsAre}
use Rattle.theory.proofs.MatchCounting.{lacks_from_not, reading_from}

-- ---- readings and their slips

distinct_from_once : (xs : List Reading) → Once reading_from xs → Distinct (map reading_from xs)
distinct_from_once [] o = tt
distinct_from_once (x ∷ xs) o = (lacks_from_not reading_from x.replica xs o.0, distinct_from_once xs o.1)

module _ (xs : List Reading) (ss : List Slip) (h : ReadingsAre xs ss) where
  -- what holds of every slip and what holds of every reading
  pub all_slips : (P : Slip → Type 0) → AllByRecursion (λ x. P (reading_slip x)) xs → AllByRecursion P ss
  all_slips P a = subst (AllByRecursion P) (sym h.same) (all_reverse P (map reading_slip xs) (All-map P reading_slip xs a))

  pub slips_have : AllByRecursion (λ x. Contains ss (reading_slip x)) xs
  slips_have = all_from_map (Contains ss) reading_slip xs (all_from_reverse (Contains ss) (map reading_slip xs) (subst (AllByRecursion (Contains ss)) h.same (All-contains_itself ss)))

  pub several_from_count : (p : Reading → Bool) (P : Card → Type 0) (m : ℕ) → ((x : Reading) → p x ≡ true → P (reading_slip x).card) → m ≤ count_by p xs → Several ss m P
  several_from_count p P m tells l = tallied_several reading_slip p P tells ss xs m slips_have (distinct_from_once xs h.once) (omega (arith, length-filter p xs))

  pub count_from_several : (p : Reading → Bool) (P : Card → Type 0) (m : ℕ) → ((x : Reading) → P (reading_slip x).card → p x ≡ true) → Several ss m P → m ≤ count_by p xs
  count_from_several p P m told v = omega (arith, several_tallied reading_slip p P told ss xs m all_slips v, length-filter p xs)
