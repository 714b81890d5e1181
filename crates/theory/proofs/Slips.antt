-- Slips and the replicas that they come from: ends in `several_tallied`, which ties a set of slips to a count of those that pass a test.
use Rattle.std.proofs.Common.{◌≡◌, ℕ, ◌≤◌, max, Bool, true, List, [], ◌∷◌, map, length, filter, sym, refl, subst, inl, inr, arith}
use mathlib.Core.List.{map-map}
use Rattle.std.proofs.lemmas.List.{length-map}
use Rattle.std.proofs.lemmas.Bool.{cond_both, both_ways}
use Rattle.std.specs.List.{Contains, AllByRecursion}
use Rattle.theory.proofs.Lists.{All-contains, All-map, All-filter, All-weaker, filter_passes}
use Rattle.theory.proofs.Sets.{Lacks, Distinct, Many}
use Rattle.theory.proofs.Cards.{Card, Slip, replicas_of, highest, Several}
use Rattle.theory.proofs.Members.{Among, no_longer}

-- No slip is above the highest.
pub highest_tops : (ss : List Slip) → AllByRecursion (λ s. s.card.version ≤ highest ss) ss
highest_tops [] = tt
highest_tops (s ∷ ss) = (omega arith, All-weaker (λ (x : Slip). x.card.version ≤ highest ss) (λ (x : Slip). x.card.version ≤ max s.card.version (highest ss)) (λ x h. omega arith) ss (highest_tops ss))

pub several_weaker : (ss : List Slip) (m : ℕ) (P Q : Card → Type 0) → ((c : Card) → P c → Q c) → Several ss m P → Several ss m Q
several_weaker ss m P Q f x =
    record { chosen = x.chosen; distinct = x.distinct; from = x.from; enough = x.enough; each = All-weaker (λ s. P s.card) (λ s. Q s.card) (λ s. f s.card) x.chosen x.each }

-- What holds of all slips may be added.
pub several_with : (ss : List Slip) (n : ℕ) (P Q : Card → Type 0) → AllByRecursion (λ s. Q s.card) ss → Several ss n P → Several ss n (λ c. P c × Q c)
several_with ss n P Q a x =
    record { chosen = x.chosen; distinct = x.distinct; from = x.from; enough = x.enough; each = go x.chosen x.from x.each }
  where
    go : (xs : List Slip) → AllByRecursion (Contains ss) xs → AllByRecursion (λ s. P s.card) xs → AllByRecursion (λ s. P s.card × Q s.card) xs
    go [] f p = tt
    go (y ∷ ys) f p = ((p.0, All-contains (λ s. Q s.card) ss y a f.0), go ys f.1 p.1)

pub some_card : (ss : List Slip) (n : ℕ) (P : Card → Type 0) → 1 ≤ n → Several ss n P → (c : Card) × P c
some_card ss n P h x = go x.chosen x.each (omega (arith, x.enough))
  where
    go : (xs : List Slip) → AllByRecursion (λ s. P s.card) xs → 1 ≤ length xs → (c : Card) × P c
    go [] p few = absurd (omega arith)
    go (y ∷ ys) p few = (y.card, p.0)

-- ---- from replicas to the slips that they sent

-- replica i sent a slip with such a card
abbrev Sent : List Slip → (Card → Type 0) → ℕ → Type 0
Sent ss P i = (s : Slip) × Contains ss s × (s.replica ≡ i) × P s.card

-- a slip for each of a list of replicas
record Taken (ss : List Slip) (P : Card → Type 0) (places : List ℕ) : Type 0 where
  chosen : List Slip
  replicas : replicas_of chosen ≡ places
  size : length chosen ≡ length places
  from : AllByRecursion (Contains ss) chosen
  each : AllByRecursion (λ s. P s.card) chosen

take_slips : (ss : List Slip) (P : Card → Type 0) (places : List ℕ) → AllByRecursion (Sent ss P) places → Taken ss P places
take_slips ss P [] h = record { chosen = []; replicas = refl; size = refl; from = tt; each = tt }
take_slips ss P (i ∷ is) h =
    let r = take_slips ss P is h.1 in
    record { chosen = h.0.0 ∷ r.chosen; replicas = cc (h.0.2, r.replicas); size = omega (arith, r.size); from = (h.0.1, r.from); each = (h.0.3, r.each) }

-- Many replicas that sent such slips: several slips are such.
pub several_from_many : (s : ℕ) (ss : List Slip) (m : ℕ) (P : Card → Type 0) → Many s m (Sent ss P) → Several ss m P
several_from_many s ss m P x =
    let r = take_slips ss P x.places x.each in
    record { chosen = r.chosen; distinct = subst Distinct (sym r.replicas) x.distinct; from = r.from; enough = omega (arith, r.size, x.enough); each = r.each }

-- ---- what passes a test, of a list of anything that stands for a slip

module _ {X : Type 0} (slip : X → Slip) (p : X → Bool) (P : Card → Type 0) where
  abbrev sender : X → ℕ
  sender x = (slip x).replica

  lacks_kept : (n : ℕ) (xs : List X) → Lacks n (map sender xs) → Lacks n (map sender (filter p xs))
  lacks_kept n [] h = tt
  lacks_kept n (x ∷ xs) h =
      cond_both (p x) (x ∷ filter p xs) (filter p xs) (λ (ys : List X). Lacks n (map sender ys)) (λ e. (h.0, lacks_kept n xs h.1)) (λ e. lacks_kept n xs h.1)

  distinct_kept : (xs : List X) → Distinct (map sender xs) → Distinct (map sender (filter p xs))
  distinct_kept [] h = tt
  distinct_kept (x ∷ xs) h =
      cond_both (p x) (x ∷ filter p xs) (filter p xs) (λ (ys : List X). Distinct (map sender ys)) (λ e. (lacks_kept (sender x) xs h.0, distinct_kept xs h.1)) (λ e. distinct_kept xs h.1)

  -- As many slips of distinct replicas as pass the test are several.
  pub tallied_several : ((x : X) → p x ≡ true → P (slip x).card) → (ss : List Slip) (xs : List X) (m : ℕ) → AllByRecursion (λ x. Contains ss (slip x)) xs → Distinct (map sender xs) → m ≤ length (filter p xs) → Several ss m P
  tallied_several right ss xs m has d h =
      record {
        chosen = map slip (filter p xs);
        distinct = subst Distinct (sym (map-map (λ (s : Slip). s.replica) slip (filter p xs))) (distinct_kept xs d);
        from = All-map (Contains ss) slip (filter p xs) (All-filter p (λ x. Contains ss (slip x)) xs has);
        enough = omega (arith, h, length-map (filter p xs) slip);
        each = All-map (λ s. P s.card) slip (filter p xs) (All-weaker (λ x. p x ≡ true) (λ x. P (slip x).card) right (filter p xs) (filter_passes p xs));
      }

  passes_kept : (xs : List X) → AllByRecursion (λ x. p x ≡ true → Among (sender x) (map sender (filter p xs))) xs
  passes_kept [] = tt
  passes_kept (x ∷ xs) = (
    cond_both (p x) (x ∷ filter p xs) (filter p xs) (λ (ys : List X). p x ≡ true → Among (sender x) (map sender ys)) (λ e q. inl refl) (λ e q. absurd (both_ways (p x) e q)),
    All-weaker (λ (y : X). p y ≡ true → Among (sender y) (map sender (filter p xs))) _
        (λ y h q. cond_both (p x) (x ∷ filter p xs) (filter p xs) (λ (ys : List X). Among (sender y) (map sender ys)) (λ e. inr (h q)) (λ e. h q)) xs (passes_kept xs),
  )

  -- Of several such slips, each of them one of the list, at least as many pass the test.
  pub several_tallied : ((x : X) → P (slip x).card → p x ≡ true) → (ss : List Slip) (xs : List X) (m : ℕ) → ((Q : Slip → Type 0) → AllByRecursion (λ x. Q (slip x)) xs → AllByRecursion Q ss) → Several ss m P → m ≤ length (filter p xs)
  several_tallied whole ss xs m every v =
      let few : length (replicas_of v.chosen) ≤ length (map sender (filter p xs)) =
      no_longer (replicas_of v.chosen) (map sender (filter p xs)) v.distinct (All-map (λ n. Among n (map sender (filter p xs))) (λ s. s.replica) v.chosen (go v.chosen v.from v.each)) in
      omega (arith, v.enough, length-map v.chosen (λ s. s.replica), length-map (filter p xs) sender)
    where
      found : AllByRecursion (λ (s : Slip). P s.card → Among s.replica (map sender (filter p xs))) ss
      found =
          every (λ s. P s.card → Among s.replica (map sender (filter p xs)))
          (All-weaker (λ x. p x ≡ true → Among (sender x) (map sender (filter p xs))) (λ x. P (slip x).card → Among (sender x) (map sender (filter p xs))) (λ x h c. h (whole x c)) xs (passes_kept xs))

      go : (ys : List Slip) → AllByRecursion (Contains ss) ys → AllByRecursion (λ s. P s.card) ys → AllByRecursion (λ s. Among s.replica (map sender (filter p xs))) ys
      go [] f e = tt
      go (y ∷ ys) f e = (All-contains (λ s. P s.card → Among s.replica (map sender (filter p xs))) ss y found f.0 e.0, go ys f.1 e.1)
