-- A line of calls, sorted by insertion: ends in `sorted_shows`, in a sorted line with one write to a version each read shows the nearest write before it.
use Rattle.std.proofs.Common.{◌≡◌, ℕ, zero, suc, ◌+◌, ◌*◌, ◌<◌, ◌≤◌, cond, ltb, ◌⊎◌, List, [], ◌∷◌, ℤ, sym, refl, ap, ◌∙◌, subst, inl, inr, arith}
use Rattle.std.proofs.lemmas.Bool.{cases_eq, cond_both, ltb-false, ltb-true}
use Rattle.std.specs.List.{Contains, AllByRecursion}
use Rattle.theory.proofs.Lists.{All-weaker, has_here, has_there, all_zip}
use Rattle.theory.proofs.Sets.{Lacks, Distinct}
use Rattle.theory.proofs.Line.{Op, Before, Respects, Shows, ends_of}
use Rattle.theory.proofs.Members.{Among, all_among}

abbrev pub read_bit : ℕ → ℕ
read_bit zero = 0
read_bit (suc c) = 1

-- calls stand by version, and under one version the write before the reads
abbrev pub key : Op → ℕ
key x = 2 * x.version + read_bit x.client

pub key_write : (x : Op) → x.client ≡ 0 → key x ≡ 2 * x.version
key_write x e = let b : read_bit x.client ≡ 0 = ap read_bit e in omega arith

pub key_most : (x : Op) → key x ≤ 2 * x.version + 1
key_most x = go x.client
  where
    go : (c : ℕ) → 2 * x.version + read_bit c ≤ 2 * x.version + 1
    go zero = omega arith
    go (suc c) = omega arith

pub key_read : (x : Op) → (x.client ≡ 0 → ⊥) → key x ≡ 2 * x.version + 1
key_read x h = go x.client h
  where
    go : (c : ℕ) → (c ≡ 0 → ⊥) → 2 * x.version + read_bit c ≡ 2 * x.version + 1
    go zero k = absurd (k refl)
    go (suc c) k = refl

-- a call put in behind those of its key
abbrev pub insert : Op → List Op → List Op
insert d [] = d ∷ []
insert d (x ∷ xs) = cond (ltb (key d) (key x)) (d ∷ x ∷ xs) (x ∷ insert d xs)

abbrev pub Sorted : List Op → Type 0
Sorted [] = Unit {0}
Sorted (x ∷ xs) = AllByRecursion (λ y. key x ≤ key y) xs × Sorted xs

pub all_insert : (P : Op → Type 0) (d : Op) (xs : List Op) → P d → AllByRecursion P xs → AllByRecursion P (insert d xs)
all_insert P d [] p h = (p, tt)
all_insert P d (x ∷ xs) p h =
    cond_both (ltb (key d) (key x)) _ _ (AllByRecursion P) (λ e. (p, h)) (λ e. (h.0, all_insert P d xs p h.1))

pub in_insert : (d : Op) (xs : List Op) → Among d (insert d xs)
in_insert d [] = inl refl
in_insert d (x ∷ xs) = cond_both (ltb (key d) (key x)) _ _ (Among d) (λ e. inl refl) (λ e. inr (in_insert d xs))

pub in_insert_more : (d y : Op) (xs : List Op) → Among y xs → Among y (insert d xs)
in_insert_more d y [] h = absurd h
in_insert_more d y (x ∷ xs) h =
    cond_both (ltb (key d) (key x)) _ _ (Among y) (λ e. inr h) (λ e. elim h [ inl p ↦ inl p | inr p ↦ inr (in_insert_more d y xs p) ])

pub sorted_insert : (d : Op) (xs : List Op) → Sorted xs → Sorted (insert d xs)
sorted_insert d [] h = (tt, tt)
sorted_insert d (x ∷ xs) h =
    cond_both (ltb (key d) (key x)) _ _ Sorted
    (λ e. let k : key d < key x = ltb-true _ _ e in ((omega arith, All-weaker _ (λ y. key d ≤ key y) (λ y p. omega arith) xs h.0), h))
    (λ e. let k : key x ≤ key d = ltb-false _ _ e in (all_insert _ d xs k h.0, sorted_insert d xs h.1))

-- A call put into a line that respects what ended before what began: none in the line began after it ended, and none behind its place ended before it began.
pub respects_insert : (d : Op) (xs : List Op) → Sorted xs → Respects xs → AllByRecursion (λ x. Before d x → ⊥) xs → AllByRecursion (λ y. key d < key y → Before y d → ⊥) xs → Respects (insert d xs)
respects_insert d [] s r p q = (tt, tt)
respects_insert d (x ∷ xs) s r p q =
    cond_both (ltb (key d) (key x)) _ _ Respects
    (λ e. let k : key d < key x = ltb-true _ _ e in ((q.0 k, after k xs s.0 q.1), r))
    (λ e. (all_insert _ d xs p.0 r.0, respects_insert d xs s.1 r.1 p.1 q.1))
  where
    after : key d < key x → (ys : List Op) → AllByRecursion (λ y. key x ≤ key y) ys → AllByRecursion (λ y. key d < key y → Before y d → ⊥) ys → AllByRecursion (λ y. Before y d → ⊥) ys
    after k [] a b = tt
    after k (y ∷ ys) a b = (b.0 (let u : key x ≤ key y = a.0 in omega arith), after k ys a.1 b.1)

lacks_insert : (n : ℕ) (d : Op) (xs : List Op) → (n ≡ d.end → ⊥) → Lacks n (ends_of xs) → Lacks n (ends_of (insert d xs))
lacks_insert n d [] p h = (p, tt)
lacks_insert n d (x ∷ xs) p h =
    cond_both (ltb (key d) (key x)) _ _ (λ (ys : List Op). Lacks n (ends_of ys)) (λ e. (p, h)) (λ e. (h.0, lacks_insert n d xs p h.1))

pub once_insert : (d : Op) (xs : List Op) → Distinct (ends_of xs) → Lacks d.end (ends_of xs) → Distinct (ends_of (insert d xs))
once_insert d [] h new = (tt, tt)
once_insert d (x ∷ xs) h new =
    cond_both (ltb (key d) (key x)) _ _ (λ (ys : List Op). Distinct (ends_of ys)) (λ e. (new, h))
    (λ e. (lacks_insert x.end d xs (λ q. new.0 (sym q)) h.0, once_insert d xs h.1 new.1))

pub in_has : (x : Op) (xs : List Op) → Among x xs → Contains xs x
in_has x [] i = absurd i
in_has x (y ∷ ys) (inl e) = subst (Contains (y ∷ ys)) (sym e) (has_here y ys)
in_has x (y ∷ ys) (inr i) = has_there y x ys (in_has x ys i)

-- ---- reads behind their writes

-- a write of that version and value is in the line
pub record HasWrite (v : ℕ) (z : ℤ) (xs : List Op) : Type 0 where
  pub call : Op
  pub has : Among call xs
  pub writer : call.client ≡ 0
  pub version : call.version ≡ v
  pub value : call.value ≡ z

-- no two writes of one version
abbrev pub OneWrite : List Op → Type 0
OneWrite [] = Unit {0}
OneWrite (x ∷ xs) = AllByRecursion (λ y. x.client ≡ 0 → y.client ≡ 0 → x.version ≡ y.version → ⊥) xs × OneWrite xs

pub one_write_insert : (d : Op) (xs : List Op) → OneWrite xs → AllByRecursion (λ x. d.client ≡ 0 → x.client ≡ 0 → d.version ≡ x.version → ⊥) xs → OneWrite (insert d xs)
one_write_insert d [] s a = (tt, tt)
one_write_insert d (x ∷ xs) s a =
    cond_both (ltb (key d) (key x)) _ _ OneWrite (λ e. (a, s))
    (λ e. (all_insert _ d xs (λ p q r. a.0 q p (sym r)) s.0, one_write_insert d xs s.1 a.1))

-- In a sorted line each read shows the nearest write before it, if its write is in the line, or it shows what stood before the line.
pub sorted_shows : (v : ℕ) (z : ℤ) (xs : List Op) → Sorted xs → OneWrite xs → AllByRecursion (λ x. x.client ≡ 0 → v < x.version) xs
    → AllByRecursion (λ x. (x.client ≡ 0 → ⊥) → ((x.version ≡ v) × (x.value ≡ z)) ⊎ HasWrite x.version x.value xs) xs → Shows v z xs
sorted_shows v z [] s u a r = tt
sorted_shows v z (x ∷ xs) s u a r =
    elim (cases_eq x.client 0) [
      | inl w ↦ inl (
        w,
        sorted_shows x.version x.value xs s.1 u.1
            (all_zip _ _ _ (λ y p q k. let e1 = key_write x w in let e2 = key_write y k in let ne = q w k in omega arith) xs s.0 u.0)
            (all_zip _ _ _ (λ y p q reader. writes_next w y p (q reader) reader) xs s.0 r.1),
      )
      | inr c ↦ inr (elim (r.0 c) [ inl e ↦ (c, e.0, e.1, sorted_shows v z xs s.1 u.1 a.1 (rest c)) | inr e ↦ absurd (late c e) ])
    ]
  where
    -- the write of a read's version does not stand behind the read
    late : (x.client ≡ 0 → ⊥) → HasWrite x.version x.value (x ∷ xs) → ⊥
    late c e =
        elim e.has [
          | inl q ↦ c (ap (λ (o : Op). o.client) (sym q) ∙ e.writer)
          | inr q ↦ (let le : key x ≤ key e.call = all_among (λ y. key x ≤ key y) e.call xs s.0 q in
              let b1 = key_read x c in let b2 = key_write e.call e.writer in let ve = e.version in omega arith)
        ]

    writes_next : x.client ≡ 0 → (y : Op) → key x ≤ key y → ((y.version ≡ v) × (y.value ≡ z)) ⊎ HasWrite y.version y.value (x ∷ xs) → (y.client ≡ 0 → ⊥)
        → ((y.version ≡ x.version) × (y.value ≡ x.value)) ⊎ HasWrite y.version y.value xs
    writes_next w y k (inl e) reader =
        absurd (let b1 = key_write x w in let b2 = key_read y reader in let up = a.0 w in let ve = e.0 in let u : ⊥ = omega arith in u)
    writes_next w y k (inr e) reader =
        elim e.has [
          | inl q ↦ inl (sym e.version ∙ ap (λ (o : Op). o.version) q, sym e.value ∙ ap (λ (o : Op). o.value) q)
          | inr q ↦ inr (record { call = e.call; has = q; writer = e.writer; version = e.version; value = e.value })
        ]

    rest : (x.client ≡ 0 → ⊥) → AllByRecursion (λ y. (y.client ≡ 0 → ⊥) → ((y.version ≡ v) × (y.value ≡ z)) ⊎ HasWrite y.version y.value xs) xs
    rest c =
        (All-weaker _ _ (λ y q reader. elim (q reader) [
          | inl e ↦ inl e
          | inr e ↦ elim e.has [
            | inl h ↦ absurd (c (ap (λ (o : Op). o.client) (sym h) ∙ e.writer))
            | inr h ↦ inr (record { call = e.call; has = h; writer = e.writer; version = e.version; value = e.value })
          ]
        ]) xs r.1)
