-- The calls of a client in a log, one after the other: ends in `faithful`, the list of the ended calls is what the log says.
use Rattle.std.proofs.Common.{◌≡◌, ℕ, ◌<◌, eqb, ◌⊎◌, List, [], ◌∷◌, length, sym, refl, ap, ◌∙◌, subst, inl, inr, arith}
use Rattle.std.proofs.lemmas.Bool.{cases_Bool, cases_order, eq-eqb}
use Rattle.std.specs.List.{Contains, AllByRecursion}
use Rattle.theory.proofs.Words.{listed_as, Tell, Entry}
use Rattle.theory.proofs.Lists.{All-contains, All-weaker, has_here, has_there}
use Rattle.theory.proofs.Model.{Phase, idle, due, awaiting, Client}
use Rattle.theory.proofs.History.{Done, begun, done}
use Rattle.theory.proofs.Calls.{At, Starts, Ends, BeginsAt, EndsAt, NextEnd, AwaitsTell, Faithful}

pub at_below : (log : List Entry) (i : ℕ) (e : Entry) → At log i e → i < length log
at_below [] i e h = absurd h
at_below (x ∷ log) i e (inl p) = omega (arith, p.0)
at_below (x ∷ log) i e (inr p) = omega (arith, at_below log i e p)

pub begins_below : (log : List Entry) (c i : ℕ) → BeginsAt log c i → i < length log
begins_below log c i h = at_below log i h.0 h.1

ends_below : (log : List Entry) (c i : ℕ) → EndsAt log c i → i < length log
ends_below log c i h = at_below log i h.0 h.1

-- ---- one more entry

pub at_more : (P : Entry → Type 0) (x : Entry) (log : List Entry) (i : ℕ) → (e : Entry) × At log i e × P e → (e : Entry) × At (x ∷ log) i e × P e
at_more P x log i h = (h.0, inr h.1, h.2)

at_split : (P : Entry → Type 0) (x : Entry) (log : List Entry) (i : ℕ) → (e : Entry) × At (x ∷ log) i e × P e → ((i ≡ length log) × P x) ⊎ ((e : Entry) × At log i e × P e)
at_split P x log i h = elim h.1 [ inl p ↦ inl (p.0, subst P (sym p.1) h.2) | inr p ↦ inr (h.0, p, h.2) ]

next_more : (x : Entry) (log : List Entry) (c i j : ℕ) → NextEnd log c i j → NextEnd (x ∷ log) c i j
next_more x log c i j h =
    let b = ends_below log c j h.ends in
    record {
      after = h.after;
      ends = at_more (Ends c) x log j h.ends;
      first = λ n p q e. elim (at_split (Ends c) x log n e) [ inl y ↦ absurd (omega (arith, y.0)) | inr y ↦ h.first n p q y ];
    }

-- ---- one client

-- the call of client c that began at place `at` has not ended, and every other one has ended before
pub record Open (log : List Entry) (c at : ℕ) : Type 0 where
  pub begins : BeginsAt log c at
  pub none : (n : ℕ) → at < n → EndsAt log c n → ⊥
  pub others : (i : ℕ) → BeginsAt log c i → (i ≡ at) ⊎ ((j : ℕ) × NextEnd log c i j × (j < at))

-- the calls of client c, by what it awaits: all have ended, or all but the one that began at place `at`, which is due if its client is
abbrev pub Track : List Entry → ℕ → ℕ → Phase → Type 0
Track log c at idle = (i : ℕ) → BeginsAt log c i → (j : ℕ) × NextEnd log c i j
Track log c at due = Open log c at × AwaitsTell log c at
Track log c at (awaiting k ss) = Open log c at

-- between two calls of one client the first has ended
abbrev pub Apart : List Entry → ℕ → Type 0
Apart log c = (i i' : ℕ) → BeginsAt log c i → BeginsAt log c i' → i < i' → (n : ℕ) × (i < n) × (n < i') × EndsAt log c n

-- what every past keeps of the places where calls began and ended
pub record Tracked (log : List Entry) (clients : ℕ → Client) : Type 0 where
  pub each : (c : ℕ) → Track log c (begun log c) (clients c).phase
  pub apart : (c : ℕ) → Apart log c
  pub sound : AllByRecursion (λ d. BeginsAt log d.client d.begin × NextEnd log d.client d.begin d.end) (done log)

-- An entry that neither starts nor ends a call of c keeps what is tracked of c.
module _ (x : Entry) (log : List Entry) (c : ℕ) (ns : Starts c x → ⊥) (ne : Ends c x → ⊥) where
  old_begins : (i : ℕ) → BeginsAt (x ∷ log) c i → BeginsAt log c i
  old_begins i h = elim (at_split (Starts c) x log i h) [ inl p ↦ absurd (ns p.1) | inr p ↦ p ]

  open_quiet : (at : ℕ) → Open log c at → Open (x ∷ log) c at
  open_quiet at h =
      record {
        begins = at_more (Starts c) x log at h.begins;
        none = λ n lt e. elim (at_split (Ends c) x log n e) [ inl p ↦ ne p.1 | inr p ↦ h.none n lt p ];
        others = λ i b. elim (h.others i (old_begins i b)) [ inl p ↦ inl p | inr p ↦ inr (p.0, next_more x log c i p.0 p.1, p.2) ];
      }

  awaits_quiet : (at : ℕ) → (((listed_as x.answer).code ≡ 100) × (x.order ≡ Tell c) → ⊥) → AwaitsTell log c at → AwaitsTell (x ∷ log) c at
  awaits_quiet at nt h =
      record {
        since = h.since;
        after = h.after;
        due = (h.due.0, inr h.due.1, h.due.2, h.due.3);
        untold = λ n lt t. elim t.1 [
          | inl q ↦ nt (ap (λ (e : Entry). (listed_as e.answer).code) q.1 ∙ t.2, ap (λ (e : Entry). e.order) q.1 ∙ t.3)
          | inr q ↦ h.untold n lt (t.0, q, t.2, t.3)
        ];
      }

  pub track_quiet : (at : ℕ) (p : Phase) → (p ≡ due → ((listed_as x.answer).code ≡ 100) × (x.order ≡ Tell c) → ⊥) → Track log c at p → Track (x ∷ log) c at p
  track_quiet at idle nt h = λ i b. let r = h i (old_begins i b) in (r.0, next_more x log c i r.0 r.1)
  track_quiet at due nt h = (open_quiet at h.0, awaits_quiet at (nt refl) h.1)
  track_quiet at (awaiting k ss) nt h = open_quiet at h

  pub apart_quiet : Apart log c → Apart (x ∷ log) c
  apart_quiet h i i' b b' lt = let r = h i i' (old_begins i b) (old_begins i' b') lt in (r.0, r.1, r.2, at_more (Ends c) x log r.0 r.3)

-- A call of c starts.
module _ (x : Entry) (log : List Entry) (c : ℕ) (st : Starts c x) (rest : (i : ℕ) → BeginsAt log c i → (j : ℕ) × NextEnd log c i j) where
  pub open_start : Open (x ∷ log) c (length log)
  open_start =
      record {
        begins = (x, inl (refl, refl), st);
        none = λ n lt e. absurd (omega (arith, ends_below (x ∷ log) c n e));
        others = λ i b. elim (at_split (Starts c) x log i b) [
          | inl p ↦ inl p.0
          | inr p ↦ (let r = rest i p in inr (r.0, next_more x log c i r.0 r.1, ends_below log c r.0 r.1.ends))
        ];
      }

  pub apart_start : Apart log c → Apart (x ∷ log) c
  apart_start h i i' b b' lt =
      elim (at_split (Starts c) x log i b) [
        | inl p ↦ absurd (omega (arith, p.0, begins_below (x ∷ log) c i' b'))
        | inr p ↦ elim (at_split (Starts c) x log i' b') [
          | inl q ↦ (let r = rest i p in (r.0, r.1.after, omega (arith, q.0, ends_below log c r.0 r.1.ends), at_more (Ends c) x log r.0 r.1.ends))
          | inr q ↦ (let r = h i i' p q lt in (r.0, r.1, r.2, at_more (Ends c) x log r.0 r.3))
        ]
      ]

-- A call of c ends.
module _ (x : Entry) (log : List Entry) (c at : ℕ) (en : Ends c x) (o : Open log c at) where
  no_start : (e : Entry) → Ends c e → Starts c e → ⊥
  no_start e p q = let z : ◌≡◌ {A = ℕ} 100 105 = sym q.0 ∙ p.0 in omega arith

  pub the_next : NextEnd (x ∷ log) c at (length log)
  the_next =
      record {
        after = begins_below log c at o.begins;
        ends = (x, inl (refl, refl), en);
        first = λ n lt k e. elim (at_split (Ends c) x log n e) [ inl p ↦ absurd (omega (arith, p.0)) | inr p ↦ o.none n lt p ];
      }

  pub track_end : (i : ℕ) → BeginsAt (x ∷ log) c i → (j : ℕ) × NextEnd (x ∷ log) c i j
  track_end i b =
      elim (at_split (Starts c) x log i b) [
        | inl p ↦ absurd (no_start x en p.1)
        | inr p ↦ elim (o.others i p) [ inl e ↦ (length log, subst (λ n. NextEnd (x ∷ log) c n (length log)) (sym e) the_next) | inr r ↦ (r.0, next_more x log c i r.0 r.1) ]
      ]

  pub apart_end : Apart log c → Apart (x ∷ log) c
  apart_end h i i' b b' lt =
      elim (at_split (Starts c) x log i b) [
        | inl p ↦ absurd (no_start x en p.1)
        | inr p ↦ elim (at_split (Starts c) x log i' b') [
          | inl q ↦ absurd (no_start x en q.1)
          | inr q ↦ (let r = h i i' p q lt in (r.0, r.1, r.2, at_more (Ends c) x log r.0 r.3))
        ]
      ]

pub sound_more : (x : Entry) (log : List Entry) (ds : List Done) → AllByRecursion (λ d. BeginsAt log d.client d.begin × NextEnd log d.client d.begin d.end) ds
    → AllByRecursion (λ d. BeginsAt (x ∷ log) d.client d.begin × NextEnd (x ∷ log) d.client d.begin d.end) ds
sound_more x log ds h = All-weaker _ _ (λ d p. (at_more (Starts d.client) x log d.begin p.0, next_more x log d.client d.begin d.end p.1)) ds h

-- ---- the list of the ended calls

-- Every end in the log is that of a call in the list.
from_end : (log : List Entry) (c j : ℕ) → EndsAt log c j → (d : Done) × Contains (done log) d × (d.client ≡ c) × (d.end ≡ j)
from_end [] c j h = absurd h.1
from_end (x ∷ log) c j h =
    elim (at_split (Ends c) x log j h) [
      | inl p ↦ simp (eq-eqb (listed_as x.answer).code 105 p.1.0) (_, has_here _ (done log), p.1.1, sym p.0)
      | inr p ↦ (let r = from_end log c j p in
          elim (cases_Bool (eqb (listed_as x.answer).code 105)) [
            | inl e ↦ simp e (r.0, has_there _ r.0 (done log) r.1, r.2, r.3)
            | inr e ↦ simp e r
          ])
    ]

-- The list has each call that began and ended, and no other.
pub faithful : (log : List Entry) (clients : ℕ → Client) → Tracked log clients → Faithful log
faithful log clients t =
    record {
      sound = t.sound;
      complete = λ c i j b n.
          let r = from_end log c j n.ends in
          let s = All-contains (λ d. BeginsAt log d.client d.begin × NextEnd log d.client d.begin d.end) (done log) r.0 t.sound r.1 in
          let b' : BeginsAt log c r.0.begin = subst (λ k. BeginsAt log k r.0.begin) r.2 s.0 in
          let n' : NextEnd log c r.0.begin j = subst (λ k. NextEnd log c r.0.begin k) r.3 (subst (λ k. NextEnd log k r.0.begin r.0.end) r.2 s.1) in
          (r.0, r.1, r.2, same c i r.0.begin j b b' n n', r.3);
    }
  where
    same : (c i i' j : ℕ) → BeginsAt log c i → BeginsAt log c i' → NextEnd log c i j → NextEnd log c i' j → i' ≡ i
    same c i i' j b b' n n' =
        elim (cases_order i' i) [
          | inl e ↦ e
          | inr e ↦ elim e [
            | inl lt ↦ (let r = t.apart c i' i b' b lt in absurd (n'.first r.0 r.1 (omega (arith, r.2, n.after)) r.3))
            | inr lt ↦ (let r = t.apart c i i' b b' lt in absurd (n.first r.0 r.1 (omega (arith, r.2, n'.after)) r.3))
          ]
        ]
