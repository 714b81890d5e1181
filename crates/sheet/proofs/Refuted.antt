-- Bytes that have an admitted word at each place fail at none of them; it ends in `fault_refuted`.
use Rattle.std.proofs.Common.{◌≡◌, ℕ, ◌+◌, cond, eqb, ◌⊎◌, List, [], ◌∷◌, ◌++◌, length, sym, refl, ap, ◌∙◌, subst, inl, inr, append_assoc, add-zero, add_assoc, arith, length-append}
use Rattle.std.specs.List.{AllByRecursion}
use Rattle.std.proofs.lemmas.List.{append_cancel_left, append-nil}
use Rattle.std.proofs.lemmas.Bool.{false≢true}
use Rattle.sheet.proofs.Words.{Shown, word_of, closed, Placed, bytes_of, lines_in, formed, above, Fails, ended, misformed, excessive, cut, parted, Fault}
use Rattle.sheet.proofs.Unique.{Good, word_alone, word_closed, heads, unique}
use Rattle.sheet.proofs.Admitted.{Admitted}

-- the same is due, and the same word has the same separator
pub record Match (p q : Placed) : Type 0 where
  pub due : p.due ≡ q.due
  pub separator : p.word ≡ q.word → p.separator ≡ q.separator

long : (q : Placed) (y : List ℕ) → length (closed q.word q.separator ++ y) ≡ length q.word + 1 + length y
long q y = length-append (closed q.word q.separator) y ∙ ap (λ n. n + length y) (length-append q.word (q.separator ∷ []))

pub fails_refuted : (p q : Placed) (bytes y : List ℕ) (line : ℕ) (f : Shown) → Good p → Admitted q → Match p q → bytes ≡ closed q.word q.separator ++ y → Fails p bytes line f → ⊥
fails_refuted p q bytes y line f g a m e (ended n s) = omega (arith, ap length n, ap length e, long q y)
fails_refuted p q bytes y line f g a m e (misformed n h s) =
    let w : word_of bytes ≡ q.word = ap word_of e ∙ word_closed q y a.good in
    false≢true (sym h ∙ ap (λ d. formed d (word_of bytes)) m.due ∙ ap (λ v. formed q.due v) w ∙ a.form)
fails_refuted p q bytes y line f g a m e (excessive h s) =
    let w : word_of bytes ≡ q.word = ap word_of e ∙ word_closed q y a.good in
    false≢true (sym (ap (λ d. above d (word_of bytes)) m.due ∙ ap (λ v. above q.due v) w ∙ a.size) ∙ h)
fails_refuted p q bytes y line f g a m e (cut c s) =
    let w : word_of bytes ≡ q.word = ap word_of e ∙ word_closed q y a.good in
    let v : p.word ≡ q.word = sym (word_alone p.word g.plain) ∙ ap word_of (sym c) ∙ w in
    omega (arith, ap length c, ap length v, ap length e, long q y)
fails_refuted p q bytes y line f g a m e (parted b more c v ne s) =
    let w : p.word ≡ q.word = sym v ∙ ap word_of e ∙ word_closed q y a.good in
    let d : p.word ++ (b ∷ more) ≡ p.word ++ (q.separator ∷ y) = sym c ∙ e ∙ append_assoc q.word (q.separator ∷ []) y ∙ ap (λ t. t ++ (q.separator ∷ y)) (sym w) in
    ne ((heads b q.separator more y (append_cancel_left p.word (b ∷ more) (q.separator ∷ y) d)).0 ∙ sym (m.separator w))

first : (p b : Placed) (ps bs : List Placed) → p ∷ ps ≡ b ∷ bs → (p ≡ b) × (ps ≡ bs)
first p b ps bs e = (cc, cc)

-- a fault behind the first word, which the bytes have
pub record Later (p : Placed) (ps : List Placed) (bytes : List ℕ) (line : ℕ) (f : Shown) : Type 0 where
  pub rest : List ℕ
  pub agrees : bytes ≡ closed p.word p.separator ++ rest
  pub fault : Fault ps rest (line + cond (eqb p.separator 10) 1 0) f

view_by : (before : List Placed) (place : Placed) (after : List Placed) (left : List ℕ) (p : Placed) (ps : List Placed) (bytes : List ℕ) (line : ℕ) (f : Shown) → p ∷ ps ≡ before ++ (place ∷ after) → bytes ≡ bytes_of before ++ left → Fails place left (line + lines_in before) f → Fails p bytes line f ⊎ Later p ps bytes line f
view_by [] place after left p ps bytes line f parts agrees fails =
    let s = first p place ps after parts in
    let P : Placed → Type 0 = λ r. Fails r left (line + 0) f in
    let Q : List ℕ → Type 0 = λ b. Fails p b (line + 0) f in
    let R : ℕ → Type 0 = λ n. Fails p bytes n f in
    inl (subst R (add-zero line) (subst Q (sym agrees) (subst P (sym s.0) fails)))
view_by (b ∷ bs) place after left p ps bytes line f parts agrees fails =
    let s = first p b ps (bs ++ (place ∷ after)) parts in
    let P : ℕ → Type 0 = λ n. Fails place left n f in
    let Q : Placed → Type 0 = λ r. Fails place left (line + cond (eqb r.separator 10) 1 0 + lines_in bs) f in
    inr (record {
      rest = bytes_of bs ++ left;
      agrees = agrees ∙ append_assoc (closed b.word b.separator) (bytes_of bs) left ∙ ap (λ (r : Placed). closed r.word r.separator ++ (bytes_of bs ++ left)) (sym s.0);
      fault = record { before = bs; place = place; after = after; left = left; parts = s.1; agrees = refl; fails = subst Q (sym s.0) (subst P (sym (add_assoc line (cond (eqb b.separator 10) 1 0) (lines_in bs))) fails) };
    })

-- a fault is at the first word or behind it
pub view : (p : Placed) (ps : List Placed) (bytes : List ℕ) (line : ℕ) (f : Shown) → Fault (p ∷ ps) bytes line f → Fails p bytes line f ⊎ Later p ps bytes line f
view p ps bytes line f h = view_by h.before h.place h.after h.left p ps bytes line f h.parts h.agrees h.fails

pub no_place : (bytes : List ℕ) (line : ℕ) (f : Shown) → Fault [] bytes line f → ⊥
no_place bytes line f h = omega (arith, ap length h.parts, length-append h.before (h.place ∷ h.after))

-- place by place the same is due, as long as the words are the same
abbrev pub Matches : List Placed → List Placed → Type 0
Matches [] [] = Unit {0}
Matches [] (q ∷ qs) = ⊥
Matches (p ∷ ps) [] = ⊥
Matches (p ∷ ps) (q ∷ qs) = Match p q × (p.word ≡ q.word → Matches ps qs)

-- where the bytes have an admitted word at each of some places, the fault is behind them
pub fault_past : (ps qs rs : List Placed) (bytes y : List ℕ) (line : ℕ) (f : Shown) → AllByRecursion Good ps → AllByRecursion Admitted qs → Matches ps qs → bytes ≡ bytes_of qs ++ y → Fault (ps ++ rs) bytes line f → (k : ℕ) × Fault rs y k f
fault_past [] [] rs bytes y line f g a m e h = let P : List ℕ → Type 0 = λ b. Fault rs b line f in (line, subst P e h)
fault_past [] (q ∷ qs) rs bytes y line f g a m e h = absurd m
fault_past (p ∷ ps) [] rs bytes y line f g a m e h = absurd m
fault_past (p ∷ ps) (q ∷ qs) rs bytes y line f g a m e h =
    let c : bytes ≡ closed q.word q.separator ++ (bytes_of qs ++ y) = e ∙ append_assoc (closed q.word q.separator) (bytes_of qs) y in
    elim (view p (ps ++ rs) bytes line f h) [
      | inl fails ↦ absurd (fails_refuted p q bytes (bytes_of qs ++ y) line f g.0 a.0 m.0 c fails)
      | inr l ↦
          let u = unique p q l.rest (bytes_of qs ++ y) g.0 a.0.good (sym l.agrees ∙ c) in
          fault_past ps qs rs l.rest y (line + cond (eqb p.separator 10) 1 0) f g.1 a.1 (m.1 u.word) u.rest l.fault
    ]

pub fault_refuted : (ps qs : List Placed) (bytes y : List ℕ) (line : ℕ) (f : Shown) → AllByRecursion Good ps → AllByRecursion Admitted qs → Matches ps qs → bytes ≡ bytes_of qs ++ y → Fault ps bytes line f → ⊥
fault_refuted ps qs bytes y line f g a m e h =
    let P : List Placed → Type 0 = λ rs. Fault rs bytes line f in
    let r = fault_past ps qs [] bytes y line f g a m e (subst P (sym (append-nil ps)) h) in
    no_place y r.0 f r.1
