-- What is shown of a place is determined by what is due there; it ends in `fault_same`.
use Rattle.std.proofs.Common.{◌≡◌, ℕ, ◌+◌, Bool, true, false, cond, ◌&&◌, eqb, ltb, List, [], ◌∷◌, length, drop, sym, refl, ap, ◌∙◌, subst, inl, inr, arith, length-append}
use Rattle.std.specs.List.{AllByRecursion}
use Rattle.std.proofs.lemmas.List.{nil_from_length}
use Rattle.std.proofs.lemmas.Bool.{false≢true, eq-eqb, ne_eqb, and_parts, or_cases, or_left, or_right}
use Rattle.sheet.proofs.Words.{Shown, shows, word_of, numeral, negated, amount, number_max, Due, fixed, number, value, kind, Placed, formed, above, Fails, ended, misformed, excessive, cut, parted, Fault}
use Rattle.sheet.proofs.Unique.{word_alone, unique}
use Rattle.sheet.proofs.Admitted.{Admitted}
use Rattle.sheet.proofs.Refuted.{Match, Matches, view, no_place, fails_refuted}

-- none left, the form, the size, and whether the word is all that is left
abbrev judged : Bool → Bool → Bool → Bool → ℕ → List ℕ → Shown
judged none form size all line w = cond none (shows 33 line []) (cond form (cond size (shows 32 line w) (cond all (shows 33 line []) (shows 31 line w))) (shows 31 line w))

abbrev verdict : Due → List ℕ → ℕ → Shown
verdict due bytes line = judged (eqb (length bytes) 0) (formed due (word_of bytes)) (above due (word_of bytes)) (eqb (length (word_of bytes)) (length bytes)) line (word_of bytes)

above_formed : (d : Due) (w : List ℕ) → above d w ≡ true → formed d w ≡ true
above_formed (fixed v) w h = absurd (false≢true h)
above_formed (number limit) w h = (and_parts (numeral w) (ltb limit (amount w)) h).0
above_formed value w h =
    elim (or_cases (numeral w && ltb number_max (amount w)) (negated w && ltb number_max (amount (drop 1 w))) h) [
      | inl p ↦ or_left (numeral w) (negated w) (and_parts (numeral w) (ltb number_max (amount w)) p).0
      | inr p ↦ or_right (numeral w) (negated w) (and_parts (negated w) (ltb number_max (amount (drop 1 w))) p).0
    ]
above_formed kind w h = absurd (false≢true h)

above_none : (d : Due) → above d [] ≡ true → ⊥
above_none (fixed v) h = false≢true h
above_none (number limit) h = false≢true h
above_none value h = false≢true h
above_none kind h = false≢true h

some_left : (bytes : List ℕ) → (bytes ≡ [] → ⊥) → eqb (length bytes) 0 ≡ false
some_left bytes ne = ne_eqb (length bytes) 0 (λ z. ne (nil_from_length bytes z))

-- with the four tests known
tested : (a b c d a' b' c' d' : Bool) (line : ℕ) (w : List ℕ) → a ≡ a' → b ≡ b' → c ≡ c' → d ≡ d' → judged a b c d line w ≡ judged a' b' c' d' line w
tested a b c d a' b' c' d' line w p q r s = ap (λ t. judged t b c d line w) p ∙ ap (λ t. judged a' t c d line w) q ∙ ap (λ t. judged a' b' t d line w) r ∙ ap (λ t. judged a' b' c' t line w) s

cut_either : (a : Bool) (line : ℕ) (w : List ℕ) → judged a true false true line w ≡ shows 33 line []
cut_either true line w = refl
cut_either false line w = refl

verdict_is : (p : Placed) (bytes : List ℕ) (line : ℕ) (f : Shown) → Admitted p → Fails p bytes line f → f ≡ verdict p.due bytes line
verdict_is p bytes line f a (ended e s) =
    let w = word_of bytes in
    s ∙ sym (tested (eqb (length bytes) 0) (formed p.due w) (above p.due w) (eqb (length w) (length bytes)) true (formed p.due w) (above p.due w) (eqb (length w) (length bytes)) line w (eq-eqb (length bytes) 0 (ap length e)) refl refl refl)
verdict_is p bytes line f a (misformed n h s) =
    let w = word_of bytes in
    s ∙ sym (tested (eqb (length bytes) 0) (formed p.due w) (above p.due w) (eqb (length w) (length bytes)) false false (above p.due w) (eqb (length w) (length bytes)) line w (some_left bytes n) h refl refl)
verdict_is p bytes line f a (excessive h s) =
    let w = word_of bytes in
    let n : bytes ≡ [] → ⊥ = λ e. above_none p.due (sym (ap (λ b. above p.due (word_of b)) e) ∙ h) in
    s ∙ sym (tested (eqb (length bytes) 0) (formed p.due w) (above p.due w) (eqb (length w) (length bytes)) false true true (eqb (length w) (length bytes)) line w (some_left bytes n) (above_formed p.due w h) h refl)
verdict_is p bytes line f a (cut c s) =
    let w = word_of bytes in
    let e : w ≡ p.word = ap word_of c ∙ word_alone p.word a.good.plain in
    s ∙ sym (tested (eqb (length bytes) 0) (formed p.due w) (above p.due w) (eqb (length w) (length bytes)) (eqb (length bytes) 0) true false true line w refl (ap (λ v. formed p.due v) e ∙ a.form) (ap (λ v. above p.due v) e ∙ a.size) (eq-eqb (length w) (length bytes) (ap length (e ∙ sym c)))
    ∙ cut_either (eqb (length bytes) 0) line w)
verdict_is p bytes line f a (parted b more c e ne s) =
    let w = word_of bytes in
    let l : length bytes ≡ length p.word + length (b ∷ more) = ap length c ∙ length-append p.word (b ∷ more) in
    let apart : length w ≡ length bytes → ⊥ = λ z. omega (arith, ap length e) in
    let n : bytes ≡ [] → ⊥ = λ z. omega (arith, ap length z) in
    s ∙ ap (λ v. shows 31 line v) (sym e)
    ∙ sym (tested (eqb (length bytes) 0) (formed p.due w) (above p.due w) (eqb (length w) (length bytes)) false true false false line w (some_left bytes n) (ap (λ v. formed p.due v) e ∙ a.form) (ap (λ v. above p.due v) e ∙ a.size) (ne_eqb (length w) (length bytes) apart))

other_way : (p q : Placed) → Match p q → Match q p
other_way p q m = record { due = sym m.due; separator = λ w. sym (m.separator (sym w)) }

pub fault_same : (ps qs : List Placed) (bytes : List ℕ) (line : ℕ) (f g : Shown) → AllByRecursion Admitted ps → AllByRecursion Admitted qs → Matches ps qs → Fault ps bytes line f → Fault qs bytes line g → f ≡ g
fault_same [] qs bytes line f g a b m h k = absurd (no_place bytes line f h)
fault_same (p ∷ ps) [] bytes line f g a b m h k = absurd m
fault_same (p ∷ ps) (q ∷ qs) bytes line f g a b m h k =
    elim (view p ps bytes line f h) [
      | inl x ↦ elim (view q qs bytes line g k) [
        | inl y ↦ verdict_is p bytes line f a.0 x ∙ ap (λ d. verdict d bytes line) m.0.due ∙ sym (verdict_is q bytes line g b.0 y)
        | inr y ↦ absurd (fails_refuted p q bytes y.rest line f a.0.good b.0 m.0 y.agrees x)
      ]
      | inr x ↦ elim (view q qs bytes line g k) [
        | inl y ↦ absurd (fails_refuted q p bytes x.rest line g b.0.good a.0 (other_way p q m.0) x.agrees y)
        | inr y ↦
            let u = unique p q x.rest y.rest a.0.good b.0.good (sym x.agrees ∙ y.agrees) in
            let P : List ℕ → Type 0 = λ r. Fault qs r (line + cond (eqb q.separator 10) 1 0) g in
            let Q : ℕ → Type 0 = λ s. Fault qs x.rest (line + cond (eqb s 10) 1 0) g in
            fault_same ps qs x.rest (line + cond (eqb p.separator 10) 1 0) f g a.1 b.1 (m.1 u.word) x.fault (subst Q (sym u.separator) (subst P (sym u.rest) y.fault))
      ]
    ]
