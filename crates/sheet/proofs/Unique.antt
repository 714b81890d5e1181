-- Words without separators are found again in their bytes; it ends in `peel`.
use Rattle.std.proofs.Common.{◌≡◌, ℕ, suc, ◌+◌, true, false, List, [], ◌∷◌, ◌++◌, length, take, sym, refl, ap, ◌∙◌, append_assoc, one-add, arith}
use Rattle.std.specs.List.{prefix_len, AllByRecursion}
use Rattle.std.proofs.lemmas.List.{append_cancel_left}
use Rattle.std.proofs.lemmas.Bool.{cond-true, cond-false}
use Rattle.sheet.proofs.Words.{in_word, word_of, closed, Placed, bytes_of}

-- no separator in the word
abbrev pub Plain : List ℕ → Type 0
Plain w = AllByRecursion (λ b. in_word b ≡ true) w

-- a plain word, and a separator behind it
pub record Good (p : Placed) : Type 0 where
  pub plain : Plain p.word
  pub stops : in_word p.separator ≡ false

leading_yes : (b : ℕ) (bs : List ℕ) → in_word b ≡ true → prefix_len in_word (b ∷ bs) ≡ suc (prefix_len in_word bs)
leading_yes b bs h = cond-true (in_word b) (1 + prefix_len in_word bs) 0 h ∙ one-add (prefix_len in_word bs)

leading_no : (b : ℕ) (bs : List ℕ) → in_word b ≡ false → prefix_len in_word (b ∷ bs) ≡ 0
leading_no b bs h = cond-false (in_word b) (1 + prefix_len in_word bs) 0 h

pub word_alone : (w : List ℕ) → Plain w → word_of w ≡ w
word_alone [] h = refl
word_alone (b ∷ bs) h = ap (λ n. take n (b ∷ bs)) (leading_yes b bs h.0) ∙ ap (λ t. b ∷ t) (word_alone bs h.1)

word_before : (w : List ℕ) (s : ℕ) (t : List ℕ) → Plain w → in_word s ≡ false → word_of (w ++ (s ∷ t)) ≡ w
word_before [] s t h e = ap (λ n. take n (s ∷ t)) (leading_no s t e)
word_before (b ∷ bs) s t h e = ap (λ n. take n (b ∷ (bs ++ (s ∷ t)))) (leading_yes b (bs ++ (s ∷ t)) h.0) ∙ ap (λ r. b ∷ r) (word_before bs s t h.1 e)

pub word_closed : (p : Placed) (t : List ℕ) → Good p → word_of (closed p.word p.separator ++ t) ≡ p.word
word_closed p t g = ap word_of (append_assoc p.word (p.separator ∷ []) t) ∙ word_before p.word p.separator t g.plain g.stops

pub heads : (a b : ℕ) (x y : List ℕ) → a ∷ x ≡ b ∷ y → (a ≡ b) × (x ≡ y)
heads a b x y e = (cc, cc)

pub record Alike (p q : Placed) (x y : List ℕ) : Type 0 where
  pub word : p.word ≡ q.word
  pub separator : p.separator ≡ q.separator
  pub rest : x ≡ y

pub unique : (p q : Placed) (x y : List ℕ) → Good p → Good q → closed p.word p.separator ++ x ≡ closed q.word q.separator ++ y → Alike p q x y
unique p q x y g h e =
    let w : p.word ≡ q.word = sym (word_closed p x g) ∙ ap word_of e ∙ word_closed q y h in
    let f : p.word ++ (p.separator ∷ x) ≡ p.word ++ (q.separator ∷ y) =
    sym (append_assoc p.word (p.separator ∷ []) x) ∙ e ∙ append_assoc q.word (q.separator ∷ []) y ∙ ap (λ v. v ++ (q.separator ∷ y)) (sym w) in
    let r = heads p.separator q.separator x y (append_cancel_left p.word (p.separator ∷ x) (q.separator ∷ y) f) in
    record { word = w; separator = r.0; rest = r.1 }

abbrev pub words_in : List Placed → List (List ℕ)
words_in [] = []
words_in (p ∷ ps) = p.word ∷ words_in ps

pub record Peeled (ps qs : List Placed) (x y : List ℕ) : Type 0 where
  pub words : words_in ps ≡ words_in qs
  pub rest : x ≡ y

pub peel : (ps qs : List Placed) (x y : List ℕ) → AllByRecursion Good ps → AllByRecursion Good qs → length ps ≡ length qs → bytes_of ps ++ x ≡ bytes_of qs ++ y → Peeled ps qs x y
peel [] [] x y g h l e = record { words = refl; rest = e }
peel [] (q ∷ qs) x y g h l e = absurd (omega arith)
peel (p ∷ ps) [] x y g h l e = absurd (omega arith)
peel (p ∷ ps) (q ∷ qs) x y g h l e =
    let u = unique p q (bytes_of ps ++ x) (bytes_of qs ++ y) g.0 h.0 (sym (append_assoc (closed p.word p.separator) (bytes_of ps) x) ∙ e ∙ append_assoc (closed q.word q.separator) (bytes_of qs) y) in
    let r = peel ps qs x y g.1 h.1 (omega arith) u.rest in
    record { words = cc; rest = r.rest }
