-- The number of orders behind some words: what a fault there means for all of them.
use Rattle.std.proofs.Common.{◌≡◌, ℕ, ◌+◌, ◌<◌, List, [], ◌++◌, length, decimal, sym, refl, ap, ◌∙◌, subst, append_assoc, add-zero, arith}
use Rattle.sheet.proofs.Words.{Shown, shows, word_of, orders_max, Placed, placed, number, number_words, bytes_of, lines_in, Fault, Took, Overfull, Miscounted, wrong, many, Uncounted, unfit, unplaced}
use Rattle.sheet.proofs.Walks.{missed_unfit, later, bytes_append, lines_append}

pub miscounted_word : (places : ℕ) (rest word : List ℕ) (line : ℕ) (f : Shown) → word ≡ word_of rest → 0 < length rest → Uncounted places word line f → Miscounted [] places rest line f
miscounted_word places rest word line f e some (unfit h) =
    wrong (record { like = 0; fine = (omega arith, omega arith); fault = missed_unfit (placed (number orders_max) (decimal 0) 10) rest word line f e some h })
miscounted_word places rest word line f e some (unplaced n few crowd same says) =
    many (record {
      count = n;
      left = rest;
      few = few;
      crowd = crowd;
      agrees = refl;
      word = sym e ∙ same;
      says = says ∙ ap (λ w. shows 35 line w) same ∙ ap (λ k. shows 35 k (decimal n)) (sym (add-zero line));
    })

pub overfull_after : (qs ps : List Placed) (places : ℕ) (a b : List ℕ) (k l : ℕ) (f : Shown) → Took qs a k b l → Overfull ps places b l f → Overfull (qs ++ ps) places a k f
overfull_after qs ps places a b k l f t h =
    let e : l + lines_in ps ≡ k + lines_in (qs ++ ps) = omega (arith, t.lines, lines_append qs ps) in
    record {
      count = h.count;
      left = h.left;
      few = h.few;
      crowd = h.crowd;
      agrees = t.bytes ∙ ap (λ s. bytes_of qs ++ s) h.agrees ∙ sym (append_assoc (bytes_of qs) (bytes_of ps) h.left) ∙ ap (λ s. s ++ h.left) (sym (bytes_append qs ps));
      word = h.word;
      says = h.says ∙ ap (λ n. shows 35 n (decimal h.count)) e;
    }

pub miscounted_after : (qs ps : List Placed) (places : ℕ) (a b : List ℕ) (k l : ℕ) (f : Shown) → Took qs a k b l → Miscounted ps places b l f → Miscounted (qs ++ ps) places a k f
miscounted_after qs ps places a b k l f t (wrong m) =
    let P : List Placed → Type 0 = λ rs. Fault rs a k f in
    wrong (record { like = m.like; fine = m.fine; fault = subst P (sym (append_assoc qs ps (number_words orders_max 10 m.like))) (later t m.fault) })
miscounted_after qs ps places a b k l f t (many h) = many (overfull_after qs ps places a b k l f t h)
