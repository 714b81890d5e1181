-- Steps one after another: words that are taken, and a fault behind them.
use Rattle.std.proofs.Common.{◌≡◌, ℕ, ◌+◌, ◌<◌, List, [], ◌∷◌, ◌++◌, length, sym, refl, ap, ◌∙◌, subst, append_assoc, add-zero, arith}
use Rattle.std.proofs.lemmas.List.{append-nil}
use Rattle.sheet.proofs.Words.{Shown, shows, word_of, closed, Due, Placed, placed, bytes_of, lines_in, formed, above, Fails, ended, misformed, excessive, cut, parted, Fault, Closed, Unclosed, broken, swapped, Unfit, unformed, unbounded, Took}

pub bytes_append : (ps qs : List Placed) → bytes_of (ps ++ qs) ≡ bytes_of ps ++ bytes_of qs
bytes_append [] qs = refl
bytes_append (p ∷ ps) qs = ap (λ t. closed p.word p.separator ++ t) (bytes_append ps qs) ∙ sym (append_assoc (closed p.word p.separator) (bytes_of ps) (bytes_of qs))

pub lines_append : (ps qs : List Placed) → lines_in (ps ++ qs) ≡ lines_in ps + lines_in qs
lines_append [] qs = omega arith
lines_append (p ∷ ps) qs = omega (arith, lines_append ps qs)

pub fault_here : (p : Placed) (qs : List Placed) (bytes : List ℕ) (line : ℕ) (f : Shown) → Fails p bytes line f → Fault (p ∷ qs) bytes line f
fault_here p qs bytes line f h =
    let P : ℕ → Type 0 = λ n. Fails p bytes n f in
    record { before = []; place = p; after = qs; left = bytes; parts = refl; agrees = refl; fails = subst P (sym (add-zero line)) h }

pub fault_more : (ps qs : List Placed) (bytes : List ℕ) (line : ℕ) (f : Shown) → Fault ps bytes line f → Fault (ps ++ qs) bytes line f
fault_more ps qs bytes line f h =
    record {
      before = h.before;
      place = h.place;
      after = h.after ++ qs;
      left = h.left;
      parts = ap (λ t. t ++ qs) h.parts ∙ append_assoc h.before (h.place ∷ h.after) qs;
      agrees = h.agrees;
      fails = h.fails;
    }

pub fault_after : (qs ps : List Placed) (bytes rest : List ℕ) (line next : ℕ) (f : Shown) → Took qs bytes line rest next → Fault ps rest next f → Fault (qs ++ ps) bytes line f
fault_after qs ps bytes rest line next f t h =
    let P : ℕ → Type 0 = λ n. Fails h.place h.left n f in
    let e : next + lines_in h.before ≡ line + lines_in (qs ++ h.before) = omega (arith, t.lines, lines_append qs h.before) in
    record {
      before = qs ++ h.before;
      place = h.place;
      after = h.after;
      left = h.left;
      parts = ap (λ t. qs ++ t) h.parts ∙ sym (append_assoc qs h.before (h.place ∷ h.after));
      agrees = t.bytes ∙ ap (λ s. bytes_of qs ++ s) h.agrees ∙ sym (append_assoc (bytes_of qs) (bytes_of h.before) h.left) ∙ ap (λ s. s ++ h.left) (sym (bytes_append qs h.before));
      fails = subst P e h.fails;
    }

pub took_then : (ps qs : List Placed) (a b d : List ℕ) (k l m : ℕ) → Took ps a k b l → Took qs b l d m → Took (ps ++ qs) a k d m
took_then ps qs a b d k l m s t =
    record {
      bytes = s.bytes ∙ ap (λ u. bytes_of ps ++ u) t.bytes ∙ sym (append_assoc (bytes_of ps) (bytes_of qs) d) ∙ ap (λ u. u ++ d) (sym (bytes_append ps qs));
      lines = omega (arith, s.lines, t.lines, lines_append ps qs);
    }

pub took_closed : (due : Due) (word : List ℕ) (separator : ℕ) (a b : List ℕ) (k l : ℕ) → Closed word separator a k b l → Took (placed due word separator ∷ []) a k b l
took_closed due word separator a b k l c =
    record { bytes = c.bytes ∙ ap (λ t. t ++ b) (sym (append-nil (closed word separator))); lines = c.lines ∙ omega arith }

pub fails_unclosed : (p : Placed) (rest : List ℕ) (line : ℕ) (f : Shown) → Unclosed p.word p.separator rest line f → Fails p rest line f
fails_unclosed p rest line f (broken e s) = cut e s
fails_unclosed p rest line f (swapped b more e w ne s) = parted b more e w ne s

nonempty : (rest : List ℕ) → 0 < length rest → rest ≡ [] → ⊥
nonempty rest h e = omega (arith, ap length e)

pub fails_unfit : (p : Placed) (rest word : List ℕ) (line : ℕ) (f : Shown) → word ≡ word_of rest → 0 < length rest → Unfit p.due word line f → Fails p rest line f
fails_unfit p rest word line f e some (unformed h s) = misformed (nonempty rest some) (ap (λ w. formed p.due w) (sym e) ∙ h) (s ∙ ap (λ w. shows 31 line w) e)
fails_unfit p rest word line f e some (unbounded h s) = excessive (ap (λ w. above p.due w) (sym e) ∙ h) (s ∙ ap (λ w. shows 32 line w) e)

-- the three ways in which the bytes fail at one word
pub missed_ended : (p : Placed) (rest : List ℕ) (line : ℕ) (f : Shown) → rest ≡ [] → f ≡ shows 33 line [] → Fault (p ∷ []) rest line f
missed_ended p rest line f e s = fault_here p [] rest line f (ended e s)

pub missed_unfit : (p : Placed) (rest word : List ℕ) (line : ℕ) (f : Shown) → word ≡ word_of rest → 0 < length rest → Unfit p.due word line f → Fault (p ∷ []) rest line f
missed_unfit p rest word line f e some h = fault_here p [] rest line f (fails_unfit p rest word line f e some h)

pub missed_unclosed : (p : Placed) (rest word : List ℕ) (line : ℕ) (f : Shown) → word ≡ p.word → Unclosed word p.separator rest line f → Fault (p ∷ []) rest line f
missed_unclosed p rest word line f e h =
    let P : List ℕ → Type 0 = λ w. Unclosed w p.separator rest line f in
    fault_here p [] rest line f (fails_unclosed p rest line f (subst P e h))

-- the same, with what the steps tell
pub later : {qs ps : List Placed} {a b : List ℕ} {k l : ℕ} {f : Shown} → Took qs a k b l → Fault ps b l f → Fault (qs ++ ps) a k f
later {qs} {ps} {a} {b} {k} {l} {f} t h = fault_after qs ps a b k l f t h

pub longer : {ps : List Placed} {a : List ℕ} {k : ℕ} {f : Shown} (qs : List Placed) → Fault ps a k f → Fault (ps ++ qs) a k f
longer {ps} {a} {k} {f} qs h = fault_more ps qs a k f h

pub both : {ps qs : List Placed} {a b d : List ℕ} {k l m : ℕ} → Took ps a k b l → Took qs b l d m → Took (ps ++ qs) a k d m
both {ps} {qs} {a} {b} {d} {k} {l} {m} s t = took_then ps qs a b d k l m s t
