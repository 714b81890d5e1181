-- A word that is judged, and its separator: what a field means for the words that are due; it ends in `stepped` and `counted`.
use Rattle.std.proofs.Common.{◌≡◌, ℕ, ◌≤◌, List, [], ◌∷◌, decimal, Ok, Err, Bor, Result, MatchResult, subst, arith}
use Rattle.sheet.proofs.Words.{SheetFault, shown, orders_max, Due, placed, number, Closed, Unfit, Counts, Uncounted, Fielded, missing, refused, unclosed, Stepped, Counted, wrong}
use Rattle.sheet.proofs.Counting.{miscounted_word}
use Rattle.sheet.proofs.Walks.{took_closed, missed_ended, missed_unfit, missed_unclosed}

-- the same word at every value that it may write, and some value within the limits
pub stepped : {A : Type 0} {Judged : Bor (List ℕ) → Result A SheetFault → Type 0} (rest : List ℕ) (line : ℕ) (rest' : List ℕ) (line' : ℕ) (due : Due) (writes : A → List ℕ) (separator : ℕ) (Fine : A → Type 0) (some : A) → Fine some → ((word : Bor (List ℕ)) (r : Result A SheetFault) → Judged word r → MatchResult r (λ a. Fine a × (word.now ≡ writes a)) (λ f. Unfit due word.now line (shown f))) → (r : Result A SheetFault) → Fielded Judged separator rest line rest' line' r → Stepped Fine (λ a. placed due (writes a) separator ∷ []) rest line rest' line' r
stepped rest line rest' line' due writes separator Fine some fine judge (Ok a) t =
    let j = judge t.word (Ok a) t.judged in
    let P : List ℕ → Type 0 = λ w. Closed w separator rest line rest' line' in
    (j.0, took_closed due (writes a) separator rest rest' line line' (subst P j.1 t.closed))
stepped rest line rest' line' due writes separator Fine some fine judge (Err f) (missing e s) =
    record { like = some; fine = fine; fault = missed_ended (placed due (writes some) separator) rest line (shown f) e s }
stepped rest line rest' line' due writes separator Fine some fine judge (Err f) (refused word e more j) =
    record { like = some; fine = fine; fault = missed_unfit (placed due (writes some) separator) rest word.now line (shown f) e more (judge word (Err f) j) }
stepped rest line rest' line' due writes separator Fine some fine judge (Err f) (unclosed word a w j u) =
    let m = judge word (Ok a) j in
    record { like = a; fine = m.0; fault = missed_unclosed (placed due (writes a) separator) rest word.now line (shown f) m.1 u }

pub counted : {Judged : Bor (List ℕ) → Result ℕ SheetFault → Type 0} (rest : List ℕ) (line : ℕ) (rest' : List ℕ) (line' : ℕ) (places : ℕ) → ((word : Bor (List ℕ)) (r : Result ℕ SheetFault) → Judged word r → MatchResult r (λ n. Counts orders_max word.now n × (n ≤ places)) (λ f. Uncounted places word.now line (shown f))) → (r : Result ℕ SheetFault) → Fielded Judged 10 rest line rest' line' r → Counted [] places rest line rest' line' r
counted rest line rest' line' places judge (Ok n) t =
    let j = judge t.word (Ok n) t.judged in
    let P : List ℕ → Type 0 = λ w. Closed w 10 rest line rest' line' in
    ((j.0.small, j.1), took_closed (number orders_max) (decimal n) 10 rest rest' line line' (subst P j.0.same t.closed))
counted rest line rest' line' places judge (Err f) (missing e s) =
    wrong (record { like = 0; fine = (omega arith, omega arith); fault = missed_ended (placed (number orders_max) (decimal 0) 10) rest line (shown f) e s })
counted rest line rest' line' places judge (Err f) (refused word e more j) = miscounted_word places rest word.now line (shown f) e more (judge word (Err f) j)
counted rest line rest' line' places judge (Err f) (unclosed word n w j u) =
    let m = judge word (Ok n) j in
    wrong (record { like = n; fine = (m.0.small, m.1); fault = missed_unclosed (placed (number orders_max) (decimal n) 10) rest word.now line (shown f) m.0.same u })
