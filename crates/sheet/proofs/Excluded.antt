-- Faults that a sheet whose head is whole cannot have; used for sheets of the form and for other faults.
use Rattle.std.proofs.Common.{◌≡◌, ℕ, ◌+◌, ◌<◌, ◌≤◌, List, [], ◌∷◌, ◌++◌, length, decimal, sym, refl, ap, ◌∙◌, append_assoc, arith}
use Rattle.std.specs.List.{AllByRecursion}
use Rattle.std.proofs.lemmas.Fmt.{decimal_injective}
use Rattle.sheet.proofs.Words.{Order, Settings, Shown, word_of, closed, orders_max, Placed, placed, number, number_words, title_words, settings_words, orders_words, head_words, order_words, lines_of, bytes_of, SmallSettings, FineOrder, Fault, InHead, Crowded, InOrder}
use Rattle.sheet.proofs.Unique.{Good, word_closed, peel}
use Rattle.sheet.proofs.Admitted.{Admitted, head_admitted, order_admitted, number_admitted}
use Rattle.sheet.proofs.Refuted.{Matches, fault_refuted}
use Rattle.sheet.proofs.Apart.{all_good, head_peel, order_match, order_peel, line_first}
use Rattle.sheet.proofs.Walks.{bytes_append}

pub sheet_split : (s : Settings) (n : ℕ) (os : List Order) (x : List ℕ) → bytes_of (head_words s n ++ lines_of os) ++ x ≡ bytes_of (head_words s n) ++ (bytes_of (lines_of os) ++ x)
sheet_split s n os x = ap (λ t. t ++ x) (bytes_append (head_words s n) (lines_of os)) ∙ append_assoc (bytes_of (head_words s n)) (bytes_of (lines_of os)) x

-- in the head
pub heads_match : (s t : Settings) (m n : ℕ) → Matches (head_words s m) (head_words t n)
heads_match s t m n =
    (record { due = refl; separator = λ w. refl }, λ w. (record { due = refl; separator = λ w. refl }, λ w. (record { due = refl; separator = λ w. refl }, λ w. (record { due = refl; separator = λ w. refl }, λ w. (record { due = refl; separator = λ w. refl }, λ w. (record { due = refl; separator = λ w. refl }, λ w. (record { due = refl; separator = λ w. refl }, λ w. (record { due = refl; separator = λ w. refl }, λ w. (record { due = refl; separator = λ w. refl }, λ w. tt)))))))))

pub head_refuted : (sheet : List ℕ) (places : ℕ) (f : Shown) (filled : List Order) (t : Settings) (n : ℕ) (x : List ℕ) → InHead sheet places f filled → SmallSettings t → n ≤ orders_max → sheet ≡ bytes_of (head_words t n) ++ x → ⊥
head_refuted sheet places f filled t n x h small few e =
    fault_refuted (head_words h.settings h.count) (head_words t n) sheet x 1 f
    (all_good (head_words h.settings h.count) (head_admitted h.settings h.count h.small h.few)) (head_admitted t n small few)
    (heads_match h.settings t h.count n) e h.fault

-- at the number of orders
abbrev pub front : Settings → List Placed
front s = title_words ++ (settings_words s ++ orders_words)

all_front : (ps qs : List Placed) → AllByRecursion Admitted (ps ++ qs) → AllByRecursion Admitted ps
all_front [] qs h = tt
all_front (p ∷ ps) qs h = (h.0, all_front ps qs h.1)

pub front_admitted : (s : Settings) → SmallSettings s → AllByRecursion Admitted (front s)
front_admitted s h = all_front (front s) (number_words orders_max 10 0) (head_admitted s 0 h (omega arith))

pub front_good : (s : Settings) → SmallSettings s → AllByRecursion Good (front s)
front_good s h = all_good (front s) (front_admitted s h)

pub fronts_match : (s t : Settings) → Matches (front s) (front t)
fronts_match s t = (record { due = refl; separator = λ w. refl }, λ w. (record { due = refl; separator = λ w. refl }, λ w. (record { due = refl; separator = λ w. refl }, λ w. (record { due = refl; separator = λ w. refl }, λ w. (record { due = refl; separator = λ w. refl }, λ w. (record { due = refl; separator = λ w. refl }, λ w. (record { due = refl; separator = λ w. refl }, λ w. (record { due = refl; separator = λ w. refl }, λ w. tt))))))))

pub crowd_refuted : (sheet : List ℕ) (places : ℕ) (f : Shown) (filled : List Order) (t : Settings) (n : ℕ) (x : List ℕ) → Crowded sheet places f filled → SmallSettings t → n ≤ orders_max → n ≤ places → sheet ≡ bytes_of (head_words t n) ++ x → ⊥
crowd_refuted sheet places f filled t n x h small few room e =
    let y = bytes_of (number_words orders_max 10 n) ++ x in
    let split : bytes_of (head_words t n) ++ x ≡ bytes_of (front t) ++ y =
    ap (λ v. v ++ x) (bytes_append (front t) (number_words orders_max 10 n)) ∙ append_assoc (bytes_of (front t)) (bytes_of (number_words orders_max 10 n)) x in
    let r = peel (front h.settings) (front t) h.left y (front_good h.settings h.small) (front_good t small) refl (sym h.agrees ∙ e ∙ split) in
    let p = placed (number orders_max) (decimal n) 10 in
    let a = number_admitted orders_max n 10 few (omega arith) refl in
    let d : decimal h.count ≡ decimal n = sym h.word ∙ ap word_of (r.rest ∙ append_assoc (closed (decimal n) 10) [] x) ∙ word_closed p x a.good in
    let c : h.count ≡ n = decimal_injective h.count n (omega (arith, h.few)) (omega arith) d in
    omega (arith, h.crowd)

-- in the line of an order
pub order_refuted : (o p : Order) (bytes y : List ℕ) (line : ℕ) (f : Shown) → FineOrder o → FineOrder p → bytes ≡ bytes_of (order_words p) ++ y → Fault (order_words o) bytes line f → ⊥
order_refuted o p bytes y line f g h e fault =
    fault_refuted (order_words o) (order_words p) bytes y line f (all_good (order_words o) (order_admitted o g)) (order_admitted p h) (order_match o p) e fault

pub orders_refuted : (filled ps : List Order) (o : Order) (left y : List ℕ) (line : ℕ) (f : Shown) → AllByRecursion FineOrder filled → AllByRecursion FineOrder ps → FineOrder o → length filled < length ps → bytes_of (lines_of filled) ++ left ≡ bytes_of (lines_of ps) ++ y → Fault (order_words o) left line f → ⊥
orders_refuted [] [] o left y line f g h fine l e fault = omega arith
orders_refuted [] (p ∷ ps) o left y line f g h fine l e fault = order_refuted o p left (bytes_of (lines_of ps) ++ y) line f fine h.0 (e ∙ line_first p ps y) fault
orders_refuted (q ∷ qs) [] o left y line f g h fine l e fault = omega arith
orders_refuted (q ∷ qs) (p ∷ ps) o left y line f g h fine l e fault =
    orders_refuted qs ps o left y line f g.1 h.1 fine (omega arith) (order_peel q p (bytes_of (lines_of qs) ++ left) (bytes_of (lines_of ps) ++ y) g.0 h.0 (sym (line_first q qs left) ∙ e ∙ line_first p ps y)).1 fault

pub line_refuted : (sheet : List ℕ) (places : ℕ) (f : Shown) (filled : List Order) (t : Settings) (ps : List Order) (y : List ℕ) → InOrder sheet places f filled → SmallSettings t → length ps ≤ orders_max → AllByRecursion FineOrder ps → sheet ≡ bytes_of (head_words t (length ps)) ++ (bytes_of (lines_of ps) ++ y) → ⊥
line_refuted sheet places f filled t ps y h small few each e =
    let r = head_peel h.settings t h.count (length ps) (bytes_of (lines_of filled) ++ h.left) (bytes_of (lines_of ps) ++ y) h.small small h.few few
    (sym (sheet_split h.settings h.count filled h.left) ∙ sym h.agrees ∙ e) in
    orders_refuted filled ps h.order h.left y (4 + length filled) f h.each each h.fine (omega (arith, h.due, r.count)) r.rest h.fault
