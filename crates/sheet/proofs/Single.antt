-- A sheet has at most one first fault; it ends in `single` and `only`.
use Rattle.std.proofs.Common.{◌≡◌, ℕ, ◌+◌, ◌<◌, ◌≤◌, ◌&&◌, ltb, List, [], ◌∷◌, ◌++◌, length, take, Ok, Err, decimal, Result, sym, refl, ap, ◌∙◌, subst, inl, inr, arith}
use Rattle.std.specs.List.{AllByRecursion}
use Rattle.std.proofs.lemmas.Fmt.{decimal_injective, decimal_nonempty}
use Rattle.std.proofs.lemmas.List.{length-take-le}
use Rattle.std.proofs.lemmas.Bool.{false≢true}
use Rattle.sheet.proofs.Words.{Order, SheetFault, Shown, shows, shown, word_of, numeral, amount, orders_max, placed, number, number_words, head_words, order_words, lines_of, bytes_of, FineOrder, Fails, ended, misformed, excessive, cut, parted, Fault, InHead, Crowded, InOrder, Behind, FirstFault, in_head, crowded, in_order, behind}
use Rattle.sheet.specs.declared.read.Reading.{Reading}
use Rattle.sheet.specs.Read.{Outcome, RefusedAs}
use Rattle.sheet.proofs.Unique.{word_alone, word_closed, peel}
use Rattle.sheet.proofs.Admitted.{head_admitted, order_admitted, number_admitted}
use Rattle.sheet.proofs.Refuted.{view, fault_past}
use Rattle.sheet.proofs.Apart.{head_peel, order_match, order_peel, line_first}
use Rattle.sheet.proofs.Excluded.{sheet_split, heads_match, front, front_good, front_admitted, fronts_match, head_refuted, crowd_refuted, order_refuted, line_refuted}
use Rattle.sheet.proofs.Exact.{sheet_peel, no_fault}
use Rattle.sheet.proofs.Verdict.{fault_same}

count_fails : (m n : ℕ) (left : List ℕ) (line : ℕ) (f : Shown) → m ≤ orders_max → n ≤ orders_max → word_of left ≡ decimal n → Fails (placed (number orders_max) (decimal m) 10) left line f → word_of left ≡ decimal m
count_fails m n left line f fm fn w (ended e s) = absurd (let some : 0 < length (decimal n) = decimal_nonempty n (omega arith) in omega (arith, ap length w, ap length (ap word_of e)))
count_fails m n left line f fm fn w (misformed ne h s) =
    let b = number_admitted orders_max n 10 fn (omega arith) refl in
    absurd (false≢true (sym h ∙ ap numeral w ∙ b.form))
count_fails m n left line f fm fn w (excessive h s) =
    let b = number_admitted orders_max n 10 fn (omega arith) refl in
    absurd (false≢true (sym b.size ∙ sym (ap (λ v. numeral v && ltb orders_max (amount v)) w) ∙ h))
count_fails m n left line f fm fn w (cut c s) =
    let a = number_admitted orders_max m 10 fm (omega arith) refl in
    ap word_of c ∙ word_alone (decimal m) a.good.plain
count_fails m n left line f fm fn w (parted b more c v ne s) = v

-- a good number stands where the fault is said to be
count_word : (m n : ℕ) (left : List ℕ) (line : ℕ) (f : Shown) → m ≤ orders_max → n ≤ orders_max → word_of left ≡ decimal n → Fault (number_words orders_max 10 m) left line f → word_of left ≡ decimal m
count_word m n left line f fm fn w h =
    let p = placed (number orders_max) (decimal m) 10 in
    let a = number_admitted orders_max m 10 fm (omega arith) refl in
    elim (view p [] left line f h) [ inl x ↦ count_fails m n left line f fm fn w x | inr x ↦ ap word_of x.agrees ∙ word_closed p x.rest a.good ]

head_crowd : (sheet : List ℕ) (places : ℕ) (f g : Shown) (a b : List Order) → InHead sheet places f a → Crowded sheet places g b → ⊥
head_crowd sheet places f g a b h k =
    let r = fault_past (front h.settings) (front k.settings) (number_words orders_max 10 h.count) sheet k.left 1 f (front_good h.settings h.small) (front_admitted k.settings k.small) (fronts_match h.settings k.settings) k.agrees h.fault in
    let d : decimal k.count ≡ decimal h.count = sym k.word ∙ count_word h.count k.count k.left r.0 f h.few k.few k.word r.1 in
    let c : k.count ≡ h.count = decimal_injective k.count h.count (omega (arith, k.few)) (omega (arith, h.few)) d in
    omega (arith, k.crowd, h.room)

head_line : (sheet : List ℕ) (places : ℕ) (f g : Shown) (a b : List Order) → InHead sheet places f a → InOrder sheet places g b → ⊥
head_line sheet places f g a b h k =
    head_refuted sheet places f a k.settings k.count (bytes_of (lines_of b) ++ k.left) h k.small k.few (k.agrees ∙ sheet_split k.settings k.count b k.left)

head_behind : (sheet : List ℕ) (places : ℕ) (f g : Shown) (a b : List Order) → InHead sheet places f a → Behind sheet places g b → ⊥
head_behind sheet places f g a b h k =
    head_refuted sheet places f a k.settings (length b) (bytes_of (lines_of b) ++ k.surplus) h k.writable.settings k.writable.few (k.agrees ∙ sheet_split k.settings (length b) b k.surplus)

crowd_line : (sheet : List ℕ) (places : ℕ) (f g : Shown) (a b : List Order) → Crowded sheet places f a → InOrder sheet places g b → ⊥
crowd_line sheet places f g a b h k =
    crowd_refuted sheet places f a k.settings k.count (bytes_of (lines_of b) ++ k.left) h k.small k.few k.room (k.agrees ∙ sheet_split k.settings k.count b k.left)

crowd_behind : (sheet : List ℕ) (places : ℕ) (f g : Shown) (a b : List Order) → Crowded sheet places f a → Behind sheet places g b → ⊥
crowd_behind sheet places f g a b h k =
    crowd_refuted sheet places f a k.settings (length b) (bytes_of (lines_of b) ++ k.surplus) h k.writable.settings k.writable.few k.room (k.agrees ∙ sheet_split k.settings (length b) b k.surplus)

line_behind_lem : (sheet : List ℕ) (places : ℕ) (f g : Shown) (a b : List Order) → InOrder sheet places f a → Behind sheet places g b → ⊥
line_behind_lem sheet places f g a b h k =
    line_refuted sheet places f a k.settings b k.surplus h k.writable.settings k.writable.few k.writable.each (k.agrees ∙ sheet_split k.settings (length b) b k.surplus)

heads_same : (sheet : List ℕ) (places : ℕ) (f g : Shown) (a b : List Order) → InHead sheet places f a → InHead sheet places g b → (f ≡ g) × (a ≡ b)
heads_same sheet places f g a b h k = (
  fault_same (head_words h.settings h.count) (head_words k.settings k.count) sheet 1 f g (head_admitted h.settings h.count h.small h.few) (head_admitted k.settings k.count k.small k.few)
      (heads_match h.settings k.settings h.count k.count) h.fault k.fault,
  h.none ∙ sym k.none,
)

crowds_same : (sheet : List ℕ) (places : ℕ) (f g : Shown) (a b : List Order) → Crowded sheet places f a → Crowded sheet places g b → (f ≡ g) × (a ≡ b)
crowds_same sheet places f g a b h k =
    let r = peel (front h.settings) (front k.settings) h.left k.left (front_good h.settings h.small) (front_good k.settings k.small) refl (sym h.agrees ∙ k.agrees) in
    (h.says ∙ ap (λ w. shows 35 3 w) (sym h.word ∙ ap word_of r.rest ∙ k.word) ∙ sym k.says, h.none ∙ sym k.none)

orders_same : (a b : List Order) (o p : Order) (x y : List ℕ) (k m n : ℕ) (f g : Shown) → AllByRecursion FineOrder a → AllByRecursion FineOrder b → FineOrder o → FineOrder p → m ≡ k + length a → n ≡ k + length b → bytes_of (lines_of a) ++ x ≡ bytes_of (lines_of b) ++ y → Fault (order_words o) x m f → Fault (order_words p) y n g → (f ≡ g) × (a ≡ b)
orders_same [] [] o p x y k m n f g fa fb fo fp i j e h l =
    let P : List ℕ → Type 0 = λ r. Fault (order_words p) r n g in
    let Q : ℕ → Type 0 = λ s. Fault (order_words p) x s g in
    (fault_same (order_words o) (order_words p) x m f g (order_admitted o fo) (order_admitted p fp) (order_match o p) h (subst Q (j ∙ sym i) (subst P (sym e) l)), refl)
orders_same [] (q ∷ qs) o p x y k m n f g fa fb fo fp i j e h l = absurd (order_refuted o q x (bytes_of (lines_of qs) ++ y) m f fo fb.0 (e ∙ line_first q qs y) h)
orders_same (q ∷ qs) [] o p x y k m n f g fa fb fo fp i j e h l = absurd (order_refuted p q y (bytes_of (lines_of qs) ++ x) n g fp fa.0 (sym e ∙ line_first q qs x) l)
orders_same (q ∷ qs) (r ∷ rs) o p x y k m n f g fa fb fo fp i j e h l =
    let s = order_peel q r (bytes_of (lines_of qs) ++ x) (bytes_of (lines_of rs) ++ y) fa.0 fb.0 (sym (line_first q qs x) ∙ e ∙ line_first r rs y) in
    let t = orders_same qs rs o p x y (k + 1) m n f g fa.1 fb.1 fo fp (omega arith) (omega arith) s.1 h l in
    (t.0, ap (λ (u : Order). u ∷ qs) s.0 ∙ ap (λ (us : List Order). r ∷ us) t.1)

lines_same : (sheet : List ℕ) (places : ℕ) (f g : Shown) (a b : List Order) → InOrder sheet places f a → InOrder sheet places g b → (f ≡ g) × (a ≡ b)
lines_same sheet places f g a b h k =
    let r = head_peel h.settings k.settings h.count k.count (bytes_of (lines_of a) ++ h.left) (bytes_of (lines_of b) ++ k.left) h.small k.small h.few k.few
    (sym (sheet_split h.settings h.count a h.left) ∙ sym h.agrees ∙ k.agrees ∙ sheet_split k.settings k.count b k.left) in
    orders_same a b h.order k.order h.left k.left 4 (4 + length a) (4 + length b) f g h.each k.each h.fine k.fine refl refl r.rest h.fault k.fault

behinds_same : (sheet : List ℕ) (places : ℕ) (f g : Shown) (a b : List Order) → Behind sheet places f a → Behind sheet places g b → (f ≡ g) × (a ≡ b)
behinds_same sheet places f g a b h k =
    let p = sheet_peel h.settings k.settings a b h.surplus k.surplus h.writable k.writable (sym h.agrees ∙ k.agrees) in
    (h.says ∙ ap (λ (os : List Order). shows 34 (4 + length os) h.surplus) p.orders ∙ ap (λ w. shows 34 (4 + length b) w) p.rest ∙ sym k.says, p.orders)

pub single : (sheet : List ℕ) (places : ℕ) (f g : Shown) (a b : List Order) → FirstFault sheet places f a → FirstFault sheet places g b → (f ≡ g) × (a ≡ b)
single sheet places f g a b (in_head h) (in_head k) = heads_same sheet places f g a b h k
single sheet places f g a b (in_head h) (crowded k) = absurd (head_crowd sheet places f g a b h k)
single sheet places f g a b (in_head h) (in_order k) = absurd (head_line sheet places f g a b h k)
single sheet places f g a b (in_head h) (behind k) = absurd (head_behind sheet places f g a b h k)
single sheet places f g a b (crowded h) (in_head k) = absurd (head_crowd sheet places g f b a k h)
single sheet places f g a b (crowded h) (crowded k) = crowds_same sheet places f g a b h k
single sheet places f g a b (crowded h) (in_order k) = absurd (crowd_line sheet places f g a b h k)
single sheet places f g a b (crowded h) (behind k) = absurd (crowd_behind sheet places f g a b h k)
single sheet places f g a b (in_order h) (in_head k) = absurd (head_line sheet places g f b a k h)
single sheet places f g a b (in_order h) (crowded k) = absurd (crowd_line sheet places g f b a k h)
single sheet places f g a b (in_order h) (in_order k) = lines_same sheet places f g a b h k
single sheet places f g a b (in_order h) (behind k) = absurd (line_behind_lem sheet places f g a b h k)
single sheet places f g a b (behind h) (in_head k) = absurd (head_behind sheet places g f b a k h)
single sheet places f g a b (behind h) (crowded k) = absurd (crowd_behind sheet places g f b a k h)
single sheet places f g a b (behind h) (in_order k) = absurd (line_behind_lem sheet places g f b a k h)
single sheet places f g a b (behind h) (behind k) = behinds_same sheet places f g a b h k

-- the fault of a sheet is the one that is returned
pub only : (sheet : List ℕ) (before after : List Order) (r : Result Reading SheetFault) → length after ≡ length before → Outcome sheet before after r → (f : Shown) (filled : List Order) → FirstFault sheet (length before) f filled → RefusedAs f filled after r
only sheet before after (Ok g) l h f filled fault =
    let n : length (take g.count after) ≡ g.count = length-take-le g.count after (omega (arith, h.room)) in
    no_fault sheet (length before) f filled g.settings (take g.count after) fault h.writable (omega (arith, n, h.room)) h.same
only sheet before after (Err e) l h f filled fault =
    let s = single sheet (length before) (shown e) f (take h.filled after) filled h.fault fault in
    let n : h.filled ≡ length filled = sym (length-take-le h.filled after (omega (arith, h.room))) ∙ ap length s.1 in
    (s.0, ap (λ k. take k after) (sym n) ∙ s.1)
