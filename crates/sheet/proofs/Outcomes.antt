-- From the reader's steps to what reading gives.
use Rattle.std.proofs.Common.{◌≡◌, ℕ, ◌+◌, List, [], ◌++◌, length, take, sym, refl, ap, ◌∙◌, subst, append_assoc, arith}
use Rattle.std.proofs.lemmas.List.{append-nil, length-take-le}
use Rattle.sheet.proofs.Words.{Order, Shown, shows, head_words, lines_of, order_words, bytes_of, sheet_of, Writable, Fault, in_head, crowded, in_order, behind, HeadFault, spoiled, packed, HeadTook, Filled, Stopped}
use Rattle.sheet.specs.declared.read.Reading.{Reading}
use Rattle.sheet.specs.Read.{Given, Refused}
use Rattle.sheet.proofs.Walks.{both, bytes_append}

pub refused_head : (sheet : List ℕ) (orders : List Order) (f : Shown) → HeadFault (length orders) sheet 1 f → Refused sheet orders orders f
refused_head sheet orders f (spoiled s n small room h) =
    record { filled = 0; room = omega arith; fault = in_head (record { settings = s; count = n; small = small; few = room.0; room = room.1; fault = h; none = refl }); kept = refl }
refused_head sheet orders f (packed s small h) =
    record {
      filled = 0;
      room = omega arith;
      fault = crowded (record { settings = s; count = h.count; left = h.left; small = small; few = h.few; crowd = h.crowd; agrees = h.agrees; word = h.word; says = h.says; none = refl });
      kept = refl;
    }

fourth : (places : ℕ) (g : Reading) (a b : List ℕ) (k : ℕ) → HeadTook places g a 1 b k → k ≡ 4
fourth places g a b k h = h.took.lines

pub refused_fill : (sheet : List ℕ) (orders after : List Order) (g : Reading) (a : List ℕ) (k : ℕ) (f : Shown) → length after ≡ length orders → HeadTook (length orders) g sheet 1 a k → Stopped g.count a k orders after f → Refused sheet orders after f
refused_fill sheet orders after g a k f same h s =
    let head = head_words g.settings g.count in
    let done = take s.filled after in
    let n : length done ≡ s.filled = length-take-le s.filled after (omega (arith, s.due, h.room.1)) in
    let e : k + s.filled ≡ 4 + length done = omega (arith, n, fourth (length orders) g sheet a k h) in
    let P : ℕ → Type 0 = λ m. Fault (order_words s.order) s.left m f in
    record {
      filled = s.filled;
      room = omega (arith, s.due, h.room.1);
      fault = in_order (record {
        settings = g.settings;
        count = g.count;
        order = s.order;
        left = s.left;
        small = h.small;
        few = h.room.0;
        room = h.room.1;
        due = omega (arith, n, s.due);
        each = s.each;
        fine = s.fine;
        agrees = h.took.bytes ∙ ap (λ t. bytes_of head ++ t) s.agrees ∙ sym (append_assoc (bytes_of head) (bytes_of (lines_of done)) s.left) ∙ ap (λ t. t ++ s.left) (sym (bytes_append head (lines_of done)));
        fault = subst P e s.fault;
      });
      kept = s.kept;
    }

writable : (orders after : List Order) (g : Reading) (sheet a b : List ℕ) (k l : ℕ) → length after ≡ length orders → HeadTook (length orders) g sheet 1 a k → Filled g.count a k orders after b l → Writable g.settings (take g.count after)
writable orders after g sheet a b k l same h s =
    let n : length (take g.count after) ≡ g.count = length-take-le g.count after (omega (arith, h.room.1)) in
    record { settings = h.small; few = omega (arith, n, h.room.0); each = s.each }

-- the whole sheet, and what stands behind it
whole : (orders after : List Order) (g : Reading) (sheet a b : List ℕ) (k l : ℕ) → length after ≡ length orders → HeadTook (length orders) g sheet 1 a k → Filled g.count a k orders after b l → sheet ≡ sheet_of g.settings (take g.count after) ++ b
whole orders after g sheet a b k l same h s =
    let n : length (take g.count after) ≡ g.count = length-take-le g.count after (omega (arith, h.room.1)) in
    (both h.took s.took).bytes ∙ ap (λ m. bytes_of (head_words g.settings m ++ lines_of (take g.count after)) ++ b) (sym n)

pub given_all : (orders after : List Order) (g : Reading) (sheet a b : List ℕ) (k l : ℕ) → length after ≡ length orders → HeadTook (length orders) g sheet 1 a k → Filled g.count a k orders after b l → b ≡ [] → Given sheet orders after g.settings g.count
given_all orders after g sheet a b k l same h s e =
    record {
      room = h.room.1;
      writable = writable orders after g sheet a b k l same h s;
      same = whole orders after g sheet a b k l same h s ∙ ap (λ t. sheet_of g.settings (take g.count after) ++ t) e ∙ append-nil (sheet_of g.settings (take g.count after));
      kept = s.kept;
    }

pub refused_behind : (orders after : List Order) (g : Reading) (sheet a b : List ℕ) (k l : ℕ) (f : Shown) → length after ≡ length orders → HeadTook (length orders) g sheet 1 a k → Filled g.count a k orders after b l → (b ≡ [] → ⊥) → f ≡ shows 34 l b → Refused sheet orders after f
refused_behind orders after g sheet a b k l f same h s some says =
    let n : length (take g.count after) ≡ g.count = length-take-le g.count after (omega (arith, h.room.1)) in
    let e : l ≡ 4 + length (take g.count after) = omega (arith, n, s.lines, fourth (length orders) g sheet a k h) in
    record {
      filled = g.count;
      room = h.room.1;
      fault = behind (record {
        settings = g.settings;
        surplus = b;
        writable = writable orders after g sheet a b k l same h s;
        room = omega (arith, n, h.room.1);
        agrees = whole orders after g sheet a b k l same h s;
        some = some;
        says = says ∙ ap (λ m. shows 34 m b) e;
      });
      kept = s.kept;
    }
