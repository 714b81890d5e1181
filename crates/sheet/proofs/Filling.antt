-- One order more is filled.
use Rattle.std.proofs.Common.{◌≡◌, ℕ, ◌+◌, ◌<◌, ◌≤◌, List, [], ◌∷◌, ◌++◌, length, take, drop, set, sym, refl, ap, ◌∙◌, subst, arith}
use Rattle.std.specs.List.{AllByRecursion}
use Rattle.std.proofs.lemmas.List.{take_more_set, flat_map_more, drop-set-lt, drop-drop, take-append-le, drop-append-le, take-append-drop, length-take-le}
use Rattle.std.proofs.lemmas.List.Elements.{All-from_recursion, All-push, recursion_from_All}
use Rattle.sheet.proofs.Words.{Order, Write, Read, Tell, Carry, ReplicaOut, ClientOut, Shown, Fault, Placed, bytes_of, lines_in, lines_of, order_words, FineOrder, Took, Filled, Missed, Stopped}
use Rattle.sheet.proofs.Walks.{both}

pub order_line : (o : Order) → lines_in (order_words o) ≡ 1
order_line (Write z) = refl
order_line (Read n) = refl
order_line (Tell n) = refl
order_line Carry = refl
order_line (ReplicaOut n) = refl
order_line (ClientOut n) = refl

pub lines_push : (orders : List Order) (o : Order) → lines_of (orders ++ (o ∷ [])) ≡ lines_of orders ++ order_words o
lines_push orders o = sym (flat_map_more order_words [] orders o)

pub filled_more : (i : ℕ) (rest : List ℕ) (line : ℕ) (before orders : List Order) (a b : List ℕ) (k l : ℕ) (o : Order) → i < length orders → Filled i rest line before orders a k → FineOrder o → Took (order_words o) a k b l → Filled (i + 1) rest line before (set orders i o) b l
filled_more i rest line before orders a b k l o h g fine t =
    let e : take (i + 1) (set orders i o) ≡ take i orders ++ (o ∷ []) = take_more_set orders i o h in
    let E : List Order → Type 0 = λ os. AllByRecursion FineOrder os in
    let P : List Placed → Type 0 = λ ps. Took ps rest line b l in
    record {
      each = subst E (sym e) (recursion_from_All FineOrder _ (All-push FineOrder _ o (All-from_recursion FineOrder _ g.each) fine));
      took = subst P (sym (ap lines_of e ∙ lines_push (take i orders) o)) (both g.took t);
      lines = omega (arith, g.lines, t.lines, order_line o);
      kept = drop-set-lt (i + 1) orders i o (omega arith) ∙ sym (drop-drop 1 i orders) ∙ ap (drop 1) g.kept ∙ drop-drop 1 i before;
    }

-- the line of the next order fails, where the first places were handed in as a part
pub stopped : (i count : ℕ) (rest : List ℕ) (line : ℕ) (before part : List Order) (a : List ℕ) (k : ℕ) (f : Shown) → i < count → count ≤ length before → length part ≡ count → Filled i rest line (take count before) part a k → Missed FineOrder order_words a k f → Stopped count rest line before (part ++ drop count before) f
stopped i count rest line before part a k f due room n g m =
    let e : take i (part ++ drop count before) ≡ take i part = take-append-le i part (drop count before) (omega arith) in
    let E : List Order → Type 0 = λ os. AllByRecursion FineOrder os in
    let B : List Order → Type 0 = λ os. rest ≡ bytes_of (lines_of os) ++ a in
    let L : ℕ → Type 0 = λ l. Fault (order_words m.like) a l f in
    record {
      filled = i;
      left = a;
      order = m.like;
      due = due;
      each = subst E (sym e) g.each;
      kept = drop-append-le i part (drop count before) (omega arith) ∙ ap (λ os. os ++ drop count before) g.kept ∙ sym (drop-append-le i (take count before) (drop count before) (omega (arith, length-take-le count before room))) ∙ ap (drop i) (take-append-drop count before);
      agrees = subst B (sym e) g.took.bytes;
      fine = m.fine;
      fault = subst L g.lines m.fault;
    }
