-- The words of a writable sheet are admitted at their places; it ends in `head_admitted` and `order_admitted`.
use Rattle.std.proofs.Common.{◌≡◌, ℕ, suc, ◌<◌, ◌≤◌, Bool, true, false, cond, not, ◌&&◌, eqb, ltb, List, [], ◌∷◌, length, get_or, drop, ℤ, pos, negsuc, decimal, refl, ap, ◌∙◌, inl, inr, arith, lit<}
use Rattle.std.specs.Fmt.{signed_decimal}
use Rattle.std.specs.List.{AllByRecursion}
use Rattle.std.proofs.lemmas.Fmt.{decimal_nonempty, decimal_digit, first_decimal, digits_decimal, digits_value-decimal}
use Rattle.std.proofs.lemmas.Bool.{and_parts, and_left, and_right, cases_eq, cond-true, cond-false, le-ltb, ne_eqb, or_left, or_right, or_from}
use Rattle.std.proofs.lemmas.Bool.Decides.{nat_tests}
use Rattle.sheet.proofs.Words.{Order, Write, Read, Tell, Carry, ReplicaOut, ClientOut, Settings, in_word, is_digit, all_digits, numeral, negated, amount, number_max, orders_max, number, value, kind, Placed, placed, head_words, order_words, SmallValue, SmallSettings, FineOrder, formed, above}
use Rattle.sheet.specs.declared.kind.Kind.{Kind}
use Rattle.sheet.specs.declared.kind.Kind.TheVariants as of
use Rattle.sheet.specs.Kind.{word_for}
use Rattle.sheet.proofs.Numbers.{own}
use Rattle.sheet.proofs.Unique.{Plain, Good}

pub record Admitted (p : Placed) : Type 0 where
  pub good : Good p
  pub form : formed p.due p.word ≡ true
  pub size : above p.due p.word ≡ false

digit_plain : (b : ℕ) → is_digit b ≡ true → in_word b ≡ true
digit_plain b h = grind (arith, nat_tests)

digits_plain : (w : List ℕ) → all_digits w ≡ true → Plain w
digits_plain [] h = tt
digits_plain (b ∷ bs) h = let p = and_parts (is_digit b) (all_digits bs) h in (digit_plain b p.0, digits_plain bs p.1)

decimal_digits : (n : ℕ) → n ≤ number_max → all_digits (decimal n) ≡ true
decimal_digits n h = digits_decimal own n (omega arith)

decimal_amount : (n : ℕ) → n ≤ number_max → amount (decimal n) ≡ n
decimal_amount n h = digits_value-decimal own n (omega arith)

-- only 0 begins with the digit 0
decimal_lead : (n : ℕ) → n ≤ number_max → (ltb 1 (length (decimal n)) && eqb (get_or (decimal n) 0 0) 48) ≡ false
decimal_lead n h =
    elim (cases_eq n 0) [
      | inl z ↦ ap (λ k. ltb 1 (length (decimal k)) && eqb (get_or (decimal k) 0 0) 48) z ∙ ap (λ w. ltb 1 (length w) && eqb (get_or w 0 0) 48) (decimal_digit 0 (lit< tt))
      | inr ne ↦ let f : 48 < get_or (decimal n) 0 0 = first_decimal n (omega arith) (omega arith) in grind (arith, nat_tests)
    ]

pub decimal_numeral : (n : ℕ) → n ≤ number_max → numeral (decimal n) ≡ true
decimal_numeral n h =
    let some : 0 < length (decimal n) = decimal_nonempty n (omega arith) in
    cond-false (eqb (length (decimal n)) 0) false (cond (ltb 1 (length (decimal n)) && eqb (get_or (decimal n) 0 0) 48) false (all_digits (decimal n))) (ne_eqb (length (decimal n)) 0 (λ z. omega arith))
    ∙ cond-false (ltb 1 (length (decimal n)) && eqb (get_or (decimal n) 0 0) 48) false (all_digits (decimal n)) (decimal_lead n h) ∙ decimal_digits n h

within : (limit n : ℕ) → n ≤ limit → n ≤ number_max → ltb limit (amount (decimal n)) ≡ false
within limit n h l = le-ltb limit (amount (decimal n)) (omega (arith, decimal_amount n l))

pub number_admitted : (limit n separator : ℕ) → n ≤ limit → limit ≤ number_max → in_word separator ≡ false → Admitted (placed (number limit) (decimal n) separator)
number_admitted limit n separator h l s =
    record {
      good = record { plain = digits_plain (decimal n) (decimal_digits n (omega arith)); stops = s };
      form = decimal_numeral n (omega arith);
      size = and_right (numeral (decimal n)) (ltb limit (amount (decimal n))) (within limit n h (omega arith));
    }

-- digits have no minus sign
decimal_unsigned : (n : ℕ) → n ≤ number_max → negated (decimal n) ≡ false
decimal_unsigned n h =
    let d : 48 ≤ get_or (decimal n) 0 0 = elim (cases_eq n 0) [
      | inl z ↦ omega (arith, ap (λ k. get_or (decimal k) 0 0) z ∙ ap (λ w. get_or w 0 0) (decimal_digit 0 (lit< tt)))
      | inr ne ↦ omega (arith, first_decimal n (omega arith) (omega arith))
    ] in
    cond-false (eqb (get_or (decimal n) 0 0) 45 && not (eqb (get_or (decimal n) 1 0) 48)) (numeral (drop 1 (decimal n))) false (and_left (eqb (get_or (decimal n) 0 0) 45) (not (eqb (get_or (decimal n) 1 0) 48)) (ne_eqb (get_or (decimal n) 0 0) 45 (λ z. omega arith)))

minus_negated : (n : ℕ) → n < number_max → negated (45 ∷ decimal (suc n)) ≡ true
minus_negated n h =
    let f : 48 < get_or (decimal (suc n)) 0 0 = first_decimal (suc n) (omega arith) (omega arith) in
    cond-true (not (eqb (get_or (decimal (suc n)) 0 0) 48)) (numeral (decimal (suc n))) false (ap not (ne_eqb (get_or (decimal (suc n)) 0 0) 48 (λ z. omega arith))) ∙ decimal_numeral (suc n) (omega arith)

never : (a b : Bool) → cond a false (cond b false false) ≡ false
never true b = refl
never false true = refl
never false false = refl

minus_numeral : (w : List ℕ) → numeral (45 ∷ w) ≡ false
minus_numeral w = never (eqb (length (45 ∷ w)) 0) (ltb 1 (length (45 ∷ w)) && false)

pub value_admitted : (z : ℤ) (separator : ℕ) → SmallValue z → in_word separator ≡ false → Admitted (placed value (signed_decimal z) separator)
value_admitted (pos n) separator h s =
    record {
      good = record { plain = digits_plain (decimal n) (decimal_digits n h); stops = s };
      form = or_left (numeral (decimal n)) (negated (decimal n)) (decimal_numeral n h);
      size = or_from (numeral (decimal n) && ltb number_max (amount (decimal n))) (negated (decimal n) && ltb number_max (amount (drop 1 (decimal n))))
          (and_right (numeral (decimal n)) (ltb number_max (amount (decimal n))) (within number_max n h h)) (and_left (negated (decimal n)) (ltb number_max (amount (drop 1 (decimal n)))) (decimal_unsigned n h));
    }
value_admitted (negsuc n) separator h s =
    let w = 45 ∷ decimal (suc n) in
    record {
      good = record { plain = (refl, digits_plain (decimal (suc n)) (decimal_digits (suc n) h)); stops = s };
      form = or_right (numeral w) (negated w) (minus_negated n (omega arith));
      size = or_from (numeral w && ltb number_max (amount w)) (negated w && ltb number_max (amount (decimal (suc n))))
          (and_left (numeral w) (ltb number_max (amount w)) (minus_numeral (decimal (suc n)))) (and_right (negated w) (ltb number_max (amount (decimal (suc n)))) (within number_max (suc n) h h));
    }

-- a word that is known
pub head_admitted : (s : Settings) (n : ℕ) → SmallSettings s → n ≤ orders_max → AllByRecursion Admitted (head_words s n)
head_admitted s n h few = (
  record { good = record { plain = (refl, (refl, (refl, (refl, (refl, (refl, (refl, (refl, tt)))))))); stops = refl }; form = refl; size = refl },
  (
    record { good = record { plain = (refl, tt); stops = refl }; form = refl; size = refl },
    (
      number_admitted number_max s.replicas 32 h.replicas (omega arith) refl,
      (
        number_admitted number_max s.tolerated 32 h.tolerated (omega arith) refl,
        (
          number_admitted number_max s.groups 32 h.groups (omega arith) refl,
          (
            number_admitted number_max s.readers 32 h.readers (omega arith) refl,
            (
              value_admitted s.initial 10 h.initial refl,
              (
                record { good = record { plain = (refl, (refl, (refl, (refl, (refl, (refl, tt)))))); stops = refl }; form = refl; size = refl },
                (
                  number_admitted orders_max n 10 few (omega arith) refl,
                  tt,
                ),
              ),
            ),
          ),
        ),
      ),
    ),
  ),
)

pub kind_admitted : (k : Kind) (separator : ℕ) → in_word separator ≡ false → Admitted (placed kind (word_for k) separator)
kind_admitted of.Write separator s = record { good = record { plain = (refl, tt); stops = s }; form = refl; size = refl }
kind_admitted of.Read separator s = record { good = record { plain = (refl, tt); stops = s }; form = refl; size = refl }
kind_admitted of.Tell separator s = record { good = record { plain = (refl, tt); stops = s }; form = refl; size = refl }
kind_admitted of.Carry separator s = record { good = record { plain = (refl, tt); stops = s }; form = refl; size = refl }
kind_admitted of.ReplicaOut separator s = record { good = record { plain = (refl, tt); stops = s }; form = refl; size = refl }
kind_admitted of.ClientOut separator s = record { good = record { plain = (refl, tt); stops = s }; form = refl; size = refl }

pub order_admitted : (o : Order) → FineOrder o → AllByRecursion Admitted (order_words o)
order_admitted (Write z) h = (kind_admitted of.Write 32 refl, (value_admitted z 10 h.small refl, tt))
order_admitted (Read n) h = (kind_admitted of.Read 32 refl, (number_admitted number_max n 10 h.small (omega arith) refl, tt))
order_admitted (Tell n) h = (kind_admitted of.Tell 32 refl, (number_admitted number_max n 10 h.small (omega arith) refl, tt))
order_admitted Carry h = (kind_admitted of.Carry 10 refl, tt)
order_admitted (ReplicaOut n) h = (kind_admitted of.ReplicaOut 32 refl, (number_admitted number_max n 10 h.small (omega arith) refl, tt))
order_admitted (ClientOut n) h = (kind_admitted of.ClientOut 32 refl, (number_admitted number_max n 10 h.small (omega arith) refl, tt))
