-- Words: how far one runs, and when it is a number.
use Rattle.std.specs.Prelude.{ℕ, ◌+◌, ◌-◌, ◌*◌, Bool, false, cond, not, ◌&&◌, List, [], ◌∷◌, ◌++◌, length, take, drop, fold, ◌==◌, nat_le, nat_lt, slice_index}
use Rattle.std.specs.List.{prefix_len, list_all}
use Rattle.sheet.specs.declared.word.Word.{Word}
use Rattle.sheet.specs.declared.word.Word.TheVariants.{Digits, Negative, Name}

-- a word has neither a space nor a line end
abbrev pub in_word : ℕ → Bool
in_word b = cond (b == 32) false (not (b == 10))

-- the word at the start of the bytes: it runs to a space, a line end or the end
abbrev pub word_of : List ℕ → List ℕ
word_of bs = take (prefix_len in_word bs) bs

-- a word and the separator behind it
abbrev pub closed : List ℕ → ℕ → List ℕ
closed word separator = word ++ (separator ∷ [])

-- the digits 0 to 9
abbrev pub is_digit : ℕ → Bool
is_digit b = nat_le 48 b && nat_le b 57

-- nothing but digits
abbrev pub all_digits : List ℕ → Bool
all_digits bs = list_all is_digit bs

-- decimal digits without a leading zero
abbrev pub numeral : List ℕ → Bool
numeral w = cond (length w == 0) false (cond (nat_lt 1 (length w) && slice_index w 0 == 48) false (all_digits w))

-- a minus sign and then a numeral other than 0
abbrev pub negated : List ℕ → Bool
negated w = cond (slice_index w 0 == 45 && not (slice_index w 1 == 48)) (numeral (drop 1 w)) false

-- the number that digits write
abbrev pub amount : List ℕ → ℕ
amount w = fold (λ a b. a * 10 + (b - 48)) 0 w

-- a judged word, with the bytes that its case holds
pub data Sort : Type 0 where
  digits : List ℕ → Sort
  negative : List ℕ → Sort
  name : List ℕ → Sort

-- the case and the bytes of a word
abbrev pub sort_of : Word → Sort
sort_of (Digits w) = digits w.now
sort_of (Negative w) = negative w.now
sort_of (Name w) = name w.now

-- a number, a number after a minus sign without that sign, or any other word
abbrev pub sorted : List ℕ → Sort
sorted w = cond (numeral w) (digits w) (cond (negated w) (negative (drop 1 w)) (name w))
