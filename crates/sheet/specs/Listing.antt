-- The bytes of a listing, and what it means to write some of them after others.
use Rattle.std.specs.Prelude.{◌≡◌, ℕ, ◌+◌, ◌<◌, ◌≤◌, List, [], ◌++◌, length, take, pos, decimal, Result, MatchResult}
use Rattle.std.specs.Fmt.{signed_decimal}
use Rattle.std.specs.List.{flat_map}
use Rattle.orders.specs.Answer.{listed_as}
use Rattle.orders.specs.declared.answer.Answer.{Answer}
use Rattle.orders.specs.declared.answer.Listed.{Listed}
use Rattle.sheet.specs.Word.{closed}
use Rattle.sheet.specs.declared.fault.SheetFault.{SheetFault}
use Rattle.sheet.specs.declared.page.Position.{Position}
use Rattle.sheet.specs.Fault.{Shown, shows, shown}

-- version, value and rounds, and a line end
abbrev pub end_of : Listed → List ℕ
end_of l = closed (decimal l.version) 32 ++ (closed (signed_decimal l.value) 32 ++ closed (decimal l.rounds) 10)

-- a line: code, who, version, value and rounds, a space between each two, and a line end
abbrev pub line_of : Listed → List ℕ
line_of l = closed (decimal l.code) 32 ++ (closed (decimal l.who) 32 ++ end_of l)

-- an answer that shows no version, value and rounds
abbrev pub plain_answer : ℕ → ℕ → Listed
plain_answer code who = record { code = code; who = who; version = 0; value = pos 0; rounds = 0 }

-- a listing: a line for each answer
abbrev pub listing_of : List Answer → List ℕ
listing_of answers = flat_map (λ a. line_of (listed_as a)) answers

-- all lines stand in the space, and n bytes are written
pub record Written (answers : List Answer) (out : List ℕ) (len n : ℕ) : Type 0 where
  pub length_told : n ≡ length (listing_of answers)
  pub length_kept : len ≡ n
  pub fits : n ≤ length out
  pub bytes : take n out ≡ listing_of answers

-- the space is too short: the first lines, as many as fit, stand in it, and the next does not fit
pub record CutShort (answers : List Answer) (out : List ℕ) (len : ℕ) (f : Shown) : Type 0 where
  pub lines : ℕ
  pub some_left : lines < length answers
  pub fault : f ≡ shows 36 0 []
  pub length_kept : len ≡ length (listing_of (take lines answers))
  pub fits : len ≤ length out
  pub bytes : take len out ≡ listing_of (take lines answers)
  pub next_too_long : length out < length (listing_of (take (lines + 1) answers))

-- the listing is written from the start of the space, or it is cut short
abbrev pub Lists : List Answer → List ℕ → Position → Result ℕ SheetFault → Type 0
Lists answers out at r =
    MatchResult r (λ n. Written answers out at.len n) (λ f. CutShort answers out at.len (shown f))
