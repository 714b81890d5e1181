-- What a channel means, and what its calls do to it.
use Rattle.std.specs.Prelude.{◌≡◌, ℕ, ◌+◌, List, [], ◌∷◌, ◌++◌, length, Some, None, Ok, Err, Option, Result}
use Rattle.std.specs.List.Sorted.{IsPermutation}
use Rattle.wire.specs.declared.message.Message.{Message}

-- the largest number of 32 bits, where a count and a round number end
abbrev pub word_max : ℕ
word_max = 4294967295

-- what a channel means: the messages that wait in it, in no order but counted, and its free places
pub record Contents : Type 0 where
  pub waiting : List Message
  pub free : ℕ

-- a channel that holds these messages, with so many free places
abbrev pub holding : List Message → ℕ → Contents
holding waiting free = record { waiting = waiting; free = free }

-- a channel in which nothing waits
abbrev pub empty : ℕ → Contents
empty free = holding [] free

-- The message waits, and one place fewer is free. It is refused exactly if no place is free, and then neither changes.
abbrev pub Put : {U F : Type 0} → Contents → Message → Contents → Result U F → Type 0
Put before m after (Ok _) = IsPermutation after.waiting (m ∷ before.waiting) × (before.free ≡ after.free + 1)
Put before m after (Err _) = IsPermutation after.waiting before.waiting × (before.free ≡ 0) × (after.free ≡ 0)

-- One message that waited, of the channel's choice, stops waiting, and one place more is free.
-- None is given exactly if none waited, and then neither changes.
abbrev pub Taken : Contents → Contents → Option Message → Type 0
Taken before after None = (before.waiting ≡ []) × (after.waiting ≡ []) × (after.free ≡ before.free)
Taken before after (Some m) = IsPermutation before.waiting (m ∷ after.waiting) × (after.free ≡ before.free + 1)

-- All these messages wait, and so many places fewer are free.
abbrev pub Sends : List Message → Contents → Contents → Type 0
Sends ms before after = IsPermutation after.waiting (ms ++ before.waiting) × (before.free ≡ after.free + length ms)
