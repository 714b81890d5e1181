-- Sets of messages.
use Rattle.std.specs.Prelude.{ℕ, zero, suc, List, [], ◌∷◌, ◌++◌}
use Rattle.wire.specs.declared.message.Message.{Message}

-- the same message, to the replica i
abbrev pub toward : Message → ℕ → Message
toward m i = record m { replica = i }

-- one to each of the replicas 0 to n - 1, by rising number
abbrev pub copies : Message → ℕ → List Message
copies m zero = []
copies m (suc n) = copies m n ++ (toward m n ∷ [])
