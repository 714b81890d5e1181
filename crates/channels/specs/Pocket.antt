-- What a delaying layer's pocket means.
use Rattle.std.specs.Prelude.{List}
use Rattle.wire.specs.declared.message.Message.{Message}

-- the messages that were kept back, oldest first
pub record Kept : Type 0 where
  pub items : List Message
