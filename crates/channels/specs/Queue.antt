-- A queue as the list of the messages that wait in it.
use Rattle.std.specs.Prelude.{◌≡◌, List, [], ◌∷◌, Some, None, Option, ◌-◌, length}
use Rattle.std.specs.Borrow.{MutBor}
use Rattle.wire.specs.declared.message.Message.{Message}
use Rattle.channels.specs.declared.queue.Queue.{Queue}
use Rattle.wire.specs.Channel.{Contents, holding}
use Rattle.channels.specs.Ring.{ring}

-- The message that was put in first is given; the others stay in their order.
abbrev pub Oldest : List Message → List Message → Option Message → Type 0
Oldest before after None = before ≡ []
Oldest before after (Some m) = before ≡ m ∷ after

-- the messages that wait, the oldest first
abbrev pub queued : Queue → List Message
queued q = ring q.cells.now q.start q.len

-- with the cells that are free
abbrev pub contents_of : Queue → Contents
contents_of q = holding (queued q) (length q.cells.now - q.len)

-- the queue lies in the cells lent, and has touched none
abbrev pub LiesIn : MutBor (List Message) → Queue → Type 0
LiesIn cells q = (q.cells.now ≡ cells.now) × (q.cells.ghost_name ≡ cells.ghost_name)

-- the message that was put in first is given
abbrev pub GivesOldest : Queue → Queue → Option Message → Type 0
GivesOldest before after m = Oldest (queued before) (queued after) m
