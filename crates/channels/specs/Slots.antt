-- What a slot table means.
use Rattle.std.specs.Prelude.{Option}
use Rattle.wire.specs.declared.message.Message.{Message}
use Rattle.wire.specs.Channel.{Contents, holding}
use Rattle.channels.specs.declared.slots.Slots.{Slots}
use Rattle.channels.specs.Table.{somes, gaps, Lowest}

-- the messages in its slots, and its unused slots
abbrev pub contents_of : Slots → Contents
contents_of s = holding (somes s.table) (gaps s.table)

-- the message that is given is a lowest of those that waited
abbrev pub GivesLowest : Slots → Option Message → Type 0
GivesLowest s m = Lowest s.table m
