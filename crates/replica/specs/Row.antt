-- What a row of the table is, and what a message does to it.
use Rattle.std.specs.Prelude.{min, replicate, ℤ, Option}
use Rattle.settings.specs.Limits.{clients_max}
use Rattle.wire.specs.declared.message.Message.{Message}
use Rattle.replica.specs.declared.row.Row.{Row}
use Rattle.replica.specs.Replica.{stepped, replied}

-- as it opens: version 0, both values the initial one, no marks, note 0 and rounds 0
abbrev pub opened_row : ℤ → Row
opened_row z = record { version = 0; value = z; previous = z; marks = 0; note = 0; rounds = replicate clients_max 0 }

-- the record of a row: the lower of its note and version is the note
abbrev pub record_of : Row → Row
record_of r = record r { note = min r.note r.version }

-- a message at a row of the table: its record is made, and stepped
abbrev pub delivered : Row → Message → Row
delivered r m = stepped (record_of r) m

abbrev pub delivered_reply : Row → Message → Option Message
delivered_reply r m = replied (record_of r) m
