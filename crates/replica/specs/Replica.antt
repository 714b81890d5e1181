-- What a message does to a replica's record.
use Rattle.std.specs.Prelude.{not, ◌+◌, max, Bool, cond, ◌||◌, Some, None, Option, ◌==◌, bit_or, nat_le, nat_lt, slice_index, slice_set}
use Rattle.settings.specs.Limits.{clients_max}
use Rattle.wire.specs.Kind.{is_request}
use Rattle.wire.specs.declared.message.Message.{Message}
use Rattle.replica.specs.declared.row.Row.{Row}
use Rattle.replica.specs.declared.replica.Replica.{Replica}

-- what a record holds, as a row
abbrev pub plain : Replica → Row
plain r =
    record {
      version = r.version;
      value = r.value;
      previous = r.previous;
      marks = r.marks;
      note = r.note;
      rounds = r.rounds;
    }

-- a message that no replica acts on: no request, or of a client without a round number here
abbrev pub misdirected : Message → Bool
misdirected m = not (is_request m.kind) || nat_le clients_max m.client

-- a message whose round is not above the last one heard from its client
abbrev pub is_stale : Row → Message → Bool
is_stale r m = nat_le m.round (slice_index r.rounds m.client)

-- the message's version is higher
abbrev pub is_news : Row → Message → Bool
is_news r m = nat_lt r.version m.version

-- A fresh message: its round is recorded; a higher version is taken with both values and the message's marks alone,
-- else the marks are added; a tell raises the note to its version.
abbrev pub fresh : Row → Message → Row
fresh r m =
    record {
      version = max r.version m.version;
      value = cond (is_news r m) m.value r.value;
      previous = cond (is_news r m) m.previous r.previous;
      marks = cond (is_news r m) m.marks (bit_or r.marks m.marks);
      note = cond (m.kind == 3) (max r.note m.version) r.note;
      rounds = slice_set r.rounds m.client m.round;
    }

-- the reply of a replica: the same client and round, and what it holds now
abbrev pub reply_from : Row → Message → Message
reply_from r m =
    record m {
      kind = m.kind + 3;
      version = r.version;
      value = r.value;
      previous = r.previous;
      marks = r.marks;
      note = r.note;
    }

-- the replica after a message
abbrev pub stepped : Row → Message → Row
stepped r m = cond (misdirected m || is_stale r m) r (fresh r m)

-- its reply to the message, if any
abbrev pub replied : Row → Message → Option Message
replied r m = cond (misdirected m || is_stale r m) None (Some (reply_from (fresh r m) m))
