-- What is kept of a reply.
use Rattle.std.specs.Prelude.{pos}
use Rattle.wire.specs.declared.message.Message.{Message}
use Rattle.quorum.specs.declared.slip.Receipt.{Receipt}
use Rattle.quorum.specs.declared.slip.Reading.{Reading}

-- what is kept of a reply
abbrev pub receipt_of : Message → Receipt
receipt_of m = record { replica = m.replica }

abbrev pub reading_of : Message → Reading
reading_of m =
    record {
      replica = m.replica;
      version = m.version;
      value = m.value;
      previous = m.previous;
      marks = m.marks;
      note = m.note;
    }

-- what stands where no receipt is
abbrev pub blank_receipt : Receipt
blank_receipt = record { replica = 0 }

-- what stands where no reading is
abbrev pub blank_reading : Reading
blank_reading = record { replica = 0; version = 0; value = pos 0; previous = pos 0; marks = 0; note = 0 }
