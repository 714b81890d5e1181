-- A client that starts a round, and what it puts out.
use Rattle.std.specs.Prelude.{ℕ, ◌+◌, ◌*◌, min, cond, ◌==◌}
use Rattle.wire.specs.Channel.{word_max}
use Rattle.wire.specs.declared.message.Message.{Message}
use Rattle.orders.specs.declared.order.Order.{Order}
use Rattle.orders.specs.declared.order.Order.TheVariants.{Write, Read, Tell}
use Rattle.quorum.specs.Replies.{no_receipts, no_readings}
use Rattle.settings.specs.declared.checked.Checked.{Checked}
use Rattle.settings.specs.Checked.{mark_of}
use Rattle.client.specs.declared.start.Round.{Round}
use Rattle.client.specs.declared.start.Round.TheVariants.{Write as WriteRound, Read as ReadRound, Tell as TellRound}
use Rattle.client.specs.declared.client.Phase.TheVariants.{Writing, Asking, Telling}
use Rattle.client.specs.declared.client.Client.{Client}

-- what a client puts out: its round, what it knows, its own mark, and note 0
abbrev pub outgoing : Checked → ℕ → ℕ → Client → Message
outgoing k kind who c =
    record {
      kind = kind;
      replica = 0;
      client = who;
      round = c.round;
      version = c.version;
      value = c.value;
      previous = c.previous;
      marks = mark_of k who;
      note = 0;
    }

-- One round more. 32 bits hold it in every register that was opened, so the bound never decides.
abbrev pub raised : ℕ → ℕ
raised n = min (n + 1) word_max

abbrev pub order_of : Round → Order
order_of (WriteRound z) = Write z
order_of (ReadRound c) = Read c
order_of (TellRound c) = Tell c

abbrev pub kind_of : Round → ℕ
kind_of (WriteRound z) = 1
kind_of (ReadRound c) = 2
kind_of (TellRound c) = 3

-- how many messages a set of a kind has: one to each replica, or 3t + 1 of a tell
abbrev pub set_size : Checked → ℕ → ℕ
set_size k kind = cond (kind == 3) (3 * k.tolerated + 1) k.replicas

-- One round more, in the phase that awaits its replies. A write takes the new round as its version, and the value
-- written before it as previous.
abbrev pub started : Client → Round → Client
started c (WriteRound z) =
    record c {
      round = raised c.round;
      version = raised c.round;
      value = z;
      previous = c.value;
      phase = Writing no_receipts;
    }
started c (ReadRound r) = record c { round = raised c.round; phase = Asking no_readings }
started c (TellRound r) = record c { round = raised c.round; phase = Telling no_receipts }
