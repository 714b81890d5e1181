-- Why a call is sent back: the first refusal that fits, in rising order of the numbers.
use Rattle.std.specs.Prelude.{ℕ, Bool, true, false, cond, not, ◌||◌, ℤ, Some, None, Option, ◌==◌, nat_le, nat_lt, slice_index_or}
use Rattle.orders.specs.declared.order.Order.{Order}
use Rattle.orders.specs.declared.order.Order.TheVariants.{Write, Read, Tell, Carry, ReplicaOut, ClientOut}
use Rattle.orders.specs.declared.answer.Refusal.{Refusal}
use Rattle.orders.specs.declared.answer.Refusal.TheVariants.{Unknown, Withdrawn, Busy, NotDue, ValueRange, RoundLimit, NoRoom, AlreadyOut, OutLimit}
use Rattle.client.specs.declared.client.Phase.{Phase}
use Rattle.client.specs.declared.client.Phase.TheVariants.{Idle, Due}
use Rattle.register.specs.declared.register.Register.{Register}
use Rattle.settings.specs.Limits.{rounds_max}
use Rattle.settings.specs.Range.{value_in_range}
use Rattle.register.specs.Register.{client_at}
use Rattle.settings.specs.declared.checked.Checked.{Checked}
use Rattle.client.specs.Start.{set_size}
use Rattle.std.specs.Option.{option_or}

abbrev pub is_idle : Phase → Bool
is_idle Idle = true
is_idle _ = false

abbrev pub is_due : Phase → Bool
is_due Due = true
is_due _ = false

-- a reader's number is 1 to R
abbrev pub no_reader : Register → ℕ → Bool
no_reader r c = c == 0 || nat_lt r.settings.readers c

-- why a reader cannot be called at all
abbrev pub reader_refusal : Register → ℕ → Option Refusal
reader_refusal r c = cond (no_reader r c) (Some Unknown) (cond (client_at r c).out (Some Withdrawn) None)

-- the channel has a free place for each message of the set
abbrev pub room_refusal : Checked → ℕ → ℕ → Option Refusal
room_refusal k free kind = cond (nat_le (set_size k kind) free) None (Some NoRoom)

-- free: how many places are free in the channel
abbrev pub write_refusal : Register → ℕ → ℤ → Option Refusal
write_refusal r free z =
    cond (client_at r 0).out (Some Withdrawn)
    (cond (not (is_idle (client_at r 0).phase)) (Some Busy)
    (cond (not (value_in_range z)) (Some ValueRange)
    (cond (nat_le rounds_max (client_at r 0).round) (Some RoundLimit)
    (room_refusal r.settings free 1))))

abbrev pub read_refusal : Register → ℕ → ℕ → Option Refusal
read_refusal r free c =
    option_or (reader_refusal r c)
    (cond (not (is_idle (client_at r c).phase)) (Some Busy)
    (cond (nat_le rounds_max (client_at r c).round) (Some RoundLimit)
    (room_refusal r.settings free 2)))

abbrev pub tell_refusal : Register → ℕ → ℕ → Option Refusal
tell_refusal r free c =
    option_or (reader_refusal r c)
    (cond (not (is_due (client_at r c).phase)) (Some NotDue)
    (room_refusal r.settings free 3))

abbrev pub replica_out_refusal : Register → ℕ → Option Refusal
replica_out_refusal r i =
    cond (nat_le r.settings.replicas i) (Some Unknown)
    (cond (slice_index_or r.out i false) (Some AlreadyOut)
    (cond (nat_le r.settings.tolerated r.outs) (Some OutLimit) None))

abbrev pub client_out_refusal : Register → ℕ → Option Refusal
client_out_refusal r c =
    cond (nat_lt r.settings.readers c) (Some Unknown)
    (cond (client_at r c).out (Some Withdrawn) None)

-- by order; a carry depends on the channel and has no part here
abbrev pub refusal : Register → ℕ → Order → Option Refusal
refusal r free (Write z) = write_refusal r free z
refusal r free (Read c) = read_refusal r free c
refusal r free (Tell c) = tell_refusal r free c
refusal r free Carry = None
refusal r free (ReplicaOut i) = replica_out_refusal r i
refusal r free (ClientOut c) = client_out_refusal r c
