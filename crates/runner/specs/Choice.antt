-- How many messages wait at most in a channel of each form.
use Rattle.std.specs.Prelude.{ℕ, ◌+◌, List, length}
use Rattle.wire.specs.declared.message.Message.{Message}
use Rattle.wire.specs.Channel.{Contents, empty}
use Rattle.channels.specs.Sizes.{slots_max, pocket_max}
use Rattle.runner.specs.declared.choice.Choice.{Choice}
use Rattle.runner.specs.declared.choice.Choice.TheVariants.{Queue, Slots, DelayQueue, DelaySlots, DelayTwice}

-- the free places of a new channel of each form: a queue in so many cells, a slot table, and a pocket for each layer
abbrev pub room_of : Choice → ℕ → ℕ
room_of Queue cells = cells
room_of Slots cells = slots_max
room_of (DelayQueue n) cells = cells + pocket_max
room_of (DelaySlots n) cells = slots_max + pocket_max
room_of (DelayTwice n m) cells = (cells + pocket_max) + pocket_max

-- what a new channel of each form means, a queue in the cells
abbrev pub new_channel : Choice → List Message → Contents
new_channel choice cells = empty (room_of choice (length cells))
