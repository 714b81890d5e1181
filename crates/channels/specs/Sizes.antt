-- How many messages a channel holds in a table of its own, under the names of src/sizes.rt in small letters.
use Rattle.std.specs.Prelude.{ℕ}

-- the most messages in a slot table
abbrev pub slots_max : ℕ
slots_max = 256

-- the most messages in a delaying layer's pocket
abbrev pub pocket_max : ℕ
pocket_max = 64
