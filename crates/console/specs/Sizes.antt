-- The sizes of a program's memory, under the names of src/sizes.rt in small letters.
use Rattle.std.specs.Prelude.{ℕ}
use Rattle.settings.specs.Limits.{orders_max}

-- the cells of a queue, where the channel is or has one
abbrev pub queue_cells : ℕ
queue_cells = 1024

-- the places for orders, and those for answers: as many as a sheet can have orders
abbrev pub places : ℕ
places = orders_max

-- how much of its input a program takes for its sheet
abbrev pub sheet_bytes : ℕ
sheet_bytes = 65536

-- the space for a listing
abbrev pub listing_bytes : ℕ
listing_bytes = 65536
