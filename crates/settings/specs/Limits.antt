-- The limits that several crates name, under the names of src/limits.rt in small letters.
use Rattle.std.specs.Prelude.{ℕ, ◌+◌}

abbrev pub replicas_min : ℕ
replicas_min = 4

abbrev pub replicas_max : ℕ
replicas_max = 32

abbrev pub tolerated_max : ℕ
tolerated_max = 10

abbrev pub groups_max : ℕ
groups_max = 7

abbrev pub readers_max : ℕ
readers_max = 64

-- the writer, and the most readers
abbrev pub clients_max : ℕ
clients_max = readers_max + 1

-- the largest value; the smallest is its negative
abbrev pub value_max : ℕ
value_max = 9999999

-- a client whose round number has come so far starts nothing more
abbrev pub rounds_max : ℕ
rounds_max = 2000000

-- the most orders of a sheet
abbrev pub orders_max : ℕ
orders_max = 4096

-- the largest number of a sheet, and the largest size of a value there
abbrev pub number_max : ℕ
number_max = 99999999
