-- The state of a register: its rows, its clients, and how one of them is changed.
use Rattle.std.specs.Prelude.{◌≡◌, ◌<◌, ◌≤◌, Bool, Option, MatchOption, ℕ, false, replicate, pos, slice_index_or, slice_set}
use Rattle.settings.specs.Limits.{replicas_max, clients_max}
use Rattle.replica.specs.declared.row.Row.{Row}
use Rattle.replica.specs.Row.{opened_row}
use Rattle.settings.specs.declared.checked.Checked.{Checked}
use Rattle.client.specs.declared.client.Phase.{Phase}
use Rattle.client.specs.declared.client.Client.{Client}
use Rattle.client.specs.Client.{opened_client}
use Rattle.register.specs.declared.register.Register.{Register}

-- what a look past the end of a table gives: one that opened with the value 0
abbrev pub blank_row : Row
blank_row = opened_row (pos 0)

abbrev pub blank_client : Client
blank_client = opened_client (pos 0)

-- a register as it opens
abbrev pub opened : Checked → Register
opened k =
    record {
      settings = k;
      outs = 0;
      out = replicate replicas_max false;
      rows = replicate replicas_max (opened_row k.initial);
      clients = replicate clients_max (opened_client k.initial);
    }

abbrev pub row_at : Register → ℕ → Row
row_at r i = slice_index_or r.rows i blank_row

abbrev pub client_at : Register → ℕ → Client
client_at r c = slice_index_or r.clients c blank_client

-- with one row, and nothing else, changed
abbrev pub with_row : Register → ℕ → Row → Register
with_row r i x = record r { rows = slice_set r.rows i x }

-- with one client, and nothing else, changed
abbrev pub with_client : Register → ℕ → Client → Register
with_client r c x = record r { clients = slice_set r.clients c x }

-- ---- what can be seen of a register

abbrev pub settings_of : Register → Checked
settings_of r = r.settings

-- the phase of the writer or of a reader; none for any other number
abbrev pub ShowsPhase : Register → ℕ → Option Phase → Type 0
ShowsPhase r c o = MatchOption o (r.settings.readers < c) (λ p. (c ≤ r.settings.readers) × (p ≡ (client_at r c).phase))

abbrev pub is_out : Register → ℕ → Bool
is_out r i = slice_index_or r.out i false

abbrev pub outs_of : Register → ℕ
outs_of r = r.outs
