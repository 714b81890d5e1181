-- A client as it opens, and in another phase.
use Rattle.std.specs.Prelude.{false, ℤ}
use Rattle.client.specs.declared.client.Phase.{Phase}
use Rattle.client.specs.declared.client.Phase.TheVariants.{Idle}
use Rattle.client.specs.declared.client.Client.{Client}

-- a client as it opens: present, round 0, and knowing version 0 with the initial value
abbrev pub opened_client : ℤ → Client
opened_client z = record { out = false; round = 0; version = 0; value = z; previous = z; phase = Idle }

-- the client in another phase
abbrev pub in_phase : Client → Phase → Client
in_phase c p = record c { phase = p }
