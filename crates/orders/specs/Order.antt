-- Whom an order names.
use Rattle.std.specs.Prelude.{ℕ}
use Rattle.orders.specs.declared.order.Order.{Order}
use Rattle.orders.specs.declared.order.Order.TheVariants.{Write, Read, Tell, Carry, ReplicaOut, ClientOut}

-- whom an answer to the order names
abbrev pub named : Order → ℕ
named (Write z) = 0
named (Read c) = c
named (Tell c) = c
named Carry = 0
named (ReplicaOut i) = i
named (ClientOut c) = c
