-- What an accepted call does to a register, and what it puts into the channel.
use Rattle.std.specs.Prelude.{ℕ, ◌+◌, true, List, [], Some, None, Option, slice_set}
use Rattle.wire.specs.declared.message.Message.{Message}
use Rattle.orders.specs.declared.order.Order.{Order}
use Rattle.orders.specs.declared.order.Order.TheVariants.{Write, Read, Tell, Carry, ReplicaOut, ClientOut}
use Rattle.orders.specs.declared.answer.Refusal.{Refusal}
use Rattle.orders.specs.declared.answer.Answer.{Answer}
use Rattle.orders.specs.declared.answer.Answer.TheVariants.{Accepted, Refused}
use Rattle.client.specs.declared.client.Client.{Client}
use Rattle.client.specs.declared.start.Round.{Round}
use Rattle.client.specs.declared.start.Round.TheVariants.{Write as WriteRound, Read as ReadRound, Tell as TellRound}
use Rattle.client.specs.Start.{started, outgoing, order_of, kind_of, set_size}
use Rattle.orders.specs.Order.{named}
use Rattle.register.specs.declared.register.Register.{Register}
use Rattle.register.specs.Register.{client_at, with_client}
use Rattle.register.specs.Send.{copies}

abbrev pub gone : Client → Client
gone c = record c { out = true }

-- the register after an accepted call
abbrev pub accepted : Register → Order → Register
accepted r (Write z) = with_client r 0 (started (client_at r 0) (WriteRound z))
accepted r (Read c) = with_client r c (started (client_at r c) (ReadRound c))
accepted r (Tell c) = with_client r c (started (client_at r c) (TellRound c))
accepted r Carry = r
accepted r (ReplicaOut i) = record r { outs = r.outs + 1; out = slice_set r.out i true }
accepted r (ClientOut c) = with_client r c (gone (client_at r c))

-- the messages that an accepted call puts into the channel: those of the round that it begins
abbrev pub round_of : Register → Round → List Message
round_of r q =
    let c = named (order_of q) in
    copies (outgoing r.settings (kind_of q) c (started (client_at r c) q)) (set_size r.settings (kind_of q))

abbrev pub put_out : Register → Order → List Message
put_out r (Write z) = round_of r (WriteRound z)
put_out r (Read c) = round_of r (ReadRound c)
put_out r (Tell c) = round_of r (TellRound c)
put_out r _ = []

-- a refusal changes nothing and puts nothing out
abbrev pub unless : {A : Type 0} → Option Refusal → A → A → A
unless None done same = done
unless (Some x) done same = same

abbrev pub answer_by : Option Refusal → ℕ → Answer
answer_by None who = Accepted who
answer_by (Some x) who = Refused x who
