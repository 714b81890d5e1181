-- What happened to a register: orders, their answers, and what they put into the channel.
use Rattle.std.specs.Prelude.{List}
use Rattle.wire.specs.declared.message.Message.{Message}
use Rattle.orders.specs.declared.order.Order.{Order}
use Rattle.orders.specs.declared.answer.Answer.{Answer}

-- one thing that happened: an order, its answer, and the messages that it put into the channel
pub record Entry : Type 0 where
  pub order : Order
  pub answer : Answer
  pub sent : List Message
