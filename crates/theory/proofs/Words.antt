-- The words of the crates below in which the theory speaks: entries, orders, answers, messages, settings, registers.
pub use Rattle.laws.specs.Entries.{Entry}
pub use Rattle.orders.specs.declared.order.Order.TheVariants.{Carry, ClientOut, Read, ReplicaOut, Tell, Write}
pub use Rattle.settings.specs.declared.checked.Checked.{Checked}
pub use Rattle.settings.specs.Limits.{clients_max, replicas_max, rounds_max}
pub use Rattle.wire.specs.declared.message.Message.{Message}
pub use Rattle.orders.specs.declared.order.Order.{Order}
pub use Rattle.orders.specs.Answer.{listed_as, number_of}
pub use Rattle.register.specs.World.{Answered, Called, Carried, Starved, World, sent_by, sent_in, world}
pub use Rattle.orders.specs.declared.answer.Answer.TheVariants.{Accepted, BecameDue, Counted, Ended, Ignored, Lost, Refused, Replied}
pub use Rattle.orders.specs.declared.answer.Answer.{Answer}
pub use Rattle.register.specs.declared.register.Register.{Register}
pub use Rattle.register.specs.Register.{blank_client, blank_row, client_at, opened, row_at, with_client, with_row}
pub use Rattle.quorum.specs.declared.slip.Reading.{Reading}
pub use Rattle.laws.specs.Laws.{AllEnded, Before, FewRounds, InOrder, Lawful, NoTwice, OneLine, ShowsNearest, messages_of, own_messages, rounds_of, span}
pub use Rattle.register.specs.Handle.{by_case, handled, handled_answer, handled_reply, is_lost, is_stray, replied_or}
pub use Rattle.laws.specs.Operations.{Begins, Belongs, Ending, EndsAt, IsRead, IsWrite, Operation, Shown, code, is_write, writes_before}
pub use Rattle.quorum.specs.Replies.{Readings, Receipts, no_readings, no_receipts, with_reading, with_receipt}
pub use Rattle.quorum.specs.Slip.{blank_reading, blank_receipt, reading_of, receipt_of}
pub use Rattle.client.specs.declared.client.Phase.{Phase}
pub use Rattle.client.specs.declared.client.Phase.TheVariants.{Asking, Due, Idle, Telling, Writing}
pub use Rattle.wire.specs.Kind.{is_reply, is_request}
pub use Rattle.quorum.specs.Tally.{Once, adds, from}
pub use Rattle.orders.specs.declared.answer.Refusal.{Refusal}
pub use Rattle.client.specs.declared.client.Client.{Client}
pub use Rattle.settings.specs.Checked.{mark_of}
pub use Rattle.quorum.specs.declared.decide.Verdict.TheVariants.{Highest, Previous}
pub use Rattle.replica.specs.Row.{delivered, delivered_reply, opened_row, record_of}
pub use Rattle.wire.specs.Channel.{empty}
pub use Rattle.orders.specs.declared.answer.Refusal.TheVariants.{NothingWaits, Unknown}
pub use Rattle.replica.specs.declared.row.Row.{Row}
pub use Rattle.register.specs.Past.{Past, Step, more, start}
