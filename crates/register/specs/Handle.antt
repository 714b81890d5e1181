-- What a message does: at its replica, or at its client.
use Rattle.std.specs.Prelude.{not, ℕ, Bool, false, cond, ◌||◌, Some, None, Option, nat_le, nat_lt, slice_index_or}
use Rattle.wire.specs.Kind.{is_request, is_reply}
use Rattle.wire.specs.declared.message.Message.{Message}
use Rattle.orders.specs.declared.answer.Answer.{Answer}
use Rattle.orders.specs.declared.answer.Answer.TheVariants.{Replied, Lost, Ignored, Dropped}
use Rattle.replica.specs.Row.{delivered, delivered_reply}
use Rattle.register.specs.declared.register.Register.{Register}
use Rattle.register.specs.Register.{row_at, client_at, with_row, with_client}
use Rattle.client.specs.Hear.{heard, heard_answer}

-- no such kind, replica or client
abbrev pub is_stray : Register → Message → Bool
is_stray r m =
    not (is_request m.kind || is_reply m.kind)
    || (nat_le r.settings.replicas m.replica || nat_lt r.settings.readers m.client)

-- the replica or client addressed is out
abbrev pub is_lost : Register → Message → Bool
is_lost r m = cond (is_request m.kind) (slice_index_or r.out m.replica false) (client_at r m.client).out

-- by cases: stray, lost, at its replica, at its client
abbrev pub by_case : {A : Type 0} → Register → Message → A → A → A → A → A
by_case r m stray lost at_replica at_client =
    cond (is_stray r m) stray
    (cond (is_lost r m) lost
    (cond (is_request m.kind) at_replica at_client))

-- the register after a message
abbrev pub handled : Register → Message → Register
handled r m =
    by_case r m r r
    (with_row r m.replica (delivered (row_at r m.replica) m))
    (with_client r m.client (heard r.settings (client_at r m.client) m))

-- a replica's answer: it replied, or the message was stale
abbrev pub replied_or : Option Message → ℕ → Answer
replied_or None who = Ignored who
replied_or (Some m) who = Replied who

-- what a message answers
abbrev pub handled_answer : Register → Message → Answer
handled_answer r m =
    by_case r m Dropped (Lost m.client)
    (replied_or (delivered_reply (row_at r m.replica) m) m.client)
    (heard_answer r.settings (client_at r m.client) m)

-- the reply that it brings about, if any
abbrev pub handled_reply : Register → Message → Option Message
handled_reply r m = by_case r m None None (delivered_reply (row_at r m.replica) m) None
