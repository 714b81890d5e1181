-- Worlds, and the step that each order is.
use Rattle.std.specs.Prelude.{◌≡◌, ℕ, ◌+◌, ◌⊎◌, List, [], ◌∷◌}
use Rattle.std.proofs.Common.{inl, inr}
use Rattle.std.specs.List.Sorted.{IsPermutation}
use Rattle.std.specs.Option.{option_to_list}
use Rattle.wire.specs.declared.message.Message.{Message}
use Rattle.wire.specs.Channel.{Contents, holding, Sends}
use Rattle.orders.specs.declared.order.Order.{Order}
use Rattle.orders.specs.declared.order.Order.TheVariants.{Carry}
use Rattle.orders.specs.Order.{named}
use Rattle.orders.specs.declared.answer.Refusal.TheVariants.{NothingWaits}
use Rattle.orders.specs.declared.answer.Answer.{Answer}
use Rattle.orders.specs.declared.answer.Answer.TheVariants.{Refused}
use Rattle.register.specs.declared.register.Register.{Register}
use Rattle.register.specs.Handle.{handled, handled_answer, handled_reply}
use Rattle.register.specs.Refuse.{refusal}
use Rattle.register.specs.Calls.{accepted, put_out, unless, answer_by}

-- a register with its channel: the messages that wait, in no order but counted, and the free places
pub record World : Type 0 where
  pub register : Register
  pub waiting : List Message
  pub free : ℕ

abbrev pub world : Register → Contents → World
world r x = record { register = r; waiting = x.waiting; free = x.free }

-- what the channel of a world means
abbrev pub channel : World → Contents
channel w = holding w.waiting w.free

-- the messages that a write, read, tell or withdrawal puts into the channel; none where it is sent back
abbrev pub sent_by : World → Order → List Message
sent_by v o = unless (refusal v.register v.free o) (put_out v.register o) []

-- a write, read, tell or withdrawal, accepted or sent back
pub record Called (v : World) (o : Order) (a : Answer) (w : World) : Type 0 where
  pub answer : a ≡ answer_by (refusal v.register v.free o) (named o)
  pub register : w.register ≡ unless (refusal v.register v.free o) (accepted v.register o) v.register
  pub sends : Sends (sent_by v o) (channel v) (channel w)

-- a carry: some message that waited is taken and handled, and its reply, if any, is put in
pub record Carried (v : World) (a : Answer) (w : World) : Type 0 where
  pub message : Message
  pub rest : List Message
  pub waited : IsPermutation v.waiting (message ∷ rest)
  pub answer : a ≡ handled_answer v.register message
  pub register : w.register ≡ handled v.register message
  pub sends : Sends (option_to_list (handled_reply v.register message)) (holding rest (v.free + 1)) (channel w)

-- a carry with nothing waiting is sent back
pub record Starved (v : World) (a : Answer) (w : World) : Type 0 where
  pub none : v.waiting ≡ []
  pub answer : a ≡ Refused NothingWaits 0
  pub register : w.register ≡ v.register
  pub waiting : w.waiting ≡ []
  pub free : w.free ≡ v.free

-- in the world v the order is answered a, and the world is then w
abbrev pub Answered : World → Order → Answer → World → Type 0
Answered v Carry a w = Carried v a w ⊎ Starved v a w
Answered v o a w = Called v o a w

-- the messages that were put into the channel
abbrev pub sent_in : (v : World) (o : Order) (a : Answer) (w : World) → Answered v o a w → List Message
sent_in v Carry a w (inl s) = option_to_list (handled_reply v.register s.message)
sent_in v Carry a w (inr s) = []
sent_in v o a w s = sent_by v o

-- an order is done by a register over its channel
abbrev pub Does : {C : Type 0} → (C → Contents) → Register → C → Order → Answer → Register → C → Type 0
Does contents r c o a r' c' = Answered (world r (contents c)) o a (world r' (contents c'))
