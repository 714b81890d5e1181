-- A session that keeps the laws.
use Rattle.std.specs.Prelude.{List, length}
use Rattle.wire.specs.Channel.{Contents}
use Rattle.settings.specs.declared.given.Settings.{Settings}
use Rattle.orders.specs.declared.order.Order.{Order}
use Rattle.orders.specs.declared.answer.Answer.{Answer}
use Rattle.register.specs.declared.register.Register.{Register}
use Rattle.register.specs.World.{World, world}
use Rattle.register.specs.Past.{Filled}
use Rattle.register.specs.Session.{Session}
use Rattle.laws.specs.Laws.{Lawful}

-- the orders with their answers are a past of a register that was opened with these settings, and
-- this past keeps the laws
pub record LawfulSession (s : Settings) (x : Contents) (os : List Order) (rs : List Answer) (w : World) : Type 0 where
  pub session : Session s x os rs w
  pub lawful : Lawful session.settings w.waiting session.ran.entries

-- the orders were done by the register r, which leaves the channel with y: their answers stand in the first places
abbrev pub Done : Settings → Contents → List Order → List Answer → List Answer → Contents → Register → Type 0
Done s x os before after y r = Filled (λ rs. LawfulSession s x os rs (world r y)) (length os) before after
