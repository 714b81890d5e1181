-- A session: a register is opened, and a list of orders done.
use Rattle.std.specs.Prelude.{◌≡◌, ℕ, ◌<◌, ◌⊎◌, List, length, Some, None}
use Rattle.wire.specs.Channel.{Contents}
use Rattle.settings.specs.declared.given.Settings.{Settings}
use Rattle.settings.specs.declared.checked.Checked.{Checked}
use Rattle.settings.specs.Checked.{given}
use Rattle.orders.specs.declared.order.Order.{Order}
use Rattle.orders.specs.declared.answer.Answer.{Answer}
use Rattle.register.specs.declared.register.Register.{Register}
use Rattle.register.specs.declared.fault.RegisterFault.{RegisterFault}
use Rattle.register.specs.declared.fault.RegisterFault.TheVariants.{Answers}
use Rattle.register.specs.Open.{opening_fault}
use Rattle.register.specs.Register.{opened}
use Rattle.register.specs.World.{World, world}
use Rattle.register.specs.Past.{Ran, Filled}

-- the settings were accepted over a channel with these contents, and the orders with their answers
-- are a past from the opening
pub record Session (s : Settings) (x : Contents) (os : List Order) (rs : List Answer) (w : World) : Type 0 where
  pub settings : Checked
  pub accepted : opening_fault s x ≡ None
  pub passed : given settings ≡ s
  pub ran : Ran (world (opened settings) x) os rs w

-- it was not opened, or there were fewer answers than orders
abbrev pub NoSession : Settings → Contents → ℕ → ℕ → RegisterFault → Type 0
NoSession s x orders answers e =
    (opening_fault s x ≡ Some e)
    ⊎ ((opening_fault s x ≡ None) × (answers < orders) × (e ≡ Answers))

-- ---- the two outcomes

-- the orders were done by the register r, which leaves the channel with y: their answers stand in the first places
abbrev pub SessionRan : Settings → Contents → List Order → List Answer → List Answer → Contents → Register → Type 0
SessionRan s x os before after y r = Filled (λ rs. Session s x os rs (world r y)) (length os) before after

-- nothing was done: answers and channel, c before and d after, are as they were
pub record NotDone {C : Type 0} (s : Settings) (x : Contents) (os : List Order) (before after : List Answer) (c d : C)
    (e : RegisterFault) : Type 0 where
  pub fault : NoSession s x (length os) (length before) e
  pub answers : after ≡ before
  pub channel : d ≡ c
