-- Which settings open a register over which channel.
use Rattle.std.specs.Prelude.{◌≡◌, ℕ, cond, length, Some, None, Option, Result, MatchResult, nat_lt}
use Rattle.wire.specs.Channel.{Contents}
use Rattle.register.specs.declared.register.Register.{Register}
use Rattle.register.specs.Register.{opened}
use Rattle.settings.specs.declared.given.Settings.{Settings}
use Rattle.settings.specs.declared.checked.Checked.{Checked}
use Rattle.register.specs.declared.fault.ChannelFault.{ChannelFault}
use Rattle.register.specs.declared.fault.ChannelFault.TheVariants.{NotEmpty, TooFew}
use Rattle.register.specs.declared.fault.RegisterFault.{RegisterFault}
use Rattle.register.specs.declared.fault.RegisterFault.TheVariants.{Settings as OfSettings, Channel as OfChannel}
use Rattle.settings.specs.Checked.{settings_fault, given}
use Rattle.std.specs.Option.{option_map, option_or}

-- the channel must be empty, with a place for each replica
abbrev pub channel_fault : Contents → ℕ → Option ChannelFault
channel_fault x replicas =
    cond (nat_lt 0 (length x.waiting)) (Some NotEmpty)
    (cond (nat_lt x.free replicas) (Some TooFew) None)

-- the first fault that fits, in rising order of the numbers; none where the register opens
abbrev pub opening_fault : Settings → Contents → Option RegisterFault
opening_fault s x =
    option_or (option_map OfSettings (settings_fault s)) (option_map OfChannel (channel_fault x s.replicas))

-- a register opened: the settings have no fault, nothing waits, and a place is free for each replica
pub record Opens (s : Settings) (x : Contents) (r : Register) : Type 0 where
  pub settings : Checked
  pub accepted : opening_fault s x ≡ None
  pub passed : given settings ≡ s
  pub register : r ≡ opened settings

-- a register is opened, or the settings or the channel have a fault
abbrev pub Opening : Settings → Contents → Result Register RegisterFault → Type 0
Opening s x result = MatchResult result (λ r. Opens s x r) (λ e. opening_fault s x ≡ Some e)
