-- The number of each fault of opening and running.
use Rattle.std.specs.Prelude.{ℕ}
use Rattle.settings.specs.Fault.{settings_fault_number}
use Rattle.register.specs.declared.fault.ChannelFault.{ChannelFault}
use Rattle.register.specs.declared.fault.ChannelFault.TheVariants.{NotEmpty, TooFew}
use Rattle.register.specs.declared.fault.RegisterFault.{RegisterFault}
use Rattle.register.specs.declared.fault.RegisterFault.TheVariants.{Settings, Channel, Answers}

abbrev pub channel_fault_number : ChannelFault → ℕ
channel_fault_number NotEmpty = 4
channel_fault_number TooFew = 5

abbrev pub fault_number : RegisterFault → ℕ
fault_number (Settings f) = settings_fault_number f
fault_number (Channel f) = channel_fault_number f
fault_number Answers = 6
