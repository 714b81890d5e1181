-- What it is to fail by a fault, and the number of each fault of settings.
use Rattle.std.specs.Prelude.{◌≡◌, ℕ, Some, None, Option, Result, MatchResult}
use Rattle.settings.specs.declared.fault.SettingsFault.{SettingsFault}
use Rattle.settings.specs.declared.fault.SettingsFault.TheVariants.{Range, Overlap, Initial}

-- a result fails by the first fault that fits, and only by one
abbrev pub FailsBy : {A E : Type 0} → Result A E → Option E → Type 0
FailsBy r fault = MatchResult r (λ _. fault ≡ None) (λ e. fault ≡ Some e)

abbrev pub settings_fault_number : SettingsFault → ℕ
settings_fault_number Range = 1
settings_fault_number Overlap = 2
settings_fault_number Initial = 3
