-- Which settings pass, and the marks that they give to clients.
use Rattle.std.specs.Prelude.{◌≡◌, ℕ, ◌+◌, ◌*◌, ◌%◌, ◌^◌, cond, not, Some, None, Option, Result, MatchResult, ◌==◌, nat_le}
use Rattle.settings.specs.declared.given.Settings.{Settings}
use Rattle.settings.specs.declared.checked.Checked.{Checked}
use Rattle.settings.specs.declared.fault.SettingsFault.{SettingsFault}
use Rattle.settings.specs.declared.fault.SettingsFault.TheVariants.{Range, Overlap, Initial}
use Rattle.settings.specs.Range.{in_ranges, value_in_range}

-- the first fault that fits, in rising order of the numbers; none where the settings pass
abbrev pub settings_fault : Settings → Option SettingsFault
settings_fault s =
    cond (not (in_ranges s)) (Some Range)
    (cond (nat_le s.replicas ((s.groups + 2) * s.tolerated)) (Some Overlap)
    (cond (not (value_in_range s.initial)) (Some Initial) None))

-- the settings as they were given
abbrev pub given : Checked → Settings
given k =
    record {
      replicas = k.replicas;
      tolerated = k.tolerated;
      groups = k.groups;
      readers = k.readers;
      initial = k.initial;
    }

-- the settings pass as they were given, or fail by their first fault
abbrev pub Passes : Settings → Result Checked SettingsFault → Type 0
Passes s r = MatchResult r (λ k. (settings_fault s ≡ None) × (given k ≡ s)) (λ e. settings_fault s ≡ Some e)

-- The mark of a client: bit 0 for the writer; for reader c, which is in group c mod V, bit 1 + the group.
abbrev pub mark_of : Checked → ℕ → ℕ
mark_of k c = cond (c == 0) 1 (2 ^ (1 + c % k.groups))
