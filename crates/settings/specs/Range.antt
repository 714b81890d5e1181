-- The ranges of the numbers of settings, and of values.
use Rattle.std.specs.Prelude.{◌-◌, Bool, ◌&&◌, ℤ, pos, negsuc, int_le, nat_le}
use Rattle.settings.specs.Limits.{replicas_min, replicas_max, tolerated_max, groups_max, readers_max, value_max}
use Rattle.settings.specs.declared.given.Settings.{Settings}

-- S, t, V and R are each within their range
abbrev pub in_ranges : Settings → Bool
in_ranges s =
    nat_le replicas_min s.replicas && (nat_le s.replicas replicas_max
    && (nat_le 1 s.tolerated && (nat_le s.tolerated tolerated_max
    && (nat_le 1 s.groups && (nat_le s.groups groups_max
    && (nat_le 1 s.readers && nat_le s.readers readers_max))))))

-- a value lies between the largest and its negative; negsuc n is - (n + 1)
abbrev pub value_in_range : ℤ → Bool
value_in_range z = int_le (negsuc (value_max - 1)) z && int_le z (pos value_max)
