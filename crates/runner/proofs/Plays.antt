-- What a session makes of the memory that is lent.
use Rattle.std.proofs.Common.{◌≡◌, ℕ, ◌≤◌, length, take, arith}
use Rattle.std.proofs.lemmas.List.{length-take}
use Rattle.settings.specs.declared.given.Settings.{Settings}
use Rattle.register.specs.declared.register.Register.{Register}
use Rattle.session.specs.Perform.{Done}
use Rattle.wire.specs.Channel.{Contents}
use Rattle.runner.specs.Memory.{Memory}
use Rattle.runner.specs.Drill.{Played}

-- the orders that were taken are as many as were asked for
pub played : (s : Settings) (count : ℕ) (x : Contents) (before : Memory) (y : Contents) (after : Memory) (q : Register) → count ≤ length before.orders
    → Done s x (take count before.orders) before.answers after.answers y q → Played s count x before y after
played s count x before y after q enough done =
    let e : length (take count before.orders) ≡ count = simp length-take (omega arith) in
    record { register = q; session = rw e at done.said; later = rw e at done.later }
