-- Reads are semifast: ends in `semi_fast`.
use Rattle.std.proofs.Common.{arith}
use Rattle.theory.proofs.Lists.{All-weaker}
use Rattle.theory.proofs.History.{done}
use Rattle.theory.proofs.Claims.{SemiFast}
use Rattle.theory.proofs.Invariant.{invariant}

-- A write takes one round, a read one or two, and of two reads of two rounds with one version neither ended before the other began.
pub semi_fast : SemiFast
semi_fast g fit f log b p =
    let u = invariant g fit f log b p in
    record {
      told = All-weaker _ _ (λ d q. q.sets) (done log) u.calls.ended;
      few = All-weaker _ _ (λ d q. q.rounds) (done log) u.calls.ended;
      apart = All-weaker _ _ (λ y q. All-weaker _ _ (λ x r a c e early. absurd (omega (arith, (r early).twice a c))) (done log) q) (done log) u.calls.ordered;
    }
