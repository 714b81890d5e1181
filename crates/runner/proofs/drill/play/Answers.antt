use Rattle.std.proofs.lemmas.Result.{err_from_is_err_and}
use Rattle.runner.proofs.Plays.{played}
use Rattle.runner.proofs.drill.play.Goals as goal

pub returns-in_err-written : goal.returns-in_err-written
returns-in_err-written g c =
    let e = err_from_is_err_and c.from_residual-in_err-written.result c.from_residual-in_err-written.ensures.1 in
    rw (e.1, e.2) (record { played = played _ _ _ _ _ _ c.in_ok-_register._register c.requires c.in_ok-_register.ensures.done; short = c.in_err-written.ensures })

pub returns : goal.returns
returns g c =
    record { played = played _ _ _ _ _ _ c.in_ok-_register._register c.requires c.in_ok-_register.ensures.done; written = c.in_ok-written.ensures }
