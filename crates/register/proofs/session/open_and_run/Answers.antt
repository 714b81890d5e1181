use Rattle.std.proofs.Common.{rules}
use Rattle.register.proofs.Runs.{session_ran}
use Rattle.register.proofs.session.open_and_run.Goals as goal

pub returns-clause-done : goal.returns-clause-done
returns-clause-done g c =
    let h = c.in_ok-settings.ensures in
    let s = session_ran _ c.in_ok-settings.settings _ _ _ _ _ _ c.make-register.ensures h.fault h.given c.in_ok-run.ensures in
    search rules
