use Rattle.std.proofs.lemmas.Result.{err_from_is_err_and}
use Rattle.sheet.proofs.Words.{refused, unclosed}
use Rattle.sheet.proofs.cursor.Cursor.field.Goals as goal

pub returns-in_err-value : goal.returns-in_err-value
returns-in_err-value g c =
    let p = err_from_is_err_and c.from_residual-in_err-value.result c.from_residual-in_err-value.ensures.1 in
    let w = c.in_ok-word.ensures in
    rw (p.1, p.2) (refused c.in_ok-word.word w.0 w.1 c.in_err-value.ensures)

pub returns-in_err-close : goal.returns-in_err-close
returns-in_err-close g c =
    let p = err_from_is_err_and c.from_residual-in_err-close.result c.from_residual-in_err-close.ensures.1 in
    rw (p.1, p.2) (unclosed c.in_ok-word.word c.in_ok-value.value c.in_ok-word.ensures.0 c.in_ok-value.ensures c.in_err-close.ensures)
