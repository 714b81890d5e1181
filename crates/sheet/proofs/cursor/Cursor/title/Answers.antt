use Rattle.std.proofs.Common.{codes}
use Rattle.std.proofs.lemmas.Result.{err_from_is_err_and, MatchResult-weaker}
use Rattle.sheet.proofs.Words.{fixed_words}
use Rattle.sheet.proofs.Walks.{later, longer, both}
use Rattle.sheet.proofs.cursor.Cursor.title.Goals as goal

pub returns-in_err-fixed : goal.returns-in_err-fixed
returns-in_err-fixed c =
    let p = err_from_is_err_and c.from_residual.result c.from_residual.ensures.1 in
    let m = c.in_err-fixed.ensures in
    rw (p.1, p.2) (record { like = tt; fine = tt; fault = longer (fixed_words (codes "5") 10) m.fault })

pub returns : goal.returns
returns c =
    let t = c.in_ok-fixed.ensures in
    MatchResult-weaker c.fixed-2.result c.fixed-2.ensures (λ x h. (tt, both t.1 h.1)) (λ y m. record { like = tt; fine = tt; fault = later t.1 m.fault })
