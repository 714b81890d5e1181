use Rattle.std.proofs.Common.{[], arith, rules}
use Rattle.std.proofs.lemmas.Result.{err_from_is_err_and, MatchResult-weaker}
use Rattle.sheet.proofs.Words.{orders_max, number_words, orders_words, shown, wrong}
use Rattle.sheet.proofs.Counting.{miscounted_after}
use Rattle.sheet.proofs.Fields.{counted}
use Rattle.sheet.proofs.Walks.{longer, both}
use Rattle.sheet.proofs.cursor.Cursor.count.Goals as goal

pub returns-in_err-fixed : goal.returns-in_err-fixed
returns-in_err-fixed c =
    let p = err_from_is_err_and c.from_residual.result c.from_residual.ensures.1 in
    let m = c.in_err-fixed.ensures in
    rw (p.1, p.2) (wrong (record { like = 0; fine = (omega arith, omega arith); fault = longer (number_words orders_max 10 0) m.fault }))

pub returns : goal.returns
returns c =
    let t = c.in_ok-fixed.ensures in
    let h = counted c.fixed.new.self.rest.now c.fixed.new.self.line c.field.new.self.rest.now c.field.new.self.line c.args.places (λ w r j. search rules) c.field.result c.field.ensures in
    MatchResult-weaker c.field.result h (λ n k. (k.0, both t.1 k.1))
    (λ y m. miscounted_after orders_words [] c.args.places c.args.self.now.rest.now c.fixed.new.self.rest.now c.args.self.now.line c.fixed.new.self.line (shown y) t.1 m)
