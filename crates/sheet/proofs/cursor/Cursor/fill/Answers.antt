use Rattle.std.proofs.Common.{◌≡◌, length, take, pos, arith}
use Rattle.std.proofs.lemmas.List.{set-get_or, length-take-le}
use Rattle.std.proofs.lemmas.Result.{err_from_is_err_and}
use Rattle.sheet.proofs.Words.{Write, shown}
use Rattle.sheet.proofs.Filling.{filled_more, stopped}
use Rattle.sheet.proofs.cursor.Cursor.fill.Goals as goal

pub returns-in_err-place : goal.returns-in_err-place
returns-in_err-place c =
    let p = err_from_is_err_and c.from_residual.result c.from_residual.ensures.1 in
    let l = c.loop-place in
    let n : length (take c.args.count c.args.orders.now) ≡ c.args.count = length-take-le c.args.count c.args.orders.now c.requires.room in
    rw (p.1, p.2, set-get_or l.place-items l.place-index (Write (pos 0)))
    (stopped l.place-index c.args.count c.args.self.now.rest.now c.args.self.now.line c.args.orders.now l.place-items l.self.rest.now l.self.line (shown c.in_err-place.field-0.0)
    (omega arith) c.requires.room (omega arith) l.invariant c.in_err-place.ensures)

pub loop-place-preserved : goal.loop-place-preserved
loop-place-preserved c =
    let t = c.in_ok-place.ensures in
    filled_more c.loop-place.place-index c.args.self.now.rest.now c.args.self.now.line (take c.args.count c.args.orders.now) c.loop-place.place-items c.loop-place.self.rest.now c.order.new.self.rest.now
    c.loop-place.self.line c.order.new.self.line c.in_ok-place.field-0 (omega arith) c.loop-place.invariant t.0 t.1
