use Rattle.std.proofs.Common.{refl, Ok, Err}
use Rattle.std.proofs.lemmas.Result.{err_from_is_err_and}
use Rattle.sheet.proofs.Words.{shown}
use Rattle.sheet.proofs.Exact.{exactly}
use Rattle.sheet.proofs.Outcomes.{refused_head, refused_fill, refused_behind, given_all}
use Rattle.sheet.proofs.Single.{only}
use Rattle.sheet.proofs.cursor.Cursor.whole.Goals as goal

pub returns-in_err-reading : goal.returns-in_err-reading
returns-in_err-reading c =
    let sheet = c.args.self.now.rest.now in
    let before = c.args.orders.now in
    let f = c.in_err-reading.field-0.0 in
    let p = err_from_is_err_and c.from_residual.result c.from_residual.ensures.1 in
    let o = refused_head sheet before (shown f) (simp c.requires.first at c.in_err-reading.ensures) in
    rw (p.1, p.2) (record { outcome = o; exact = exactly sheet before before (Err f) refl o; only = only sheet before before (Err f) refl o })

pub returns-in_err-fill : goal.returns-in_err-fill
returns-in_err-fill c =
    let sheet = c.args.self.now.rest.now in
    let before = c.args.orders.now in
    let after = c.fill.new.orders in
    let f = c.in_err-fill.field-0.0 in
    let p = err_from_is_err_and c.from_residual-in_err-fill.result c.from_residual-in_err-fill.ensures.1 in
    let g = c.in_ok-reading.reading in
    let o = refused_fill sheet before after g c.head.new.self.rest.now c.head.new.self.line (shown f) c.fill.auto.orders (simp c.requires.first at c.in_ok-reading.ensures) c.in_err-fill.ensures in
    rw (p.1, p.2) (record { outcome = o; exact = exactly sheet before after (Err f) c.fill.auto.orders o; only = only sheet before after (Err f) c.fill.auto.orders o })

pub returns-in_err-finish : goal.returns-in_err-finish
returns-in_err-finish c =
    let sheet = c.args.self.now.rest.now in
    let before = c.args.orders.now in
    let after = c.fill.new.orders in
    let f = c.in_err-finish.field-0.0 in
    let p = err_from_is_err_and c.from_residual-in_err-finish.result c.from_residual-in_err-finish.ensures.1 in
    let g = c.in_ok-reading.reading in
    let e = c.in_err-finish.ensures in
    let o = refused_behind before after g sheet c.head.new.self.rest.now c.fill.new.self.rest.now c.head.new.self.line c.fill.new.self.line (shown f) c.fill.auto.orders (simp c.requires.first at c.in_ok-reading.ensures) c.in_ok-fill.ensures e.0 e.1 in
    rw (p.1, p.2) (record { outcome = o; exact = exactly sheet before after (Err f) c.fill.auto.orders o; only = only sheet before after (Err f) c.fill.auto.orders o })

pub returns : goal.returns
returns c =
    let sheet = c.args.self.now.rest.now in
    let before = c.args.orders.now in
    let after = c.fill.new.orders in
    let g = c.in_ok-reading.reading in
    let o = given_all before after g sheet c.head.new.self.rest.now c.fill.new.self.rest.now c.head.new.self.line c.fill.new.self.line c.fill.auto.orders (simp c.requires.first at c.in_ok-reading.ensures) c.in_ok-fill.ensures c.in_ok-finish.ensures in
    record { outcome = o; exact = exactly sheet before after (Ok g) c.fill.auto.orders o; only = only sheet before after (Ok g) c.fill.auto.orders o }
