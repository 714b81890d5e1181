use Rattle.std.proofs.lemmas.Result.{err_from_is_err_and}
use Rattle.sheet.proofs.Words.{shown}
use Rattle.sheet.proofs.Heads.{title_fault, settings_fault, count_fault}
use Rattle.sheet.proofs.cursor.Cursor.head.Goals as goal

pub returns-in_err-title : goal.returns-in_err-title
returns-in_err-title c =
    let p = err_from_is_err_and c.from_residual.result c.from_residual.ensures.1 in
    let m = c.in_err-title.ensures in
    rw (p.1, p.2) (title_fault c.args.places c.args.self.now.rest.now c.args.self.now.line (shown c.in_err-title.field-0.0) m.fault)

pub returns-in_err-settings : goal.returns-in_err-settings
returns-in_err-settings c =
    let p = err_from_is_err_and c.from_residual-in_err-settings.result c.from_residual-in_err-settings.ensures.1 in
    let t = c.in_ok-title.ensures in
    rw (p.1, p.2)
    (settings_fault c.args.places c.args.self.now.rest.now c.title.new.self.rest.now c.args.self.now.line c.title.new.self.line (shown c.in_err-settings.field-0.0) t.1 c.in_err-settings.ensures)

pub returns-in_err-count : goal.returns-in_err-count
returns-in_err-count c =
    let p = err_from_is_err_and c.from_residual-in_err-count.result c.from_residual-in_err-count.ensures.1 in
    let t = c.in_ok-title.ensures in
    let s = c.in_ok-settings.ensures in
    rw (p.1, p.2)
    (count_fault c.args.places c.in_ok-settings.settings c.args.self.now.rest.now c.title.new.self.rest.now c.settings.new.self.rest.now
    c.args.self.now.line c.title.new.self.line c.settings.new.self.line (shown c.in_err-count.field-0.0) t.1 s.0 s.1 c.in_err-count.ensures)
