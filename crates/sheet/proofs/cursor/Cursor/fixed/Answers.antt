use Rattle.std.proofs.Common.{rules}
use Rattle.sheet.proofs.Words.{fixed}
use Rattle.sheet.proofs.Fields.{stepped}
use Rattle.sheet.proofs.cursor.Cursor.fixed.Goals as goal

pub returns : goal.returns
returns c =
    stepped c.args.self.now.rest.now c.args.self.now.line c.field.new.self.rest.now c.field.new.self.line (fixed c.args.text.now) (λ _. c.args.text.now) c.args.separator (λ _. Unit {0}) tt tt (λ w r h. search rules)
    c.field.result c.field.ensures
