use Rattle.std.proofs.Common.{◌≤◌, decimal, arith, rules}
use Rattle.sheet.proofs.Words.{number}
use Rattle.sheet.proofs.Fields.{stepped}
use Rattle.sheet.proofs.cursor.Cursor.number.Goals as goal

pub returns : goal.returns
returns c =
    stepped c.args.self.now.rest.now c.args.self.now.line c.field.new.self.rest.now c.field.new.self.line (number c.args.limit) decimal c.args.separator (λ n. n ≤ c.args.limit) 0 (omega arith) (λ w r h. search rules)
    c.field.result c.field.ensures
