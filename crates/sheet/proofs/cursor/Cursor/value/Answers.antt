use Rattle.std.proofs.Common.{pos, arith, rules}
use Rattle.std.specs.Fmt.{signed_decimal}
use Rattle.sheet.proofs.Words.{value, SmallValue}
use Rattle.sheet.proofs.Fields.{stepped}
use Rattle.sheet.proofs.cursor.Cursor.value.Goals as goal

pub returns : goal.returns
returns c =
    stepped c.args.self.now.rest.now c.args.self.now.line c.field.new.self.rest.now c.field.new.self.line value signed_decimal c.args.separator SmallValue (pos 0) (omega arith) (λ w r h. search rules)
    c.field.result c.field.ensures
