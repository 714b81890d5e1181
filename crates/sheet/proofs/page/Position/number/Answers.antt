use Rattle.std.proofs.Common.{arith}
use Rattle.sheet.proofs.Digits.{one_digit, two_digits}
use Rattle.sheet.proofs.page.Position.number.Goals as goal

pub returns-then-n-lt10 : goal.returns-then-n-lt10
returns-then-n-lt10 c = rw (one_digit c.args.n c.args.separator c.if-n-lt10.true) (simp c.digit.ensures at c.bytes.ensures)

pub returns-then-n-lt100 : goal.returns-then-n-lt100
returns-then-n-lt100 c = rw (two_digits c.args.n c.args.separator (omega arith) c.if-n-lt100.true) (simp (c.digit-then-n-lt100.ensures, c.digit-then-n-lt100-2.ensures) at c.bytes-then-n-lt100.ensures)
