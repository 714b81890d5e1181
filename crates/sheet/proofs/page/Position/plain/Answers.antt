use Rattle.std.proofs.Common.{false, ◌++◌, is_ok, decimal, arith}
use Rattle.std.proofs.lemmas.Result.{err_from_is_err_and}
use Rattle.sheet.specs.Listing.{end_of, plain_answer}
use Rattle.sheet.proofs.Words.{closed}
use Rattle.sheet.proofs.Digits.{short_who, long_who, no_more}
use Rattle.sheet.proofs.Lines.{then_more, none_more}
use Rattle.sheet.proofs.page.Position.plain.Goals as goal

pub returns-then-who-lt10 : goal.returns-then-who-lt10
returns-then-who-lt10 c =
    rw (short_who c.args.code c.args.who c.if-code-ge100.true c.if-code-lt110.true c.if-who-lt10.true)
    (simp (c.digit-last.ensures, c.digit-one.ensures) at c.bytes.ensures)

pub returns-then-who-lt100 : goal.returns-then-who-lt100
returns-then-who-lt100 c =
    rw (long_who c.args.code c.args.who c.if-code-ge100.true c.if-code-lt110.true (omega arith) c.if-who-lt100.true)
    (simp (c.digit-last.ensures, c.digit-ten.ensures, c.digit-one-then-who-lt100.ensures) at c.bytes-then-who-lt100.ensures)

pub returns-in_err-number-2 : goal.returns-in_err-number-2
returns-in_err-number-2 c =
    let p = err_from_is_err_and c.from_residual-in_err-number-2.result c.from_residual-in_err-number-2.ensures.1 in
    let l = plain_answer c.args.code c.args.who in
    rw p.1 (then_more c.args.out.now c.number.new.out c.number-2.new.out c.args.self.now.len c.number.new.self.len c.number-2.new.self.len
    (closed (decimal l.code) 32) (closed (decimal l.who) 32 ++ end_of l) false (omega arith) c.in_ok-number.ensures
    (none_more c.number.new.out c.number-2.new.out c.number.new.self.len c.number-2.new.self.len c.number-2.new.self.len (closed (decimal l.who) 32) (end_of l) c.in_err-number-2.ensures))

pub returns : goal.returns
returns c =
    let l = plain_answer c.args.code c.args.who in
    then_more c.args.out.now c.number.new.out c.bytes-2.new.out c.args.self.now.len c.number.new.self.len c.bytes-2.new.self.len
    (closed (decimal l.code) 32) (closed (decimal l.who) 32 ++ end_of l) (is_ok c.bytes-2.result) (omega arith) c.in_ok-number.ensures
    (then_more c.number.new.out c.number-2.new.out c.bytes-2.new.out c.number.new.self.len c.number-2.new.self.len c.bytes-2.new.self.len
    (closed (decimal l.who) 32) (end_of l) (is_ok c.bytes-2.result) (omega arith) c.in_ok-number-2.ensures
    (rw (no_more c.args.code c.args.who) c.bytes-2.ensures))
