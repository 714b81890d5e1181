-- Five words one after another: they fit all, or the first of them that does not is followed by none.
use Rattle.std.proofs.Common.{false, ◌++◌, is_ok, decimal, arith, w32, SFits, rules}
use Rattle.std.specs.Fmt.{signed_decimal}
use Rattle.std.proofs.lemmas.Int.{to_z-of_z}
use Rattle.std.proofs.lemmas.Result.{err_from_is_err_and}
use Rattle.sheet.proofs.Words.{closed}
use Rattle.sheet.proofs.Lines.{then_more, none_more}
use Rattle.sheet.proofs.page.Position.line.Goals as goal

pub returns-in_err-number-2 : goal.returns-in_err-number-2
returns-in_err-number-2 c =
    let p = err_from_is_err_and c.from_residual-in_err-number-2.result c.from_residual-in_err-number-2.ensures.1 in
    let l = c.args.l in
    rw p.1 (then_more c.args.out.now c.number.new.out c.number-2.new.out c.args.self.now.len c.number.new.self.len c.number-2.new.self.len
    (closed (decimal l.code) 32) (closed (decimal l.who) 32 ++ (closed (decimal l.version) 32 ++ (closed (signed_decimal l.value) 32 ++ (closed (decimal l.rounds) 10)))) false (omega arith) c.in_ok-number.ensures
    (none_more c.number.new.out c.number-2.new.out c.number.new.self.len c.number-2.new.self.len c.number-2.new.self.len (closed (decimal l.who) 32) (closed (decimal l.version) 32 ++ (closed (signed_decimal l.value) 32 ++ (closed (decimal l.rounds) 10))) c.in_err-number-2.ensures))

pub returns-in_err-number-3 : goal.returns-in_err-number-3
returns-in_err-number-3 c =
    let p = err_from_is_err_and c.from_residual-in_err-number-3.result c.from_residual-in_err-number-3.ensures.1 in
    let l = c.args.l in
    rw p.1 (then_more c.args.out.now c.number.new.out c.number-3.new.out c.args.self.now.len c.number.new.self.len c.number-3.new.self.len
    (closed (decimal l.code) 32) (closed (decimal l.who) 32 ++ (closed (decimal l.version) 32 ++ (closed (signed_decimal l.value) 32 ++ (closed (decimal l.rounds) 10)))) false (omega arith) c.in_ok-number.ensures
    (then_more c.number.new.out c.number-2.new.out c.number-3.new.out c.number.new.self.len c.number-2.new.self.len c.number-3.new.self.len
    (closed (decimal l.who) 32) (closed (decimal l.version) 32 ++ (closed (signed_decimal l.value) 32 ++ (closed (decimal l.rounds) 10))) false (omega arith) c.in_ok-number-2.ensures
    (none_more c.number-2.new.out c.number-3.new.out c.number-2.new.self.len c.number-3.new.self.len c.number-3.new.self.len (closed (decimal l.version) 32) (closed (signed_decimal l.value) 32 ++ (closed (decimal l.rounds) 10)) c.in_err-number-3.ensures)))

pub returns-in_err-closed : goal.returns-in_err-closed
returns-in_err-closed c =
    let p = err_from_is_err_and c.from_residual-in_err-closed.result c.from_residual-in_err-closed.ensures.1 in
    let l = c.args.l in
    let fit : SFits w32 l.value = search rules in
    rw p.1 (then_more c.args.out.now c.number.new.out c.closed.new.out c.args.self.now.len c.number.new.self.len c.closed.new.self.len
    (closed (decimal l.code) 32) (closed (decimal l.who) 32 ++ (closed (decimal l.version) 32 ++ (closed (signed_decimal l.value) 32 ++ (closed (decimal l.rounds) 10)))) false (omega arith) c.in_ok-number.ensures
    (then_more c.number.new.out c.number-2.new.out c.closed.new.out c.number.new.self.len c.number-2.new.self.len c.closed.new.self.len
    (closed (decimal l.who) 32) (closed (decimal l.version) 32 ++ (closed (signed_decimal l.value) 32 ++ (closed (decimal l.rounds) 10))) false (omega arith) c.in_ok-number-2.ensures
    (then_more c.number-2.new.out c.number-3.new.out c.closed.new.out c.number-2.new.self.len c.number-3.new.self.len c.closed.new.self.len
    (closed (decimal l.version) 32) (closed (signed_decimal l.value) 32 ++ (closed (decimal l.rounds) 10)) false (omega arith) c.in_ok-number-3.ensures
    (none_more c.number-3.new.out c.closed.new.out c.number-3.new.self.len c.closed.new.self.len c.closed.new.self.len (closed (signed_decimal l.value) 32) (closed (decimal l.rounds) 10) (simp to_z-of_z at c.in_err-closed.ensures)))))

pub returns : goal.returns
returns c =
    let l = c.args.l in
    let fit : SFits w32 l.value = search rules in
    then_more c.args.out.now c.number.new.out c.number-4.new.out c.args.self.now.len c.number.new.self.len c.number-4.new.self.len
    (closed (decimal l.code) 32) (closed (decimal l.who) 32 ++ (closed (decimal l.version) 32 ++ (closed (signed_decimal l.value) 32 ++ (closed (decimal l.rounds) 10)))) (is_ok c.number-4.result) (omega arith) c.in_ok-number.ensures
    (then_more c.number.new.out c.number-2.new.out c.number-4.new.out c.number.new.self.len c.number-2.new.self.len c.number-4.new.self.len
    (closed (decimal l.who) 32) (closed (decimal l.version) 32 ++ (closed (signed_decimal l.value) 32 ++ (closed (decimal l.rounds) 10))) (is_ok c.number-4.result) (omega arith) c.in_ok-number-2.ensures
    (then_more c.number-2.new.out c.number-3.new.out c.number-4.new.out c.number-2.new.self.len c.number-3.new.self.len c.number-4.new.self.len
    (closed (decimal l.version) 32) (closed (signed_decimal l.value) 32 ++ (closed (decimal l.rounds) 10)) (is_ok c.number-4.result) (omega arith) c.in_ok-number-3.ensures
    (then_more c.number-3.new.out c.closed.new.out c.number-4.new.out c.number-3.new.self.len c.closed.new.self.len c.number-4.new.self.len
    (closed (signed_decimal l.value) 32) (closed (decimal l.rounds) 10) (is_ok c.number-4.result) (omega arith) (simp to_z-of_z at c.in_ok-closed.ensures)
    (c.number-4.ensures))))
