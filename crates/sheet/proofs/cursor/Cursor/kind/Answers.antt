-- A fault where no kind is known is one at the word of any kind; carry is taken.
use Rattle.std.proofs.lemmas.Result.{err_from_is_err_and}
use Rattle.sheet.specs.declared.kind.Kind.TheVariants.{Carry}
use Rattle.sheet.proofs.Words.{placed, kind, shown}
use Rattle.sheet.specs.Kind.{word_for, separator_for}
use Rattle.sheet.proofs.Walks.{missed_ended, missed_unfit, missed_unclosed}
use Rattle.sheet.proofs.cursor.Cursor.kind.Goals as goal

pub returns-in_err-word : goal.returns-in_err-word
returns-in_err-word c =
    let p = err_from_is_err_and c.from_residual.result c.from_residual.ensures.1 in
    let e = c.in_err-word.ensures in
    rw (p.1, p.2)
    (record { like = Carry; fine = tt; fault = missed_ended (placed kind (word_for Carry) 10) c.args.self.now.rest.now c.args.self.now.line (shown c.in_err-word.field-0.0) e.0 e.1 })

pub returns-in_err-kind : goal.returns-in_err-kind
returns-in_err-kind c =
    let p = err_from_is_err_and c.from_residual-in_err-kind.result c.from_residual-in_err-kind.ensures.1 in
    let w = c.in_ok-word.ensures in
    rw (p.1, p.2)
    (record {
      like = Carry;
      fine = tt;
      fault =
          missed_unfit (placed kind (word_for Carry) 10) c.args.self.now.rest.now c.in_ok-word.word.now c.args.self.now.line (shown c.in_err-kind.field-0.0)
          w.0 w.1 c.in_err-kind.ensures;
    })

pub returns-in_err-close : goal.returns-in_err-close
returns-in_err-close c =
    let p = err_from_is_err_and c.from_residual-in_err-close.result c.from_residual-in_err-close.ensures.1 in
    let k = c.in_ok-kind.kind in
    rw (p.1, p.2)
    (record {
      like = k;
      fine = tt;
      fault =
          missed_unclosed (placed kind (word_for k) (separator_for k)) c.args.self.now.rest.now c.in_ok-word.word.now c.args.self.now.line (shown c.in_err-close.field-0.0)
          c.in_ok-kind.ensures (simp c.separator.ensures at c.in_err-close.ensures);
    })
