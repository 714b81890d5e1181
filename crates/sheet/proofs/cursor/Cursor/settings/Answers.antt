-- A fault at one of the five words: those before it were taken, and those behind it may be any, so zeros are taken.
use Rattle.std.proofs.Common.{◌++◌, pos, arith}
use Rattle.std.proofs.lemmas.Result.{err_from_is_err_and}
use Rattle.sheet.proofs.Words.{number_max, number_words, value_words}
use Rattle.sheet.proofs.Walks.{later, longer}
use Rattle.sheet.proofs.cursor.Cursor.settings.Goals as goal

pub returns-in_err-number : goal.returns-in_err-number
returns-in_err-number c =
    let p = err_from_is_err_and c.from_residual.result c.from_residual.ensures.1 in
    let m = c.in_err-number.ensures in
    rw (p.1, p.2)
    (record {
      like = record { replicas = m.like; tolerated = 0; groups = 0; readers = 0; initial = pos 0 };
      fine = record { replicas = m.fine; tolerated = omega arith; groups = omega arith; readers = omega arith; initial = omega arith };
      fault = longer (number_words number_max 32 0 ++ (number_words number_max 32 0 ++ (number_words number_max 32 0 ++ value_words 10 (pos 0)))) m.fault;
    })

pub returns-in_err-number-2 : goal.returns-in_err-number-2
returns-in_err-number-2 c =
    let p = err_from_is_err_and c.from_residual-in_err-number-2.result c.from_residual-in_err-number-2.ensures.1 in
    let a = c.in_ok-number.ensures in
    let m = c.in_err-number-2.ensures in
    rw (p.1, p.2)
    (record {
      like = record { replicas = c.in_ok-number.field-0; tolerated = m.like; groups = 0; readers = 0; initial = pos 0 };
      fine = record { replicas = a.0; tolerated = m.fine; groups = omega arith; readers = omega arith; initial = omega arith };
      fault = later a.1 (longer (number_words number_max 32 0 ++ (number_words number_max 32 0 ++ value_words 10 (pos 0))) m.fault);
    })

pub returns-in_err-number-3 : goal.returns-in_err-number-3
returns-in_err-number-3 c =
    let p = err_from_is_err_and c.from_residual-in_err-number-3.result c.from_residual-in_err-number-3.ensures.1 in
    let a = c.in_ok-number.ensures in
    let b = c.in_ok-number-2.ensures in
    let m = c.in_err-number-3.ensures in
    rw (p.1, p.2)
    (record {
      like = record { replicas = c.in_ok-number.field-0; tolerated = c.in_ok-number-2.field-0; groups = m.like; readers = 0; initial = pos 0 };
      fine = record { replicas = a.0; tolerated = b.0; groups = m.fine; readers = omega arith; initial = omega arith };
      fault = later a.1 (later b.1 (longer (number_words number_max 32 0 ++ value_words 10 (pos 0)) m.fault));
    })

pub returns-in_err-number-4 : goal.returns-in_err-number-4
returns-in_err-number-4 c =
    let p = err_from_is_err_and c.from_residual-in_err-number-4.result c.from_residual-in_err-number-4.ensures.1 in
    let a = c.in_ok-number.ensures in
    let b = c.in_ok-number-2.ensures in
    let d = c.in_ok-number-3.ensures in
    let m = c.in_err-number-4.ensures in
    rw (p.1, p.2)
    (record {
      like = record { replicas = c.in_ok-number.field-0; tolerated = c.in_ok-number-2.field-0; groups = c.in_ok-number-3.field-0; readers = m.like; initial = pos 0 };
      fine = record { replicas = a.0; tolerated = b.0; groups = d.0; readers = m.fine; initial = omega arith };
      fault = later a.1 (later b.1 (later d.1 (longer (value_words 10 (pos 0)) m.fault)));
    })

pub returns-in_err-value : goal.returns-in_err-value
returns-in_err-value c =
    let p = err_from_is_err_and c.from_residual-in_err-value.result c.from_residual-in_err-value.ensures.1 in
    let a = c.in_ok-number.ensures in
    let b = c.in_ok-number-2.ensures in
    let d = c.in_ok-number-3.ensures in
    let e = c.in_ok-number-4.ensures in
    let m = c.in_err-value.ensures in
    rw (p.1, p.2)
    (record {
      like = record { replicas = c.in_ok-number.field-0; tolerated = c.in_ok-number-2.field-0; groups = c.in_ok-number-3.field-0; readers = c.in_ok-number-4.field-0; initial = m.like };
      fine = record { replicas = a.0; tolerated = b.0; groups = d.0; readers = e.0; initial = m.fine };
      fault = later a.1 (later b.1 (later d.1 (later e.1 m.fault)));
    })
