use Rattle.sheet.proofs.Numbers.{values_positive, values_negative}
use Rattle.sheet.proofs.number.value_in.Goals as goal

pub returns-in_ok-bounded-in-Digits : goal.returns-in_ok-bounded-in-Digits
returns-in_ok-bounded-in-Digits c = values_positive c.in-Digits.digits.now c.args.word.now c.in_ok-bounded-in-Digits.field-0 c.in-Digits.ensures c.in_ok-bounded-in-Digits.ensures

pub returns-in_ok-bounded-in-Negative : goal.returns-in_ok-bounded-in-Negative
returns-in_ok-bounded-in-Negative c = values_negative c.in-Negative.digits.now c.args.word.now c.in_ok-bounded-in-Negative.field-0 c.in-Negative.ensures c.in_ok-bounded-in-Negative.ensures
