use Rattle.std.proofs.Common.{arith}
use Rattle.std.proofs.lemmas.Result.{MatchResult-weaker}
use Rattle.sheet.proofs.Words.{unbounded}
use Rattle.sheet.proofs.Numbers.{counts, excess}
use Rattle.sheet.proofs.number.number_in.Goals as goal

pub returns-in-Digits : goal.returns-in-Digits
returns-in-Digits c =
    let d = c.in-Digits.digits.now in
    MatchResult-weaker c.bounded.result c.bounded.ensures (λ n h. counts d c.args.word.now c.args.limit n (omega arith) c.in-Digits.ensures h.0 h.1)
    (λ f h. unbounded (excess d c.args.word.now c.args.limit c.in-Digits.ensures h.0) h.1)
