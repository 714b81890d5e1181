-- A fault at the word of the kind is one in the line of some order of that kind.
use Rattle.std.proofs.Common.{List, sym, subst}
use Rattle.std.proofs.lemmas.Result.{err_from_is_err_and, MatchResult-weaker}
use Rattle.sheet.proofs.Words.{Placed, about_words, Fault, shown, Took}
use Rattle.sheet.proofs.OrderLines.{sample, sample_fits, line_of_kind}
use Rattle.sheet.proofs.Walks.{later, longer, both}
use Rattle.sheet.proofs.cursor.Cursor.order.Goals as goal

pub returns-in_err-kind : goal.returns-in_err-kind
returns-in_err-kind c =
    let p = err_from_is_err_and c.from_residual.result c.from_residual.ensures.1 in
    let m = c.in_err-kind.ensures in
    let s = sample_fits m.like in
    let P : List Placed → Type 0 = λ ps. Fault ps c.args.self.now.rest.now c.args.self.now.line (shown c.in_err-kind.field-0.0) in
    rw (p.1, p.2) (record { like = sample m.like; fine = s.fine; fault = subst P (sym (line_of_kind m.like (sample m.like) s)) (longer (about_words (sample m.like)) m.fault) })

pub returns : goal.returns
returns c =
    let t = c.in_ok-kind.ensures in
    let k = c.in_ok-kind.kind in
    let P : List Placed → Type 0 = λ ps. Took ps c.args.self.now.rest.now c.args.self.now.line c.order_of.new.self.rest.now c.order_of.new.self.line in
    MatchResult-weaker c.order_of.result c.order_of.ensures (λ o h. (h.0.fine, subst P (sym (line_of_kind k o h.0)) (both t.1 h.1)))
    (λ y m.
    let Q : List Placed → Type 0 = λ ps. Fault ps c.args.self.now.rest.now c.args.self.now.line (shown y) in
    record { like = m.like; fine = m.fine.fine; fault = subst Q (sym (line_of_kind k m.like m.fine)) (later t.1 m.fault) })
