-- Five words are matched one by one: those that name two layers, and any others.
use Rattle.std.proofs.Common.{List, [], ℕ, Bor, rules, refl, get_or}
use Rattle.rehearse.proofs.FiveWords.{five, another_below}
use Rattle.rehearse.proofs.words.chosen.Goals as goal

pub returns-in_ok-ok-in-delay-3-2 : goal.returns-in_ok-ok-in-delay-3-2
returns-in_ok-ok-in-delay-3-2 c =
    let d : Bor (List ℕ) = record { ref_ptr = (0, 0); now = [] } in
    let ws = c.args.words.now in
    let e = five d ws c.in-delay-3.len_at_least c.in-delay-3.len_below in
    ((get_or ws 1 d).now, (get_or ws 3 d).now, rw (e, c.in-delay-3.is-delay, c.in-delay-3.is-delay', c.in-delay-3.is-queue) refl, search rules, search rules)

pub returns-in_default-7 : goal.returns-in_default-7
returns-in_default-7 c =
    let d : Bor (List ℕ) = record { ref_ptr = (0, 0); now = [] } in
    let ws = c.args.words.now in
    let e = five d ws c.in_default.len_at_least c.in_default.len_below in
    rw e (another_below (get_or ws 0 d).now (get_or ws 1 d).now (get_or ws 2 d).now (get_or ws 3 d).now (get_or ws 4 d).now (search rules))
