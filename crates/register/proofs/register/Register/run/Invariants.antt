use Rattle.std.proofs.Common.{take}
use Rattle.register.specs.World.{world}
use Rattle.register.proofs.Runs.{FilledBy}
use Rattle.register.proofs.register.Register.run.Given as goal

abbrev pub invariant-loop-i : goal.invariant-loop-i
invariant-loop-i g l =
    let x = g.C.Channel.contents in
    FilledBy (world l.initial.self (x l.initial.c)) (take l.i l.orders) (world l.self (x l.c)) l.i l.initial.answers l.answers
