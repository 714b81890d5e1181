use Rattle.std.proofs.Common.{replicate}
use Rattle.orders.specs.declared.order.Order.TheVariants.{Carry}
use Rattle.register.specs.World.{world}
use Rattle.register.proofs.Runs.{FilledBy}
use Rattle.register.proofs.register.Register.settle.Given as goal

abbrev pub invariant-loop-n : goal.invariant-loop-n
invariant-loop-n g l =
    let x = g.C.Channel.contents in
    FilledBy (world l.initial.self (x l.initial.c)) (replicate l.n Carry) (world l.self (x l.c)) l.n l.initial.answers l.answers
