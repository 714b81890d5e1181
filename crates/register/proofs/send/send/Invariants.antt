use Rattle.wire.specs.Channel.{Sends}
use Rattle.register.specs.Send.{copies}
use Rattle.register.proofs.send.send.Given as goal

abbrev pub invariant-loop-i : goal.invariant-loop-i
invariant-loop-i g l = Sends (copies l.m l.i) (g.C.Channel.contents l.initial.c) (g.C.Channel.contents l.c)
