use Rattle.std.proofs.Common.{◌≡◌, ◌-◌, List, length, Option}
use Rattle.std.specs.List.Sorted.{IsPermutation}
use Rattle.wire.specs.declared.message.Message.{Message}
use Rattle.channels.specs.Sizes.{pocket_max}
use Rattle.channels.specs.Delay.{Handed, layered}
use Rattle.channels.proofs.delay.DelayChannel.take.Given as goal

abbrev pub invariant-loop-m : goal.invariant-loop-m
invariant-loop-m g l =
    let now = g.C.Channel.contents l.self.below in
    let was = g.C.Channel.contents l.initial.self.below in
    IsPermutation (layered g.C.Channel.contents l.initial.self).waiting (layered g.C.Channel.contents l.self).waiting
    × ((layered g.C.Channel.contents l.self).free ≡ (layered g.C.Channel.contents l.initial.self).free)
    × ((b' p' : List Message) (r : Option Message) → Handed l.self.replica now.waiting l.self.pocket.items b' p' r → Handed l.initial.self.replica was.waiting l.initial.self.pocket.items b' p' r)
    × (l.self.replica ≡ l.initial.self.replica)

abbrev pub decreases-loop-m : goal.decreases-loop-m
decreases-loop-m g l = pocket_max - length l.self.pocket.items
