-- One slot more is looked at.
use Rattle.std.proofs.Common.{◌+◌, refl}
use mathlib.Core.Path.{subst⁻¹}
use Rattle.channels.specs.Table.{Found}
use Rattle.channels.proofs.Slotted.{found_more}
use Rattle.channels.proofs.slots.lowest.Goals as goal

pub loop-i-preserved : goal.loop-i-preserved
loop-i-preserved c = subst⁻¹ (λ r. Found c.args.table.now (c.loop-i.i + 1) r) c.better-best.ensures (found_more c.args.table.now c.loop-i.i c.loop-i.best _ refl c.loop-i.invariant)
