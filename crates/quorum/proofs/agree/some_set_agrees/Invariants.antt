-- No mask so far of marks in use agrees.
use Rattle.std.proofs.Common.{◌≡◌, ℕ, ◌<◌, false}
use lib.Bits.{bit_and}
use Rattle.quorum.specs.Masks.{mask_agrees}
use Rattle.quorum.proofs.agree.some_set_agrees.Given as goal

abbrev pub invariant-loop-mask : goal.invariant-loop-mask
invariant-loop-mask l =
    (k : ℕ) → k < l.mask → bit_and l.used k ≡ k → mask_agrees l.k.replicas l.k.tolerated l.k.groups l.h l.extra l.slips k ≡ false
