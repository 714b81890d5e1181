-- Constructors that differ, and what follows from taking them for one: ends in `awaiting_not_idle`.
use Rattle.std.proofs.Common.{◌≡◌, List, arith}
use Rattle.theory.proofs.Cards.{Slip}
use Rattle.theory.proofs.Model.{Kind, writes, reads, tells, idle, due, awaiting}

pub reads_not_writes : reads ≡ writes → ⊥
reads_not_writes e = grind arith

pub tells_not_writes : tells ≡ writes → ⊥
tells_not_writes e = grind arith

pub due_not_idle : due ≡ idle → ⊥
due_not_idle e = grind arith

pub awaiting_not_due : {k : Kind} {ss : List Slip} → awaiting k ss ≡ due → ⊥
awaiting_not_due e = grind arith

pub awaiting_not_idle : {k : Kind} {ss : List Slip} → awaiting k ss ≡ idle → ⊥
awaiting_not_idle e = grind arith
