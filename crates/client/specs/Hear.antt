-- A reply at its client.
use Rattle.std.specs.Prelude.{ℕ, ◌+◌, ◌-◌, ◌*◌, Bool, false, cond, ◌&&◌, take, ℤ, ◌==◌, nat_le}
use Rattle.wire.specs.declared.message.Message.{Message}
use Rattle.orders.specs.declared.answer.Answer.{Answer}
use Rattle.orders.specs.declared.answer.Answer.TheVariants.{Ignored, Counted, Ended, BecameDue}
use Rattle.quorum.specs.declared.decide.Verdict.{Verdict}
use Rattle.quorum.specs.declared.decide.Verdict.TheVariants.{Highest, Due as Delayed, Previous}
use Rattle.quorum.specs.declared.decide.Decided.{Decided}
use Rattle.quorum.specs.Tally.{adds}
use Rattle.quorum.specs.Slip.{receipt_of, reading_of}
use Rattle.quorum.specs.Replies.{with_receipt, with_reading}
use Rattle.quorum.specs.Decide.{decided}
use Rattle.settings.specs.declared.checked.Checked.{Checked}
use Rattle.client.specs.declared.client.Phase.{Phase}
use Rattle.client.specs.declared.client.Phase.TheVariants.{Idle, Writing, Asking, Due, Telling}
use Rattle.client.specs.declared.client.Client.{Client}
use Rattle.client.specs.Client.{in_phase}

-- the kind of reply that a phase awaits; 0 for none
abbrev pub awaited : Phase → ℕ
awaited Idle = 0
awaited (Writing rs) = 4
awaited (Asking rs) = 5
awaited Due = 0
awaited (Telling rs) = 6

-- the reply's replica has not been counted
abbrev pub uncounted : Phase → Message → Bool
uncounted Idle m = false
uncounted (Writing rs) m = adds (λ x. x.replica) rs.slips rs.got (receipt_of m)
uncounted (Asking rs) m = adds (λ x. x.replica) rs.slips rs.got (reading_of m)
uncounted Due m = false
uncounted (Telling rs) m = adds (λ x. x.replica) rs.slips rs.got (receipt_of m)

-- A reply counts if its client awaits that kind in that round and its replica has not been counted.
abbrev pub counts : Client → Message → Bool
counts c m = m.round == c.round && (m.kind == awaited c.phase && uncounted c.phase m)

-- with the reply counted
abbrev pub joined : Phase → Message → Phase
joined Idle m = Idle
joined (Writing rs) m = Writing (with_receipt rs (receipt_of m))
joined (Asking rs) m = Asking (with_reading rs (reading_of m))
joined Due m = Due
joined (Telling rs) m = Telling (with_receipt rs (receipt_of m))

-- how many replies are counted
abbrev pub tallied : Phase → ℕ
tallied (Writing rs) = rs.got
tallied (Asking rs) = rs.got
tallied (Telling rs) = rs.got
tallied _ = 0

-- how many complete the round: S - t for a write or a read, 2t + 1 for a tell
abbrev pub quorum_of : Checked → Phase → ℕ
quorum_of k (Writing rs) = k.replicas - k.tolerated
quorum_of k (Asking rs) = k.replicas - k.tolerated
quorum_of k (Telling rs) = 2 * k.tolerated + 1
quorum_of k _ = 0

-- a client that knows what a first round decided
abbrev pub knowing : Client → Decided → Phase → Client
knowing c d p = record c { version = d.version; value = d.value; previous = d.previous; phase = p }

abbrev pub phase_by : Verdict → Phase
phase_by Highest = Idle
phase_by Delayed = Due
phase_by Previous = Idle

-- the client after its round is complete
abbrev pub completed_in : Checked → Client → Phase → Client
completed_in k c (Writing rs) = in_phase c Idle
completed_in k c (Asking rs) = let d = decided k (take rs.got rs.slips) in knowing c d (phase_by d.verdict)
completed_in k c (Telling rs) = in_phase c Idle
completed_in k c _ = c

abbrev pub completed : Checked → Client → Client
completed k c = completed_in k c c.phase

-- an ended call shows a version with its value, and says how many rounds it took
abbrev pub ended_as : ℕ → ℕ → ℤ → ℕ → Answer
ended_as who v z n = Ended (record { client = who; version = v; value = z; rounds = n })

-- what a first round's decision answers
abbrev pub shown_by : Verdict → ℕ → Decided → Answer
shown_by Highest who d = ended_as who d.version d.value 1
shown_by Delayed who d = BecameDue who
shown_by Previous who d = ended_as who (d.version - 1) d.previous 1

-- what is answered when a round is complete
abbrev pub completion_in : Checked → ℕ → Client → Phase → Answer
completion_in k who c (Writing rs) = ended_as who c.version c.value 1
completion_in k who c (Asking rs) = let d = decided k (take rs.got rs.slips) in shown_by d.verdict who d
completion_in k who c (Telling rs) = ended_as who c.version c.value 2
completion_in k who c _ = Ignored who

abbrev pub completion : Checked → ℕ → Client → Answer
completion k who c = completion_in k who c c.phase

-- the round is complete
abbrev pub is_complete : Checked → Phase → Bool
is_complete k p = nat_le (quorum_of k p) (tallied p)

-- the client after a reply
abbrev pub heard : Checked → Client → Message → Client
heard k c m =
    let d = in_phase c (joined c.phase m) in
    cond (counts c m) (cond (is_complete k d.phase) (completed k d) d) c

-- what the reply answers
abbrev pub heard_answer : Checked → Client → Message → Answer
heard_answer k c m =
    let d = in_phase c (joined c.phase m) in
    cond (counts c m) (cond (is_complete k d.phase) (completion k m.client d) (Counted m.client)) (Ignored m.client)
