-- The rules that decide a read by the replies of its first round.
use Rattle.std.specs.Prelude.{ℕ, ◌+◌, cond, ◌||◌, List, ◌==◌, nat_le}
use Rattle.settings.specs.declared.checked.Checked.{Checked}
use Rattle.quorum.specs.declared.slip.Reading.{Reading}
use Rattle.quorum.specs.declared.decide.Verdict.{Verdict}
use Rattle.quorum.specs.declared.decide.Verdict.TheVariants.{Highest, Due, Previous}
use Rattle.quorum.specs.declared.decide.Decided.{Decided}
use Rattle.quorum.specs.Highest.{highest_of, notes_at, lowest_at}
use Rattle.quorum.specs.Agree.{agreed}

-- the first rule that fits at version h: version 0 needs no agreement; more than t replies have the note h; a set has
-- more than a marks in common; a set has a marks in common, or some reply has the note h; else h is not shown
abbrev pub verdict_at : Checked → ℕ → List Reading → Verdict
verdict_at k h xs =
    cond (h == 0) Highest
    (cond (nat_le (k.tolerated + 1) (notes_at h xs)) Highest
    (cond (agreed k.replicas k.tolerated k.groups h 1 xs) Highest
    (cond (agreed k.replicas k.tolerated k.groups h 0 xs || nat_le 1 (notes_at h xs)) Due
    Previous)))

-- what the replies decide at version h
unfoldable pub decided_at : Checked → ℕ → List Reading → Decided
decided_at k h xs =
    let shown = lowest_at h xs in
    record { version = h; value = shown.value; previous = shown.previous; verdict = verdict_at k h xs }

-- what the replies of a first round decide: the rules at their highest version
abbrev pub decided : Checked → List Reading → Decided
decided k xs = decided_at k (highest_of xs) xs
