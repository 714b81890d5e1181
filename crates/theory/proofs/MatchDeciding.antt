-- Deciding a read: what it means that the model decides from the slips as the rules do from the readings. It ends in `AllJudged`.
use Rattle.std.proofs.Common.{◌≡◌, ◌-◌, ◌<◌, true, false, List, length}
use Rattle.std.specs.List.{Contains}
use Rattle.theory.proofs.Words.{Reading, Highest, Previous, Checked}
use Rattle.quorum.specs.declared.decide.Verdict.{Verdict}
use Rattle.quorum.specs.declared.decide.Verdict.TheVariants.{Due}
use Rattle.quorum.specs.declared.decide.Decided.{Decided}
use Rattle.quorum.specs.Decide.{decided}
use Rattle.theory.proofs.Cards.{Params, Slip, highest, Decision}
use Rattle.theory.proofs.Matching.{params_of, ReadingsAre}

-- the model decides as the verdict says
abbrev pub VerdictFits : Params → List Slip → Verdict → Type 0
VerdictFits g ss Highest = Decision g ss (highest ss) false
VerdictFits g ss Due = Decision g ss (highest ss) true
VerdictFits g ss Previous = (0 < highest ss) × Decision g ss (highest ss - 1) false

abbrev pub judgement : Checked → List Reading → Decided
judgement k xs = decided k xs

-- what the readings decide, as the model has it from the slips
pub record Judged (k : Checked) (xs : List Reading) (ss : List Slip) : Type 0 where
  pub version : (judgement k xs).version ≡ highest ss
  pub best : Slip
  pub has : Contains ss best
  pub top : best.card.version ≡ highest ss
  pub value : (judgement k xs).value ≡ best.card.value
  pub previous : (judgement k xs).previous ≡ best.card.previous
  pub verdict : VerdictFits (params_of k) ss (judgement k xs).verdict

-- every first round with a reply is judged so
abbrev pub AllJudged : Type 0
AllJudged = (k : Checked) (xs : List Reading) (ss : List Slip) → ReadingsAre xs ss → 0 < length xs → Judged k xs ss
