use Rattle.std.proofs.Common.{ℕ, Bool, ◌||◌, eqb, refl, arith, rules, tests}
use Rattle.std.specs.List.{prefix_len}
use Rattle.std.proofs.lemmas.Bool.Decides.{nat_tests}
use Rattle.std.proofs.lemmas.Iterator.{YieldsList-from_slice}
use Rattle.std.proofs.lemmas.Iterator.Search.{position_from_yields_List}
use Rattle.std.proofs.lemmas.List.Sums.{prefix_len-le-length}
use Rattle.std.proofs.lemmas.List.Recursion.{is_position_or_len}
use Rattle.sheet.proofs.Words.{in_word}
use Rattle.sheet.proofs.word.word_len.Goals as goal

abbrev ends : ℕ → Bool
ends b = eqb b 32 || eqb b 10

pub returns : goal.returns
returns c =
    let found = position_from_yields_List ends _ _ c.position.result c.position.ensures.ran (YieldsList-from_slice c.args.rest.now cc) (λ x b q k. search (rules, tests)) in
    let same = is_position_or_len (prefix_len in_word) ends refl (λ x xs. grind (arith, nat_tests)) c.args.rest.now in
    grind (arith, nat_tests, prefix_len-le-length)
