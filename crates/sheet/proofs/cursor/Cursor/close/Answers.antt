use Rattle.std.proofs.Common.{◌≡◌, ◌∷◌, ◌++◌, sym, refl, arith}
use Rattle.std.proofs.lemmas.Grind.{common_steps}
use Rattle.sheet.proofs.Words.{swapped}
use Rattle.sheet.proofs.cursor.Cursor.close.Goals as goal

pub returns-in-Some-2 : goal.returns-in-Some-2
returns-in-Some-2 c =
    let parts : c.args.self.now.rest.now ≡ c.args.word.now ++ (c.in-Some.found.now ∷ c.in-Some.rest.now) = grind (arith, common_steps) in
    swapped c.in-Some.found.now c.in-Some.rest.now parts (sym c.requires.next) (λ e. c.if-found-separator.false e) refl
