-- Writing some bytes and then others is writing both; it ends in `then_more` and `none_more`.
use Rattle.std.proofs.Common.{◌≡◌, ℕ, ◌≤◌, Bool, true, false, List, ◌++◌, length, take, sym, ap, ◌∙◌, append_assoc, arith, length-append}
use Rattle.std.proofs.lemmas.List.{take-take, take_at, length-take-le}
use Rattle.sheet.specs.Page.{Put}

take_below : (a b : List ℕ) (p e : ℕ) → p ≤ e → take e a ≡ take e b → take p a ≡ take p b
take_below a b p e h q = sym (take-take p e a h) ∙ ap (take p) q ∙ take-take p e b h

pub then_more : (a b d : List ℕ) (p q s : ℕ) (xs ys : List ℕ) (r : Bool) → length a ≡ length b → Put a p b q xs true → Put b q d s ys r → Put a p d s (xs ++ ys) r
then_more a b d p q s xs ys true l g h =
    (omega (arith, length-append xs ys, g.0, h.0), omega (arith, h.1), h.2 ∙ ap (λ zs. zs ++ ys) g.2 ∙ append_assoc (take p a) xs ys)
then_more a b d p q s xs ys false l g h =
    (omega (arith, length-append xs ys, g.0, h.0), take_below d b p q (omega (arith, g.0)) h.1 ∙ sym (take-take p q b (omega (arith, g.0))) ∙ ap (take p) g.2 ∙ take_at (take p a) xs p (length-take-le p a (omega (arith, g.0, g.1))))

pub none_more : (a b : List ℕ) (p q s : ℕ) (xs ys : List ℕ) → Put a p b q xs false → Put a p b s (xs ++ ys) false
none_more a b p q s xs ys h = (omega (arith, length-append xs ys, h.0), h.1)
