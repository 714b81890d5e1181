-- The reply of the lowest replica, as a search from the first reply on finds it. It ends in `lowest_found`.
use Rattle.std.proofs.Common.{◌≡◌, ℕ, Bool, true, cond, ◌&&◌, eqb, ltb, List, [], ◌∷◌, Option, Some, None, unwrap_or, fold, filter, refl, ◌∙◌, inl, inr, arith}
use Rattle.std.proofs.lemmas.Bool.{cases_Bool}
use Rattle.std.specs.List.{best_of}
use Rattle.std.specs.Option.{UnwrapsOrElse}
use Rattle.quorum.specs.declared.slip.Reading.{Reading}
use Rattle.quorum.specs.Slip.{blank_reading}
use Rattle.quorum.specs.Highest.{lowest_at}

-- the reply is of a lower replica than the one found, if any is
abbrev is_lower : Option Reading → Reading → Bool
is_lower None y = true
is_lower (Some x) y = ltb y.replica x.replica

abbrev from_here : ℕ → Option Reading → List Reading → Option Reading
from_here h a xs = fold (λ a y. cond (eqb y.version h && is_lower a y) (Some y) a) a xs

-- the reply of the lowest replica among those at version h, the first of equals; none for none
abbrev pub lowest_in : ℕ → List Reading → Option Reading
lowest_in h xs = from_here h None xs

abbrev at : ℕ → Reading → Bool
at h s = eqb s.version h

best_found : (h : ℕ) (x : Reading) (xs : List Reading) → from_here h (Some x) xs ≡ Some (best_of (λ y z. ltb y.replica z.replica) x (filter (at h) xs))
best_found h x [] = refl
best_found h x (y ∷ ys) =
    elim (cases_Bool (at h y)) [
      | inl e ↦ elim (cases_Bool (ltb y.replica x.replica)) [
        | inl f ↦ let r = best_found h y ys in grind arith
        | inr f ↦ let r = best_found h x ys in grind arith
      ]
      | inr e ↦ let r = best_found h x ys in grind arith
    ]

pub lowest_or_blank : (h : ℕ) (xs : List Reading) → unwrap_or (lowest_in h xs) blank_reading ≡ lowest_at h xs
lowest_or_blank h [] = refl
lowest_or_blank h (x ∷ xs) =
    elim (cases_Bool (at h x)) [
      | inl e ↦ let r = best_found h x xs in grind arith
      | inr e ↦ let i = lowest_or_blank h xs in grind arith
    ]

-- what is taken of a reply that was found, or else of a blank one
pub lowest_found : (o : Option Reading) (is_blank : Reading → Type 0) (r l : Reading) → unwrap_or o blank_reading ≡ l → UnwrapsOrElse o is_blank r → ((y : Reading) → is_blank y → y ≡ blank_reading) → r ≡ l
lowest_found None b r l e u f = f r u ∙ e
lowest_found (Some x) b r l e u f = u ∙ e
