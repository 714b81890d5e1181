-- Five words.
use Rattle.std.proofs.Common.{◌≡◌, ◌≢◌, ◌≤◌, ◌<◌, ℕ, List, [], ◌∷◌, map, length, get_or, Bor, refl, codes, arith}
use Rattle.runner.specs.declared.choice.Choice.{Choice}
use Rattle.runner.specs.declared.choice.Choice.TheVariants.{Queue, Slots, DelayQueue, DelaySlots, DelayTwice}
use Rattle.rehearse.specs.Words.{Names}

-- they are the list of themselves
pub five : (d : Bor (List ℕ)) (ws : List (Bor (List ℕ))) → 5 ≤ length ws → length ws < 6
    → map (λ w. w.now) ws ≡ (get_or ws 0 d).now ∷ (get_or ws 1 d).now ∷ (get_or ws 2 d).now ∷ (get_or ws 3 d).now ∷ (get_or ws 4 d).now ∷ []
five d [] m l = absurd (omega arith)
five d (a ∷ []) m l = absurd (omega arith)
five d (a ∷ b ∷ []) m l = absurd (omega arith)
five d (a ∷ b ∷ e ∷ []) m l = absurd (omega arith)
five d (a ∷ b ∷ e ∷ f ∷ []) m l = absurd (omega arith)
five d (a ∷ b ∷ e ∷ f ∷ g ∷ []) m l = refl
five d (a ∷ b ∷ e ∷ f ∷ g ∷ h ∷ t) m l = absurd (omega arith)

-- they name no form unless the last is queue
pub another_below : (a b e f g : List ℕ) → g ≢ codes "queue" → (x : Choice) → Names (a ∷ b ∷ e ∷ f ∷ g ∷ []) x → ⊥
another_below a b e f g other Queue h = cc
another_below a b e f g other Slots h = cc
another_below a b e f g other (DelayQueue n) h = let p = h.1 in cc
another_below a b e f g other (DelaySlots n) h = let p = h.1 in cc
another_below a b e f g other (DelayTwice n m) h = let p = h.2 in other cc
