-- Two stores side by side, as lists with the same elements: what one takes in or gives, both do.
use Rattle.std.proofs.Common.{◌≡◌, ℕ, ◌+◌, ◌-◌, ◌≤◌, List, [], ◌∷◌, ◌++◌, length, Some, None, Ok, Err, Option, Result, slice_get, OnSome, IfNone, IsOk, OnOk, OnErr, ap, refl, arith}
use Rattle.std.specs.Prelude.{◌↔◌, ◌<◌}
use Rattle.std.specs.List.{remove}
use Rattle.std.specs.List.Sorted.{IsPermutation}
use Rattle.std.proofs.lemmas.List.{length-append, nil_from_length}
use Rattle.std.proofs.lemmas.List.Sorted.{IsPermutation-append, IsPermutation-append_left, IsPermutation-to_front, IsPermutation-middle, IsPermutation-trans, length_permutation}
use Rattle.wire.specs.declared.message.Message.{Message}
use Rattle.wire.specs.Channel.{Put, Taken}
use Rattle.channels.specs.Sizes.{pocket_max}
use Rattle.channels.specs.Queue.{Oldest}
use Rattle.channels.specs.Pocket.{Kept}

module _ {X : Type 0} where
  -- of two parts, one holds the same and the other one more at its end
  pub put_beside : (xs xs' ys : List X) (m : X) → IsPermutation xs' xs → IsPermutation (xs' ++ (ys ++ m ∷ [])) (m ∷ (xs ++ ys))
  put_beside xs xs' ys m h = IsPermutation-trans _ _ _ (IsPermutation-append _ _ _ _ h (IsPermutation-to_front ys m)) (IsPermutation-middle xs m ys)

  pub nil_from_shuffled : (xs : List X) → IsPermutation xs [] → xs ≡ []
  nil_from_shuffled xs h = nil_from_length xs (omega (arith, length_permutation xs [] h))

-- nothing fits below: what a pocket does with a message, both do
pub keep_beside : {U F : Type 0} (below below' : List Message) (v v' : Kept) (m : Message) (room left : ℕ) (r : Result U F) → IsPermutation below' below × (room ≡ 0) × (left ≡ 0)
    → (IsOk r ↔ (length v.items < pocket_max)) → OnOk r (v'.items ≡ v.items ++ m ∷ []) → OnErr r (v' ≡ v) → OnErr r (length v.items ≡ pocket_max)
    → Put (record { waiting = below ++ v.items; free = room + (pocket_max - length v.items) }) m (record { waiting = below' ++ v'.items; free = left + (pocket_max - length v'.items) }) r
keep_beside below below' v v' m room left (Ok _) (h, y, z) few put same full =
    let lt : length v.items < pocket_max = few.0 refl in
    (rw put (put_beside below below' v.items m h), rw put (omega (arith, length-append v.items (m ∷ []))))
keep_beside below below' v v' m room left (Err _) (h, y, z) few put same full =
    (rw same (IsPermutation-append_left _ _ _ h), omega (arith, full), rw same (omega (arith, full)))

-- what stands first is taken out
pub first_taken : (xs ys : List Message) (r : Option Message) → r ≡ slice_get xs 0 → OnSome r (ys ≡ remove xs 0) → Oldest xs ys r
first_taken [] ys None e s = cc
first_taken [] ys (Some m) e s = cc
first_taken (x ∷ xs) ys None e s = cc
first_taken (x ∷ xs) ys (Some m) e s = cc

-- nothing is left below: what a pocket gives, both give
pub take_beside : (before below below' : List Message) (v v' : Kept) (n n' whole : ℕ) (r : Option Message) → IsPermutation before (below ++ v.items) → n + (pocket_max - length v.items) ≡ whole → (below ≡ []) × (below' ≡ []) × (n' ≡ n) → length v.items ≤ pocket_max → Oldest v.items v'.items r → IfNone r (v' ≡ v)
    → Taken (record { waiting = before; free = whole }) (record { waiting = below' ++ v'.items; free = n' + (pocket_max - length v'.items) }) r
take_beside before below below' v v' n n' whole None h w (e, f, k) few o same =
    (nil_from_shuffled before (rw (e, o) at h), rw (f, same, o), rw same (omega (arith, w, k)))
take_beside before below below' v v' n n' whole (Some m) h w (e, f, k) few o same =
    (rw f (rw (e, o) at h), omega (arith, w, k, ap length o))
