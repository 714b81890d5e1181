-- Sets of messages: how long, and one message more.
use Rattle.std.proofs.Common.{◌≡◌, ℕ, zero, suc, ◌+◌, [], ◌∷◌, ◌++◌, length, refl, append_assoc, add-one, arith}
use Rattle.std.proofs.lemmas.List.{length_push}
use Rattle.std.specs.List.Sorted.{IsPermutation}
use Rattle.std.proofs.lemmas.List.Sorted.{IsPermutation-cons, IsPermutation-trans, IsPermutation-sym, IsPermutation-middle}
use Rattle.wire.specs.declared.message.Message.{Message}
use Rattle.wire.specs.Channel.{Contents, Sends}
use Rattle.register.specs.Send.{copies, toward}

pub length_copies : (m : Message) (n : ℕ) → length (copies m n) ≡ n
length_copies m zero = refl
length_copies m (suc n) = omega (arith, length_push (copies m n) (toward m n), length_copies m n)

pub copies_more : (m : Message) (n : ℕ) → copies m (n + 1) ≡ copies m n ++ (toward m n ∷ [])
copies_more m n = rw add-one

pub one_more : (m x : Message) (n : ℕ) (first before after : Contents) → x ≡ toward m n → Sends (copies m n) first before → IsPermutation after.waiting (x ∷ before.waiting) × (before.free ≡ after.free + 1)
    → Sends (copies m (n + 1)) first after
one_more m x n first before after e (had, some) (put, one) =
    let long : length (copies m n ++ (toward m n ∷ [])) ≡ length (copies m n) + 1 = length_push (copies m n) (toward m n) in
    rw (copies_more m n) (
      rw (append_assoc (copies m n) (toward m n ∷ []) first.waiting)
          (IsPermutation-trans _ _ _ (rw e at put) (IsPermutation-trans _ _ _ (IsPermutation-cons _ _ _ had) (IsPermutation-sym _ _ (IsPermutation-middle (copies m n) (toward m n) first.waiting)))),
      omega (arith, some, one, long),
    )
