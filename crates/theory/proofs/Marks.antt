-- Masks of marks, one within another: ends in `or_within`.
use Rattle.std.proofs.Common.{ℕ, sym, ap, ◌∙◌, subst, arith}
use lib.Bits.{and_comm, and_self, bit_and, bit_or, or_comm}
use Rattle.std.specs.Int.{bit_at}
use Rattle.std.proofs.lemmas.Nat.Bits.{bit_at_and, bit_at_or, same_from_bits}
use Rattle.std.proofs.lemmas.Nat.{and_assoc, and_or_self}
use Rattle.theory.proofs.Sets.{Within}

pub within_self : (a : ℕ) → Within a a
within_self a = and_self a

pub within_trans : (a b c : ℕ) → Within a b → Within b c → Within a c
within_trans a b c p q = ap (λ x. bit_and x c) (sym p) ∙ and_assoc c a b ∙ ap (bit_and a) q ∙ p

pub within_or_right : (a b : ℕ) → Within b (bit_or a b)
within_or_right a b = and_comm b (bit_or a b) ∙ and_or_self b a

pub within_or : (a b : ℕ) → Within a (bit_or a b)
within_or a b = subst (Within a) (or_comm b a) (within_or_right b a)

pub or_within : (a b c : ℕ) → Within a c → Within b c → Within (bit_or a b) c
or_within a b c p q =
    same_from_bits _ _ (λ i.
    let of_a = ap (λ n. bit_at n i) p in
    let of_b = ap (λ n. bit_at n i) q in
    omega (arith, bit_at_and (bit_or a b) c i, bit_at_or a b i, of_a, of_b, bit_at_and a c i, bit_at_and b c i))
