-- The kinds of orders: an admitted order of each, and orders made of what stands behind the word of their kind.
use Rattle.std.proofs.Common.{◌≡◌, ℕ, List, ◌++◌, pos, Ok, Err, Result, MatchResult, sym, refl, ap, subst, arith}
use Rattle.std.specs.Result.{IsOkAnd}
use Rattle.sheet.proofs.Words.{Order, SheetFault, kind_words, about_words, order_words, OfKind, Stepped, Took}
use Rattle.orders.specs.declared.order.Order.TheVariants as order
use Rattle.sheet.specs.declared.kind.Kind.{Kind}
use Rattle.sheet.specs.declared.kind.Kind.TheVariants.{Write, Read, Tell, Carry, ReplicaOut, ClientOut}

-- some admitted order of a kind
abbrev pub sample : Kind → Order
sample Write = order.Write (pos 0)
sample Read = order.Read 0
sample Tell = order.Tell 0
sample Carry = order.Carry
sample ReplicaOut = order.ReplicaOut 0
sample ClientOut = order.ClientOut 0

pub sample_fits : (k : Kind) → OfKind k (sample k)
sample_fits Write = record { fine = record { small = omega arith }; same = refl }
sample_fits Read = record { fine = record { small = omega arith }; same = refl }
sample_fits Tell = record { fine = record { small = omega arith }; same = refl }
sample_fits Carry = record { fine = record { small = tt }; same = refl }
sample_fits ReplicaOut = record { fine = record { small = omega arith }; same = refl }
sample_fits ClientOut = record { fine = record { small = omega arith }; same = refl }

-- the line of an order of a kind
pub line_of_kind : (k : Kind) (o : Order) → OfKind k o → order_words o ≡ kind_words k ++ about_words o
line_of_kind k o h = ap (λ j. kind_words j ++ about_words o) h.same

-- an order that is made of what stands there
pub about : {A : Type 0} (rest : List ℕ) (line : ℕ) (rest' : List ℕ) (line' : ℕ) (Fine : A → Type 0) (k m : Kind) (make : A → Order) → k ≡ m → ((a : A) → Fine a → OfKind m (make a)) → (r : Result A SheetFault) (q : Result Order SheetFault) → MatchResult r (λ a. IsOkAnd q (λ o. o ≡ make a)) (λ f. q ≡ Err f) → Stepped Fine (λ a. about_words (make a)) rest line rest' line' r → Stepped (OfKind k) about_words rest line rest' line' q
about rest line rest' line' Fine k m make e fits (Ok a) (Ok o) h s =
    let P : Order → Type 0 = λ x. OfKind k x × Took (about_words x) rest line rest' line' in
    let K : Kind → Type 0 = λ j. OfKind j (make a) in
    subst P (sym h) (subst K (sym e) (fits a s.0), s.1)
about rest line rest' line' Fine k m make e fits (Ok a) (Err f) h s = absurd h
about rest line rest' line' Fine k m make e fits (Err f) q h s =
    let K : Kind → Type 0 = λ j. OfKind j (make s.like) in
    rw h (record { like = make s.like; fine = subst K (sym e) (fits s.like s.fine); fault = s.fault })
