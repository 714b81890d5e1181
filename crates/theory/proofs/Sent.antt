-- What each entry of a past puts into the channel: a whole set of the client's own messages where a write, read or tell is accepted, else none. It ends in regular.
use Rattle.std.proofs.Common.{◌≡◌, ℕ, zero, suc, ◌+◌, ◌*◌, ◌≤◌, Bool, true, false, not, cond, ◌&&◌, eqb, leb, List, [], Some, None, count_by, Option, sym, refl, ap, ◌∙◌, subst, inl, inr, arith}
use Rattle.std.specs.List.{AllByRecursion}
use Rattle.std.proofs.lemmas.List.Sums.{sum_by_push}
use Rattle.std.proofs.lemmas.Bool.Decides.{nat_tests}
use Rattle.std.proofs.lemmas.Bool.{cases_Bool, cond_both, lt-leb, and_left, or_parts}
use Rattle.std.specs.Option.{option_to_list}
use Rattle.theory.proofs.Words.{Message, Order, Write, Read, Tell, Carry, ReplicaOut, ClientOut, Refusal, Unknown, Answer, Refused, listed_as, number_of, Row, record_of, Checked, Register, opened, row_at, client_at, is_request, is_stray, is_lost, handled_reply, World, world, Answered, Called, sent_by, sent_in, empty, Entry, Step, Past, start, more, code, own_messages}
use Rattle.replica.specs.Replica.{replied, reply_from, fresh}
use Rattle.register.specs.Send.{toward, copies}
use Rattle.register.specs.Refuse.{refusal}
use Rattle.register.specs.Calls.{put_out, unless, answer_by}
use Rattle.client.specs.declared.start.Round.TheVariants.{Write as WriteRound, Read as ReadRound, Tell as TellRound}
use Rattle.client.specs.Start.{outgoing, started}
use Rattle.orders.specs.Order.{named}
use Rattle.theory.proofs.Lists.{All-push}
use Rattle.theory.proofs.Matching.{AllTraced}
use Rattle.theory.proofs.Places.{NoReadOfWriter}

-- how many messages of its own a client puts out by an accepted order
abbrev pub own_size : Checked → Order → ℕ → ℕ
own_size k (Write z) c = cond (eqb c 0) k.replicas 0
own_size k (Read d) c = cond (eqb c d) k.replicas 0
own_size k (Tell d) c = cond (eqb c d) (3 * k.tolerated + 1) 0
own_size k _ c = 0

-- an entry puts out a whole set or nothing of a client's own, and no read of client 0 is accepted
pub record Regular (k : Checked) (e : Entry) : Type 0 where
  pub own : (c : ℕ) → own_messages c e ≡ cond (eqb (code e) 100) (own_size k e.order c) 0
  pub reader : NoReadOfWriter e

-- ---- sets of messages

abbrev is_own : ℕ → Message → Bool
is_own c m = leb m.kind 3 && eqb m.client c

cond_same : (b : Bool) → ◌≡◌ {A = ℕ} (cond b 0 0) 0
cond_same b = elim (cases_Bool b) [ inl e ↦ simp e | inr e ↦ simp e ]

eqb_turned : (a b : ℕ) → eqb a b ≡ eqb b a
eqb_turned a b = grind (arith, nat_tests)

copies_own : (c : ℕ) (m : Message) (n : ℕ) → count_by (is_own c) (copies m n) ≡ cond (is_own c m) n 0
copies_own c m zero = sym (cond_same (is_own c m))
copies_own c m (suc n) =
    let push : count_by (is_own c) (copies m (suc n)) ≡ count_by (is_own c) (copies m n) + cond (is_own c m) 1 0 = sum_by_push (λ x. cond (is_own c x) 1 0) (copies m n) (toward m n) in
    let rest = copies_own c m n in
    push ∙ ap (λ x. x + cond (is_own c m) 1 0) rest ∙ sums (is_own c m)
  where
    sums : (b : Bool) → cond b n 0 + cond b 1 0 ≡ cond b (suc n) 0
    sums true = omega arith
    sums false = refl

request_low : (n : ℕ) → not (is_request n) ≡ false → 1 ≤ n
request_low n e = grind (arith, nat_tests)

reply_own : (c : ℕ) (r : Row) (m : Message) → count_by (is_own c) (option_to_list (replied r m)) ≡ 0
reply_own c r m =
    cond_both _ None (Some (reply_from (fresh r m) m)) (λ (o : Option Message). count_by (is_own c) (option_to_list o) ≡ 0)
    (λ e. refl)
    (λ e.
    let low : 1 ≤ m.kind = request_low m.kind (or_parts _ _ (or_parts _ _ e).0).0 in
    let high : leb (m.kind + 3) 3 ≡ false = lt-leb (m.kind + 3) 3 (omega arith) in
    let none : is_own c (reply_from (fresh r m) m) ≡ false = and_left _ (eqb m.client c) high in
    simp none)

handled_own : (c : ℕ) (r : Register) (m : Message) → count_by (is_own c) (option_to_list (handled_reply r m)) ≡ 0
handled_own c r m =
    let P : Option Message → Type 0 = λ o. count_by (is_own c) (option_to_list o) ≡ 0 in
    cond_both (is_stray r m) None _ P (λ e. refl)
    (λ e. cond_both (is_lost r m) None _ P (λ e. refl) (λ e. cond_both (is_request m.kind) _ None P (λ e. reply_own c (record_of (row_at r m.replica)) m) (λ e. refl)))

-- ---- a call, accepted or sent back

refusal_code : (x : Refusal) → eqb (number_of x) 100 ≡ false
refusal_code Unknown = refl
refusal_code _ = refl

by_refusal : (c : ℕ) (x : Option Refusal) (who size : ℕ) (out : List Message) (a : Answer) → a ≡ answer_by x who → count_by (is_own c) out ≡ size
    → count_by (is_own c) (unless x out []) ≡ cond (eqb (listed_as a).code 100) size 0
by_refusal c None who size out a e s = s ∙ ap (λ (y : Answer). cond (eqb (listed_as y).code 100) size 0) (sym e)
by_refusal c (Some x) who size out a e s = ap (λ b. cond b size 0) (sym (refusal_code x)) ∙ ap (λ (y : Answer). cond (eqb (listed_as y).code 100) size 0) (sym e)

called_own : (k : Checked) (v w : World) (o : Order) (a : Answer) (c : ℕ) → count_by (is_own c) (put_out v.register o) ≡ own_size k o c → Called v o a w
    → count_by (is_own c) (sent_by v o) ≡ cond (eqb (listed_as a).code 100) (own_size k o c) 0
called_own k v w o a c s h = by_refusal c (refusal v.register v.free o) (named o) (own_size k o c) (put_out v.register o) a h.answer s

put_out_own : (k : Checked) (r : Register) → r.settings ≡ k → (o : Order) (c : ℕ) → count_by (is_own c) (put_out r o) ≡ own_size k o c
put_out_own k r e (Write z) c = copies_own c (outgoing r.settings 1 0 (started (client_at r 0) (WriteRound z))) r.settings.replicas ∙ ap (λ (j : Checked). cond (eqb 0 c) j.replicas 0) e ∙ ap (λ b. cond b k.replicas 0) (eqb_turned 0 c)
put_out_own k r e (Read d) c = copies_own c (outgoing r.settings 2 d (started (client_at r d) (ReadRound d))) r.settings.replicas ∙ ap (λ (j : Checked). cond (eqb d c) j.replicas 0) e ∙ ap (λ b. cond b k.replicas 0) (eqb_turned d c)
put_out_own k r e (Tell d) c = copies_own c (outgoing r.settings 3 d (started (client_at r d) (TellRound d))) (3 * r.settings.tolerated + 1) ∙ ap (λ (j : Checked). cond (eqb d c) (3 * j.tolerated + 1) 0) e ∙ ap (λ b. cond b (3 * k.tolerated + 1) 0) (eqb_turned d c)
put_out_own k r e _ c = refl

-- ---- every step

sent_own : (k : Checked) (v w : World) (o : Order) (a : Answer) → v.register.settings ≡ k → (s : Answered v o a w) (c : ℕ) → count_by (is_own c) (sent_in v o a w s) ≡ cond (eqb (listed_as a).code 100) (own_size k o c) 0
sent_own k v w (Write z) a e s c = called_own k v w (Write z) a c (put_out_own k v.register e (Write z) c) s
sent_own k v w (Read d) a e s c = called_own k v w (Read d) a c (put_out_own k v.register e (Read d) c) s
sent_own k v w (Tell d) a e s c = called_own k v w (Tell d) a c (put_out_own k v.register e (Tell d) c) s
sent_own k v w Carry a e (inl s) c = handled_own c v.register s.message ∙ sym (cond_same (eqb (listed_as a).code 100))
sent_own k v w Carry a e (inr s) c = sym (cond_same (eqb (listed_as a).code 100))
sent_own k v w (ReplicaOut i) a e s c = called_own k v w (ReplicaOut i) a c refl s
sent_own k v w (ClientOut d) a e s c = called_own k v w (ClientOut d) a c refl s

-- a read of client 0 is sent back as unknown
read_unknown : (v w : World) (o : Order) (a : Answer) → Answered v o a w → o ≡ Read 0 → a ≡ Refused Unknown 0
read_unknown v w o a s e = (subst (λ (o : Order). Answered v o a w) e s).answer

regular_step : (k : Checked) (v w : World) (e : Entry) → v.register.settings ≡ k → Step v e w → Regular k e
regular_step k v w e p s =
    record {
      own = λ c. ap (λ (ms : List Message). count_by (is_own c) ms) s.sent ∙ sent_own k v w e.order e.answer p s.answered c;
      reader = λ q r.
          let z : ◌≡◌ {A = ℕ} 11 100 = ap (λ (a : Answer). (listed_as a).code) (sym (read_unknown v w e.order e.answer s.answered r)) ∙ q in
          omega arith;
    }

pub regular : AllTraced → (k : Checked) (free : ℕ) (es : List Entry) (w : World) → Past (world (opened k) (empty free)) es w → AllByRecursion (Regular k) es
regular t k free _ _ start = tt
regular t k free _ _ (more w u es e p s) = All-push (Regular k) es e (regular t k free es w p) (regular_step k w u e (t k free es w p).matches.register.settings s)
