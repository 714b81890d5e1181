-- Concrete pasts: every list of moves is a past, and five of them give the answers expected.
use Rattle.std.proofs.Common.{◌≡◌, ℕ, zero, suc, ◌≤◌, List, [], ◌∷◌, ◌++◌, map, length, Some, None, Option, refl, subst, inl, inr, append_assoc, arith, lit≤}
use mathlib.Core.Path.{subst⁻¹}
use Rattle.std.specs.List.Sorted.{IsPermutation}
use Rattle.std.proofs.lemmas.List.{append-nil}
use Rattle.std.proofs.lemmas.List.Sorted.{IsPermutation-refl, IsPermutation-cons, IsPermutation-trans, IsPermutation-middle, IsPermutation-append_comm}
use Rattle.std.specs.Option.{option_to_list}
use Rattle.wire.specs.declared.message.Message.{Message}
use Rattle.orders.specs.declared.order.Order.{Order}
use Rattle.orders.specs.declared.order.Order.TheVariants.{Write, Read, Tell, Carry, ReplicaOut, ClientOut}
use Rattle.orders.specs.declared.answer.Refusal.{Refusal}
use Rattle.orders.specs.Answer.{listed_as}
use Rattle.quorum.specs.Agree.{agreed}
use Rattle.quorum.specs.Decide.{decided_at}
use Rattle.register.specs.declared.register.Register.{Register}
use Rattle.register.specs.Register.{client_at}
use Rattle.register.specs.Handle.{handled_reply}
use Rattle.register.specs.Refuse.{refusal}
use Rattle.register.specs.Calls.{put_out, unless, round_of}
use Rattle.client.specs.declared.start.Round.{Round}
use Rattle.client.specs.declared.start.Round.TheVariants.{Write as WriteRound, Read as ReadRound, Tell as TellRound}
use Rattle.client.specs.Start.{outgoing, started, order_of, kind_of, set_size}
use Rattle.orders.specs.Order.{named}
use Rattle.register.specs.World.{World, sent_by, Called, Carried}
use Rattle.laws.specs.Entries.{Entry}
use Rattle.register.specs.Past.{Step, Past, start, more, answers_of}
use Rattle.register.proofs.Sends.{length_copies}
use Rattle.theory.proofs.MatchCalls.{write_passed, read_passed, tell_passed}
use Rattle.examples.specs.Pasts.{Move, ith, others, called, called_to, given, given_to, carried, carried_to, entry_by, next_by, next, played, reached, Example, opening, entries_of, Holds, Stand}

-- the message chosen, then the others
chosen_first : (m : Message) (ms : List Message) (i : ℕ) → IsPermutation (m ∷ ms) (ith m ms i ∷ others m ms i)
chosen_first m ms zero = IsPermutation-refl (m ∷ ms)
chosen_first m [] (suc i) = IsPermutation-refl (m ∷ [])
chosen_first m (n ∷ ms) (suc i) =
    IsPermutation-trans _ _ _ (IsPermutation-cons m _ _ (chosen_first n ms i)) (IsPermutation-middle (m ∷ []) (ith n ms i) (others n ms i))

-- ---- a place is free for each message of an accepted call

length_round : (r : Register) (q : Round) → length (round_of r q) ≡ set_size r.settings (kind_of q)
length_round r q = length_copies (outgoing r.settings (kind_of q) (named (order_of q)) (started (client_at r (named (order_of q))) q)) (set_size r.settings (kind_of q))

room_for : (x : Option Refusal) (ms : List Message) (free : ℕ) → (x ≡ None → length ms ≤ free) → length (unless x ms []) ≤ free
room_for None ms free f = f refl
room_for (Some x) ms free f = omega arith

fits : (v : World) (o : Order) → length (sent_by v o) ≤ v.free
fits v (Write z) =
    room_for (refusal v.register v.free (Write z)) (put_out v.register (Write z)) v.free (λ e.
    omega (arith, (write_passed v.register v.free z e).3, length_round v.register (WriteRound z)))
fits v (Read c) =
    room_for (refusal v.register v.free (Read c)) (put_out v.register (Read c)) v.free (λ e.
    omega (arith, (read_passed v.register v.free c e).4, length_round v.register (ReadRound c)))
fits v (Tell c) =
    room_for (refusal v.register v.free (Tell c)) (put_out v.register (Tell c)) v.free (λ e.
    omega (arith, (tell_passed v.register v.free c e).3, length_round v.register (TellRound c)))
fits v Carry = omega arith
fits v (ReplicaOut i) = room_for (refusal v.register v.free (ReplicaOut i)) [] v.free (λ e. omega arith)
fits v (ClientOut c) = room_for (refusal v.register v.free (ClientOut c)) [] v.free (λ e. omega arith)

-- ---- each move is a step

call_steps : (v : World) (o : Order) → Called v o (called v o).answer (called_to v o)
call_steps v o =
    record {
      answer = refl;
      register = refl;
      sends = (IsPermutation-append_comm v.waiting (sent_by v o), omega (arith, fits v o));
    }

one_reply : (x : Option Message) → length (option_to_list x) ≤ 1
one_reply None = lit≤ tt
one_reply (Some m) = lit≤ tt

give_steps : (v : World) (m : Message) (rest : List Message) → IsPermutation v.waiting (m ∷ rest) → Carried v (given v m).answer (given_to v m rest)
give_steps v m rest s =
    record {
      message = m;
      rest = rest;
      waited = s;
      answer = refl;
      register = refl;
      sends = (IsPermutation-append_comm rest (option_to_list (handled_reply v.register m)), omega (arith, one_reply (handled_reply v.register m)));
    }

carry_steps : (v : World) (ms : List Message) (i : ℕ) → v.waiting ≡ ms → Step v (carried v ms i) (carried_to v ms i)
unfolding give_steps
carry_steps v [] i e = record { answered = inr (record { none = e; answer = refl; register = refl; waiting = e; free = refl }); sent = refl }
carry_steps v (m ∷ ms) i e =
    record {
      answered = inl (give_steps v (ith m ms i) (others m ms i) (subst⁻¹ (λ (l : List Message). IsPermutation l (ith m ms i ∷ others m ms i)) e (chosen_first m ms i)));
      sent = refl;
    }

steps : (v : World) (o : Order) (i : ℕ) → Step v (entry_by v o i) (next_by v o i)
steps v (Write z) i = record { answered = call_steps v (Write z); sent = refl }
steps v (Read c) i = record { answered = call_steps v (Read c); sent = refl }
steps v (Tell c) i = record { answered = call_steps v (Tell c); sent = refl }
steps v Carry i = carry_steps v v.waiting i refl
steps v (ReplicaOut r) i = record { answered = call_steps v (ReplicaOut r); sent = refl }
steps v (ClientOut c) i = record { answered = call_steps v (ClientOut c); sent = refl }

-- ---- every list of moves is a past

play_on : (u v : World) (es : List Entry) (xs : List Move) → Past u es v → Past u (es ++ played v xs) (reached v xs)
play_on u v es [] p = subst⁻¹ (λ (l : List Entry). Past u l v) (append-nil es) p
play_on u v es (x ∷ xs) p =
    let e = entry_by v x.order x.which in
    let q = play_on u (next v x) (es ++ e ∷ []) xs (more v (next v x) es e p (steps v x.order x.which)) in
    subst (λ (l : List Entry). Past u l (reached v (x ∷ xs))) (append_assoc es (e ∷ []) (played (next v x) xs)) q

pub played_past : (v : World) (xs : List Move) → Past v (played v xs) (reached v xs)
played_past v xs = play_on v v [] xs start

-- ---- the five

holds : (x : Example) → x.settings.replicas ≤ x.free → map listed_as (answers_of (entries_of x)) ≡ map (λ y. y.1) x.moves → Holds x
holds x r e = record { room = r; past = played_past (opening x) (map (λ y. y.0) x.moves); answers = e }

pub pasts_stand_lem : Stand
unfolding agreed decided_at
pasts_stand_lem = (holds _ (lit≤ tt) refl, (holds _ (lit≤ tt) refl, (holds _ (lit≤ tt) refl, (holds _ (lit≤ tt) refl, (holds _ (lit≤ tt) refl, tt)))))
