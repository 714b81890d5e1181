-- The opened register matches the opened model, and settings that passed the check fit the laws. It ends in `opening_matches`.
use Rattle.std.proofs.Common.{◌≡◌, ℕ, ◌+◌, ◌*◌, ◌%◌, ◌^◌, ◌<◌, ◌≤◌, false, eqb, ℤ, sym, refl, ap, subst, one-mul, arith}
use lib.Bits.{bit_or, or_shifted_r}
use lib.Count.{ones, ones_cat, ones-ones}
use Rattle.std.proofs.lemmas.List.{get_or-replicate, length-replicate}
use Rattle.std.proofs.lemmas.Nat.{pow_below, mod_below}
use Rattle.std.proofs.lemmas.Bool.{ne_eqb, cond_both}
use Rattle.theory.proofs.Words.{clients_max, replicas_max, opened_row, Checked, opened, blank_row, blank_client, mark_of, world, empty}
use Rattle.client.specs.Client.{opened_client}
use Rattle.theory.proofs.Cards.{Fit}
use Rattle.theory.proofs.Model as model
use Rattle.theory.proofs.Matching.{params_of, RowMatches, ClientMatches, Matches}
use Rattle.theory.proofs.Progress.{none_out}

-- ---- the settings

two_marks : (j : ℕ) → 0 < j → 2 ≤ ones (bit_or 1 (2 ^ j))
two_marks j h =
    let lt : 1 < 2 ^ j = pow_below 0 j h in
    let e : bit_or 1 (1 * 2 ^ j) ≡ 1 * 2 ^ j + 1 = or_shifted_r 1 j 1 lt in
    let e2 : bit_or 1 (2 ^ j) ≡ 1 * 2 ^ j + 1 = subst (λ n. bit_or 1 n ≡ 1 * 2 ^ j + 1) (one-mul (2 ^ j)) e in
    let o : ones (1 * 2 ^ j + 1) ≡ ones 1 + ones 1 = ones_cat j 1 1 lt in
    let one : ones 1 ≡ 1 = ones-ones 1 in
    rw e2 (omega arith)

mark_below : (k : Checked) (c : ℕ) → mark_of k c < 2 ^ (k.groups + 1)
mark_below k c =
    cond_both (eqb c 0) 1 (2 ^ (1 + c % k.groups)) (λ m. m < 2 ^ (k.groups + 1))
    (λ e. pow_below 0 (k.groups + 1) (omega arith))
    (λ e. pow_below (1 + c % k.groups) (k.groups + 1) (omega (arith, mod_below c k.groups k.grouped.0)))

mark_two : (k : Checked) (c : ℕ) → (c ≡ 0 → ⊥) → 2 ≤ ones (bit_or 1 (mark_of k c))
mark_two k c h = simp (ne_eqb c 0 h) (two_marks (1 + c % k.groups) (omega arith))

pub params_of_fits : (k : Checked) → Fit (params_of k)
params_of_fits k =
    record {
      some_out = k.tolerant.0;
      some_group = k.grouped.0;
      few_groups = k.grouped.1;
      room = k.overlap;
      writer_mark = refl;
      few_marks = mark_below k;
      two_marks = mark_two k;
    }

-- ---- the opened register

opened_row_lem : (z : ℤ) → RowMatches (opened_row z) (record { version = 0; value = z; previous = z; marks = 0; note = 0 }) (λ c. 0)
opened_row_lem z =
    record {
      long = length-replicate {A = ℕ} clients_max 0;
      card = refl;
      sound = omega arith;
      byte = omega arith;
      heard = λ c l. get_or-replicate clients_max c 0 0 l;
    }

opened_client_lem : (k : Checked) (z : ℤ) → ClientMatches k (opened_client z) (record { round = 0; version = 0; value = z; previous = z; phase = model.idle })
opened_client_lem k z =
    record { round = refl; version = refl; value = refl; previous = refl; phase = refl; left = omega arith }

pub opening_matches : (k : Checked) (free : ℕ) → Matches k (world (opened k) (empty free)) (model.opened k.initial)
opening_matches k free =
    record {
      register =
          record {
            settings = refl;
            rows =
                record {
                  long = length-replicate replicas_max (opened_row k.initial);
                  each = λ i l. subst (λ r. RowMatches r ((model.opened k.initial).replicas i) (λ c. 0)) (sym (get_or-replicate replicas_max i (opened_row k.initial) blank_row l)) (opened_row_lem k.initial);
                };
            outs =
                record {
                  long = length-replicate replicas_max false;
                  each = λ i l. get_or-replicate replicas_max i false false l;
                  count = sym (none_out k.replicas);
                };
            clients =
                record {
                  long = length-replicate clients_max (opened_client k.initial);
                  out = λ c l. ap (λ x. x.out) (get_or-replicate clients_max c (opened_client k.initial) blank_client l);
                  each = λ c l. subst (λ x. ClientMatches k x ((model.opened k.initial).clients c)) (sym (get_or-replicate clients_max c (opened_client k.initial) blank_client l)) (opened_client_lem k k.initial);
                };
          };
      waiting = refl;
      proper = tt;
    }
