-- Tables by number: a fact of a changed table holds if it holds of the changed place and of the others; ends in `table_set`, which ties a list of rows to a table.
use Rattle.std.proofs.Common.{◌≡◌, ℕ, ◌<◌, Bool, true, false, cond, eqb, List, length, get_or, set, sym, ap, ◌∙◌, subst, inl, inr, get_or-set_other, get_or-set_same}
use mathlib.Core.Path.{fun_ext}
use Rattle.std.proofs.lemmas.Bool.{cases_Bool, eqb-false, eqb-true}
use Rattle.theory.proofs.Model.{put}

-- what a test of two numbers says: it holds of equal ones and of others
by_place : (P : Bool → Type 0) (i j : ℕ) → (j ≡ i → P true) → ((j ≡ i → ⊥) → P false) → P (eqb j i)
by_place P i j same other =
    elim (cases_Bool (eqb j i)) [ inl e ↦ subst P (sym e) (same (eqb-true j i e)) | inr e ↦ subst P (sym e) (other (eqb-false j i e)) ]

pub put_case : {A : Type 0} (P : ℕ → A → Type 0) (s : ℕ → A) (i : ℕ) (a : A) (j : ℕ)
    → (j ≡ i → P i a) → ((j ≡ i → ⊥) → P j (s j)) → P j (put s i a j)
put_case P s i a j same = by_place (λ q. P j (cond q a (s j))) i j (λ e. subst (λ n. P n a) (sym e) (same e))

-- two, three or four tables, changed at one place
pub put_two : {A B : Type 0} (P : ℕ → A → B → Type 0) (s : ℕ → A) (t : ℕ → B) (i : ℕ) (a : A) (c : B) (j : ℕ)
    → (j ≡ i → P i a c) → ((j ≡ i → ⊥) → P j (s j) (t j)) → P j (put s i a j) (put t i c j)
put_two P s t i a c j same = by_place (λ q. P j (cond q a (s j)) (cond q c (t j))) i j (λ e. subst (λ n. P n a c) (sym e) (same e))

pub put_three : {A B C : Type 0} (P : ℕ → A → B → C → Type 0) (s : ℕ → A) (t : ℕ → B) (u : ℕ → C) (i : ℕ) (a : A) (b : B) (c : C) (j : ℕ)
    → (j ≡ i → P i a b c) → ((j ≡ i → ⊥) → P j (s j) (t j) (u j)) → P j (put s i a j) (put t i b j) (put u i c j)
put_three P s t u i a b c j same = by_place (λ q. P j (cond q a (s j)) (cond q b (t j)) (cond q c (u j))) i j (λ e. subst (λ n. P n a b c) (sym e) (same e))

pub put_four : {A B C D : Type 0} (P : ℕ → A → B → C → D → Type 0) (s : ℕ → A) (t : ℕ → B) (u : ℕ → C) (v : ℕ → D) (i : ℕ) (a : A) (b : B) (c : C) (d : D) (j : ℕ)
    → (j ≡ i → P i a b c d) → ((j ≡ i → ⊥) → P j (s j) (t j) (u j) (v j)) → P j (put s i a j) (put t i b j) (put u i c j) (put v i d j)
put_four P s t u v i a b c d j same =
    by_place (λ q. P j (cond q a (s j)) (cond q b (t j)) (cond q c (u j)) (cond q d (v j))) i j (λ e. subst (λ n. P n a b c d) (sym e) (same e))

-- A list of rows read as a table: setting a row changes the table at its place.
pub table_set : {A : Type 0} (rows : List A) (i : ℕ) (v d : A) → i < length rows → (λ j. get_or (set rows i v) j d) ≡ put (λ j. get_or rows j d) i v
table_set rows i v d h =
    fun_ext (λ j. by_place (λ q. get_or (set rows i v) j d ≡ cond q v (get_or rows j d)) i j
    (λ e. ap (λ n. get_or (set rows i v) n d) e ∙ get_or-set_same rows i v d h) (get_or-set_other rows i j v d))
