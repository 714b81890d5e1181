-- Different settings and orders have different bytes; it ends in `head_peel` and `orders_peel`.
use Rattle.std.proofs.Common.{◌≡◌, ℕ, Some, ◌^◌, ◌<◌, ◌≤◌, List, [], ◌∷◌, ◌++◌, length, get_or, ℤ, pos, negsuc, nat_abs, decimal, sym, refl, ap, ◌∙◌, append_assoc, arith}
use lib.Signed.{mag}
use Rattle.std.specs.Fmt.{signed_decimal}
use Rattle.std.specs.List.{AllByRecursion}
use Rattle.std.proofs.lemmas.Fmt.{decimal_injective, signed_decimal_injective}
use Rattle.sheet.proofs.Words.{Order, Write, Read, Tell, Carry, ReplicaOut, ClientOut, Settings, closed, number_max, orders_max, Due, number, value, kind, Placed, placed, head_words, order_words, lines_of, about_words, bytes_of, SmallValue, SmallOrder, SmallSettings, FineOrder}
use Rattle.sheet.specs.declared.kind.Kind.{Kind}
use Rattle.sheet.specs.declared.kind.Kind.TheVariants as of
use Rattle.sheet.specs.Kind.{kind_of, kind_at, word_for, separator_for}
use Rattle.sheet.proofs.Unique.{Good, words_in, unique, peel}
use Rattle.sheet.proofs.Admitted.{Admitted, head_admitted, order_admitted}
use Rattle.sheet.proofs.Refuted.{Matches}
use Rattle.sheet.proofs.Walks.{bytes_append}

pub all_good : (ps : List Placed) → AllByRecursion Admitted ps → AllByRecursion Good ps
all_good [] h = tt
all_good (p ∷ ps) h = (h.0.good, all_good ps h.1)

small_mag : (z : ℤ) → SmallValue z → mag z < 2 ^ 63
small_mag (pos n) h = omega arith
small_mag (negsuc n) h = omega arith

settings_same : (s t : Settings) → s.replicas ≡ t.replicas → s.tolerated ≡ t.tolerated → s.groups ≡ t.groups → s.readers ≡ t.readers → s.initial ≡ t.initial → s ≡ t
settings_same s t a b d e z = λ i. record { replicas = a i; tolerated = b i; groups = d i; readers = e i; initial = z i }

pub record HeadPeeled (s t : Settings) (m n : ℕ) (x y : List ℕ) : Type 0 where
  pub settings : s ≡ t
  pub count : m ≡ n
  pub rest : x ≡ y

pub head_peel : (s t : Settings) (m n : ℕ) (x y : List ℕ) → SmallSettings s → SmallSettings t → m ≤ orders_max → n ≤ orders_max → bytes_of (head_words s m) ++ x ≡ bytes_of (head_words t n) ++ y → HeadPeeled s t m n x y
head_peel s t m n x y g h fm fn e =
    let r = peel (head_words s m) (head_words t n) x y (all_good (head_words s m) (head_admitted s m g fm)) (all_good (head_words t n) (head_admitted t n h fn)) refl e in
    let at : (i : ℕ) → get_or (words_in (head_words s m)) i [] ≡ get_or (words_in (head_words t n)) i [] = λ i. ap (λ ws. get_or ws i []) r.words in
    let same : (a b : ℕ) → a ≤ number_max → b ≤ number_max → decimal a ≡ decimal b → a ≡ b = λ a b p q. decimal_injective a b (omega arith) (omega arith) in
    record {
      settings = settings_same s t (same s.replicas t.replicas g.replicas h.replicas (at 2)) (same s.tolerated t.tolerated g.tolerated h.tolerated (at 3))
          (same s.groups t.groups g.groups h.groups (at 4)) (same s.readers t.readers g.readers h.readers (at 5))
          (signed_decimal_injective s.initial t.initial (small_mag s.initial g.initial) (small_mag t.initial h.initial) (at 6));
      count = same m n (omega arith) (omega arith) (at 8);
      rest = r.rest;
    }

-- the kind whose word it is
kind_again : (k : Kind) → kind_at (word_for k) ≡ Some k
kind_again of.Write = refl
kind_again of.Read = refl
kind_again of.Tell = refl
kind_again of.Carry = refl
kind_again of.ReplicaOut = refl
kind_again of.ClientOut = refl

some_same : (j k : Kind) → Some j ≡ Some k → j ≡ k
some_same j k e = cc

same_kind : (j k : Kind) → word_for j ≡ word_for k → j ≡ k
same_kind j k e = some_same j k (sym (kind_again j) ∙ ap kind_at e ∙ kind_again k)

-- what the kind tells of its line
abbrev shape : Kind → List Due
shape of.Write = value ∷ []
shape of.Read = number number_max ∷ []
shape of.Tell = number number_max ∷ []
shape of.Carry = []
shape of.ReplicaOut = number number_max ∷ []
shape of.ClientOut = number number_max ∷ []

abbrev about : Order → ℤ
about (Write z) = z
about (Read n) = pos n
about (Tell n) = pos n
about Carry = pos 0
about (ReplicaOut n) = pos n
about (ClientOut n) = pos n

abbrev written : Kind → ℤ → List (List ℕ)
written of.Carry z = []
written k z = signed_decimal z ∷ []

abbrev built : Kind → ℤ → Order
built of.Write z = Write z
built of.Read z = Read (nat_abs z)
built of.Tell z = Tell (nat_abs z)
built of.Carry z = Carry
built of.ReplicaOut z = ReplicaOut (nat_abs z)
built of.ClientOut z = ClientOut (nat_abs z)

abbrev dues_in : List Placed → List Due
dues_in [] = []
dues_in (p ∷ ps) = p.due ∷ dues_in ps

abbrev Ends : Placed → Type 0
Ends p = p.separator ≡ 10

-- all that the proofs below know of the six kinds
record Line (o : Order) : Type 0 where
  dues : dues_in (about_words o) ≡ shape (kind_of o)
  ends : AllByRecursion Ends (about_words o)
  words : words_in (about_words o) ≡ written (kind_of o) (about o)
  again : o ≡ built (kind_of o) (about o)

line_of : (o : Order) → Line o
line_of (Write z) = record { dues = refl; ends = (refl, tt); words = refl; again = refl }
line_of (Read n) = record { dues = refl; ends = (refl, tt); words = refl; again = refl }
line_of (Tell n) = record { dues = refl; ends = (refl, tt); words = refl; again = refl }
line_of Carry = record { dues = refl; ends = tt; words = refl; again = refl }
line_of (ReplicaOut n) = record { dues = refl; ends = (refl, tt); words = refl; again = refl }
line_of (ClientOut n) = record { dues = refl; ends = (refl, tt); words = refl; again = refl }

small_about : (o : Order) → SmallOrder o → mag (about o) < 2 ^ 63
small_about (Write z) h = small_mag z h
small_about (Read n) h = omega arith
small_about (Tell n) h = omega arith
small_about Carry h = omega arith
small_about (ReplicaOut n) h = omega arith
small_about (ClientOut n) h = omega arith

-- the same word, the same number
same_about : (y z : ℤ) → mag y < 2 ^ 63 → mag z < 2 ^ 63 → signed_decimal y ∷ [] ≡ signed_decimal z ∷ [] → y ≡ z
same_about y z g h e = signed_decimal_injective y z g h (ap (λ ws. get_or ws 0 []) e)

same_built : (k : Kind) (y z : ℤ) → mag y < 2 ^ 63 → mag z < 2 ^ 63 → written k y ≡ written k z → built k y ≡ built k z
same_built of.Write y z g h e = ap (built of.Write) (same_about y z g h e)
same_built of.Read y z g h e = ap (built of.Read) (same_about y z g h e)
same_built of.Tell y z g h e = ap (built of.Tell) (same_about y z g h e)
same_built of.Carry y z g h e = refl
same_built of.ReplicaOut y z g h e = ap (built of.ReplicaOut) (same_about y z g h e)
same_built of.ClientOut y z g h e = ap (built of.ClientOut) (same_about y z g h e)

same_order : (o p : Order) → SmallOrder o → SmallOrder p → kind_of o ≡ kind_of p → words_in (about_words o) ≡ words_in (about_words p) → o ≡ p
same_order o p g h k w =
    let e : written (kind_of o) (about o) ≡ written (kind_of o) (about p) = sym (line_of o).words ∙ w ∙ (line_of p).words ∙ ap (λ j. written j (about p)) (sym k) in
    (line_of o).again ∙ same_built (kind_of o) (about o) (about p) (small_about o g) (small_about p h) e ∙ ap (λ j. built j (about p)) k ∙ sym (line_of p).again

dues_match : (ps qs : List Placed) → dues_in ps ≡ dues_in qs → AllByRecursion Ends ps → AllByRecursion Ends qs → Matches ps qs
dues_match [] [] e g h = tt
dues_match [] (q ∷ qs) e g h = absurd (let k : ◌≡◌ {A = ℕ} 0 1 = cc in omega arith)
dues_match (p ∷ ps) [] e g h = absurd (let k : ◌≡◌ {A = ℕ} 0 1 = cc in omega arith)
dues_match (p ∷ ps) (q ∷ qs) e g h = (record { due = cc; separator = λ w. g.0 ∙ sym h.0 }, λ w. dues_match ps qs (cc) g.1 h.1)

about_match : (o p : Order) → kind_of o ≡ kind_of p → Matches (about_words o) (about_words p)
about_match o p k = dues_match (about_words o) (about_words p) ((line_of o).dues ∙ ap shape k ∙ sym (line_of p).dues) (line_of o).ends (line_of p).ends

-- the same word is of the same kind, so the same is due behind it
pub order_match : (o p : Order) → Matches (order_words o) (order_words p)
order_match o p = (record { due = refl; separator = λ w. ap separator_for (same_kind (kind_of o) (kind_of p) w) }, λ w. about_match o p (same_kind (kind_of o) (kind_of p) w))

length_dues : (ps : List Placed) → length (dues_in ps) ≡ length ps
length_dues [] = refl
length_dues (p ∷ ps) = omega (arith, length_dues ps)

pub order_peel : (o p : Order) (x y : List ℕ) → FineOrder o → FineOrder p → bytes_of (order_words o) ++ x ≡ bytes_of (order_words p) ++ y → (o ≡ p) × (x ≡ y)
order_peel o p x y g h e =
    let a = order_admitted o g in
    let b = order_admitted p h in
    let first : Order → Placed = λ q. placed kind (word_for (kind_of q)) (separator_for (kind_of q)) in
    let split : (q : Order) (z : List ℕ) → bytes_of (order_words q) ++ z ≡ closed (word_for (kind_of q)) (separator_for (kind_of q)) ++ (bytes_of (about_words q) ++ z) =
    λ q z. append_assoc (closed (word_for (kind_of q)) (separator_for (kind_of q))) (bytes_of (about_words q)) z in
    let u = unique (first o) (first p) (bytes_of (about_words o) ++ x) (bytes_of (about_words p) ++ y) a.0.good b.0.good (sym (split o x) ∙ e ∙ split p y) in
    let k = same_kind (kind_of o) (kind_of p) u.word in
    let long : length (about_words o) ≡ length (about_words p) = sym (length_dues (about_words o)) ∙ ap length ((line_of o).dues ∙ ap shape k ∙ sym (line_of p).dues) ∙ length_dues (about_words p) in
    let r = peel (about_words o) (about_words p) x y (all_good (about_words o) a.1) (all_good (about_words p) b.1) long u.rest in
    (same_order o p g.small h.small k r.words, r.rest)

pub line_first : (o : Order) (os : List Order) (x : List ℕ) → bytes_of (lines_of (o ∷ os)) ++ x ≡ bytes_of (order_words o) ++ (bytes_of (lines_of os) ++ x)
line_first o os x = ap (λ t. t ++ x) (bytes_append (order_words o) (lines_of os)) ∙ append_assoc (bytes_of (order_words o)) (bytes_of (lines_of os)) x

pub orders_peel : (os ps : List Order) (x y : List ℕ) → AllByRecursion FineOrder os → AllByRecursion FineOrder ps → length os ≡ length ps → bytes_of (lines_of os) ++ x ≡ bytes_of (lines_of ps) ++ y → (os ≡ ps) × (x ≡ y)
orders_peel [] [] x y g h l e = (refl, e)
orders_peel [] (p ∷ ps) x y g h l e = absurd (omega arith)
orders_peel (o ∷ os) [] x y g h l e = absurd (omega arith)
orders_peel (o ∷ os) (p ∷ ps) x y g h l e =
    let s = order_peel o p (bytes_of (lines_of os) ++ x) (bytes_of (lines_of ps) ++ y) g.0 h.0 (sym (line_first o os x) ∙ e ∙ line_first p ps y) in
    let r = orders_peel os ps x y g.1 h.1 (omega arith) s.1 in
    (ap (λ (t : Order). t ∷ os) s.0 ∙ ap (λ (ts : List Order). p ∷ ts) r.0, r.1)
