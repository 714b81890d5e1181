-- What a log of entries says, the newest first: the values written, where calls began, and the calls that ended.
use Rattle.std.proofs.Common.{◌≡◌, ℕ, suc, ◌<◌, ◌≤◌, cond, eqb, List, [], ◌∷◌, length, ℤ}
use Rattle.theory.proofs.Words.{Order, Write, Read, Tell, listed_as, Entry}
use Rattle.theory.proofs.Model.{put}

-- an ended write or read; its client is 0 for a write
pub record Done : Type 0 where
  pub client : ℕ
  pub begin : ℕ
  pub end : ℕ
  pub version : ℕ
  pub value : ℤ
  pub rounds : ℕ
  pub sets : ℕ

abbrev pub values_by : Order → List ℤ → List ℤ
values_by (Write v) xs = v ∷ xs
values_by _ xs = xs

-- the values of the accepted writes, the newest first
abbrev pub values : List Entry → List ℤ
values [] = []
values (e ∷ log) = cond (eqb (listed_as e.answer).code 100) (values_by e.order (values log)) (values log)

-- the value of a version, from the values written, the newest first
abbrev pub value_at : List ℤ → ℤ → ℕ → ℤ
value_at [] f k = f
value_at (x ∷ xs) f k = cond (eqb k (suc (length xs))) x (value_at xs f k)

abbrev pub begun_by : Order → ℕ → (ℕ → ℕ) → ℕ → ℕ
begun_by (Write v) n s = put s 0 n
begun_by (Read c) n s = put s c n
begun_by _ n s = s

-- the place of each client's last accepted write or read
abbrev pub begun : List Entry → ℕ → ℕ
begun [] = λ c. 0
begun (e ∷ log) = cond (eqb (listed_as e.answer).code 100) (begun_by e.order (length log) (begun log)) (begun log)

abbrev pub spent_by : Order → (ℕ → ℕ) → ℕ → ℕ
spent_by (Write v) s = put s 0 1
spent_by (Read c) s = put s c 1
spent_by (Tell c) s = put s c (suc (s c))
spent_by _ s = s

-- the sets of messages that each client put out since then
abbrev pub spent : List Entry → ℕ → ℕ
spent [] = λ c. 0
spent (e ∷ log) = cond (eqb (listed_as e.answer).code 100) (spent_by e.order (spent log)) (spent log)

-- the calls that ended, the newest first
abbrev pub done : List Entry → List Done
done [] = []
done (e ∷ log) =
    cond (eqb (listed_as e.answer).code 105)
    (record { client = (listed_as e.answer).who; begin = begun log (listed_as e.answer).who; end = length log; version = (listed_as e.answer).version; value = (listed_as e.answer).value; rounds = (listed_as e.answer).rounds; sets = spent log (listed_as e.answer).who } ∷ done log)
    (done log)

-- x ended before y began: what each shows
pub record Ordered (x y : Done) : Type 0 where
  pub up : x.version ≤ y.version
  pub over : y.client ≡ 0 → x.version < y.version
  pub twice : x.rounds ≡ 2 → y.rounds ≡ 2 → x.version < y.version
