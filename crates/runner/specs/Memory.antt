-- The memory that is lent to a drill: what it holds, and who lent it.
use Rattle.std.specs.Prelude.{◌≡◌, ℕ, List, length}
use Rattle.orders.specs.declared.order.Order.{Order}
use Rattle.orders.specs.declared.answer.Answer.{Answer}
use Rattle.runner.specs.declared.memory.Memory.{Memory as Lent}

-- places for orders and answers, space for a listing, and its length
pub record Memory : Type 0 where
  pub orders : List Order
  pub answers : List Answer
  pub out : List ℕ
  pub len : ℕ

abbrev pub memory : List Order → List Answer → List ℕ → ℕ → Memory
memory orders answers out len = record { orders = orders; answers = answers; out = out; len = len }

-- what the lent memory holds
abbrev pub content : Lent → Memory
content m = record { orders = m.orders.now; answers = m.answers.now; out = m.out.now; len = m.at.now.len }

-- each part is still the memory of the same lender, and as long
pub record SameLenders (before after : Lent) : Type 0 where
  pub orders : after.orders.ghost_name ≡ before.orders.ghost_name
  pub answers : after.answers.ghost_name ≡ before.answers.ghost_name
  pub out : after.out.ghost_name ≡ before.out.ghost_name
  pub at : after.at.ghost_name ≡ before.at.ghost_name
  pub orders_places : length after.orders.now ≡ length before.orders.now
  pub answers_places : length after.answers.now ≡ length before.answers.now
  pub out_places : length after.out.now ≡ length before.out.now
