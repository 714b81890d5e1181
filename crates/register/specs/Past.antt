-- Whole pasts.
use Rattle.std.specs.Prelude.{◌≡◌, ℕ, ◌<◌, ◌≤◌, List, [], ◌∷◌, ◌++◌, map, length, take, drop, replicate, Result, MatchResult}
use Rattle.wire.specs.Channel.{Contents}
use Rattle.orders.specs.declared.order.Order.TheVariants.{Carry}
use Rattle.register.specs.declared.register.Register.{Register}
use Rattle.register.specs.declared.fault.RegisterFault.{RegisterFault}
use Rattle.register.specs.declared.fault.RegisterFault.TheVariants.{Answers}
use Rattle.orders.specs.declared.order.Order.{Order}
use Rattle.orders.specs.declared.answer.Answer.{Answer}
use Rattle.register.specs.World.{World, world, Answered, sent_in}
use Rattle.laws.specs.Entries.{Entry}

-- an entry is a step from one world to the next
pub record Step (v : World) (e : Entry) (w : World) : Type 0 where
  pub answered : Answered v e.order e.answer w
  pub sent : e.sent ≡ sent_in v e.order e.answer w answered

-- a past from one world to another: its entries, the oldest first
pub data Past (v : World) : List Entry → World → Type 0 where
  start : Past v [] v
  more : (w u : World) (es : List Entry) (e : Entry) → Past v es w → Step w e u → Past v (es ++ e ∷ []) u

abbrev pub orders_of : List Entry → List Order
orders_of es = map (λ e. e.order) es

abbrev pub answers_of : List Entry → List Answer
answers_of es = map (λ e. e.answer) es

-- orders with their answers are a past
pub record Ran (v : World) (os : List Order) (rs : List Answer) (w : World) : Type 0 where
  pub entries : List Entry
  pub orders : orders_of entries ≡ os
  pub answers : answers_of entries ≡ rs
  pub past : Past v entries w

-- so many answers are filled in, of which this is said; later places keep what they held
pub record Filled (Said : List Answer → Type 0) (count : ℕ) (before after : List Answer) : Type 0 where
  pub said : Said (take count after)
  pub later : drop count after ≡ drop count before
  pub enough : count ≤ length before

module _ {C : Type 0} (contents : C → Contents) where
  -- a list of orders is done, or with fewer answers than orders refused whole, and then nothing changes
  abbrev pub Runs : Register → C → List Order → List Answer
      → Result Unit RegisterFault → List Answer → Register → C → Type 0
  Runs r c os before result after r' c' = MatchResult result
      (λ _. Filled (λ rs. Ran (world r (contents c)) os rs (world r' (contents c'))) (length os) before after)
      (λ e. (e ≡ Answers) × (length before < length os) × (after ≡ before) × (c' ≡ c) × (r' ≡ r))

  -- as many carries are done as fill the answers, or fewer, and then no message waits
  pub record Settles (r : Register) (c : C) (before : List Answer) (count : ℕ) (after : List Answer)
      (r' : Register) (c' : C) : Type 0 where
    pub filled : Filled (λ rs. Ran (world r (contents c)) (replicate count Carry) rs (world r' (contents c')))
        count before after
    pub settled : count < length before → (contents c').waiting ≡ []
