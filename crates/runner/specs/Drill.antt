-- What a drill does to the memory and the channel handed in.
use Rattle.std.specs.Prelude.{◌≡◌, ℕ, ◌⊎◌, List, length, take, drop, Result, MatchResult}
use Rattle.wire.specs.Channel.{Contents}
use Rattle.settings.specs.declared.given.Settings.{Settings}
use Rattle.register.specs.declared.register.Register.{Register}
use Rattle.register.specs.declared.fault.RegisterFault.{RegisterFault}
use Rattle.register.specs.World.{world}
use Rattle.register.specs.Session.{NoSession}
use Rattle.session.specs.Perform.{LawfulSession}
use Rattle.orders.specs.declared.order.Order.{Order}
use Rattle.orders.specs.declared.answer.Answer.{Answer}
use Rattle.sheet.specs.declared.page.Position.{Position}
use Rattle.sheet.specs.declared.read.Reading.{Reading}
use Rattle.sheet.specs.declared.fault.SheetFault.{SheetFault}
use Rattle.sheet.specs.Fault.{Shown, shown}
use Rattle.sheet.specs.Read.{Given, Refused}
use Rattle.sheet.specs.Listing.{Written, CutShort}
use Rattle.runner.specs.Memory.{Memory, memory, content}
use Rattle.runner.specs.declared.memory.Memory.{Memory as Lent}
use Rattle.runner.specs.declared.fault.DrillFault.{DrillFault}
use Rattle.runner.specs.declared.fault.DrillFault.TheVariants.{Sheet, Register as OfRegister}

-- the first count orders were done over the channel, as a past that keeps the laws; later answers are unchanged
pub record Played (settings : Settings) (count : ℕ) (x : Contents) (before : Memory)
    (y : Contents) (after : Memory) : Type 0 where
  pub register : Register
  pub session : LawfulSession settings x (take count before.orders) (take count after.answers) (world register y)
  pub later : drop count after.answers ≡ drop count before.answers

-- nothing was done: the channel, the answers and the listing are as they were
pub record Unplayed (x : Contents) (before : Memory) (y : Contents) (after : Memory) : Type 0 where
  pub channel : y ≡ x
  pub answers : after.answers ≡ before.answers
  pub out : after.out ≡ before.out
  pub len : after.len ≡ before.len

-- the listing of the first count answers stands in the space, n bytes
pub record Listed (settings : Settings) (count : ℕ) (x : Contents) (before : Memory)
    (y : Contents) (after : Memory) (n : ℕ) : Type 0 where
  pub played : Played settings count x before y after
  pub written : Written (take count after.answers) after.out after.len n

-- the orders were done, and the space is too short for their listing
pub record Unlisted (settings : Settings) (count : ℕ) (x : Contents) (before : Memory)
    (y : Contents) (after : Memory) (f : Shown) : Type 0 where
  pub played : Played settings count x before y after
  pub short : CutShort (take count after.answers) after.out after.len f

-- the register was not opened, or there are fewer places for answers than orders
pub record Unopened (settings : Settings) (count : ℕ) (x : Contents) (before : Memory)
    (y : Contents) (after : Memory) (e : RegisterFault) : Type 0 where
  pub refused : NoSession settings x count (length before.answers) e
  pub unplayed : Unplayed x before y after

abbrev pub PlayFault : Settings → ℕ → Contents → Memory → Contents → Memory → DrillFault → Type 0
PlayFault s n x before y after (Sheet f) = Unlisted s n x before y after (shown f)
PlayFault s n x before y after (OfRegister e) = Unopened s n x before y after e

-- orders that were read are done and listed
abbrev pub Lists : Settings → ℕ → Contents → Memory → Contents → Memory → Result ℕ DrillFault → Type 0
Lists s n x before y after r =
    MatchResult r (λ k. Listed s n x before y after k) (λ f. PlayFault s n x before y after f)

-- the sheet was read into settings and orders, which were done and listed
pub record Read (sheet : List ℕ) (x : Contents) (before : Memory)
    (y : Contents) (after : Memory) (r : Result ℕ DrillFault) : Type 0 where
  pub settings : Settings
  pub count : ℕ
  pub given : Given sheet before.orders after.orders settings count
  pub lists : Lists settings count x (record before { orders = after.orders }) y after r

-- the sheet has a fault, and nothing was done
pub record Unread (sheet : List ℕ) (x : Contents) (before : Memory)
    (y : Contents) (after : Memory) (f : DrillFault) : Type 0 where
  pub fault : SheetFault
  pub same : f ≡ Sheet fault
  pub refused : Refused sheet before.orders after.orders (shown fault)
  pub unplayed : Unplayed x before y after

-- what a drill does
abbrev pub Drills : List ℕ → Contents → Memory → Contents → Memory → Result ℕ DrillFault → Type 0
Drills sheet x before y after r =
    Read sheet x before y after r ⊎ MatchResult r (λ _. ⊥) (λ f. Unread sheet x before y after f)

-- ---- the same over the channel and the memory that are lent

module _ {C : Type 0} (contents : C → Contents) where
  abbrev pub DrillsIn : List ℕ → C → Lent → C → Lent → Result ℕ DrillFault → Type 0
  DrillsIn sheet c m c' m' r = Drills sheet (contents c) (content m) (contents c') (content m') r

  -- the head of the sheet, the orders, and the channel with answers, space and its length before and after
  abbrev pub Plays : Reading → List Order → C → List Answer → List ℕ → Position
      → C → List Answer → List ℕ → Position → Result ℕ DrillFault → Type 0
  Plays head orders c done out at c' done' out' at' r =
      Lists head.settings head.count
      (contents c) (memory orders done out at.len)
      (contents c') (memory orders done' out' at'.len) r
