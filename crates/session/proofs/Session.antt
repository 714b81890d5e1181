-- A session keeps the laws.
use Rattle.std.proofs.Common.{◌≡◌, ℕ, ◌≤◌, List, [], length, Some, None, Ok, Err, Option, Result, IfOk, refl, ap, subst, arith}
use Rattle.std.proofs.lemmas.List.{nil_from_length}
use Rattle.std.proofs.lemmas.Bool.Decides.{nat_tests}
use Rattle.wire.specs.declared.message.Message.{Message}
use Rattle.wire.specs.Channel.{Contents, holding}
use Rattle.settings.specs.declared.given.Settings.{Settings}
use Rattle.orders.specs.declared.order.Order.{Order}
use Rattle.orders.specs.declared.answer.Answer.{Answer}
use Rattle.register.specs.declared.register.Register.{Register}
use Rattle.register.specs.declared.fault.ChannelFault.{ChannelFault}
use Rattle.register.specs.declared.fault.RegisterFault.{RegisterFault}
use Rattle.register.specs.declared.fault.RegisterFault.TheVariants.{Channel as OfChannel}
use Rattle.std.specs.Option.{option_map, option_or}
use Rattle.register.specs.Register.{opened}
use Rattle.register.specs.Open.{channel_fault, opening_fault}
use Rattle.register.specs.World.{World, world}
use Rattle.register.specs.Past.{Past}
use Rattle.register.specs.Session.{Session, SessionRan}
use Rattle.session.specs.Perform.{LawfulSession, Done}
use Rattle.theory.proofs.Stands.{laws}

channel_fine : (x : Contents) (replicas : ℕ) → channel_fault x replicas ≡ None → (x.waiting ≡ []) × (replicas ≤ x.free)
channel_fine x replicas e =
    let none : length x.waiting ≡ 0 = grind (arith, nat_tests) in
    (nil_from_length x.waiting none, grind (arith, nat_tests))

no_fault : {E F : Type 0} (f : E → F) (o : Option E) → option_map f o ≡ None → o ≡ None
no_fault f None e = refl
no_fault f (Some x) e = cc

no_later_fault : (a : Option RegisterFault) (b : Option ChannelFault) → option_or a (option_map OfChannel b) ≡ None → b ≡ None
no_later_fault None b e = no_fault OfChannel b e
no_later_fault (Some x) b e = cc

-- where opening has no fault, the channel is empty and has a place for each replica
pub opened_fine : (s : Settings) (x : Contents) → opening_fault s x ≡ None → (x.waiting ≡ []) × (s.replicas ≤ x.free)
opened_fine s x e = channel_fine x s.replicas (no_later_fault _ _ e)

-- a session opens over an empty channel with a place for each replica, and so keeps the laws
pub session_lawful : (s : Settings) (x : Contents) (os : List Order) (rs : List Answer) (w : World) → Session s x os rs w → LawfulSession s x os rs w
session_lawful s x os rs w h =
    let fine = opened_fine s x h.accepted in
    let room : h.settings.replicas ≤ x.free = omega (arith, fine.1, ap (λ y. y.replicas) h.passed) in
    record {
      session = h;
      lawful = laws h.settings x.free room h.ran.entries w (subst (λ (l : List Message). Past (world (opened h.settings) (holding l x.free)) h.ran.entries w) fine.0 h.ran.past);
    }

-- what is said of a session that was done, if one was
pub done : (r : Result Register RegisterFault) (s : Settings) (x : Contents) (os : List Order) (before after : List Answer) (y : Contents)
    → IfOk r (SessionRan s x os before after y) → IfOk r (Done s x os before after y)
done (Ok q) s x os before after y h = record { said = session_lawful s x os _ _ h.said; later = h.later; enough = h.enough }
done (Err e) s x os before after y h = tt
