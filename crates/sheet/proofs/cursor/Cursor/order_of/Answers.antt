use Rattle.std.proofs.Common.{refl, rules}
use Rattle.orders.specs.declared.order.Order.TheVariants as order
use Rattle.sheet.specs.declared.kind.Kind.TheVariants.{Write, Read, Tell, ReplicaOut, ClientOut}
use Rattle.sheet.proofs.Words.{SmallValue, SmallNumber}
use Rattle.sheet.proofs.OrderLines.{about}
use Rattle.sheet.proofs.cursor.Cursor.order_of.Goals as goal

pub returns-in-Write : goal.returns-in-Write
returns-in-Write c =
    about c.args.self.now.rest.now c.args.self.now.line c.value.new.self.rest.now c.value.new.self.line SmallValue c.args.kind Write order.Write c.in-Write.is
    (λ a h. record { fine = record { small = h }; same = refl }) c.value.result c.map.result (search rules) c.value.ensures

pub returns-in-Read : goal.returns-in-Read
returns-in-Read c =
    about c.args.self.now.rest.now c.args.self.now.line c.number.new.self.rest.now c.number.new.self.line SmallNumber c.args.kind Read order.Read c.in-Read.is
    (λ a h. record { fine = record { small = h }; same = refl }) c.number.result c.map-in-Read.result (search rules) c.number.ensures

pub returns-in-Tell : goal.returns-in-Tell
returns-in-Tell c =
    about c.args.self.now.rest.now c.args.self.now.line c.number-in-Tell.new.self.rest.now c.number-in-Tell.new.self.line SmallNumber c.args.kind Tell order.Tell c.in-Tell.is
    (λ a h. record { fine = record { small = h }; same = refl }) c.number-in-Tell.result c.map-in-Tell.result (search rules) c.number-in-Tell.ensures

pub returns-in-ReplicaOut : goal.returns-in-ReplicaOut
returns-in-ReplicaOut c =
    about c.args.self.now.rest.now c.args.self.now.line c.number-in-ReplicaOut.new.self.rest.now c.number-in-ReplicaOut.new.self.line SmallNumber c.args.kind ReplicaOut order.ReplicaOut c.in-ReplicaOut.is
    (λ a h. record { fine = record { small = h }; same = refl }) c.number-in-ReplicaOut.result c.map-in-ReplicaOut.result (search rules) c.number-in-ReplicaOut.ensures

pub returns-in-ClientOut : goal.returns-in-ClientOut
returns-in-ClientOut c =
    about c.args.self.now.rest.now c.args.self.now.line c.number-in-ClientOut.new.self.rest.now c.number-in-ClientOut.new.self.line SmallNumber c.args.kind ClientOut order.ClientOut c.in-ClientOut.is
    (λ a h. record { fine = record { small = h }; same = refl }) c.number-in-ClientOut.result c.map-in-ClientOut.result (search rules) c.number-in-ClientOut.ensures
