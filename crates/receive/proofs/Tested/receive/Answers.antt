use Rattle.std.proofs.Common.{refl}
use Rattle.model.specs.Receive.{receive}
use Rattle.receive.specs.Receives.{in_table}
use Rattle.receive.proofs.Ways.{ways, Does_in, as_lent, as_it_was}
use Rattle.receive.proofs.Tested.receive.Goals as goal

pub invariant_of-self : goal.invariant_of-self
invariant_of-self c =
    let d : Does_in (receive (in_table c.args.self.now) c.args.packet.now) c.args.self.now.head c.take-refusal.result c.take-refusal.new.keys c.take-refusal.new.heard = search (ways, c.in-Ok.ensures) in
    record { passes = d.passes }

pub returns-in-Ok : goal.returns-in-Ok
returns-in-Ok c =
    let d : Does_in (receive (in_table c.args.self.now) c.args.packet.now) c.args.self.now.head c.take-refusal.result c.take-refusal.new.keys c.take-refusal.new.heard = search (ways, c.in-Ok.ensures) in
    as_lent _ _ _ _ _ d _ refl refl refl refl refl

pub returns-in-Err : goal.returns-in-Err
returns-in-Err c =
    let d : Does_in (receive (in_table c.args.self.now) c.args.packet.now) c.args.self.now.head c.refused.result c.args.self.now.keys.now c.args.self.now.heard.now = search (ways, c.in-Err.ensures) in
    as_it_was _ _ _ d _ c.refused.ensures
