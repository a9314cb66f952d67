-- The event at a number there is.
use Rattle.std.proofs.Common.{arith}
use Rattle.events.proofs.Laws.{all_from_0, number_found}
use Rattle.events.proofs.event_at.Goals as goal

pub event_place-requires : goal.event_place-requires
event_place-requires c = all_from_0 c.in_ok-held.held _ (omega arith)

pub returns : goal.returns
returns c =
    number_found c.in_ok-held.held c.args.k _ c.in_ok-held.ensures c.if-number-eq0.false (omega arith) _ c.event_place.ensures _
    c.event_from.ensures
