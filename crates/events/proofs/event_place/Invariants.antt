-- The loop goes from place to place with the number that event k has among the events from there on. It needs no test for the last
-- place, since that event is still to come.
use Rattle.std.proofs.Common.{◌-◌, length}
use Rattle.events.proofs.Laws.{OnTheWay}
use Rattle.events.proofs.event_place.Given as goal

abbrev pub invariant-loop-from : goal.invariant-loop-from
invariant-loop-from l = OnTheWay l.held.keys.now l.held.heard.now (length l.held.keys.now) l.from l.k l.place l.left

abbrev pub decreases-loop-from : goal.decreases-loop-from
decreases-loop-from l = length l.held.keys.now - l.place
