use Rattle.events.proofs.Laws.{table_events, walk_on, walk_passes}
use Rattle.events.proofs.event_place.Goals as goal
use Rattle.events.proofs.event_place.Goals.{then-begins+else-left-eq0, else-begins}

pub loop-from-init : goal.loop-from-init
loop-from-init c = search table_events

pub returns-then-left-eq0 : goal.returns-then-left-eq0
returns-then-left-eq0 c = search table_events

pub loop-from-preserved : goal.loop-from-preserved
loop-from-preserved c =
    elim c.if-begins.branch [
      | then-begins+else-left-eq0 w ↦
          rw w.left-is
          (walk_on _ _ _ _ _ _ _ c.loop-from.invariant _ c.begins.ensures w.if-begins.true w.if-left-eq0.false)
      | else-begins w ↦ rw w.left-is (walk_passes _ _ _ _ _ _ _ c.loop-from.invariant _ c.begins.ensures w.if-begins.false)
    ]
