use mathlib.Core.Path.{ap}
use mathlib.Core.Bool.{not}
use Rattle.grouping.proofs.Laws.{event_passes, event_grows}
use Rattle.grouping.proofs.held.Held.event_from.Goals as goal
use Rattle.grouping.proofs.held.Held.event_from.Goals.{then-self-j+else-not-continues, else-self-j}

pub loop-j-preserved : goal.loop-j-preserved
loop-j-preserved c =
    elim c.if-self-j.branch [
      | then-self-j+else-not-continues w ↦
          event_grows _ _ _ _ _ _ _ c.loop-j.invariant c.loop-j-test.true w.if-self-j.true _ w.segment-next.ensures
          _ w.continues.ensures (ap not w.if-not-continues.false) _ w.lengthened-v.ensures.0 w.lengthened-v.ensures.1 _ _ w.v-is w.last-is
      | else-self-j w ↦ event_passes _ _ _ _ _ _ _ c.loop-j.invariant c.loop-j-test.true _ _ w.v-is w.last-is w.if-self-j.false
    ]
