use Rattle.redundant.proofs.Blockwise.{Progress, steps_left}
use Rattle.redundant.proofs.take_blocks.Given as goal

abbrev pub invariant-loop-next : goal.invariant-loop-next
invariant-loop-next l = Progress l.initial.table l.packet l.initial.entries l.table l.taken l.next l.entries

abbrev pub decreases-loop-next : goal.decreases-loop-next
decreases-loop-next l = steps_left l.next
