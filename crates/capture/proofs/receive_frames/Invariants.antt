use Prim.Native.Nat.{◌-◌}
use lib.ListN.{length}
use Rattle.capture.proofs.Laws.{Progress}
use Rattle.capture.proofs.receive_frames.Given as goal

abbrev pub invariant-loop-start : goal.invariant-loop-start
invariant-loop-start l = Progress l.initial.table l.frames l.table l.tally

abbrev pub decreases-loop-start : goal.decreases-loop-start
decreases-loop-start l = length l.frames - l.tally.used
