-- The turns of the loop are those of `Listing`.
use Prim.Native.Nat.{◌-◌}
use Rattle.code_writer.proofs.Laws.{Listing}
use Rattle.code_writer.proofs.put_ranges.Given as goal

abbrev pub invariant-loop-range : goal.invariant-loop-range
invariant-loop-range l = Listing l.codes l.initial.out l.from l.at l.out

abbrev pub decreases-loop-range : goal.decreases-loop-range
decreases-loop-range l = 256 - l.from
