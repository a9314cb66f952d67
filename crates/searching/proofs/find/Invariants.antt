use Prim.Native.Nat.{◌-◌}
use Rattle.searching.proofs.Halving.{Halving}
use Rattle.searching.proofs.find.Given as goal

abbrev pub invariant-loop-low : goal.invariant-loop-low
invariant-loop-low l = Halving l.keys l.wanted l.low l.high l.probes

abbrev pub decreases-loop-low : goal.decreases-loop-low
decreases-loop-low l = l.high - l.low
