-- The gathered bits tell of all keys so far.
use Rattle.valid.proofs.Gathers.{Keyed}
use Rattle.valid.proofs.highest_of.Given as goal

abbrev pub invariant-loop-i : goal.invariant-loop-i
invariant-loop-i l = Keyed l.keys l.i l.bits l.rises
