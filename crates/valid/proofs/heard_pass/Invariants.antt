-- The gathered bits tell of all numbers so far.
use Rattle.valid.proofs.Heeds.{Heeded}
use Rattle.valid.proofs.heard_pass.Given as goal

abbrev pub invariant-loop-told : goal.invariant-loop-told
invariant-loop-told l = Heeded l.heard l.told-index l.shown
