-- The turns of the loop are those of `Dividing`.
use Rattle.division.proofs.Steps.{Dividing}
use Rattle.division.proofs.divide.Given as goal

abbrev pub invariant-loop-k : goal.invariant-loop-k
invariant-loop-k l = Dividing l.n l.d l.bits l.quotient l.remainder l.k
