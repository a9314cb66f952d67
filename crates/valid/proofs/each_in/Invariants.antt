-- One code after another.
use Rattle.valid.proofs.Coded.{Found}
use Rattle.valid.proofs.each_in.Given as goal

abbrev pub invariant-loop-key : goal.invariant-loop-key
invariant-loop-key l = Found l.codes l.keys l.key-index
