use Rattle.division.proofs.Steps.{dividing}
use Rattle.division.proofs.divide.Goals as goal

pub overflow_mul-quotient : goal.overflow_mul-quotient
overflow_mul-quotient c = search dividing

pub overflow_shl-part : goal.overflow_shl-part
overflow_shl-part c = search dividing

pub loop-k-preserved-then-part-remainder : goal.loop-k-preserved-then-part-remainder
loop-k-preserved-then-part-remainder c = search dividing

pub loop-k-preserved : goal.loop-k-preserved
loop-k-preserved c = search dividing

pub returns-clause-quotient_value : goal.returns-clause-quotient_value
returns-clause-quotient_value c = search dividing

pub returns-clause-remainder_value : goal.returns-clause-remainder_value
returns-clause-remainder_value c = search dividing
