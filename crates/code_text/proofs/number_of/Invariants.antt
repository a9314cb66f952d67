-- The loop goes along the digits, and knows the number that they say so far.
use Rattle.code_text.proofs.Numbers.{Saying}
use Rattle.code_text.proofs.number_of.Given as goal

abbrev pub invariant-loop-digit : goal.invariant-loop-digit
invariant-loop-digit l = Saying l.text l.digit-index l.number
