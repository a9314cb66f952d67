-- The loop goes along the digits, and knows the number that they say so far.
use Rattle.lines.proofs.Laws.{Reading}
use Rattle.lines.proofs.number_at.Given as goal

abbrev pub invariant-loop-i : goal.invariant-loop-i
invariant-loop-i l = Reading l.b-items l.i l.number
