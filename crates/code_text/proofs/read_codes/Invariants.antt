-- The loop goes from one piece to the next, and has the codes of all that it passed.
use lib.ListN.{length}
use Rattle.code_text.proofs.Reading.{Reading}
use Rattle.code_text.proofs.read_codes.Given as goal

abbrev pub invariant-loop-piece : goal.invariant-loop-piece
invariant-loop-piece l = Reading l.text (length l.yielded) l.codes
