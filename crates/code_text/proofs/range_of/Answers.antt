use Rattle.code_text.proofs.Laws.{reading_codes}
use Rattle.code_text.proofs.range_of.Goals as goal

pub returns-in_err-code : goal.returns-in_err-code
returns-in_err-code c = rw c.from_residual.ensures (search (reading_codes, c.in_err-code.ensures))

pub returns-in_err-first : goal.returns-in_err-first
returns-in_err-first c = rw c.from_residual-in_err-first.ensures (search (reading_codes, c.in_err-first.ensures))

pub returns-in_err-last : goal.returns-in_err-last
returns-in_err-last c = rw c.from_residual-in_err-last.ensures (search (reading_codes, c.in_err-last.ensures))
