use Rattle.code_text.proofs.Laws.{reading_codes}
use Rattle.code_text.proofs.number_of.Goals as goal

pub returns-in_err-number : goal.returns-in_err-number
returns-in_err-number c = rw c.from_residual.ensures (search (reading_codes, c.in_err-number.ensures.value))

pub loop-digit-preserved : goal.loop-digit-preserved
loop-digit-preserved c = search (reading_codes, c.in_ok-number.ensures.value)
