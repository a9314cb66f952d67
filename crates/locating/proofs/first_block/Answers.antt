use Rattle.locating.proofs.Whole.{first_plain}
use Rattle.locating.proofs.first_block.Goals as goal

pub returns-in-Plain : goal.returns-in-Plain
returns-in-Plain c = first_plain _ _ _ _ c.in-Plain.is _ c.primary_at.ensures
