use Rattle.plan_formulas.proofs.Places.{placing}
use Rattle.plan_report.proofs.place_of.Goals as goal

pub returns-then-p : goal.returns-then-p
returns-then-p c = search placing

pub returns-then-in_full-i : goal.returns-then-in_full-i
returns-then-in_full-i c = search placing
