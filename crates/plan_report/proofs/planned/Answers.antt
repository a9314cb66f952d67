-- Each field is the formula's (Laws, `report_at_lem`).
use lib.Bits.{and_mask}
use Rattle.plan_report.proofs.Reports.{planning}
use Rattle.plan_report.proofs.planned.Goals as goal

pub ended_at-requires-clause-le_left : goal.ended_at-requires-clause-le_left
ended_at-requires-clause-le_left c = search planning

pub duration_at-requires-clause-le_units : goal.duration_at-requires-clause-le_units
duration_at-requires-clause-le_units c = search planning

pub returns : goal.returns
returns c = rw (and_mask c.args.i 16) (search planning)
