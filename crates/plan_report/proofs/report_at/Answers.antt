-- No report at 0, none where its place has none, else the one at its place.
use Rattle.plan_report.proofs.Reports.{planning, no_place, has_no_report, is_report}
use Rattle.plan_report.proofs.report_at.Goals as goal

pub returns-in_err-at : goal.returns-in_err-at
returns-in_err-at c = rw c.from_residual-in_err-at.ensures (no_place c.args.p.plan c.args.k c.in_ok-i.i (search (planning, c.in_ok-i.ensures)) c.in_err-at.ensures)

pub returns-then-not-has_report : goal.returns-then-not-has_report
returns-then-not-has_report c =
    has_no_report _ _ _ (search (planning, c.in_ok-i.ensures)) _ c.in_ok-at.ensures _ c.units_left-left.ensures _ c.min.ensures _ c.has_report.ensures
    c.args.p.lengths c.if-not-has_report.true

pub planned-requires-clause-i_bound : goal.planned-requires-clause-i_bound
planned-requires-clause-i_bound c = search (planning, c.in_ok-at.ensures, c.in_ok-i.ensures)

pub planned-requires-clause-at_value : goal.planned-requires-clause-at_value
planned-requires-clause-at_value c = search (planning, c.in_ok-at.ensures, c.in_ok-i.ensures)

pub returns : goal.returns
returns c =
    is_report _ _ _ (search (planning, c.in_ok-i.ensures)) _ c.in_ok-at.ensures _ c.units_left-left.ensures _ c.min.ensures _ c.has_report.ensures
    c.if-not-has_report.false _ c.planned.ensures
