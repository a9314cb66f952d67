-- A plan out of range, a number with no report, and the packet's writer for the rest.
use Rattle.std.proofs.lemmas.Result.{err_from_is_err_and}
use Rattle.plan_report.proofs.Output.{writing_reports}
use Rattle.plan_report.proofs.write_report.Goals as goal

pub returns-in_err-p-clause-result_value : goal.returns-in_err-p-clause-result_value
returns-in_err-p-clause-result_value c =
    let e = err_from_is_err_and c.from_residual.result c.from_residual.ensures.1 in
    rw (e.1, e.2) (search (writing_reports, c.in_err-p.ensures))

pub returns-in_err-p-clause-out_after : goal.returns-in_err-p-clause-out_after
returns-in_err-p-clause-out_after c = search (writing_reports, c.in_err-p.ensures)

pub returns-in_err-r-clause-result_value : goal.returns-in_err-r-clause-result_value
returns-in_err-r-clause-result_value c =
    let e = err_from_is_err_and c.from_residual-in_err-r.result c.from_residual-in_err-r.ensures.1 in
    rw (e.1, e.2) (search (writing_reports, c.in_ok-p.ensures, c.in_err-r.ensures))

pub returns-in_err-r-clause-out_after : goal.returns-in_err-r-clause-out_after
returns-in_err-r-clause-out_after c = search (writing_reports, c.in_ok-p.ensures, c.in_err-r.ensures)

pub returns-clause-result_value : goal.returns-clause-result_value
returns-clause-result_value c = search (writing_reports, c.in_ok-p.ensures, c.in_ok-r.ensures)

pub returns-clause-out_after : goal.returns-clause-out_after
returns-clause-out_after c = search (writing_reports, c.in_ok-p.ensures, c.in_ok-r.ensures)
