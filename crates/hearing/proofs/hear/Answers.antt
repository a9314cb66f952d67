use Rattle.std.proofs.lemmas.Result.{err_from_is_err_and}
use Rattle.hearing.proofs.Hears.{hears}
use Rattle.hearing.proofs.hear.Goals as goal

pub returns-in_err-report : goal.returns-in_err-report
returns-in_err-report c =
    let e = err_from_is_err_and c.from_residual.result c.from_residual.ensures.1 in
    rw (e.1, e.2) (search (hears, c.in_err-report.ensures))

pub heard_of-requires : goal.heard_of-requires
heard_of-requires c = search (hears, c.in_ok-report.ensures)

pub returns-then-offset-ge2147483648 : goal.returns-then-offset-ge2147483648
returns-then-offset-ge2147483648 c = search (hears, c.in_ok-report.ensures)

pub returns : goal.returns
returns c = search (hears, c.in_ok-report.ensures)
