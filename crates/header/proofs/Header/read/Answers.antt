-- What the two helpers say, found or refused, is what the first stage says.
use Rattle.std.proofs.lemmas.Result.{err_from_is_err_and}
use Rattle.header.proofs.Laws.{heading}
use Rattle.header.proofs.Header.read.Goals as goal

pub returns-in_err-start : goal.returns-in_err-start
returns-in_err-start c =
    let e = err_from_is_err_and c.from_residual.result c.from_residual.ensures.1 in
    rw (e.1, e.2) (search (heading, c.in_err-start.ensures))

pub end_of-requires-clause-start_value : goal.end_of-requires-clause-start_value
end_of-requires-clause-start_value c = search (heading, c.in_ok-start.ensures)

pub returns-in_err-end : goal.returns-in_err-end
returns-in_err-end c =
    let e = err_from_is_err_and c.from_residual-in_err-end.result c.from_residual-in_err-end.ensures.1 in
    rw (e.1, e.2) (search (heading, c.in_ok-start.ensures, c.in_err-end.ensures))

pub invariant_of-result-2 : goal.invariant_of-result-2
invariant_of-result-2 c = search (heading, c.in_ok-start.ensures, c.in_ok-end.ensures)
