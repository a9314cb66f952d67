use Rattle.redundant.proofs.Ways.{whole_refused, whole_stays, whole_enters_none}
use Rattle.redundant.proofs.receive_redundant.Goals as goal

pub returns-in-Err-clause-value : goal.returns-in-Err-clause-value
returns-in-Err-clause-value c = search (whole_refused, c.in-Err.ensures)

pub returns-in-Err-clause-heard_after : goal.returns-in-Err-clause-heard_after
returns-in-Err-clause-heard_after c = search (whole_stays, c.in-Err.ensures)

pub returns-in-Err-clause-entries_after : goal.returns-in-Err-clause-entries_after
returns-in-Err-clause-entries_after c = search (whole_enters_none, c.in-Err.ensures)
