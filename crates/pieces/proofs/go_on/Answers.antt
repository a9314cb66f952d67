use Rattle.pieces.proofs.Laws.{GoingOn}
use Rattle.pieces.proofs.go_on.Goals as goal

pub invariant_of-table : goal.invariant_of-table
invariant_of-table c = record { passes = search GoingOn }

pub keep-requires-clause-at_le_n : goal.keep-requires-clause-at_le_n
keep-requires-clause-at_le_n c = search GoingOn

pub returns : goal.returns
returns c = search GoingOn
