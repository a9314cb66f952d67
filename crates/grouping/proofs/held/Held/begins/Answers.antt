use Rattle.grouping.proofs.Laws.{grouping}
use Rattle.grouping.proofs.held.Held.begins.Goals as goal

pub returns-then-self-j : goal.returns-then-self-j
returns-then-self-j c = search grouping
