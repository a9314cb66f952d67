use Rattle.grouping.proofs.Laws.{grouping}
use Rattle.grouping.proofs.held.Held.count.Goals as goal

pub loop-i-init : goal.loop-i-init
loop-i-init c = search grouping

pub loop-i-preserved : goal.loop-i-preserved
loop-i-preserved c = search grouping

pub returns : goal.returns
returns c = search grouping
