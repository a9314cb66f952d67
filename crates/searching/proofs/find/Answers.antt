use Rattle.searching.proofs.Halving.{search_starts, search_up, search_down}
use Rattle.searching.proofs.find.Goals as goal

pub loop-low-init : goal.loop-low-init
loop-low-init c = search_starts _ _

pub loop-low-preserved-then-keys-middle : goal.loop-low-preserved-then-keys-middle
loop-low-preserved-then-keys-middle c = search_up _ _ _ _ _ c.loop-low.invariant c.loop-low-test.true c.if-keys-middle.true

pub loop-low-preserved : goal.loop-low-preserved
loop-low-preserved c = search_down _ _ _ _ _ c.loop-low.invariant c.loop-low-test.true c.if-keys-middle.false
