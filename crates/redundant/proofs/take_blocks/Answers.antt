use Rattle.locating.proofs.Whole.{at_time, is_marked}
use Rattle.redundant.proofs.Blockwise.{all_taken, ready, goes_on}
use Rattle.redundant.proofs.take_blocks.Goals as goal

pub take_or_pass-taken-requires : goal.take_or_pass-taken-requires
take_or_pass-taken-requires c = ready _ _ _ _ _ _ _ (rw c.in-Some.is at c.loop-next.invariant)

pub loop-next-preserved : goal.loop-next-preserved
loop-next-preserved c =
    goes_on _ _ _ _ _ _ _ (rw c.in-Some.is at c.loop-next.invariant) _ (at_time _ _ _ _ c.requires) _ (is_marked _ _ _ _ c.requires) _ _ _
    c.take_or_pass-taken.ensures _ c.block_at-next.ensures

pub returns : goal.returns
returns c = all_taken _ _ _ _ _ _ (rw c.in_default.is at c.loop-next.invariant)
