-- The header with F clear is the primary's.
use Rattle.blocks.proofs.Steps.{primary_there, stepping}
use Rattle.blocks.proofs.step.block_at.Goals as goal

pub returns-then-first-lt128 : goal.returns-then-first-lt128
returns-then-first-lt128 c = search (stepping, primary_there)
