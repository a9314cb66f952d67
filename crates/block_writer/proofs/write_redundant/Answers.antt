-- What the tests leave is what the pieces ask.
use Rattle.block_writer.proofs.WritesBlocks.{in_range_asked}
use Rattle.block_writer.proofs.write_redundant.Goals as goal

pub put_blocks-requires-clause-blocks_asked : goal.put_blocks-requires-clause-blocks_asked
put_blocks-requires-clause-blocks_asked c = search in_range_asked
