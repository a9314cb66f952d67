use Rattle.code_writer.proofs.Laws.{writing_codes}
use Rattle.code_writer.proofs.put_ranges.Goals as goal

pub loop-range-init : goal.loop-range-init
loop-range-init c = search writing_codes

pub loop-range-preserved : goal.loop-range-preserved
loop-range-preserved c = search writing_codes
