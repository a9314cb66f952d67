use Rattle.code_ranges.proofs.Laws.{ranging_codes}
use Rattle.code_ranges.proofs.word_below.Goals as goal

pub returns-then-n-from : goal.returns-then-n-from
returns-then-n-from c = search ranging_codes

pub returns-then-from-n : goal.returns-then-from-n
returns-then-from-n c = search ranging_codes
