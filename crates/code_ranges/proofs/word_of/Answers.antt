-- The codes below the range's end, but for those below its first.
use Rattle.code_ranges.proofs.Laws.{range_word, range_before}
use Rattle.code_ranges.proofs.word_of.Goals as goal

pub returns-then-range-from : goal.returns-then-range-from
returns-then-range-from c = range_before c.args.range.first c.args.range.last c.args.range.in_order c.args.from c.if-range-from.true

pub returns : goal.returns
returns c = range_word c.args.range.first c.args.range.last c.args.range.in_order c.args.from _ _ c.word_below.ensures c.word_below-2.ensures
