-- The digits by how many they are.
use Rattle.std.proofs.Common.{arith}
use Rattle.item_writer.proofs.Laws.{one_digit, one_digit_fits, two_digits, two_digits_fit, three_digits, three_digits_fit}
use Rattle.item_writer.proofs.put_number.Goals as goal

pub put-requires : goal.put-requires
put-requires c = (omega arith, one_digit_fits c.args.separator _ _ _ c.requires.n_in_bounds c.if-n-lt10.true)

pub put-requires-then-n-lt100 : goal.put-requires-then-n-lt100
put-requires-then-n-lt100 c = (omega arith, two_digits_fit c.args.separator _ _ _ c.requires.n_in_bounds c.if-n-lt10.false c.if-n-lt100.true)

pub put-requires-else-n-lt100 : goal.put-requires-else-n-lt100
put-requires-else-n-lt100 c = (omega arith, three_digits_fit c.args.separator _ _ _ c.requires.n_in_bounds c.if-n-lt100.false)

pub returns-then-n-lt10 : goal.returns-then-n-lt10
returns-then-n-lt10 c = one_digit _ _ _ _ _ _ c.if-n-lt10.true _ c.digit.ensures c.put.ensures

pub returns-then-n-lt100 : goal.returns-then-n-lt100
returns-then-n-lt100 c =
    two_digits _ _ _ _ _ _ c.if-n-lt10.false c.if-n-lt100.true _ _ c.digit-then-n-lt100.ensures c.digit-then-n-lt100-2.ensures c.put-then-n-lt100.ensures

pub returns-else-n-lt100 : goal.returns-else-n-lt100
returns-else-n-lt100 c =
    three_digits _ _ _ _ _ _ c.if-n-lt100.false _ _ _ c.digit-hundreds.ensures c.digit-else-n-lt100.ensures c.digit-else-n-lt100-2.ensures
    c.put-else-n-lt100.ensures
