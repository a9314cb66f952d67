-- The segments of a table that passes the tests have offsets of 32 bits.
use Rattle.grouping.proofs.Laws.{in_ranges}
use Rattle.std.proofs.Common.{rules}
use Rattle.events.proofs.held.Goals as goal

pub of-requires : goal.of-requires
of-requires c = search (rules, in_ranges)
