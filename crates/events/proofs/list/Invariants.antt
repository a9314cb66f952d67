-- After k turns the lent records are `filled t k`, and the events from the place `from` on are those after the first k.
use Rattle.std.proofs.Common.{◌≡◌, drop}
use Rattle.model.specs.Table.{table_of}
use Rattle.model.specs.List.{events}
use Rattle.grouping.specs.Events.{events_from}
use Rattle.events.proofs.Records.{filled}
use Rattle.events.proofs.list.Given as goal

abbrev pub invariant-loop-k : goal.invariant-loop-k
invariant-loop-k l = record {
  written : l.out ≡ filled (table_of l.fn.table.head l.fn.table.keys.now l.fn.table.heard.now) l.k l.fn.out;
  to_come : events_from l.held l.from ≡ drop l.k (events (table_of l.fn.table.head l.fn.table.keys.now l.fn.table.heard.now));
}
