-- The loop goes from place to place: the events that begin before place i, and those that begin there or later, are all.
use Rattle.std.proofs.Common.{length}
use Rattle.grouping.proofs.Laws.{Counting}
use Rattle.grouping.proofs.held.Held.count.Given as goal

abbrev pub invariant-loop-i : goal.invariant-loop-i
invariant-loop-i l = Counting l.self.keys.now l.self.heard.now (length l.self.keys.now) l.i l.count
