-- The loop goes from the segment last taken to the one that continues it: what continues it from place j on makes the event
-- so far into the whole.
use Rattle.std.proofs.Common.{length}
use Rattle.grouping.proofs.Laws.{Growing}
use Rattle.grouping.proofs.held.Held.event_from.Given as goal

abbrev pub invariant-loop-j : goal.invariant-loop-j
invariant-loop-j l = Growing l.self.keys.now l.self.heard.now (length l.self.keys.now) l.i l.j l.v l.last
