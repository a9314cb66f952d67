-- The loop goes back from place to place: the segments before place j decide, until one of the code is met.
use Rattle.grouping.proofs.Laws.{Looking}
use Rattle.grouping.proofs.held.Held.begins.Given as goal

abbrev pub invariant-loop-j : goal.invariant-loop-j
invariant-loop-j l = Looking l.self.keys.now l.self.heard.now l.i l.j
