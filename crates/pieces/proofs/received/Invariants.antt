use Rattle.pieces.proofs.Laws.{Listens}
use Rattle.pieces.proofs.received.Given as goal

abbrev pub invariant-loop : goal.invariant-loop
invariant-loop g l = Listens l.initial.table l.so_far l.table l.b
