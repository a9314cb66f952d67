use Rattle.std.proofs.Common.{◌≡◌, ◌-◌, ◌≤◌, length}
use Rattle.input.proofs.read_full.Given as goal

abbrev pub invariant-loop-before : goal.invariant-loop-before
invariant-loop-before g l = (length l.b ≡ length l.fn.b) × (l.before ≤ length l.b)

abbrev pub decreases-loop-before : goal.decreases-loop-before
decreases-loop-before g l = length l.initial.b - l.before
