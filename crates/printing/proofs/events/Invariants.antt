-- After k turns k events are put behind what was there.
use Prim.Native.Nat.{◌*◌}
use Rattle.printing.specs.Output.{Puts}
use Rattle.printing.proofs.events.Given as goal

abbrev pub invariant-loop-v : goal.invariant-loop-v
invariant-loop-v l = Puts (224 * l.v-index) l.fn.text l.text
