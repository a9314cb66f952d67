-- A block that was found has its header before the next one's.
use mathlib.Core.Path.{refl}
use native.Mathlib.Omega.{arith}
use Rattle.std.specs.Prelude.{Some}
use Rattle.blocks.specs.Step.{step_of}
use Rattle.theorems.proofs.Walks.{found_inside}
use Rattle.walker.proofs.WalkerIterator.next.Goals as goal

pub returns-clause-goes : goal.returns-clause-goes
returns-clause-goes c =
    let w = c.args.self.now in
    let i = found_inside w.packet.now w.cursor (step_of w.cursor (Some c.in_ok-block.block)) c.in_ok-block.ensures refl in
    record { on = λ f. (tt, tt, omega (arith, i.before, i.on, i.same_end)); keeps = tt; rests = λ f. tt }
