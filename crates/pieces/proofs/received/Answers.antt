use Rattle.std.proofs.Common.{arith}
use Rattle.pieces.proofs.Laws.{begins, one_came, room_left}
use Rattle.pieces.proofs.received.Goals as goal

pub loop-init : goal.loop-init
loop-init g c = begins _ _ _ c.default.ensures c.buffer-b.ensures

pub refill-requires : goal.refill-requires
refill-requires g c = omega (arith, room_left _ _ _ _ c.loop.invariant)

pub loop-preserved : goal.loop-preserved
loop-preserved g c = one_came _ _ _ _ c.loop.invariant _ _ c.in-Ok.ensures _ _ _ c.go_on-so_far.ensures
