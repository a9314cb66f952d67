-- The part that is written is as long as the piece.
use Prim.Native.Nat.{◌+◌, ◌-◌}
use mathlib.Core.Path.{◌≡◌}
use native.Mathlib.Omega.{arith}
use lib.ListN.{length}
use Rattle.writer.specs.Pieces.{put_at}
use Rattle.writer.proofs.put.Goals as goal

pub returns : goal.returns
unfolding put_at
returns c =
    let n = length c.args.p.now in
    let as_long : c.args.at + n - c.args.at ≡ n = omega arith in
    rw (c.copy_from_slice.ensures.after, as_long)
