use mathlib.Core.Path.{refl, ap}
use lib.ListN.{set}
use Rattle.table.proofs.Takes.{known, new}
use Rattle.table.proofs.take.Goals as goal

pub returns-in-Ok : goal.returns-in-Ok
returns-in-Ok c =
    known _ _ _ _ _ c.requires c.told-keys _ c.seek-place.ensures _ c.in-Ok.is c.told-heard _ (ap (set c.args.heard.now c.in-Ok.i) c.merged.ensures) _ refl

pub returns-in-Err-2 : goal.returns-in-Err-2
returns-in-Err-2 c =
    new _ _ _ _ _ c.requires c.told-keys _ c.seek-place.ensures _ c.in-Err-2.is c.told-heard c.if-count-ge128.false _ _ c.insert.ensures c.insert-in-Err-2.ensures _ refl
