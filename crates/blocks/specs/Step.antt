-- A block as C is told it; and an older block's data, which are short.
use Rattle.std.specs.Prelude.{ℕ, ◌-◌, ◌≤◌, ◌<◌, ◌≡◌, Bool, true, false, Option, Some, None}
use Rattle.model.specs.declared.Cursor.{Cursor}
use Rattle.model.specs.declared.BlockStep.{BlockStep}
use Rattle.model.specs.Walk.{no_block}
use Rattle.blocks.specs.declared.step.Block.{Block}

-- where there is no block, the cursor is as it was and all else is zeros
abbrev pub step_of : Cursor → Option Block → BlockStep
step_of c None = no_block c
step_of c (Some b) = record {
  after = b.after;
  start = b.start;
  end = b.end;
  offset = b.offset;
  payload_type = b.payload_type;
  primary = b.primary;
  found = true;
}

pub record Short (primary : Bool) (start end : ℕ) : Type 0 where
  pub ordered : primary ≡ false → start ≤ end
  pub few : primary ≡ false → end - start < 1024
