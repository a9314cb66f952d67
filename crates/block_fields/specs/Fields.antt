-- The numbers of the block header at a place.
use Rattle.std.specs.Prelude.{ℕ, List, drop}
use Rattle.model.specs.Blocks.{block_header}

unfoldable pub length_at : List ℕ → ℕ → ℕ
length_at bs at = (block_header (drop at bs)).length

unfoldable pub offset_at : List ℕ → ℕ → ℕ
offset_at bs at = (block_header (drop at bs)).offset
