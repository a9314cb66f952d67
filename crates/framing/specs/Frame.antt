-- One RFC 4571 frame at a place of a buffer.
use Rattle.std.specs.Prelude.{ℕ, ◌+◌, cond, List, drop, Option, Some, None}
use Rattle.model.specs.Frames.{frame_size, starts_whole}
use Rattle.framing.specs.declared.Frame.{Frame}

-- where the packet of a frame at a place starts, behind its length, and where it ends
unfoldable pub frame_at : List ℕ → ℕ → Option Frame
frame_at bs at = cond (starts_whole (drop at bs)) (Some (record { start = at + 2; end = at + frame_size (drop at bs) })) None
