-- The first stage of reading, the header as far as the payload's place (1 to 4). A receiver uses the two stages apart, because its
-- refusals 5 and 6 stand between them. Every number is that of the model's definitions.
use Rattle.std.specs.Prelude.{ℕ, ◌-◌, cond, ◌&&◌, ◌||◌, List, ltb, eqb, length}
use Rattle.refusals.specs.Refusals.{Told, telling, none, ◌if◌else◌, header_past_end, bad_padding}
use Rattle.model.specs.Packet.{padded, after_header, bytes_left, pad_count}

-- where the payload starts, unless the CSRC list or the extension runs past the end
unfoldable pub start_of : List ℕ → Told ℕ
start_of bs = telling (header_past_end if ltb (length bs) (after_header bs) else none) 0 (after_header bs)

-- where it ends: before the padding, unless the pad count is wrong
unfoldable pub payload_end : List ℕ → ℕ
payload_end bs = length bs - cond (padded bs) (pad_count bs) 0

unfoldable pub end_of : List ℕ → Told ℕ
end_of bs =
    telling
    (bad_padding if padded bs && (eqb (pad_count bs) 0 || ltb (bytes_left bs) (pad_count bs)) else none)
    0
    (payload_end bs)
