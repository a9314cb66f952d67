-- The walker (02, request 2): "stands on the packet and hands out the next block as a part of the caller's bytes, with its type and
-- offset, its start refusing 1 to 4, 18 and 19".
use Rattle.std.specs.Prelude.{ℕ, ◌+◌, ◌-◌, ◌≡◌, Bool, true, false, cond, ◌&&◌, List, [], ◌∷◌, ltb, leb, eqb, length, take, drop}
use Rattle.model.specs.declared.Cursor.{Cursor}
use Rattle.model.specs.declared.WalkStart.{WalkStart}
use Rattle.model.specs.declared.BlockStep.{BlockStep}
use Rattle.model.specs.declared.HeaderStep.{HeaderStep}
use Rattle.refusals.specs.Refusals.{none, ◌or_else◌}
use Rattle.model.specs.Packet.{byte, after_header, payload, header_refusal}
use Rattle.model.specs.Blocks.{BlockHeader, another, block_header, last_header, blocks_refusal, Block, blocks}

-- A CURSOR

abbrev pub cursor : ℕ → ℕ → ℕ → Cursor
cursor header body end = record { header = header; body = body; end = end }

-- where a packet's payload ends
abbrev pub payload_ends : List ℕ → ℕ
payload_ends bs = after_header bs + length (payload bs)

-- at the first block
abbrev pub at_first : List ℕ → Cursor
at_first bs = cursor (after_header bs) (after_header bs + last_header (payload bs) + 1) (payload_ends bs)

-- THE START

unfoldable pub walk_refusal : List ℕ → ℕ
walk_refusal bs = header_refusal bs or_else blocks_refusal (payload bs)

unfoldable pub walk_start : List ℕ → WalkStart
walk_start bs =
    cond (eqb (walk_refusal bs) none)
    (record { cursor = at_first bs; refusal = none })
    (record { cursor = cursor 0 0 0; refusal = walk_refusal bs })

-- THE NEXT BLOCK
-- Whoever holds a cursor may have changed it, so any numbers are answered: a block whose header or data are not inside is none.

abbrev pub no_block : Cursor → BlockStep
no_block c = record {
  after = c;
  start = 0;
  end = 0;
  offset = 0;
  payload_type = 0;
  primary = false;
  found = false;
}

-- a header with F 0: the data go to the payload's end, and nothing comes after them
abbrev pub primary_step : Cursor → ℕ → BlockStep
primary_step c type = record {
  after = cursor c.end c.end c.end;
  start = c.body;
  end = c.end;
  offset = 0;
  payload_type = type;
  primary = true;
  found = true;
}

-- a header with F 1: the next one stands four bytes on
abbrev pub older_step : Cursor → BlockHeader → BlockStep
older_step c h = record {
  after = cursor (c.header + 4) (c.body + h.length) c.end;
  start = c.body;
  end = c.body + h.length;
  offset = h.offset;
  payload_type = h.type;
  primary = false;
  found = true;
}

-- the payload's end is inside the packet, and header and data start inside the payload
abbrev pub stands_in : List ℕ → Cursor → Bool
stands_in bs c = leb c.end (length bs) && (ltb c.header c.end && leb c.body c.end)

-- a header of four bytes and its data end inside the payload
abbrev pub is_whole : Cursor → BlockHeader → Bool
is_whole c h = leb 4 (c.end - c.header) && leb h.length (c.end - c.body)

-- the bytes from the cursor's header on
abbrev pub from_header : List ℕ → Cursor → List ℕ
from_header bs c = drop c.header bs

unfoldable pub block_step : List ℕ → Cursor → BlockStep
block_step bs c =
    cond (stands_in bs c)
    (cond (another (from_header bs c))
    (cond (is_whole c (block_header (from_header bs c))) (older_step c (block_header (from_header bs c))) (no_block c))
    (primary_step c (byte (from_header bs c) 0)))
    (no_block c)

-- THE SAME IN FEWER NUMBERS
-- for a walker that keeps its cursor itself

abbrev pub header_step : List ℕ → Cursor → HeaderStep
header_step bs c = record {
  next = (block_step bs c).after.header;
  length = cond (block_step bs c).primary 0 ((block_step bs c).end - (block_step bs c).start);
  offset = (block_step bs c).offset;
  payload_type = (block_step bs c).payload_type;
  primary = (block_step bs c).primary;
  found = (block_step bs c).found;
}

-- where the data end, and the step again
abbrev pub data_end : Cursor → HeaderStep → ℕ
data_end c h = cond h.primary c.end (c.body + h.length)

abbrev pub step_again : Cursor → HeaderStep → BlockStep
step_again c h = cond h.found (record {
  after = cursor h.next (data_end c h) c.end;
  start = c.body;
  end = data_end c h;
  offset = h.offset;
  payload_type = h.payload_type;
  primary = h.primary;
  found = true;
}) (no_block c)

-- nothing is lost
abbrev pub SaysTheStep : Type 0
SaysTheStep = (bs : List ℕ) (c : Cursor) → step_again c (header_step bs c) ≡ block_step bs c

-- THE BLOCK

-- the part of the packet that a step hands out
abbrev pub part_of : List ℕ → ℕ → ℕ → List ℕ
part_of bs start end = take (end - start) (drop start bs)

abbrev pub block_of : List ℕ → BlockStep → Block
block_of bs s = record {
  type = s.payload_type;
  offset = s.offset;
  primary = s.primary;
  bytes = part_of bs s.start s.end;
}

-- WALKING TO THE END

-- from a cursor on these blocks are handed out, in this order, and then no more
unfoldable pub HandsOut : List ℕ → Cursor → List Block → Type 0
HandsOut bs c [] = block_step bs c ≡ no_block c
HandsOut bs c (b ∷ more) =
    ((block_step bs c).found ≡ true) × (block_of bs (block_step bs c) ≡ b) × HandsOut bs (block_step bs c).after more

-- the walker hands out exactly the blocks of the packet
abbrev pub Walks : Type 0
Walks = (bs : List ℕ) → (walk_start bs).refusal ≡ none → HandsOut bs (walk_start bs).cursor (blocks (payload bs))
