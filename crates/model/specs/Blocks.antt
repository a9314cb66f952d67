-- The payload of a redundant packet: block headers, then the blocks' data (02, request 2, in the place of RFC 2198, 3).
--
--    0                   1                   2                   3
--    0 1 2 3 4 5 6 7 8 9 0 1 2 3 4 5 6 7 8 9 0 1 2 3 4 5 6 7 8 9 0 1
--   +-+-+-+-+-+-+-+-+-+-+-+-+-+-+-+-+-+-+-+-+-+-+-+-+-+-+-+-+-+-+-+-+
--   |1|  block PT   |     timestamp offset      |   block length    |   for each block but the last
--   +-+-+-+-+-+-+-+-+-+-+-+-+-+-+-+-+-+-+-+-+-+-+-+-+-+-+-+-+-+-+-+-+
--   |0|  block PT   |                                                   for the last block, which is the primary
--   +-+-+-+-+-+-+-+-+
--
-- The data follow in the order of the headers, with no alignment; the primary takes the rest, and may have no byte.
use Rattle.std.specs.Prelude.{ℕ, zero, suc, ◌+◌, ◌*◌, ◌/◌, ◌%◌, ◌<◌, ◌≡◌, Bool, true, false, cond, ltb, leb, length, take, drop}
use mathlib.Core.List.{List, [], ◌∷◌, ◌++◌, Memᴰ}
use Rattle.refusals.specs.Refusals.{headers_run_out, blocks_too_long, none, ◌if◌else◌}
use Rattle.model.specs.Packet.{byte, number16, bytes16}

-- THE HEADERS

-- what a header of four bytes says
pub record BlockHeader : Type 0 where
  pub type : ℕ
  pub offset : ℕ
  pub length : ℕ

-- F, the first bit of the header at the start of p
abbrev pub another : List ℕ → Bool
another p = leb 128 (byte p 0)

-- block payload type (7 bits), timestamp offset (14) and block length (10)
abbrev pub block_header : List ℕ → BlockHeader
block_header p = record { type = byte p 0 % 128; offset = number16 p 1 / 4; length = number16 p 2 % 1024 }

-- The headers with F set at the start of a payload of at most n bytes: each leaves fewer. (A byte past the end is read as 0, so no
-- header starts there. One that the end cuts is counted as if it were whole, and then 18 is given.)
unfoldable pub older_within : ℕ → List ℕ → List BlockHeader
older_within zero p = []
older_within (suc n) p = cond (another p) (block_header p ∷ older_within n (drop 4 p)) []

unfoldable pub older : List ℕ → List BlockHeader
older p = older_within (length p) p

-- the place of the last header, one byte: F 0 and the primary's type
abbrev pub last_header : List ℕ → ℕ
last_header p = 4 * length (older p)

abbrev pub primary_type : List ℕ → ℕ
primary_type p = byte p (last_header p)

-- the bytes after the headers
abbrev pub block_data : List ℕ → List ℕ
block_data p = drop (last_header p + 1) p

-- the bytes that the older blocks take of them
unfoldable pub lengths : List BlockHeader → ℕ
lengths [] = 0
lengths (h ∷ hs) = h.length + lengths hs

-- 18: no F 0 ends the headers inside the payload; 19: the lengths come to more than the data
unfoldable pub blocks_refusal : List ℕ → ℕ
blocks_refusal p =
    headers_run_out if leb (length p) (last_header p) else
    blocks_too_long if ltb (length (block_data p)) (lengths (older p)) else
    none

-- THE BLOCKS

pub record Block : Type 0 where
  pub type : ℕ
  -- how much earlier than the packet's timestamp its own is; 0 for the primary
  pub offset : ℕ
  pub primary : Bool
  pub bytes : List ℕ

abbrev pub older_block : BlockHeader → List ℕ → Block
older_block h d = record { type = h.type; offset = h.offset; primary = false; bytes = take h.length d }

abbrev pub primary_block : ℕ → List ℕ → Block
primary_block type d = record { type = type; offset = 0; primary = true; bytes = d }

-- data cut into the blocks of these headers, and the primary, which takes the rest
unfoldable pub cut_data : ℕ → List BlockHeader → List ℕ → List Block
cut_data type [] d = primary_block type d ∷ []
cut_data type (h ∷ hs) d = older_block h d ∷ cut_data type hs (drop h.length d)

-- the blocks of a payload, in order
unfoldable pub blocks : List ℕ → List Block
blocks p = cut_data (primary_type p) (older p) (block_data p)

-- THE SAME, WITHOUT COMPUTING
-- A payload carries these older blocks and this primary if it is their headers and then their data, and the numbers of each fit
-- their fields.

-- offset and length in 24 bits
abbrev pub offset_and_length : Block → ℕ
offset_and_length b = b.offset * 1024 + length b.bytes

-- the four bytes of an older block's header
abbrev pub header_of : Block → List ℕ
header_of b = (128 + b.type) ∷ (offset_and_length b / 65536) ∷ bytes16 (offset_and_length b % 65536)

unfoldable pub headers_of : List Block → List ℕ
headers_of [] = []
headers_of (b ∷ bs) = header_of b ++ headers_of bs

unfoldable pub data_of : List Block → List ℕ
data_of [] = []
data_of (b ∷ bs) = b.bytes ++ data_of bs

abbrev pub laid_out : List Block → Block → List ℕ
laid_out bs last = headers_of bs ++ (last.type ∷ (data_of bs ++ last.bytes))

pub record OlderFits (b : Block) : Type 0 where
  pub type : b.type < 128
  pub offset : b.offset < 16384
  pub length : length b.bytes < 1024
  pub older : b.primary ≡ false

pub record Carries (p : List ℕ) (bs : List Block) (last : Block) : Type 0 where
  pub laid : p ≡ laid_out bs last
  pub fit : (b : Block) → Memᴰ b bs → OlderFits b
  pub type : last.type < 128
  pub primary : last ≡ primary_block last.type last.bytes
