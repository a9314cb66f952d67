-- Both sides of each edge of a redundant payload, computed from the definitions: where headers and data run out, what the blocks are, where
-- the walker starts, and the step at any cursor. Beside each row stands what it must be.
use Prim.Native.Nat.{ℕ}
use mathlib.Core.Path.{◌≡◌, refl}
use mathlib.Core.Bool.{true, false}
use mathlib.Core.List.{List, [], ◌∷◌, ◌++◌, map}
use lib.ListN.{take, replicate}
use Rattle.model.specs.declared.Cursor.{Cursor}
use Rattle.model.specs.declared.WalkStart.{WalkStart}
use Rattle.model.specs.declared.BlockStep.{BlockStep}
use Rattle.model.specs.Packet.{after_header, payload, header_refusal}
use Rattle.model.specs.Blocks.{Block, older_within, older, lengths, blocks_refusal, cut_data, blocks}
use Rattle.model.specs.Walk.{walk_refusal, walk_start, block_step}

-- PAYLOADS

-- a header 0xE5 0 0 n is one of type 101, offset 0 and length n; 0x65 is the last, of type 101
abbrev payloads : List (List ℕ × ℕ)
payloads =
    -- no F 0 inside the payload
    ([], 18)
    ∷ (0xE5 ∷ [], 18)
    ∷ (0xE5 ∷ 0 ∷ [], 18)
    ∷ (0xE5 ∷ 0 ∷ 0 ∷ [], 18)
    ∷ (0xE5 ∷ 0 ∷ 0 ∷ 0 ∷ [], 18)
    ∷ (0xE5 ∷ 0 ∷ 0 ∷ 4 ∷ 0xE5 ∷ 0 ∷ 0 ∷ [], 18)  -- the second header cut
    ∷ (0xE5 ∷ 0 ∷ 0 ∷ 4 ∷ 0xE5 ∷ 0 ∷ 0 ∷ 4 ∷ [], 18)
    ∷ (0x80 ∷ 0 ∷ 0 ∷ 9 ∷ [], 18)  -- 18 before 19
    -- the last header alone: a block of 0 bytes
    ∷ (0x65 ∷ [], 0)
    ∷ (0 ∷ [], 0)
    ∷ (0x7F ∷ 1 ∷ 2 ∷ 3 ∷ [], 0)
    ∷ (0xE5 ∷ 0 ∷ 0 ∷ 0 ∷ 0x65 ∷ [], 0)
    -- lengths that fit exactly, and one byte more than the data
    ∷ (0xE5 ∷ 0 ∷ 0 ∷ 1 ∷ 0x65 ∷ [], 19)
    ∷ (0xE5 ∷ 0 ∷ 0 ∷ 1 ∷ 0x65 ∷ 7 ∷ [], 0)
    ∷ (0xE5 ∷ 0 ∷ 0 ∷ 4 ∷ 0x65 ∷ 5 ∷ 10 ∷ 1 ∷ [], 19)
    ∷ (0xE5 ∷ 0 ∷ 0 ∷ 4 ∷ 0x65 ∷ 5 ∷ 10 ∷ 1 ∷ 0x90 ∷ [], 0)
    ∷ ((0xE5 ∷ 0 ∷ 0 ∷ 4 ∷ 0x80 ∷ 0 ∷ 0 ∷ 3 ∷ 0xE5 ∷ 0 ∷ 0 ∷ 2 ∷ 0x65 ∷ []) ++ replicate 8 0, 19)
    ∷ ((0xE5 ∷ 0 ∷ 0 ∷ 4 ∷ 0x80 ∷ 0 ∷ 0 ∷ 3 ∷ 0xE5 ∷ 0 ∷ 0 ∷ 2 ∷ 0x65 ∷ []) ++ replicate 9 0, 0)
    ∷ ((0xE5 ∷ 0 ∷ 0 ∷ 4 ∷ 0x80 ∷ 0 ∷ 0 ∷ 3 ∷ 0xE5 ∷ 0 ∷ 0 ∷ 2 ∷ 0x65 ∷ []) ++ replicate 10 0, 0)
    -- ten bits of length: 256, 1,023, and 1,024, which is offset 1 and length 0
    ∷ ((0xE5 ∷ 0 ∷ 1 ∷ 0 ∷ 0x65 ∷ []) ++ replicate 255 0, 19)
    ∷ ((0xE5 ∷ 0 ∷ 1 ∷ 0 ∷ 0x65 ∷ []) ++ replicate 256 0, 0)
    ∷ ((0xE5 ∷ 0 ∷ 3 ∷ 0xFF ∷ 0x65 ∷ []) ++ replicate 1022 0, 19)
    ∷ ((0xE5 ∷ 0 ∷ 3 ∷ 0xFF ∷ 0x65 ∷ []) ++ replicate 1023 0, 0)
    ∷ (0xE5 ∷ 0 ∷ 4 ∷ 0 ∷ 0x65 ∷ [], 0)
    ∷ []

pub payloads_refused : map (λ row. blocks_refusal row.0) payloads ≡ map (λ row. row.1) payloads
unfolding blocks_refusal older older_within lengths
payloads_refused = refl

-- by type, offset and data
abbrev before : ℕ → ℕ → List ℕ → Block
before type offset bytes = record { type = type; offset = offset; primary = false; bytes = bytes }

abbrev last : ℕ → List ℕ → Block
last type bytes = record { type = type; offset = 0; primary = true; bytes = bytes }

abbrev carried : List (List ℕ × List Block)
carried =
    (0x65 ∷ [], last 101 [] ∷ [])
    ∷ (0 ∷ 1 ∷ 2 ∷ [], last 0 (1 ∷ 2 ∷ []) ∷ [])
    ∷ (0x7F ∷ 1 ∷ [], last 127 (1 ∷ []) ∷ [])
    -- offsets 0, 1, 63, 64, 16,383, and the type at its largest and smallest
    ∷ (0xFF ∷ 0 ∷ 0 ∷ 1 ∷ 0 ∷ 1 ∷ 2 ∷ [], before 127 0 (1 ∷ []) ∷ last 0 (2 ∷ []) ∷ [])
    ∷ (0x80 ∷ 0 ∷ 4 ∷ 1 ∷ 0x7F ∷ 1 ∷ 2 ∷ [], before 0 1 (1 ∷ []) ∷ last 127 (2 ∷ []) ∷ [])
    ∷ (0xE5 ∷ 0 ∷ 0xFC ∷ 1 ∷ 0x65 ∷ 1 ∷ 2 ∷ [], before 101 63 (1 ∷ []) ∷ last 101 (2 ∷ []) ∷ [])
    ∷ (0xE5 ∷ 1 ∷ 0 ∷ 1 ∷ 0x65 ∷ 1 ∷ 2 ∷ [], before 101 64 (1 ∷ []) ∷ last 101 (2 ∷ []) ∷ [])
    ∷ (0xE5 ∷ 0xFF ∷ 0xFC ∷ 1 ∷ 0x65 ∷ 1 ∷ 2 ∷ [], before 101 16383 (1 ∷ []) ∷ last 101 (2 ∷ []) ∷ [])
    -- all bits of offset and length
    ∷ ((0xE5 ∷ 0xFF ∷ 0xFF ∷ 0xFF ∷ 0x65 ∷ []) ++ (replicate 1023 7 ++ (8 ∷ [])), before 101 16383 (replicate 1023 7) ∷ last 101 (8 ∷ []) ∷ [])
    -- data in the order of the headers; blocks of 0 bytes between others, and at the end
    ∷ (
      0xE5 ∷ 0x06 ∷ 0x40 ∷ 2 ∷ 0x80 ∷ 0x02 ∷ 0x80 ∷ 0 ∷ 0xE4 ∷ 0 ∷ 0 ∷ 1 ∷ 0x66 ∷ 1 ∷ 2 ∷ 3 ∷ 4 ∷ 5 ∷ [],
      before 101 400 (1 ∷ 2 ∷ []) ∷ before 0 160 [] ∷ before 100 0 (3 ∷ []) ∷ last 102 (4 ∷ 5 ∷ []) ∷ [],
    )
    ∷ (0xE5 ∷ 0 ∷ 0 ∷ 2 ∷ 0x65 ∷ 1 ∷ 2 ∷ [], before 101 0 (1 ∷ 2 ∷ []) ∷ last 101 [] ∷ [])
    -- data that look like headers are data
    ∷ (0x65 ∷ 0xE5 ∷ 0 ∷ 0 ∷ 4 ∷ [], last 101 (0xE5 ∷ 0 ∷ 0 ∷ 4 ∷ []) ∷ [])
    ∷ []

pub carried_cut : map (λ row. blocks row.0) carried ≡ map (λ row. row.1) carried
unfolding blocks cut_data older older_within
carried_cut = refl

-- THE WALKER'S START

-- twelve bytes of header with a given first byte
abbrev header : ℕ → List ℕ
header first = first ∷ 0xE6 ∷ 0 ∷ 1 ∷ 0 ∷ 0 ∷ 0 ∷ 16 ∷ 0 ∷ 0 ∷ 0 ∷ 7 ∷ []

abbrev cursor : ℕ → ℕ → ℕ → Cursor
cursor h b e = record { header = h; body = b; end = e }

abbrev refused : ℕ → WalkStart
refused n = record { cursor = cursor 0 0 0; refusal = n }

abbrev starting : ℕ → ℕ → ℕ → WalkStart
starting h b e = record { cursor = cursor h b e; refusal = 0 }

abbrev starts : List (List ℕ × WalkStart)
starts =
    -- 1 to 4 before 18 and 19
    ([], refused 1)
    ∷ (take 11 (header 0x80), refused 1)
    ∷ (header 0x40, refused 2)
    ∷ (header 0xC0 ++ (0xE5 ∷ 0 ∷ 0 ∷ 1 ∷ 0x65 ∷ []), refused 2)
    ∷ (header 0x81 ++ (0x65 ∷ []), refused 3)
    ∷ (header 0xA0, refused 4)
    ∷ (header 0xA0 ++ (0xE5 ∷ 0 ∷ 0 ∷ 1 ∷ 0x65 ∷ 0 ∷ []), refused 4)
    ∷ (header 0xA0 ++ (0x65 ∷ 3 ∷ []), refused 4)
    -- 18 and 19
    ∷ (header 0x80, refused 18)
    ∷ (header 0x80 ++ (0xE5 ∷ 0 ∷ 0 ∷ 0 ∷ []), refused 18)
    ∷ (header 0x80 ++ (0xE5 ∷ 0 ∷ 0 ∷ 2 ∷ 0x65 ∷ 1 ∷ []), refused 19)
    -- padding is neither header nor data
    ∷ (header 0xA0 ++ (0x65 ∷ 2 ∷ []), refused 18)
    ∷ (header 0xA0 ++ (0x65 ∷ 1 ∷ []), starting 12 13 13)
    ∷ (header 0xA0 ++ (0xE5 ∷ 0 ∷ 0 ∷ 2 ∷ 0x65 ∷ 8 ∷ 8 ∷ 0 ∷ 2 ∷ []), starting 12 17 19)
    ∷ (header 0xA0 ++ (0xE5 ∷ 0 ∷ 0 ∷ 3 ∷ 0x65 ∷ 8 ∷ 8 ∷ 0 ∷ 2 ∷ []), refused 19)
    -- the first header stands behind CSRCs and extension, the first body behind all headers
    ∷ (header 0x80 ++ (0x65 ∷ []), starting 12 13 13)
    ∷ (header 0x80 ++ (0xE5 ∷ 0 ∷ 0 ∷ 2 ∷ 0x65 ∷ 1 ∷ 2 ∷ 3 ∷ []), starting 12 17 20)
    ∷ (header 0x82 ++ (replicate 8 9 ++ (0xE5 ∷ 0 ∷ 0 ∷ 1 ∷ 0xE5 ∷ 0 ∷ 0 ∷ 1 ∷ 0x65 ∷ 1 ∷ 2 ∷ [])), starting 20 29 31)
    ∷ (header 0xB1 ++ (replicate 4 9 ++ ((9 ∷ 9 ∷ 0 ∷ 1 ∷ 9 ∷ 9 ∷ 9 ∷ 9 ∷ []) ++ (0x65 ∷ 1 ∷ 2 ∷ 3 ∷ 0 ∷ 0 ∷ 3 ∷ []))), starting 24 25 28)
    ∷ []

pub starts_answer : map (λ row. walk_start row.0) starts ≡ map (λ row. row.1) starts
unfolding walk_start walk_refusal header_refusal after_header payload blocks_refusal older older_within lengths
starts_answer = refl

-- THE STEP AT A CURSOR

-- 30 bytes: three headers from place 12 on, data from 21 on, of four, two and three bytes
abbrev packet : List ℕ
packet = header 0x80 ++ (0xE5 ∷ 0x06 ∷ 0x40 ∷ 4 ∷ 0x80 ∷ 0x02 ∷ 0x80 ∷ 2 ∷ 0x65 ∷ 1 ∷ 2 ∷ 3 ∷ 4 ∷ 5 ∷ 6 ∷ 7 ∷ 8 ∷ 9 ∷ [])

abbrev none : Cursor → BlockStep
none c = record { after = c; start = 0; end = 0; offset = 0; payload_type = 0; primary = false; found = false }

-- by type, offset, start and end, and the cursor after it
abbrev handing : ℕ → ℕ → ℕ → ℕ → Cursor → BlockStep
handing type offset start end after = record {
  after = after;
  start = start;
  end = end;
  offset = offset;
  payload_type = type;
  primary = false;
  found = true;
}

abbrev ending : ℕ → ℕ → ℕ → BlockStep
ending type start end = record {
  after = cursor end end end;
  start = start;
  end = end;
  offset = 0;
  payload_type = type;
  primary = true;
  found = true;
}

abbrev steps : List (Cursor × BlockStep)
steps =
    -- first, middle, last, and after the last
    (cursor 12 21 30, handing 101 400 21 25 (cursor 16 25 30))
    ∷ (cursor 16 25 30, handing 0 160 25 27 (cursor 20 27 30))
    ∷ (cursor 20 27 30, ending 101 27 30)
    ∷ (cursor 30 30 30, none (cursor 30 30 30))
    -- cursors that no walk reaches. The end is past the packet
    ∷ (cursor 12 21 31, none (cursor 12 21 31))
    ∷ (cursor 20 27 31, none (cursor 20 27 31))
    ∷ (cursor 20 27 0xFFFF_FFFF_FFFF_FFFF, none (cursor 20 27 0xFFFF_FFFF_FFFF_FFFF))
    -- no header before the end
    ∷ (cursor 0 0 0, none (cursor 0 0 0))
    ∷ (cursor 20 20 20, none (cursor 20 20 20))
    ∷ (cursor 21 20 20, none (cursor 21 20 20))
    ∷ (cursor 0xFFFF_FFFF_FFFF_FFFF 20 30, none (cursor 0xFFFF_FFFF_FFFF_FFFF 20 30))
    ∷ (cursor 20 20 21, ending 101 20 21)
    -- the body starts at the end, and past it
    ∷ (cursor 20 30 30, ending 101 30 30)
    ∷ (cursor 20 31 30, none (cursor 20 31 30))
    ∷ (cursor 12 31 30, none (cursor 12 31 30))
    -- a header of four bytes ends at the end, and past it
    ∷ (cursor 12 12 16, handing 101 400 12 16 (cursor 16 16 16))
    ∷ (cursor 12 11 15, none (cursor 12 11 15))
    -- the block ends at the end, and past it
    ∷ (cursor 12 26 30, handing 101 400 26 30 (cursor 16 30 30))
    ∷ (cursor 12 27 30, none (cursor 12 27 30))
    ∷ []

pub steps_answer : map (λ row. block_step packet row.0) steps ≡ map (λ row. row.1) steps
unfolding block_step
steps_answer = refl
