-- More worked examples, computed from the definitions: what no theorem speaks of in a packet's form, the order of the
-- refusals, what a call does to the columns, and segments of two codes between one another. Beside each row stands what it
-- must be.
use Prim.Native.Nat.{ℕ, zero, suc, ◌+◌, ◌*◌}
use mathlib.Core.Path.{◌≡◌, refl}
use mathlib.Core.Bool.{Bool, true, false}
use mathlib.Core.List.{List, [], ◌∷◌, ◌++◌, map}
use lib.ListN.{length, take, replicate}
use Rattle.model.specs.declared.Report.{Report}
use Rattle.model.specs.declared.Segment.{Segment}
use Rattle.model.specs.declared.Event.{Event}
use Rattle.model.specs.declared.Table.{Table}
use Rattle.model.specs.declared.Received.{Received}
use Rattle.model.specs.declared.Lookup.{Lookup}
use Rattle.model.specs.Codes.{is_in, the_keys}
use Rattle.refusals.specs.Refusals.{Told, answered, refused_by}
use Rattle.model.specs.Packet.{after_header, payload, header_refusal, payload_refusal, read, packet_of}
use Rattle.model.specs.Plan.{segment}
use Rattle.model.specs.Segments.{rising, same_pair, merge}
use Rattle.model.specs.Search.{middle, is_smaller, kept, searching, search}
use Rattle.model.specs.Table.{segments_from, opened, one_type, empty_table, all_valid, valid, holds, put}
use Rattle.model.specs.Receive.{heard_by, unheard, hear_refusal, probes, hear, arrival_in, refusal_for, packet_refusal, receive}
use Rattle.model.specs.Events.{units, loudest, quietest, last_ended, continues_nearest, continuing, events_from, events_of}

-- PACKETS

-- twelve bytes of header with a given first byte: M set, payload type 101, sequence 1, timestamp 16, SSRC 7
abbrev header : ℕ → List ℕ
header first = first ∷ 0xE5 ∷ 0 ∷ 1 ∷ 0 ∷ 0 ∷ 0 ∷ 16 ∷ 0 ∷ 0 ∷ 0 ∷ 7 ∷ []

-- key 5, E, R set, volume 10, duration 400
abbrev good : List ℕ
good = 5 ∷ 0xCA ∷ 1 ∷ 0x90 ∷ []

abbrev report : Report
report = record {
  marker = true;
  payload_type = 101;
  sequence = 1;
  timestamp = 16;
  ssrc = 7;
  code = 5;
  ended = true;
  volume = 10;
  duration = 400;
}

-- refused, with zeros
abbrev refused : ℕ → Told Report
refused n = refused_by n (record {
  marker = false;
  payload_type = 0;
  sequence = 0;
  timestamp = 0;
  ssrc = 0;
  code = 0;
  ended = false;
  volume = 0;
  duration = 0;
})

-- reading each of these packets tells what stands beside it
abbrev packets : List (List ℕ × Told Report)
packets =
    (take 11 (header 0x80), refused 1)
    ∷ (header 0x40 ++ good, refused 2)
    ∷ (header 0x82 ++ (1 ∷ 2 ∷ 3 ∷ 4 ∷ 5 ∷ 6 ∷ 7 ∷ []), refused 3)  -- two CSRCs, one byte short
    ∷ (header 0x90 ++ (0 ∷ 0 ∷ 0 ∷ []), refused 3)  -- the extension's own four bytes cut
    ∷ (header 0x90 ++ (0 ∷ 0 ∷ 0 ∷ 1 ∷ 0 ∷ 0 ∷ 0 ∷ []), refused 3)  -- its one word cut
    ∷ (header 0xA0, refused 4)  -- P, and nothing after the header
    ∷ (header 0xA0 ++ (good ++ (0 ∷ [])), refused 4)  -- pad count 0
    ∷ (header 0xA0 ++ (good ++ (6 ∷ [])), refused 4)  -- pad count above the five bytes
    ∷ (header 0xA0 ++ (good ++ (5 ∷ [])), refused 7)  -- pad count of all five: no payload
    ∷ (header 0x80 ++ (5 ∷ 0 ∷ 0 ∷ []), refused 7)
    ∷ (header 0x80 ++ (good ++ good), refused 17)
    ∷ (header 0x80 ++ ((16 ∷ 0 ∷ 0 ∷ 0 ∷ []) ++ good), refused 17)  -- 17 before 8
    ∷ (header 0xA0 ++ (good ++ (good ++ (9 ∷ 9 ∷ 9 ∷ 4 ∷ []))), refused 17)  -- eight bytes before four of padding
    ∷ (header 0xA0 ++ (good ++ (9 ∷ 9 ∷ 9 ∷ 4 ∷ [])), answered report)  -- four before four
    ∷ (header 0xA0 ++ (good ++ (9 ∷ 9 ∷ 9 ∷ 9 ∷ [])), refused 4)  -- 4 before 17
    ∷ (header 0x92 ++ (replicate 8 9 ++ ((0 ∷ 0 ∷ 0 ∷ 1 ∷ 9 ∷ 9 ∷ 9 ∷ 9 ∷ []) ++ (good ++ good))), refused 17)
    ∷ (header 0x80 ++ (16 ∷ 0 ∷ 0 ∷ []), refused 7)  -- 7 before 8
    ∷ (header 0x80 ++ (16 ∷ 0 ∷ 0 ∷ 0 ∷ []), refused 8)  -- 8 before 9
    ∷ (header 0x80 ++ (15 ∷ 0 ∷ 0 ∷ 0 ∷ []), refused 9)
    ∷ (header 0x80 ++ good, answered report)
    ∷ (header 0xB2 ++ (replicate 8 9 ++ ((0 ∷ 0 ∷ 0 ∷ 1 ∷ 9 ∷ 9 ∷ 9 ∷ 9 ∷ []) ++ (good ++ (9 ∷ 9 ∷ 3 ∷ [])))), answered report)
    ∷ []

pub packets_read : map (λ row. read the_keys row.0) packets ≡ map (λ row. row.1) packets
unfolding is_in read header_refusal after_header payload payload_refusal
packets_read = refl

-- payloads of 0 to 16 bytes
abbrev lengths : List (ℕ × ℕ)
lengths =
    (0, 7) ∷ (1, 7) ∷ (2, 7) ∷ (3, 7) ∷ (4, 0) ∷ (5, 7) ∷ (6, 7) ∷ (7, 7) ∷ (8, 17) ∷ (9, 7) ∷ (10, 7) ∷ (11, 7) ∷ (12, 17) ∷ (13, 7) ∷ (14, 7) ∷ (15, 7)
    ∷ (16, 17) ∷ []

pub lengths_told : map (λ row. payload_refusal the_keys (replicate row.0 1)) lengths ≡ map (λ row. row.1) lengths
unfolding is_in payload_refusal
lengths_told = refl

-- THE RECEIVING CALL

-- the refusals of an empty table, and of one whose payload type fails the tests
abbrev table : Table
table = (opened the_keys 101 7 16).table

abbrev at_volume : ℕ → ℕ → List ℕ
at_volume volume timestamp = packet_of (record {
  marker = true;
  payload_type = 101;
  sequence = 1;
  timestamp = timestamp;
  ssrc = 7;
  code = 5;
  ended = false;
  volume = volume;
  duration = 400;
})

abbrev at : ℕ → List ℕ
at = at_volume 10

abbrev calls : List ((Table × List ℕ) × ℕ)
calls =
    ((table, at 16), 0)
    ∷ ((table, at 15), 10)  -- offset 2^32 - 1
    ∷ ((table, at (16 + 0x7FFF_FFFF)), 0)  -- offset 2^31 - 1
    ∷ ((table, at (16 + 0x8000_0000)), 10)  -- offset 2^31
    ∷ (((opened the_keys 100 8 16).table, header 0x80 ++ (5 ∷ 0 ∷ 0 ∷ [])), 5)  -- 5 before 6 and 7
    ∷ (((opened the_keys 101 8 16).table, header 0x80 ++ (5 ∷ 0 ∷ 0 ∷ [])), 6)  -- 6 before 7
    ∷ (((opened the_keys 101 8 16).table, header 0x80 ++ (good ++ good)), 6)  -- 6 before 17
    ∷ ((table, header 0x80 ++ (good ++ good)), 17)
    ∷ (((opened the_keys 100 7 16).table, header 0xA0), 4)  -- 4 before 5
    ∷ ((empty_table (one_type the_keys 128 7 16), []), 16)  -- 16 before 1
    ∷ []

pub calls_answer : map (λ row. (receive row.0.0 row.0.1).answer.refusal) calls ≡ map (λ row. row.1) calls
unfolding is_in packet_of receive packet_refusal refusal_for hear hear_refusal unheard probes heard_by arrival_in valid rising all_valid segments_from holds header_refusal after_header payload payload_refusal
calls_answer = refl

-- THE COLUMNS

-- three places, of which the first holds offset 100, code 5, duration 400, volume 10
abbrev one_held : Table
one_held = record {
  head = record { payload_type = 101; both_types = 0; redundant_type = 0; ssrc = 7; origin = 16; codes = the_keys; count = 1 };
  keys = 0x6405 ∷ 99 ∷ 98 ∷ [];
  heard = 0xA28_0190 ∷ 97 ∷ 96 ∷ [];
}

-- the answer, and the columns after it: of what was heard, M is bit 17, the quietest stands from bit 18 on, the volume from bit 24
abbrev columns : List (List ℕ × (Received × (List ℕ × List ℕ)))
columns =
    -- a new segment moves the one held up, and the place above stays
    (at 16, (record { refusal = 0; is_new = true; count = 2; probes = 1 }, (5 ∷ 0x6405 ∷ 98 ∷ [], 0xA2A_0190 ∷ 0xA28_0190 ∷ 96 ∷ [])))
    ∷ (at 117, (record { refusal = 0; is_new = true; count = 2; probes = 1 }, (0x6405 ∷ 0x6505 ∷ 98 ∷ [], 0xA28_0190 ∷ 0xA2A_0190 ∷ 96 ∷ [])))
    -- a known one
    ∷ (at 116, (record { refusal = 0; is_new = false; count = 1; probes = 1 }, (0x6405 ∷ 99 ∷ 98 ∷ [], 0xA2A_0190 ∷ 97 ∷ 96 ∷ [])))
    -- a louder report of it, and a quieter one
    ∷ (at_volume 3 116, (record { refusal = 0; is_new = false; count = 1; probes = 1 }, (0x6405 ∷ 99 ∷ 98 ∷ [], 0x32A_0190 ∷ 97 ∷ 96 ∷ [])))
    ∷ (at_volume 63 116, (record { refusal = 0; is_new = false; count = 1; probes = 1 }, (0x6405 ∷ 99 ∷ 98 ∷ [], 0xAFE_0190 ∷ 97 ∷ 96 ∷ [])))
    -- a refusal leaves all places
    ∷ (at 15, (record { refusal = 10; is_new = false; count = 1; probes = 0 }, (0x6405 ∷ 99 ∷ 98 ∷ [], 0xA28_0190 ∷ 97 ∷ 96 ∷ [])))
    ∷ []

pub columns_after : map (λ row. ((receive one_held row.0).answer, ((receive one_held row.0).table.keys, (receive one_held row.0).table.heard))) columns
    ≡ map (λ row. row.1) columns
unfolding is_in packet_of receive packet_refusal refusal_for hear hear_refusal unheard probes heard_by arrival_in valid rising all_valid segments_from holds put header_refusal after_header payload payload_refusal middle is_smaller kept searching
columns_after = refl

-- THE SEARCH

-- the first n of eight segments, at offsets 10, 20, .. 80
abbrev entries : ℕ → List Segment
entries n = take n (map (λ i. segment (10 * i) 5 400 10 false true) (1 ∷ 2 ∷ 3 ∷ 4 ∷ 5 ∷ 6 ∷ 7 ∷ 8 ∷ []))

abbrev found : ℕ → ℕ → Lookup
found place probes = record { place = place; probes = probes }

-- n entries, the offset looked for, and where the search ends after how many looks
abbrev searches : List (ℕ × (ℕ × Lookup))
searches =
    -- none held
    (0, (1, found 0 0))
    ∷ (0, (9, found 0 0))
    -- one
    ∷ (1, (9, found 0 1))
    ∷ (1, (10, found 0 1))
    ∷ (1, (11, found 1 1))
    -- two
    ∷ (2, (9, found 0 2))
    ∷ (2, (10, found 0 2))
    ∷ (2, (20, found 1 2))
    ∷ (2, (21, found 2 1))
    -- three
    ∷ (3, (9, found 0 2))
    ∷ (3, (10, found 0 2))
    ∷ (3, (20, found 1 2))
    ∷ (3, (30, found 2 2))
    ∷ (3, (31, found 3 2))
    -- eight: one look more in the first two places
    ∷ (8, (9, found 0 4))
    ∷ (8, (10, found 0 4))
    ∷ (8, (11, found 1 4))
    ∷ (8, (20, found 1 4))
    ∷ (8, (21, found 2 3))
    ∷ (8, (40, found 3 3))
    ∷ (8, (50, found 4 3))
    ∷ (8, (80, found 7 3))
    ∷ (8, (81, found 8 3))
    ∷ []

pub searches_end : map (λ row. search (segment row.1.0 5 1 0 false false) (entries row.0)) searches ≡ map (λ row. row.1.1) searches
unfolding middle is_smaller kept searching
searches_end = refl

-- by code where the offset is the same
pub searches_by_code : map (λ code. search (segment 20 code 1 0 false false) (entries 3)) (4 ∷ 5 ∷ 6 ∷ []) ≡ found 1 2 ∷ found 1 2 ∷ found 2 2 ∷ []
unfolding middle is_smaller kept searching
searches_by_code = refl

-- A FULL TABLE

-- n numbers, k, k + 512, ..
abbrev keys_from : ℕ → ℕ → List ℕ
keys_from k zero = []
keys_from k (suc n) = k ∷ keys_from (k + 512) n

-- 128 segments of code 5, at offsets 1, 3, .. 255
abbrev full : Table
full = record {
  head = record { payload_type = 101; both_types = 0; redundant_type = 0; ssrc = 7; origin = 16; codes = the_keys; count = 128 };
  keys = keys_from 261 128;
  heard = replicate 128 0xA28_0190;
}

-- 11 hands back the entries looked at, and so does a report of a segment that is held
abbrev full_calls : List (List ℕ × Received)
full_calls =
    (at 16, record { refusal = 11; is_new = false; count = 128; probes = 8 })  -- before all
    ∷ (at 17, record { refusal = 0; is_new = false; count = 128; probes = 8 })  -- the first
    ∷ (at 18, record { refusal = 11; is_new = false; count = 128; probes = 8 })  -- in the second place
    ∷ (at 20, record { refusal = 11; is_new = false; count = 128; probes = 7 })  -- in the third
    ∷ (at 271, record { refusal = 0; is_new = false; count = 128; probes = 7 })  -- the last
    ∷ (at 272, record { refusal = 11; is_new = false; count = 128; probes = 7 })  -- after all
    ∷ (at 15, record { refusal = 10; is_new = false; count = 128; probes = 0 })
    ∷ []

pub full_answers : map (λ row. (receive full row.0).answer) full_calls ≡ map (λ row. row.1) full_calls
unfolding is_in packet_of receive packet_refusal refusal_for hear hear_refusal unheard probes heard_by arrival_in valid rising all_valid segments_from holds put header_refusal after_header payload payload_refusal middle is_smaller kept searching
full_answers = refl

-- TWO REPORTS OF ONE PAIR, and of two codes at one offset

abbrev interim : Segment
interim = segment 0 5 400 10 false false

abbrev whole : Segment
whole = segment 0 5 800 20 true true

pub merged : merge interim whole ≡ record { offset = 0; code = 5; duration = 800; volume = 10; quietest = 20; ended = true; marked = true }
merged = refl

pub pairs : map (λ s. same_pair interim s) (whole ∷ segment 0 6 400 10 false false ∷ segment 1 5 400 10 false false ∷ []) ≡ true ∷ false ∷ false ∷ []
pairs = refl

-- EVENTS

-- by code, start, length, volume and quietest
abbrev event : ℕ → ℕ → ℕ → ℕ → ℕ → Bool → Bool → Event
event code start length loud quiet b e =
    record { code = code; start = start; length = length; volume = loud; quietest = quiet; began = b; ended = e }

abbrev segments : List (List Segment × List Event)
segments =
    -- two keys between one another, each of two segments; the louder segment gives the volume, the quieter one the quietest
    (
      segment 0 5 65535 10 false true ∷ segment 9 6 65535 4 false true ∷ segment 65535 5 1 7 true false ∷ segment 65544 6 2 8 true false ∷ [],
      event 5 0 65536 7 10 true true ∷ event 6 9 65537 4 8 true true ∷ [],
    )
    -- two codes at one offset; a gap of one unit is no continuation
    ∷ (
      segment 0 5 65535 10 false true ∷ segment 0 6 65535 10 false false ∷ segment 65536 5 1 10 true false ∷ [],
      event 5 0 65535 10 10 true false ∷ event 6 0 65535 10 10 false false ∷ event 5 65536 1 10 10 false true ∷ [],
    )
    -- a short segment that the next one continues
    ∷ (segment 0 5 400 10 false true ∷ segment 400 5 100 10 true false ∷ [], event 5 0 500 10 10 true true ∷ [])
    ∷ []

pub segments_list : map (λ row. events_of row.0) segments ≡ map (λ row. row.1) segments
unfolding units loudest quietest last_ended continues_nearest continuing events_from
segments_list = refl
