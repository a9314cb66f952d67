-- The receiving table: its opening, its tests, and what one report does to it (01, "The receiving table", and the tests
-- under "Numbers handed back when something is refused"). The sizes 128 and 2^31 are 01's own. How a segment is kept in two
-- numbers is ours; whatever comes after WHAT A TABLE HOLDS speaks of the segments alone.
use Rattle.std.specs.Prelude.{ℕ, zero, suc, ◌+◌, ◌*◌, ◌/◌, ◌%◌, Bool, true, false, not, cond, ◌&&◌, ◌||◌, List, [], ◌∷◌, ◌++◌, map, ltb, leb, eqb, length, get_or, drop, replicate}
use Rattle.model.specs.declared.Codes.{Codes}
use Rattle.model.specs.declared.Segment.{Segment}
use Rattle.model.specs.declared.Head.{Head}
use Rattle.model.specs.declared.Table.{Table}
use Rattle.model.specs.declared.Opened.{Opened}
use Rattle.refusals.specs.Refusals.{out_of_range, none}
use Rattle.model.specs.Codes.{is_in, is_empty, empty_set}
use Rattle.model.specs.Packet.{bit}
use Rattle.model.specs.Segments.{before, same_pair, rising, merge}

-- OPENING

-- what a table is opened for: a set of codes (02, request 6) and one payload type, the event's; or also that of redundant packets
-- (02, request 2)
abbrev pub one_type : Codes → ℕ → ℕ → ℕ → Head
one_type codes payload_type ssrc origin = record {
  payload_type = payload_type;
  both_types = 0;
  redundant_type = 0;
  ssrc = ssrc;
  origin = origin;
  codes = codes;
  count = 0;
}

abbrev pub both_types : Codes → ℕ → ℕ → ℕ → ℕ → Head
both_types codes payload_type redundant_type ssrc origin = record {
  payload_type = payload_type;
  both_types = 1;
  redundant_type = redundant_type;
  ssrc = ssrc;
  origin = origin;
  codes = codes;
  count = 0;
}

-- was a table with this head opened for both?
abbrev pub is_for_both : Head → Bool
is_for_both h = not (eqb h.both_types 0)

-- no segments, and zeros in all places
abbrev pub empty_table : Head → Table
empty_table h = record { head = h; keys = replicate 128 0; heard = replicate 128 0 }

-- a refused open returns an empty table of zeros, with the empty set
abbrev pub no_table : Table
no_table = empty_table (one_type empty_set 0 0 0)

abbrev pub opened_if : Bool → Head → Opened
opened_if in_range h =
    cond in_range
    (record { table = empty_table h; refusal = none })
    (record { table = no_table; refusal = out_of_range })

-- the first opening: a set that is not empty, a payload type up to 127
abbrev pub opened : Codes → ℕ → ℕ → ℕ → Opened
opened codes payload_type ssrc origin =
    opened_if (not (is_empty codes) && leb payload_type 127) (one_type codes payload_type ssrc origin)

-- two payload types up to 127 that differ
abbrev pub types_differ : ℕ → ℕ → Bool
types_differ payload_type redundant_type = leb payload_type 127 && (leb redundant_type 127 && not (eqb payload_type redundant_type))

-- the second opening takes both types (02, request 2)
abbrev pub opened_both : Codes → ℕ → ℕ → ℕ → ℕ → Opened
opened_both codes payload_type redundant_type ssrc origin =
    opened_if (not (is_empty codes) && types_differ payload_type redundant_type) (both_types codes payload_type redundant_type ssrc origin)

-- A SEGMENT IN TWO NUMBERS
-- The key orders segments: by offset, then code. The other number is what was heard.
--
--      63                          8 7        0       31        24 23      18 17 16 15             0
--     +-----------------------------+----------+     +------------+----------+--+--+----------------+
--     |           offset            |   code   |     |   volume   | quietest |M |E |    duration    |
--     +-----------------------------+----------+     +------------+----------+--+--+----------------+
--
-- What stands on top has no upper bound, so every two numbers are those of exactly one segment, and no bit is passed
-- over: that one is within its ranges is tested on the segment. There and back: proofs/Numbers.antt.

abbrev pub key_of : Segment → ℕ
key_of s = s.offset * 256 + s.code

abbrev pub heard_of : Segment → ℕ
heard_of s = s.duration + 0x1_0000 * (bit s.ended + 2 * (bit s.marked + 2 * (s.quietest + 64 * s.volume)))

abbrev pub segment_of : ℕ → ℕ → Segment
segment_of key heard = record {
  offset = key / 256;
  code = key % 256;
  duration = heard % 0x1_0000;
  volume = heard / 0x100_0000;
  quietest = heard / 0x4_0000 % 64;
  ended = eqb (heard / 0x1_0000 % 2) 1;
  marked = eqb (heard / 0x2_0000 % 2) 1;
}

-- WHAT A TABLE HOLDS

-- the table of a head and of two columns that are lent beside it
abbrev pub table_of : Head → List ℕ → List ℕ → Table
table_of h keys heard = record { head = h; keys = keys; heard = heard }

-- a head that counts n segments
abbrev pub holding : ℕ → Head → Head
holding n h = record {
  payload_type = h.payload_type;
  both_types = h.both_types;
  redundant_type = h.redundant_type;
  ssrc = h.ssrc;
  origin = h.origin;
  codes = h.codes;
  count = n;
}

-- the segment at place i of two columns
abbrev pub segment_at : List ℕ → List ℕ → ℕ → Segment
segment_at keys heard i = segment_of (get_or keys i 0) (get_or heard i 0)

-- the segments at n places, from place i on
unfoldable pub segments_from : List ℕ → List ℕ → ℕ → ℕ → List Segment
segments_from keys heard i zero = []
segments_from keys heard i (suc n) = segment_at keys heard i ∷ segments_from keys heard (suc i) n

-- the segments held: the first `count` places
abbrev pub held : Table → List Segment
held t = segments_from t.keys t.heard 0 t.head.count

-- the first places of a column have these numbers, and the places above them stay as they are
abbrev pub place : List ℕ → List ℕ → List ℕ
place numbers column = numbers ++ drop (length numbers) column

-- the table with these segments in its first places
abbrev pub storing : List Segment → Table → Table
storing l t = record {
  head = holding (length l) t.head;
  keys = place (map key_of l) t.keys;
  heard = place (map heard_of l) t.heard;
}

-- THE TESTS

-- Offset below 2^31, code in the set, duration 1 to 65,535; the largest volume number neither below the smallest nor above 63 (02, request
-- 8). The smallest, which 01 tests for 0 to 63, is then not above 63 either.
abbrev pub valid_segment : Codes → Segment → Bool
valid_segment codes s =
    ltb s.offset 0x8000_0000
    && (is_in codes s.code && ((leb 1 s.duration && leb s.duration 65535) && (leb s.volume s.quietest && leb s.quietest 63)))

unfoldable pub all_valid : Codes → List Segment → Bool
all_valid codes [] = true
all_valid codes (s ∷ ts) = valid_segment codes s && all_valid codes ts

-- A payload type up to 127. In a table of the second opening both types, and that they differ; a table of the first has the event's
-- type alone (02, request 2).
abbrev pub valid_types : Head → Bool
valid_types h = cond (is_for_both h) (types_differ h.payload_type h.redundant_type) (leb h.payload_type 127)

-- At most 128 segments, strictly rising by offset then code, each within its ranges, and the types. The set is not asked to hold a code:
-- with an empty one a table without segments passes.
unfoldable pub valid : Table → Bool
valid t = leb t.head.count 128 && (rising (held t) && (all_valid t.head.codes (held t) && valid_types t.head))

-- ONE REPORT

-- is a segment of this pair held?
unfoldable pub holds : Segment → List Segment → Bool
holds r [] = false
holds r (s ∷ ts) = same_pair r s || holds r ts

-- 128 segments held and this pair is none of them
abbrev pub no_room : Table → Segment → Bool
no_room t r = eqb t.head.count 128 && not (holds r (held t))

-- a known segment keeps the report too; a new one stands at its place in the order, and later ones move up by one place
unfoldable pub put : Segment → List Segment → List Segment
put r [] = r ∷ []
put r (s ∷ ts) = cond (before r s) (r ∷ s ∷ ts) (cond (same_pair r s) (merge r s ∷ ts) (s ∷ put r ts))

abbrev pub taking : Table → Segment → Table
taking t r = storing (put r (held t)) t
