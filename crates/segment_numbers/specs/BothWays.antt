-- A segment and its two numbers, both ways, whatever they are. Of a segment that a table may hold the two are those of the model.
use Rattle.std.specs.Prelude.{ℕ, ◌+◌, ◌*◌, ◌%◌, cond, ltb, leb}
use Rattle.model.specs.declared.Segment.{Segment}
use Rattle.model.specs.Table.{key_of, heard_of, segment_of}
use Rattle.segment_numbers.specs.declared.SegmentNumbers.{SegmentNumbers}

-- a key whose offset has more than 32 bits is shown with the largest offset there is; 2^31 and more fail a test of 16
abbrev pub key_shown : ℕ → ℕ
key_shown key = cond (ltb key 0x100_0000_0000) key (0xffff_ffff * 256 + key % 256)

abbrev pub segment_shown : ℕ → ℕ → Segment
segment_shown key heard = segment_of (key_shown key) heard

-- a quietest above 63 has no room in its 6 bits; a volume of 255 fails a test of 16 too
abbrev pub fitted : Segment → Segment
fitted s = record {
  offset = s.offset;
  code = s.code;
  duration = s.duration;
  volume = cond (leb s.quietest 63) s.volume 255;
  quietest = s.quietest % 64;
  ended = s.ended;
  marked = s.marked;
}

abbrev pub numbers_of : Segment → SegmentNumbers
numbers_of s = record { key = key_of s; heard = heard_of (fitted s) }
