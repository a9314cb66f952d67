-- The events that demand 3 speaks of, and their sizes (01, "From segments to events": "The sizes for demand 3"; 02, request 3).
use Rattle.std.specs.Prelude.{ℕ, ◌+◌, ◌%◌, ◌<◌, ◌≤◌, ◌≡◌, true, length}
use mathlib.Core.List.{List, [], ◌∷◌, Memᴰ}
use Rattle.model.specs.declared.Plan.{Plan}
use Rattle.model.specs.declared.Table.{Table}
use Rattle.model.specs.declared.Event.{Event}
use Rattle.model.specs.Plan.{cut, plan_in_range}
use Rattle.model.specs.Fits.{BytesFit}

-- An event to be sent. Its start is an offset; it has a period, a segment size and a first sequence number of its own.
pub record Sent : Type 0 where
  pub code : ℕ
  pub start : ℕ
  pub length : ℕ
  pub volume : ℕ
  pub period : ℕ
  pub segment_size : ℕ
  pub sequence : ℕ

abbrev pub end : Sent → ℕ
end e = e.start + e.length

-- Its plan, for the table that was opened: one SSRC and payload type, those of the table, and wire start
-- (origin + start) modulo 2^32.
abbrev pub plan_of : Table → Sent → Plan
plan_of t e = record {
  payload_type = t.head.payload_type;
  ssrc = t.head.ssrc;
  sequence = e.sequence;
  start = (t.head.origin + e.start) % 0x1_0000_0000;
  code = e.code;
  volume = e.volume;
  length = e.length;
  period = e.period;
  segment_size = e.segment_size;
}

-- as it is to be listed: key, start, length and volume as sent, the loudest and the quietest (02, request 8), began and ended both true
abbrev pub as_listed : Sent → Event
as_listed e = record {
  code = e.code;
  start = e.start;
  length = e.length;
  volume = e.volume;
  quietest = e.volume;
  began = true;
  ended = true;
}

-- each event ends at or before the next one's start
unfoldable pub Apart : List Sent → Type 0
Apart [] = Unit {0}
Apart (e ∷ []) = Unit {0}
Apart (e ∷ f ∷ es) = (end e ≤ f.start) × Apart (f ∷ es)

-- the segments of all events together
unfoldable pub segments_in_all : Table → List Sent → ℕ
segments_in_all t [] = 0
segments_in_all t (e ∷ es) = length (cut (plan_of t e)) + segments_in_all t es

-- the sizes
pub record Sizes (t : Table) (es : List Sent) : Type 0 where
  -- lengths, periods, segment sizes and volumes as in the plan, and codes in the table's set
  pub ranges : (e : Sent) → Memᴰ e es → plan_in_range t.head.codes (plan_of t e) ≡ true
  pub apart : Apart es
  -- each ends below offset 2^31
  pub near : (e : Sent) → Memᴰ e es → end e < 0x8000_0000
  -- at most 128 segments altogether
  pub few : segments_in_all t es ≤ 128

-- WHAT THE MACHINE'S TYPES SAY of the demands' numbers

pub record FitsTypes (t : Table) (es : List Sent) (packets : List (List ℕ)) : Type 0 where
  pub ssrc : t.head.ssrc < 0x1_0000_0000
  pub origin : t.head.origin < 0x1_0000_0000
  pub sequences : (e : Sent) → Memᴰ e es → e.sequence < 65536
  pub bytes : (p : List ℕ) → Memᴰ p packets → BytesFit p
