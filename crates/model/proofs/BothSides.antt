-- Both sides of each range and of each refusal that no theorem speaks of, computed from the definitions: plans, written
-- reports, opening, volumes held, the event at a number and the list. Beside each row stands all that the call tells and leaves.
use Prim.Native.Nat.{ℕ, ◌+◌, ◌*◌}
use mathlib.Core.Path.{◌≡◌, refl}
use mathlib.Core.Bool.{Bool, true, false}
use mathlib.Core.List.{List, [], ◌∷◌, map}
use lib.ListN.{drop, replicate}
use Rattle.model.specs.declared.Codes.{Codes}
use Rattle.model.specs.declared.Report.{Report}
use Rattle.model.specs.declared.Plan.{Plan}
use Rattle.model.specs.declared.Event.{Event}
use Rattle.model.specs.declared.Segment.{Segment}
use Rattle.model.specs.declared.Table.{Table}
use Rattle.model.specs.declared.Listed.{Listed}
use Rattle.model.specs.Codes.{is_in, empty_set, the_keys}
use Rattle.refusals.specs.Refusals.{Told, answered, refused_by, told}
use Rattle.refusals.specs.declared.Refusal.TheVariants as refusal
use Rattle.std.specs.Prelude.{Err}
use Rattle.model.specs.Packet.{packet_of, report_in_range, write}
use Rattle.model.specs.Plan.{
  segment,
  cut_from,
  interim,
  reports_of_all,
  mark_first,
  all_on_wire,
  reports,
  report_at,
  report_count,
  write_report,
}
use Rattle.model.specs.Segments.{rising}
use Rattle.model.specs.Table.{segments_from, opened, valid_segment, all_valid, valid}
use Rattle.model.specs.Events.{units, loudest, quietest, last_ended, continues_nearest, continuing, events_from}
use Rattle.model.specs.List.{event_at, list}

-- PLANS

-- by payload type, code, volume, length, period and segment size
abbrev plan : ℕ → ℕ → ℕ → ℕ → ℕ → ℕ → Plan
plan type code volume length period size = record {
  payload_type = type;
  ssrc = 7;
  sequence = 1;
  start = 1000;
  code = code;
  volume = volume;
  length = length;
  period = period;
  segment_size = size;
}

abbrev plans : List (Plan × Told ℕ)
plans =
    (plan 127 15 63 1048560 65535 65535, answered 48)
    ∷ (plan 0 0 0 1 1 1, answered 3)
    ∷ (plan 128 15 63 1048560 65535 65535, refused_by 12 0)
    ∷ (plan 127 16 63 1048560 65535 65535, refused_by 12 0)
    ∷ (plan 127 15 64 1048560 65535 65535, refused_by 12 0)
    ∷ (plan 127 15 63 1048561 65535 65535, refused_by 12 0)
    ∷ (plan 127 15 63 1048560 65536 65535, refused_by 12 0)
    ∷ (plan 127 15 63 1048560 65535 65536, refused_by 12 0)
    ∷ (plan 0 0 0 0 1 1, refused_by 12 0)
    ∷ (plan 0 0 0 1 0 1, refused_by 12 0)
    ∷ (plan 0 0 0 1 1 0, refused_by 12 0)
    -- 16 segments of one unit are the longest of that size
    ∷ (plan 0 0 0 2 1 1, answered 6)
    ∷ (plan 0 0 0 15 1 1, answered 45)
    ∷ (plan 0 0 0 16 1 1, answered 48)
    ∷ (plan 0 0 0 17 1 1, refused_by 12 0)
    -- a length of so many sizes has so many segments, and the last is full
    ∷ (plan 0 0 0 399 160 400, answered 5)
    ∷ (plan 0 0 0 400 160 400, answered 5)
    ∷ (plan 0 0 0 401 160 400, answered 8)
    ∷ (plan 0 0 0 800 160 400, answered 10)
    ∷ (plan 0 0 0 6400 160 400, answered 80)
    ∷ (plan 0 0 0 6401 160 400, refused_by 12 0)
    ∷ []

pub plans_counted : map (λ row. report_count the_keys row.0) plans ≡ map (λ row. row.1) plans
unfolding is_in cut_from interim reports_of_all mark_first all_on_wire reports
plans_counted = refl

-- three short segments, of 400, 400 and 200 units: marker, timestamp, duration and E of each report
abbrev sent : List (Bool × ℕ × ℕ × Bool)
sent =
    (true, 1000, 300, false) ∷ (false, 1000, 400, false) ∷ (false, 1000, 400, false) ∷ (false, 1000, 400, false)
    ∷ (false, 1400, 300, false) ∷ (false, 1400, 400, false) ∷ (false, 1400, 400, false) ∷ (false, 1400, 400, false)
    ∷ (false, 1800, 200, false) ∷ (false, 1800, 200, true) ∷ (false, 1800, 200, true)
    ∷ []

pub short_segments_sent : map (λ r. (r.marker, r.timestamp, r.duration, r.ended)) (reports (plan 101 5 10 1000 300 400)) ≡ sent
unfolding is_in cut_from interim reports_of_all mark_first all_on_wire reports
short_segments_sent = refl

-- report k of a plan of three, into so many bytes; what is told, and what is left behind the first 16 bytes
abbrev planned : List ((Plan × ℕ × ℕ) × (Told (Unit {0}) × List ℕ))
planned =
    ((plan 101 5 10 400 400 400, 1, 16), (answered tt, []))
    ∷ ((plan 101 5 10 400 400 400, 3, 17), (answered tt, 9 ∷ []))
    ∷ ((plan 101 5 10 400 400 400, 0, 17), (refused_by 13 tt, 9 ∷ []))
    ∷ ((plan 101 5 10 400 400 400, 4, 15), (refused_by 13 tt, []))  -- 13 before 14
    ∷ ((plan 101 5 10 400 400 400, 3, 15), (refused_by 14 tt, []))
    ∷ ((plan 128 5 10 400 400 400, 0, 15), (refused_by 12 tt, []))  -- 12 before 13
    ∷ []

pub planned_told : map (λ row. (
  (write_report the_keys row.0.0 row.0.1 (replicate row.0.2 9)).answer,
  drop 16 (write_report the_keys row.0.0 row.0.1 (replicate row.0.2 9)).output,
)) planned ≡ map (λ row. row.1) planned
unfolding is_in write_report packet_of report_at cut_from interim reports_of_all mark_first all_on_wire reports
planned_told = refl

-- WRITTEN REPORTS

-- by payload type, code, volume and duration
abbrev report : ℕ → ℕ → ℕ → ℕ → Report
report type code volume duration = record {
  marker = true;
  payload_type = type;
  sequence = 1;
  timestamp = 16;
  ssrc = 7;
  code = code;
  ended = false;
  volume = volume;
  duration = duration;
}

abbrev written : List ((Report × ℕ) × Told (Unit {0}))
written =
    ((report 127 15 63 65535, 16), answered tt)
    ∷ ((report 0 0 0 1, 16), answered tt)
    ∷ ((report 128 15 63 65535, 16), refused_by 12 tt)
    ∷ ((report 127 16 63 65535, 16), refused_by 12 tt)
    ∷ ((report 127 15 64 65535, 16), refused_by 12 tt)
    ∷ ((report 127 15 63 65536, 16), refused_by 12 tt)
    ∷ ((report 0 0 0 0, 15), refused_by 12 tt)  -- 12 before 14
    ∷ ((report 0 0 0 1, 15), refused_by 14 tt)
    ∷ []

pub written_told : map (λ row. (write the_keys row.0.0 (replicate row.0.1 9)).answer) written ≡ map (λ row. row.1) written
unfolding is_in write packet_of report_in_range
written_told = refl

-- OPENING

-- a table with no segments, and zeros in its 128 places
abbrev zeros : Codes → ℕ → ℕ → ℕ → Table
zeros codes type ssrc origin = record {
  head = record { payload_type = type; both_types = 0; redundant_type = 0; ssrc = ssrc; origin = origin; codes = codes; count = 0 };
  keys = replicate 128 0;
  heard = replicate 128 0;
}

pub opened_at_127 : opened the_keys 127 7 9 ≡ record { table = zeros the_keys 127 7 9; refusal = 0 }
opened_at_127 = refl

pub refused_at_128 : opened the_keys 128 7 9 ≡ record { table = zeros empty_set 0 0 0; refusal = 12 }
refused_at_128 = refl

-- of no codes, and of the one code 255
pub refused_for_none : opened empty_set 127 7 9 ≡ record { table = zeros empty_set 0 0 0; refusal = 12 }
refused_for_none = refl

abbrev last : Codes
last = record { from_0 = 0; from_64 = 0; from_128 = 0; from_192 = 0x8000_0000_0000_0000 }

pub opened_for_255 : opened last 127 7 9 ≡ record { table = zeros last 127 7 9; refusal = 0 }
opened_for_255 = refl

-- VOLUMES HELD

-- a table with one segment, of this volume and this quietest; a quietest of 64 has no place there
abbrev of_volumes : ℕ → ℕ → Table
of_volumes loud quiet = record {
  head = record { payload_type = 127; both_types = 0; redundant_type = 0; ssrc = 7; origin = 16; codes = the_keys; count = 1 };
  keys = 5 ∷ [];
  heard = (0x100_0000 * loud + 0x4_0000 * quiet + 400) ∷ [];
}

abbrev volumes : List ((ℕ × ℕ) × Bool)
volumes =
    ((0, 0), true)
    ∷ ((10, 10), true)
    ∷ ((10, 9), false)
    ∷ ((0, 63), true)
    ∷ ((63, 63), true)
    ∷ ((64, 63), false)
    ∷ []

pub volumes_tested : map (λ row. valid (of_volumes row.0.0 row.0.1)) volumes ≡ map (λ row. row.1) volumes
unfolding is_in valid rising all_valid segments_from
volumes_tested = refl

-- so it is asked of segments
abbrev segments : List (Segment × Bool)
segments =
    (segment 0 5 400 63 false true, true)
    ∷ (segment 0 5 400 64 false true, false)
    ∷ (record { offset = 0; code = 5; duration = 400; volume = 10; quietest = 64; ended = false; marked = true }, false)
    ∷ []

pub segments_tested : map (λ row. valid_segment the_keys row.0) segments ≡ map (λ row. row.1) segments
unfolding is_in
segments_tested = refl

-- THE EVENT AT A NUMBER, AND THE LIST

-- two presses of key 5, of which the second has no M; and the same with a payload type that fails the tests
abbrev table : ℕ → Table
table type = record {
  head = record { payload_type = type; both_types = 0; redundant_type = 0; ssrc = 7; origin = 16; codes = the_keys; count = 2 };
  keys = 5 ∷ 0x6405 ∷ [];
  heard = 0xA2A_0190 ∷ 0xA29_0028 ∷ [];
}

abbrev event : ℕ → ℕ → ℕ → ℕ → Bool → Bool → Event
event code start length volume b e = record { code = code; start = start; length = length; volume = volume; quietest = volume; began = b; ended = e }

abbrev first : Event
first = event 5 0 400 10 true false

abbrev second : Event
second = event 5 100 40 10 false true

abbrev none : Event
none = event 0 0 0 0 false false

abbrev numbers : List ((Table × ℕ) × Told Event)
numbers =
    ((table 127, 1), answered first)
    ∷ ((table 127, 2), answered second)
    ∷ ((table 127, 0), refused_by 13 none)
    ∷ ((table 127, 3), refused_by 13 none)
    ∷ ((table 128, 0), refused_by 16 none)  -- 16 before 13
    ∷ []

pub numbers_told : map (λ row. event_at row.0.0 row.0.1) numbers ≡ map (λ row. row.1) numbers
unfolding is_in valid rising all_valid segments_from units loudest quietest last_ended continues_nearest continuing events_from
numbers_told = refl

-- so many records lent, and what they are after the call
abbrev lists : List ((Table × ℕ) × (Listed × List Event))
lists =
    ((table 127, 2), (record { refusal = 0; events = 2 }, first ∷ second ∷ []))
    ∷ ((table 127, 3), (record { refusal = 0; events = 2 }, first ∷ second ∷ none ∷ []))
    ∷ ((table 127, 1), (record { refusal = 15; events = 0 }, none ∷ []))
    ∷ ((table 128, 1), (record { refusal = 16; events = 0 }, none ∷ []))  -- 16 before 15
    ∷ []

pub lists_told : map (λ row. ((list row.0.0 (replicate row.0.1 none)).answer, (list row.0.0 (replicate row.0.1 none)).records)) lists
    ≡ map (λ row. row.1) lists
unfolding is_in valid rising all_valid segments_from units loudest quietest last_ended continues_nearest continuing events_from
lists_told = refl

-- A REFUSAL TOLD
-- its number, and zeros

pub count_refused : told {A = ℕ} 0 (Err refusal.OutOfRange) ≡ refused_by 12 0
count_refused = refl

pub event_refused : told none (Err refusal.NoSuchNumber) ≡ refused_by 13 none
event_refused = refl

pub write_refused : told {A = Unit {0}} tt (Err refusal.OutputTooSmall) ≡ refused_by 14 tt
write_refused = refl
