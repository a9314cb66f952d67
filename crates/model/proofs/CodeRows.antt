-- Sets of codes, and what the calls do with a code that is in the set or not, on both sides of each edge, computed from the definitions.
use Prim.Native.Nat.{ℕ, ◌+◌, ◌*◌}
use mathlib.Core.Path.{◌≡◌, refl}
use mathlib.Core.Bool.{true, false, ◌||◌}
use mathlib.Core.List.{List, [], ◌∷◌, map}
use lib.Dec.{leb, eqb}
use lib.ListN.{replicate}
use Rattle.model.specs.declared.Codes.{Codes}
use Rattle.model.specs.declared.Report.{Report}
use Rattle.model.specs.declared.OlderReport.{OlderReport}
use Rattle.model.specs.declared.Plan.{Plan}
use Rattle.model.specs.declared.Table.{Table}
use Rattle.refusals.specs.Refusals.{answered, refused_by}
use Rattle.model.specs.Codes.{is_in, empty_set, the_keys, among, count_of, lowest_of, word, set_of}
use Rattle.model.specs.Packet.{after_header, payload, header_refusal, payload_refusal, packet_of, report_in_range, read, write}
use Rattle.model.specs.Plan.{cut_from, interim, reports_of_all, mark_first, all_on_wire, reports, report_at, report_count, write_report}
use Rattle.model.specs.Segments.{rising}
use Rattle.model.specs.Table.{segments_from, all_valid, valid, holds, put}
use Rattle.model.specs.Blocks.{headers_of, data_of}
use Rattle.model.specs.WriteRedundant.{all_older_in_range, redundant_packet_of, write_redundant}
use Rattle.model.specs.Receive.{heard_by, unheard, hear_refusal, probes, hear, arrival_in, refusal_for, packet_refusal, receive}

-- THE SETS

-- 0-15,66,70
abbrev pub negotiated : Codes
negotiated = record { from_0 = 0xffff; from_64 = 0x44; from_128 = 0; from_192 = 0 }

-- the lowest and the highest code of each word
abbrev borders : Codes
borders = record {
  from_0 = 0x8000_0000_0000_0001;
  from_64 = 0x8000_0000_0000_0001;
  from_128 = 0x8000_0000_0000_0001;
  from_192 = 0x8000_0000_0000_0001;
}

-- a code alone, of each word
abbrev alone : ℕ → ℕ → ℕ → ℕ → Codes
alone a b c d = record { from_0 = a; from_64 = b; from_128 = c; from_192 = d }

pub sets_of : map set_of ((λ c. false) ∷ (λ c. leb c 15) ∷ (λ c. leb c 15 || (eqb c 66 || eqb c 70)) ∷ []) ≡ empty_set ∷ the_keys ∷ negotiated ∷ []
unfolding word
sets_of = refl

pub members : map (is_in borders) (0 ∷ 1 ∷ 62 ∷ 63 ∷ 64 ∷ 65 ∷ 126 ∷ 127 ∷ 128 ∷ 129 ∷ 190 ∷ 191 ∷ 192 ∷ 193 ∷ 254 ∷ 255 ∷ 256 ∷ [])
    ≡ true ∷ false ∷ false ∷ true ∷ true ∷ false ∷ false ∷ true ∷ true ∷ false ∷ false ∷ true ∷ true ∷ false ∷ false ∷ true ∷ false ∷ []
unfolding is_in
members = refl

pub counted : map count_of (empty_set ∷ the_keys ∷ negotiated ∷ borders ∷ set_of (λ c. true) ∷ []) ≡ 0 ∷ 16 ∷ 18 ∷ 8 ∷ 256 ∷ []
unfolding is_in among word
counted = refl

pub lowest_told : map lowest_of (empty_set ∷ borders ∷ alone 0 0x44 1 1 ∷ alone 0 0 2 1 ∷ alone 0 0 0 0x8000_0000_0000_0000 ∷ [])
    ≡ refused_by 20 0 ∷ answered 0 ∷ answered 66 ∷ answered 129 ∷ answered 255 ∷ []
unfolding is_in among
lowest_told = refl

-- THE CALLS

-- a code in a set, not in it, and any in the empty one
abbrev rows : List (Codes × ℕ)
rows = (negotiated, 15) ∷ (negotiated, 16) ∷ (negotiated, 65) ∷ (negotiated, 66) ∷ (negotiated, 67) ∷ (negotiated, 70) ∷ (negotiated, 71)
    ∷ (borders, 255) ∷ (borders, 254) ∷ (empty_set, 0) ∷ []

-- the number for each row, if n is given where the code is not in the set
abbrev unless : ℕ → List ℕ
unless n = 0 ∷ n ∷ n ∷ 0 ∷ n ∷ 0 ∷ n ∷ 0 ∷ n ∷ n ∷ []

abbrev report : ℕ → Report
report c = record {
  marker = true;
  payload_type = 101;
  sequence = 1;
  timestamp = 16;
  ssrc = 7;
  code = c;
  ended = false;
  volume = 10;
  duration = 400;
}

abbrev plan : ℕ → Plan
plan c = record {
  payload_type = 101;
  ssrc = 7;
  sequence = 1;
  start = 16;
  code = c;
  volume = 10;
  length = 400;
  period = 400;
  segment_size = 65535;
}

abbrev older : ℕ → OlderReport
older c = record { timestamp = 0; code = c; ended = false; volume = 10; duration = 400 }

-- 8 and 12
pub read_told : map (λ row. (read row.0 (packet_of (report row.1))).number) rows ≡ unless 8
unfolding is_in read packet_of header_refusal after_header payload payload_refusal
read_told = refl

pub write_told : map (λ row. (write row.0 (report row.1) (replicate 16 0)).answer.number) rows ≡ unless 12
unfolding is_in write report_in_range
write_told = refl

-- of the report, and of an older one
pub write_redundant_told
    : map (λ row. (write_redundant row.0 (report row.1) 102 0 (older 0) (older 0) (replicate 33 0)).answer.number) rows ≡ unless 12
unfolding is_in write_redundant report_in_range all_older_in_range redundant_packet_of headers_of data_of
write_redundant_told = refl

pub write_older_told
    : map (λ c. (write_redundant negotiated (report 66) 102 2 (older 70) (older c) (replicate 33 0)).answer.number) (66 ∷ 67 ∷ []) ≡ 0 ∷ 12 ∷ []
unfolding is_in write_redundant report_in_range all_older_in_range redundant_packet_of headers_of data_of
write_older_told = refl

pub count_told : map (λ row. (report_count row.0 (plan row.1)).number) rows ≡ unless 12
unfolding is_in cut_from interim reports_of_all mark_first all_on_wire reports
count_told = refl

pub report_told : map (λ row. (write_report row.0 (plan row.1) 3 (replicate 16 0)).answer.number) rows ≡ unless 12
unfolding is_in cut_from interim reports_of_all mark_first all_on_wire reports report_at write_report
report_told = refl

-- TABLES

-- with a set that no opening gave it, and as many of one place's segment as are held: code c at offset 16
abbrev table : Codes → ℕ → ℕ → Table
table s c n = record {
  head = record { payload_type = 101; both_types = 0; redundant_type = 0; ssrc = 7; origin = 0; codes = s; count = n };
  keys = (16 * 256 + c) ∷ replicate 127 0;
  heard = 0xA28_0190 ∷ replicate 127 0;
}

-- 16 tests the codes that are held, and not whether the set has any
pub tables_pass : map (λ row. valid (table row.0 row.1 1)) rows
    ≡ true ∷ false ∷ false ∷ true ∷ false ∷ true ∷ false ∷ true ∷ false ∷ false ∷ []
unfolding is_in valid rising all_valid segments_from
tables_pass = refl

pub empty_tables_pass : map (λ row. valid (table row.0 row.1 0)) rows ≡ replicate 10 true
unfolding is_in valid rising all_valid segments_from
empty_tables_pass = refl

-- 8 by the table's own set
pub receive_told : map (λ row. (receive (table row.0 0 0) (packet_of (report row.1))).answer.refusal) rows ≡ unless 8
unfolding is_in receive packet_refusal refusal_for hear hear_refusal unheard probes heard_by arrival_in valid rising all_valid segments_from holds put
    header_refusal after_header payload payload_refusal packet_of
receive_told = refl
