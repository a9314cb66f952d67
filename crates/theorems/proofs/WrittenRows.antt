-- Writing redundant packets on both sides of each edge, computed from the definitions. Beside each row stands all that the call tells and
-- leaves. At the end the three claims about written packets are applied to one of them.
use Prim.Native.Nat.{ℕ, ◌<◌}
use mathlib.Core.Path.{◌≡◌, refl}
use mathlib.Core.Bool.{Bool, true, false}
use mathlib.Core.List.Memᴰ
use mathlib.Core.List.{List, [], ◌∷◌, ◌++◌, map}
use lib.Dec.{lit<}
use lib.ListN.{take, replicate}
use Rattle.model.specs.declared.Report.{Report}
use Rattle.model.specs.declared.OlderReport.{OlderReport}
use Rattle.model.specs.declared.Head.{Head}
use Rattle.model.specs.Codes.{is_in, the_keys}
use Rattle.refusals.specs.Refusals.{Told, answered, refused_by}
use Rattle.model.specs.Packet.{report_in_range}
use Rattle.model.specs.Blocks.{headers_of, data_of}
use Rattle.model.specs.WriteRedundant.{blocks_written, redundant_packet_of, all_older_in_range, write_redundant}
use Rattle.model.specs.Walk.{walk_start, HandsOut}
use Rattle.theorems.specs.WrittenRedundant.{Writable, OlderReportsFit, ReceivedAsWritten}
use Rattle.theorems.proofs.WrittenBlocks.{packet_of_call, walked_as_written, received_as_written}
use Rattle.model.proofs.OpeningRows.{head}
use Rattle.theorems.proofs.Basics.{Mem}

-- by payload type, timestamp, code, volume and duration
abbrev report : ℕ → ℕ → ℕ → ℕ → ℕ → Report
report type timestamp code volume duration = record {
  marker = true;
  payload_type = type;
  sequence = 0x0102;
  timestamp = timestamp;
  ssrc = 0x11223344;
  code = code;
  ended = false;
  volume = volume;
  duration = duration;
}

abbrev older : ℕ → ℕ → Bool → ℕ → ℕ → OlderReport
older timestamp code ended volume duration = record { timestamp = timestamp; code = code; ended = ended; volume = volume; duration = duration }

-- at 256; 200 units before it; 356 units before it, across the wrap
abbrev now : Report
now = report 101 256 5 10 400

abbrev recent : OlderReport
recent = older 56 5 true 3 40

abbrev early : OlderReport
early = older 0xFFFF_FF9C 15 false 63 65535

-- a record that nothing would write
abbrev junk : OlderReport
junk = older 257 16 true 64 0

-- THE BYTES

abbrev header : List ℕ
header = 0x80 ∷ 0xE6 ∷ 1 ∷ 2 ∷ 0 ∷ 0 ∷ 1 ∷ 0 ∷ 0x11 ∷ 0x22 ∷ 0x33 ∷ 0x44 ∷ []

-- how many older ones, the two records, so many bytes lent, and these after the call
abbrev packets : List ((ℕ × OlderReport × OlderReport × ℕ) × (Told (Unit {0}) × List ℕ))
packets =
    ((0, junk, junk, 17), (answered tt, header ++ (0x65 ∷ 5 ∷ 10 ∷ 1 ∷ 0x90 ∷ [])))
    ∷ ((0, junk, junk, 19), (answered tt, header ++ (0x65 ∷ 5 ∷ 10 ∷ 1 ∷ 0x90 ∷ 9 ∷ 9 ∷ [])))
    ∷ (
      (1, recent, junk, 25),
      (answered tt, header ++ ((0xE5 ∷ 0x03 ∷ 0x20 ∷ 4 ∷ 0x65 ∷ []) ++ (5 ∷ 0x83 ∷ 0 ∷ 40 ∷ 5 ∷ 10 ∷ 1 ∷ 0x90 ∷ []))),
    )
    -- in the order given, whichever is older
    ∷ (
      (2, recent, early, 33),
      (
        answered tt,
        header
            ++ ((0xE5 ∷ 0x03 ∷ 0x20 ∷ 4 ∷ 0xE5 ∷ 0x05 ∷ 0x90 ∷ 4 ∷ 0x65 ∷ [])
            ++ (5 ∷ 0x83 ∷ 0 ∷ 40 ∷ 15 ∷ 63 ∷ 0xFF ∷ 0xFF ∷ 5 ∷ 10 ∷ 1 ∷ 0x90 ∷ [])),
      ),
    )
    ∷ (
      (2, early, recent, 34),
      (
        answered tt,
        header
            ++ ((0xE5 ∷ 0x05 ∷ 0x90 ∷ 4 ∷ 0xE5 ∷ 0x03 ∷ 0x20 ∷ 4 ∷ 0x65 ∷ [])
            ++ (15 ∷ 63 ∷ 0xFF ∷ 0xFF ∷ 5 ∷ 0x83 ∷ 0 ∷ 40 ∷ 5 ∷ 10 ∷ 1 ∷ 0x90 ∷ 9 ∷ [])),
      ),
    )
    -- 14, and every byte stays
    ∷ ((0, junk, junk, 16), (refused_by 14 tt, replicate 16 9))
    ∷ ((1, recent, junk, 24), (refused_by 14 tt, replicate 24 9))
    ∷ ((2, recent, early, 32), (refused_by 14 tt, replicate 32 9))
    -- 12, and before 14
    ∷ ((3, recent, early, 99), (refused_by 12 tt, replicate 99 9))
    ∷ ((1, junk, recent, 33), (refused_by 12 tt, replicate 33 9))
    ∷ ((2, recent, junk, 0), (refused_by 12 tt, []))
    ∷ []

pub packets_written :
    map (λ row. (
      (write_redundant the_keys now 102 row.0.0 row.0.1 row.0.2 (replicate row.0.3 9)).answer,
      (write_redundant the_keys now 102 row.0.0 row.0.1 row.0.2 (replicate row.0.3 9)).output,
    )) packets ≡ map (λ row. row.1) packets
unfolding is_in write_redundant redundant_packet_of all_older_in_range report_in_range headers_of data_of
packets_written = refl

-- THE RANGES

-- a report, the redundant type and one older report
abbrev ranges : List ((Report × ℕ × OlderReport) × Told (Unit {0}))
ranges =
    -- the types, which differ
    ((report 127 256 0 0 1, 126, older 256 0 false 0 1), answered tt)
    ∷ ((report 126 256 15 63 65535, 127, older 256 15 false 63 65535), answered tt)
    ∷ ((report 0 256 0 0 1, 1, recent), answered tt)
    ∷ ((report 128 256 0 0 1, 126, recent), refused_by 12 tt)
    ∷ ((report 126 256 0 0 1, 128, recent), refused_by 12 tt)
    ∷ ((report 127 256 0 0 1, 127, recent), refused_by 12 tt)
    ∷ ((report 0 256 0 0 1, 0, recent), refused_by 12 tt)
    -- the report
    ∷ ((report 101 256 16 63 65535, 102, recent), refused_by 12 tt)
    ∷ ((report 101 256 15 64 65535, 102, recent), refused_by 12 tt)
    ∷ ((report 101 256 15 63 65536, 102, recent), refused_by 12 tt)
    ∷ ((report 101 256 15 63 0, 102, recent), refused_by 12 tt)
    -- the older one
    ∷ ((now, 102, older 256 16 false 63 65535), refused_by 12 tt)
    ∷ ((now, 102, older 256 15 false 64 65535), refused_by 12 tt)
    ∷ ((now, 102, older 256 15 false 63 65536), refused_by 12 tt)
    ∷ ((now, 102, older 256 15 false 63 0), refused_by 12 tt)
    -- offsets 16,383 and 16,384, within the timestamps and across their wrap; and one unit later than the report
    ∷ ((report 101 20000 5 10 400, 102, older 3617 5 false 10 400), answered tt)
    ∷ ((report 101 20000 5 10 400, 102, older 3616 5 false 10 400), refused_by 12 tt)
    ∷ ((now, 102, older 0xFFFF_C101 5 false 10 400), answered tt)
    ∷ ((now, 102, older 0xFFFF_C100 5 false 10 400), refused_by 12 tt)
    ∷ ((report 101 0xFFFF_FFFF 5 10 400, 102, older 0xFFFF_FFFE 5 false 10 400), answered tt)
    ∷ ((now, 102, older 257 5 false 10 400), refused_by 12 tt)
    ∷ []

pub ranges_told : map (λ row. (write_redundant the_keys row.0.0 row.0.1 1 row.0.2 junk (replicate 25 9)).answer) ranges ≡ map (λ row. row.1) ranges
unfolding is_in write_redundant redundant_packet_of all_older_in_range report_in_range headers_of data_of
ranges_told = refl

-- THE CLAIMS APPLIED

abbrev both : List OlderReport
both = recent ∷ early ∷ []

abbrev opened : Head
opened = head 101 1 102 0x11223344 0 0

writable : Writable the_keys now 102 both
unfolding is_in report_in_range all_older_in_range
writable = record { report = refl; types = refl; older = refl }

fits : OlderReportsFit now both
fits = record { report = record { sequence = lit< tt; timestamp = lit< tt; ssrc = lit< tt }; older = each }
  where
    each : (o : OlderReport) → Mem o both → o.timestamp < 0x1_0000_0000
    each o (Memᴰ.head q) = rw q (lit< tt)
    each o (Memᴰ.tail (Memᴰ.head q)) = rw q (lit< tt)
    each o (Memᴰ.tail (Memᴰ.tail x8)) = elim x8 [ ]

pub called : take 33 (write_redundant the_keys now 102 2 recent early (replicate 40 9)).output ≡ redundant_packet_of now 102 both
unfolding is_in write_redundant redundant_packet_of all_older_in_range report_in_range headers_of data_of
called = (packet_of_call the_keys now 102 2 recent early (replicate 40 9) refl).1

pub walked : HandsOut (redundant_packet_of now 102 both) (walk_start (redundant_packet_of now 102 both)).cursor (blocks_written now both)
walked = (walked_as_written the_keys now 102 both writable).1

pub received : ReceivedAsWritten now 102 both opened
received = received_as_written now 102 both opened writable fits refl refl refl
