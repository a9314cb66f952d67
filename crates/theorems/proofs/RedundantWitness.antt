-- One delivery that demand 3 with redundant packets speaks of: two presses of key 5, the second from the very unit where the first ends,
-- sent with reports repeated in later packets. The first has three segments, and the wire's timestamps wrap before its last. Packets are
-- lost, repeated and out of order, some go to 01's receiver, some are refused whole, and blocks are refused or passed over between blocks
-- that are taken. Every hypothesis holds of it, the theorem is applied to it, and its list is computed as well.
use Prim.Native.Nat.{ℕ, ◌+◌, ◌%◌}
use mathlib.Core.Path.{◌≡◌, refl, sym, ap, ◌∙◌}
use mathlib.Core.Bool.{true, false, false≢true}
use mathlib.Core.List.Memᴰ
use mathlib.Core.List.{List, [], ◌∷◌, ◌++◌, map}
use mathlib.Core.Logic.{inl, inr}
use lib.Dec.{lit<, lit≤}
use lib.ListN.{length, take, drop, replicate}
use Rattle.model.specs.declared.Report.{Report}
use Rattle.model.specs.declared.OlderReport.{OlderReport}
use Rattle.model.specs.declared.Segment.{Segment}
use Rattle.model.specs.declared.Table.{Table}
use Rattle.model.specs.Codes.{is_in, the_keys}
use Rattle.model.specs.Packet.{after_header, payload, header_refusal, payload_refusal, packet_of}
use Rattle.model.specs.Plan.{cut_from, cut, interim, reports_of_all, mark_first, all_on_wire, reports, report_at, write_report}
use Rattle.model.specs.Segments.{rising}
use Rattle.model.specs.Search.{middle, is_smaller, kept, searching}
use Rattle.model.specs.Table.{segments_from, opened_both, all_valid, valid, holds, put}
use Rattle.model.specs.Receive.{heard_by, unheard, hear_refusal, probes, hear, arrival_in, refusal_for, packet_refusal, receive}
use Rattle.model.specs.Blocks.{older_within, older, lengths, blocks_refusal, cut_data, blocks, headers_of, data_of}
use Rattle.model.specs.Redundant.{
  of_type,
  reports_in,
  refusal_for_both,
  refusal_of_both,
  whole_refusal,
  table_after_reports,
  answers_to,
  receiving_each,
  receive_redundant,
}
use Rattle.model.specs.WriteRedundant.{redundant_packet_of}
use Rattle.model.specs.Events.{units, loudest, quietest, last_ended, continues_nearest, continuing, events_from}
use Rattle.model.specs.List.{events}
use Rattle.theorems.specs.Sizes.{as_listed, Sent, plan_of, Apart, segments_in_all, Sizes, FitsTypes}
use Rattle.theorems.specs.Demands.{Empty, Lists, sent, stranger}
use Rattle.theorems.specs.Redundancy.{
  after_receipts,
  taken_of,
  arrivals_of,
  Label,
  report,
  copy,
  other,
  Given,
  first,
  second,
  receipts,
  sent_arrival,
  FairLabels,
  AdmittedGiven,
  labels,
  Brings,
  NeededGiven,
  DeliveredGiven,
}
use Rattle.theorems.proofs.Demand3.{demand_3_redundant}
use Rattle.theorems.proofs.Basics.{Mem}
use Rattle.theorems.proofs.Witness.{behind, ◌next◌}

-- opened so that the wire's timestamps wrap 768 units after the origin
abbrev pub table : Table
table = (opened_both the_keys 101 102 0x11223344 0xFFFF_FD00).table

-- eleven reports: 300 with M, 400 three times; 300, 400 three times; 200, 200 with E twice
abbrev pub long : Sent
long = record { code = 5; start = 100; length = 1000; volume = 10; period = 300; segment_size = 400; sequence = 65534 }

-- three reports: 160 with M, 160 with E twice
abbrev pub short : Sent
short = record { code = 5; start = 1100; length = 160; volume = 3; period = 160; segment_size = 400; sequence = 7 }

abbrev pub sent_events : List Sent
sent_events = long ∷ short ∷ []

-- report k of an event, with older ones before it
abbrev sent_report : Sent → ℕ → Report
sent_report e k = report_at (plan_of table e) k

abbrev again : Sent → ℕ → OlderReport
again e k = record {
  timestamp = (sent_report e k).timestamp;
  code = (sent_report e k).code;
  ended = (sent_report e k).ended;
  volume = (sent_report e k).volume;
  duration = (sent_report e k).duration;
}

abbrev redundant : Sent → ℕ → List OlderReport → List ℕ
redundant e k os = redundant_packet_of (sent_report e k) 102 os

-- Report 9 of `long`, at the timestamp 0x84: one CSRC, four blocks, two bytes of padding. The blocks are report 7, 400 units earlier; 20
-- bytes of sound, type 0; the code 16, which is refused; and report 9.
abbrev mixed : List ℕ
mixed =
    (0xA1 ∷ 0x66 ∷ 0 ∷ 6 ∷ 0 ∷ 0 ∷ 0 ∷ 0x84 ∷ 0x11 ∷ 0x22 ∷ 0x33 ∷ 0x44 ∷ 9 ∷ 9 ∷ 9 ∷ 9 ∷ [])
    ++ ((0xE5 ∷ 0x06 ∷ 0x40 ∷ 0x04 ∷ 0x80 ∷ 0x02 ∷ 0x80 ∷ 0x14 ∷ 0xE5 ∷ 0x03 ∷ 0x20 ∷ 0x04 ∷ 0x65 ∷ [])
    ++ ((5 ∷ 10 ∷ 1 ∷ 0x90 ∷ []) ++ (replicate 20 0xD5 ++ ((16 ∷ 10 ∷ 1 ∷ 0x90 ∷ []) ++ (5 ∷ 10 ∷ 0 ∷ 200 ∷ 9 ∷ 2 ∷ [])))))

-- an older block of five bytes, and four bytes of data in all: 19
abbrev cut_short : List ℕ
cut_short = 0x80 ∷ 0xE6 ∷ 0 ∷ 6 ∷ 0 ∷ 0 ∷ 0 ∷ 0x84 ∷ 0x11 ∷ 0x22 ∷ 0x33 ∷ 0x44 ∷ 0xE5 ∷ 0x06 ∷ 0x40 ∷ 0x05 ∷ 0x65 ∷ 5 ∷ 10 ∷ 1 ∷ 0x90 ∷ []

-- a plain packet with the code 16
abbrev unknown_key : List ℕ
unknown_key = 0x80 ∷ 0xE5 ∷ 0 ∷ 6 ∷ 0 ∷ 0 ∷ 0 ∷ 0x84 ∷ 0x11 ∷ 0x22 ∷ 0x33 ∷ 0x44 ∷ 16 ∷ 10 ∷ 1 ∷ 0x90 ∷ []

-- Of `long` the packets of reports 1, 5 and 9 come, and all others are lost: full reports of its first two segments and those with E come in
-- older blocks alone. Report 1 comes in such a block too, before its own packet, a plain one.
abbrev pub given : List Given
given =
    first (stranger (redundant long 2 (again long 1 ∷ [])))
    ∷ second (redundant long 5 (again long 1 ∷ again long 4 ∷ [])) (replicate 3 0) (copy long 1 ∷ copy long 4 ∷ report long 5 ∷ [])
    ∷ second mixed (replicate 4 0) (copy long 7 ∷ other ∷ report long 9 ∷ [])
    ∷ second cut_short (replicate 4 0) []
    ∷ second (redundant short 1 (again long 11 ∷ again long 10 ∷ [])) (replicate 3 0) (copy long 11 ∷ copy long 10 ∷ report short 1 ∷ [])
    ∷ second (redundant short 1 (again long 11 ∷ again long 10 ∷ [])) (replicate 2 0) []
    ∷ second unknown_key (replicate 1 0) (other ∷ [])
    ∷ second (packet_of (sent_report long 1)) (replicate 1 0) (report long 1 ∷ [])
    ∷ second mixed (replicate 4 0) (copy long 7 ∷ other ∷ report long 9 ∷ [])
    ∷ first (sent short 3)
    ∷ []

-- THE HYPOTHESES

each : (P : Sent → Type 0) → P long → P short → (e : Sent) → Mem e sent_events → P e
each P a b e (Memᴰ.head q) = rw q a
each P a b e (Memᴰ.tail (Memᴰ.head q)) = rw q b
each P a b e (Memᴰ.tail (Memᴰ.tail x8)) = elim x8 [ ]

in_sizes : Sizes table sent_events
unfolding is_in Apart segments_in_all cut_from
in_sizes = record {
  ranges = each _ refl refl;
  apart = (lit≤ tt, tt);
  near = each _ (lit< tt) (lit< tt);
  few = lit≤ tt;
}

fits : FitsTypes table sent_events []
fits = record {
  ssrc = lit< tt;
  origin = lit< tt;
  sequences = each _ (lit< tt) (lit< tt);
  bytes = λ p m. absurd (Memᴰ.not-nil m);
}

empty : Empty table
unfolding is_in valid rising all_valid segments_from
empty = record { empty = refl; passes = refl }

admitted : AdmittedGiven sent_events table table given
unfolding is_in AdmittedGiven FairLabels sent_arrival receive_redundant receiving_each table_after_reports whole_refusal refusal_of_both refusal_for_both reports_in
    of_type blocks_refusal blocks cut_data lengths older older_within redundant_packet_of headers_of data_of receive packet_refusal refusal_for hear
    hear_refusal unheard probes heard_by arrival_in valid rising all_valid segments_from holds put header_refusal after_header payload payload_refusal
    write_report packet_of report_at reports all_on_wire mark_first reports_of_all interim cut_from
admitted =
    refl
    next (((early, lit≤ tt, lit≤ tt), refl) next ((early, lit≤ tt, lit≤ tt), refl) next ((early, lit≤ tt, lit≤ tt), refl) next tt)
    next (((early, lit≤ tt, lit≤ tt), refl) next refl next ((early, lit≤ tt, lit≤ tt), refl) next tt)
    next tt
    next (((early, lit≤ tt, lit≤ tt), refl) next ((early, lit≤ tt, lit≤ tt), refl) next ((late, lit≤ tt, lit≤ tt), refl) next tt)
    next tt
    next (refl next tt)
    next (((early, lit≤ tt, lit≤ tt), refl) next tt)
    next (((early, lit≤ tt, lit≤ tt), refl) next refl next ((early, lit≤ tt, lit≤ tt), refl) next tt)
    next (late, lit≤ tt, lit≤ tt)
    next tt
  where
    early : Mem long sent_events
    early = Memᴰ.head refl

    late : Mem short sent_events
    late = Memᴰ.tail (Memᴰ.head refl)

abbrev brought : List Label
brought =
    other
    ∷ copy long 1 ∷ copy long 4 ∷ report long 5
    ∷ copy long 7 ∷ other ∷ report long 9
    ∷ copy long 11 ∷ copy long 10 ∷ report short 1
    ∷ other
    ∷ report long 1
    ∷ copy long 7 ∷ other ∷ report long 9
    ∷ report short 3
    ∷ []

brings : labels given ≡ brought
unfolding labels
brings = refl

long_needed : NeededGiven table brought long
unfolding is_in cut_from report_at reports all_on_wire mark_first reports_of_all interim
long_needed = record { first = mark; full = full; ended = (10, inr end, refl) }
  where
    mark : Mem (report long 1) brought
    mark = behind 11 brought (Memᴰ.head refl)

    whole : Mem (copy long 4) brought
    whole = behind 2 brought (Memᴰ.head refl)

    next_whole : Mem (copy long 7) brought
    next_whole = behind 4 brought (Memᴰ.head refl)

    end : Mem (copy long 10) brought
    end = behind 8 brought (Memᴰ.head refl)

    Full : Segment → Type 0
    Full g = (k : ℕ) × Brings brought long k × ((report_at (plan_of table long) k).timestamp ≡ ((plan_of table long).start + g.offset) % 0x1_0000_0000)
        × ((report_at (plan_of table long) k).duration ≡ g.duration)

    full : (g : Segment) → Mem g (cut (plan_of table long)) → g.ended ≡ false → Full g
    full g (Memᴰ.head e) h = rw e (4, inr whole, refl, refl)
    full g (Memᴰ.tail (Memᴰ.head e)) h = rw e (7, inr next_whole, refl, refl)
    full g (Memᴰ.tail (Memᴰ.tail (Memᴰ.head e))) h = absurd (false≢true (sym h ∙ ap (λ (s : Segment). s.ended) e))
    full g (Memᴰ.tail (Memᴰ.tail (Memᴰ.tail x13))) h = elim x13 [ ]

short_needed : NeededGiven table brought short
unfolding is_in cut_from report_at reports all_on_wire mark_first reports_of_all interim
short_needed = record { first = mark; full = full; ended = (3, inl end, refl) }
  where
    mark : Mem (report short 1) brought
    mark = behind 9 brought (Memᴰ.head refl)

    end : Mem (report short 3) brought
    end = behind 15 brought (Memᴰ.head refl)

    Full : Segment → Type 0
    Full g = (k : ℕ) × Brings brought short k × ((report_at (plan_of table short) k).timestamp ≡ ((plan_of table short).start + g.offset) % 0x1_0000_0000)
        × ((report_at (plan_of table short) k).duration ≡ g.duration)

    full : (g : Segment) → Mem g (cut (plan_of table short)) → g.ended ≡ false → Full g
    full g (Memᴰ.head e) h = absurd (false≢true (sym h ∙ ap (λ (s : Segment). s.ended) e))
    full g (Memᴰ.tail x5) h = elim x5 [ ]

pub delivered : DeliveredGiven table sent_events given
delivered = record {
  empty = empty;
  sizes = in_sizes;
  fits = fits;
  admitted = admitted;
  needed = each _ (rw brings long_needed) (rw brings short_needed);
}

-- THE THEOREM APPLIED
pub lists : Lists (after_receipts table (receipts table given)) (map as_listed sent_events)
lists = demand_3_redundant table sent_events given delivered

-- COMPUTED

-- the list
pub list_computed : events (after_receipts table (receipts table given)) ≡ map as_listed sent_events
unfolding is_in after_receipts receive_redundant receiving_each table_after_reports whole_refusal refusal_of_both refusal_for_both reports_in
    of_type blocks_refusal blocks cut_data lengths older older_within redundant_packet_of headers_of data_of receive packet_refusal refusal_for hear
    hear_refusal unheard probes heard_by arrival_in valid rising all_valid segments_from holds put header_refusal after_header payload payload_refusal
    write_report packet_of report_at reports all_on_wire mark_first reports_of_all interim cut_from units loudest quietest last_ended continues_nearest continuing
    events_from
list_computed = refl

-- The copy of report 1 does not stand in for it: without the plain packet the first press has no marked beginning.
pub copy_unmarked : events (after_receipts table (receipts table (take 7 given ++ drop 8 given)))
    ≡ record { code = 5; start = 100; length = 1000; volume = 10; quietest = 10; began = false; ended = true } ∷ as_listed short ∷ []
unfolding is_in after_receipts receive_redundant receiving_each table_after_reports whole_refusal refusal_of_both refusal_for_both reports_in
    of_type blocks_refusal blocks cut_data lengths older older_within redundant_packet_of headers_of data_of receive packet_refusal refusal_for hear
    hear_refusal unheard probes heard_by arrival_in valid rising all_valid segments_from holds put header_refusal after_header payload payload_refusal
    write_report packet_of report_at reports all_on_wire mark_first reports_of_all interim cut_from units loudest quietest last_ended continues_nearest continuing
    events_from
copy_unmarked = refl

-- of the 16 labels four are `other`: 12 reports are taken
pub arrivals_computed : length (arrivals_of table (receipts table given)) ≡ 12
unfolding is_in arrivals_of taken_of receive_redundant receiving_each table_after_reports whole_refusal refusal_of_both refusal_for_both reports_in
    of_type blocks_refusal blocks cut_data lengths older older_within redundant_packet_of headers_of data_of receive packet_refusal refusal_for hear
    hear_refusal unheard probes heard_by arrival_in valid rising all_valid segments_from holds put header_refusal after_header payload payload_refusal
    write_report packet_of report_at reports all_on_wire mark_first reports_of_all interim cut_from
arrivals_computed = refl

-- the entries of the call with four kinds of blocks, as the first on an empty table: new, refused with 8, new after one look
pub entries_computed : (receive_redundant table mixed (9 ∷ 9 ∷ 9 ∷ 9 ∷ [])).entries ≡ 256 ∷ 8 ∷ (65536 + 256) ∷ 9 ∷ []
unfolding is_in receive_redundant receiving_each answers_to table_after_reports whole_refusal refusal_of_both refusal_for_both reports_in of_type
    blocks_refusal blocks cut_data lengths older older_within hear hear_refusal unheard probes heard_by arrival_in valid rising all_valid segments_from
    holds put header_refusal after_header payload payload_refusal middle is_smaller kept searching
entries_computed = refl
