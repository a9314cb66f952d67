-- What a redundant packet is that the writer wrote: the walker hands out all blocks as they were given, and the receiver takes their
-- reports (02, request 2). Three claims, as types; proofs/WrittenBlocks.antt has a value of each.
use Rattle.std.specs.Prelude.{ℕ, ◌+◌, ◌*◌, ◌≤◌, ◌<◌, ◌≡◌, true, false, length, take}
use mathlib.Core.List.{List, [], ◌∷◌, ◌++◌, map, Memᴰ}
use Rattle.model.specs.declared.Codes.{Codes}
use Rattle.model.specs.declared.Report.{Report}
use Rattle.model.specs.declared.OlderReport.{OlderReport}
use Rattle.model.specs.declared.Head.{Head}
use Rattle.model.specs.declared.Table.{Table}
use Rattle.refusals.specs.Refusals.{none}
use Rattle.model.specs.Packet.{payload_bytes, payload_refusal, report_in_range}
use Rattle.model.specs.Table.{is_for_both, types_differ, valid}
use Rattle.model.specs.Receive.{Arrival}
use Rattle.model.specs.Walk.{walk_start, HandsOut}
use Rattle.model.specs.Redundant.{reports_in, whole_refusal}
use Rattle.model.specs.WriteRedundant.{blocks_written, redundant_packet_of, older_given, all_older_in_range, write_redundant}
use Rattle.model.specs.Fits.{ReportFits}

-- What the writer asks: every number in its range, the codes in a set, and two types that differ. The claims hold for any number of
-- older reports.
pub record Writable (codes : Codes) (r : Report) (redundant_type : ℕ) (os : List OlderReport) : Type 0 where
  pub report : report_in_range codes r ≡ true
  pub types : types_differ r.payload_type redundant_type ≡ true
  pub older : all_older_in_range codes r os ≡ true

-- what the machine's types say
pub record OlderReportsFit (r : Report) (os : List OlderReport) : Type 0 where
  pub report : ReportFits r
  pub older : (o : OlderReport) → Memᴰ o os → o.timestamp < 0x1_0000_0000

-- THE CALL
-- Where it refuses nothing, the numbers were in range and the first bytes of the output are the packet.

abbrev pub PacketOfCall : Type 0
PacketOfCall =
    (codes : Codes) (r : Report) (redundant_type count : ℕ) (first second : OlderReport) (output : List ℕ)
    → (write_redundant codes r redundant_type count first second output).answer.refused ≡ false
    → Writable codes r redundant_type (older_given count first second)
    × (take (17 + 8 * count) (write_redundant codes r redundant_type count first second output).output
    ≡ redundant_packet_of r redundant_type (older_given count first second))

-- THE WALKER
-- It starts on the packet, and hands out the blocks as they were given, and then no more.

abbrev pub WalkedAsWritten : Type 0
WalkedAsWritten =
    (codes : Codes) (r : Report) (redundant_type : ℕ) (os : List OlderReport) → Writable codes r redundant_type os
    → ((walk_start (redundant_packet_of r redundant_type os)).refusal ≡ none)
    × HandsOut (redundant_packet_of r redundant_type os) (walk_start (redundant_packet_of r redundant_type os)).cursor (blocks_written r os)

-- THE RECEIVER

-- an older report arrives by its own timestamp, and unmarked; the report as it is
abbrev pub older_arrival : OlderReport → Arrival
older_arrival o = record {
  timestamp = o.timestamp;
  marked = false;
  payload = payload_bytes o.code o.ended o.volume o.duration;
}

abbrev pub report_arrival : Report → Arrival
report_arrival r = record {
  timestamp = r.timestamp;
  marked = r.marker;
  payload = payload_bytes r.code r.ended r.volume r.duration;
}

abbrev pub arrivals_written : Report → List OlderReport → List Arrival
arrivals_written r os = map older_arrival os ++ (report_arrival r ∷ [])

-- In a table with the head h: the packet's reports are those written, in their order; none of their payloads is refused; and a valid table
-- for this SSRC does not refuse the packet whole, if there is an entry for each.
pub record ReceivedAsWritten (r : Report) (redundant_type : ℕ) (os : List OlderReport) (h : Head) : Type 0 where
  pub reports : reports_in h (redundant_packet_of r redundant_type os) ≡ arrivals_written r os
  pub payloads : (a : Arrival) → Memᴰ a (arrivals_written r os) → payload_refusal h.codes a.payload ≡ none
  pub whole : (t : Table) (room : ℕ) → t.head ≡ h → valid t ≡ true → h.ssrc ≡ r.ssrc → length os + 1 ≤ room
      → whole_refusal t (redundant_packet_of r redundant_type os) room ≡ none

-- the table was opened for the report's type, for this redundant type and for the set that the writer was given
abbrev pub IsReceivedAsWritten : Type 0
IsReceivedAsWritten =
    (r : Report) (redundant_type : ℕ) (os : List OlderReport) (h : Head) → Writable h.codes r redundant_type os → OlderReportsFit r os
    → h.payload_type ≡ r.payload_type → is_for_both h ≡ true → h.redundant_type ≡ redundant_type
    → ReceivedAsWritten r redundant_type os h
