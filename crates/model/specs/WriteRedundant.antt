-- Writing a redundant packet (02, request 2): "a writer takes a report and up to two older ones, which stand before it in the order
-- given". The event's type is the report's payload type; all blocks are of it.
use Rattle.std.specs.Prelude.{ℕ, Bool, true, false, not, cond, ◌&&◌, List, [], ◌∷◌, ◌++◌, map, ltb, leb, eqb, length, take}
use Rattle.model.specs.declared.Codes.{Codes}
use Rattle.model.specs.declared.Report.{Report}
use Rattle.model.specs.declared.OlderReport.{OlderReport}
use Rattle.refusals.specs.Refusals.{out_of_range, output_too_small, none, ◌if◌else◌, telling}
use Rattle.model.specs.Codes.{is_in}
use Rattle.model.specs.Packet.{minus, header_bytes, payload_bytes, report_in_range, Writing}
use Rattle.model.specs.Table.{types_differ, place}
use Rattle.model.specs.Blocks.{Block, primary_block, laid_out}

-- THE PACKET

-- how much earlier an older report is, modulo 2^32
abbrev pub offset_before : Report → OlderReport → ℕ
offset_before r o = minus r.timestamp o.timestamp

abbrev pub older_written : Report → OlderReport → Block
older_written r o = record {
  type = r.payload_type;
  offset = offset_before r o;
  primary = false;
  bytes = payload_bytes o.code o.ended o.volume o.duration;
}

abbrev pub primary_written : Report → Block
primary_written r = primary_block r.payload_type (payload_bytes r.code r.ended r.volume r.duration)

-- the blocks in their order
abbrev pub blocks_written : Report → List OlderReport → List Block
blocks_written r os = map (older_written r) os ++ (primary_written r ∷ [])

unfoldable pub redundant_packet_of : Report → ℕ → List OlderReport → List ℕ
redundant_packet_of r redundant_type os = header_bytes r redundant_type ++ laid_out (map (older_written r) os) (primary_written r)

-- THE CALL

-- a count of older reports, and room for two: those that it counts; the others are ignored
abbrev pub older_given : ℕ → OlderReport → OlderReport → List OlderReport
older_given count first second = take count (first ∷ second ∷ [])

abbrev pub older_in_range : Codes → Report → OlderReport → Bool
older_in_range codes r o =
    is_in codes o.code && (leb o.volume 63 && ((leb 1 o.duration && leb o.duration 65535) && leb (offset_before r o) 16383))

unfoldable pub all_older_in_range : Codes → Report → List OlderReport → Bool
all_older_in_range codes r [] = true
all_older_in_range codes r (o ∷ os) = older_in_range codes r o && all_older_in_range codes r os

-- both types up to 127 and different, no third older report, and every number in its range
abbrev pub redundant_in_range : Codes → Report → ℕ → ℕ → OlderReport → OlderReport → Bool
redundant_in_range codes r redundant_type count first second =
    report_in_range codes r
    && (types_differ r.payload_type redundant_type && (leb count 2 && all_older_in_range codes r (older_given count first second)))

module _ (codes : Codes) (r : Report) (redundant_type count : ℕ) (first second : OlderReport) (output : List ℕ) where
  abbrev pub redundant_bytes : List ℕ
  redundant_bytes = redundant_packet_of r redundant_type (older_given count first second)

  abbrev pub write_redundant_refusal : ℕ
  write_redundant_refusal =
      out_of_range if not (redundant_in_range codes r redundant_type count first second) else
      output_too_small if ltb (length output) (length redundant_bytes) else
      none

  -- the packet takes the first bytes of the output, and the bytes after it stay; under a refusal all stay
  unfoldable pub write_redundant : Writing
  write_redundant = record {
    answer = telling write_redundant_refusal tt tt;
    output = cond (eqb write_redundant_refusal none) (place redundant_bytes output) output;
  }
