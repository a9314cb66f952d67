-- What the block headers of a payload say, where the payload stands in a packet.
use Rattle.std.specs.Prelude.{ℕ, ◌+◌, ◌%◌, ◌≤◌, min, List, eqb, length}
use Rattle.refusals.specs.Refusals.{Told, telling}
use Rattle.model.specs.Packet.{byte, bit}
use Rattle.model.specs.Blocks.{last_header, blocks_refusal, blocks}
use Rattle.model.specs.Walk.{part_of}
use Rattle.model.specs.Redundant.{of_type}
use Rattle.block_fields.specs.Fields.{length_at}
use Rattle.block_headers.specs.declared.SoFar.{SoFar}
use Rattle.block_headers.specs.declared.Scanned.{Scanned}

-- SO FAR

abbrev pub none_yet : ℕ → SoFar
none_yet start = record { at = start; total = 0; of_type = 0 }

-- after the header of four bytes at its place: the total stops at `end`, which is more than any data
abbrev pub one_more : List ℕ → ℕ → ℕ → SoFar → SoFar
one_more bs end type t = record {
  at = t.at + 4;
  total = min (t.total + length_at bs t.at) end;
  of_type = t.of_type + bit (eqb (byte bs t.at % 128) type);
}

-- the header stands whole before the end, and neither number is too large for one more
pub record Room (bs : List ℕ) (end : ℕ) (t : SoFar) : Type 0 where
  pub inside : end ≤ length bs
  pub whole : t.at + 4 ≤ end
  pub capped : t.total ≤ end
  pub few : t.of_type ≤ t.at

-- ALL OF THEM

abbrev pub nothing_scanned : Scanned
nothing_scanned = record { body = 0; of_type = 0 }

-- of a payload p that starts at a place
abbrev pub scanned_as : List ℕ → ℕ → ℕ → Scanned
scanned_as p start type = record { body = start + last_header p + 1; of_type = length (of_type type (blocks p)) }

unfoldable pub scan_in : List ℕ → ℕ → ℕ → Told Scanned
scan_in p start type = telling (blocks_refusal p) nothing_scanned (scanned_as p start type)

abbrev pub scan_of : List ℕ → ℕ → ℕ → ℕ → Told Scanned
scan_of bs start end type = scan_in (part_of bs start end) start type
