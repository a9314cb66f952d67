-- The pieces of a redundant packet in the output: what is asked of their numbers, and the output with them.
use Rattle.std.specs.Prelude.{ℕ, ◌+◌, ◌*◌, ◌≤◌, List, set}
use Rattle.model.specs.declared.Report.{Report}
use Rattle.model.specs.declared.OlderReport.{OlderReport}
use Rattle.model.specs.Packet.{header_bytes, payload_bytes}
use Rattle.model.specs.Blocks.{header_of}
use Rattle.model.specs.WriteRedundant.{offset_before, older_written}
use Rattle.writer.specs.Pieces.{PayloadInRange, put_at}

pub record OlderAsked (r : Report) (o : OlderReport) : Type 0 where
  pub type : r.payload_type ≤ 127
  pub offset : offset_before r o ≤ 16383
  pub payload : PayloadInRange o.code o.volume o.duration

pub record EndsAsked (r : Report) (redundant_type : ℕ) : Type 0 where
  pub type : r.payload_type ≤ 127
  pub other : redundant_type ≤ 127
  pub payload : PayloadInRange r.code r.volume r.duration

-- what the tests leave: the numbers of the ends, and of each older report that counts
pub record BlocksAsked (r : Report) (redundant_type count : ℕ) (first second : OlderReport) : Type 0 where
  pub few : count ≤ 2
  pub ends : EndsAsked r redundant_type
  pub older_first : 1 ≤ count → OlderAsked r first
  pub older_second : 2 ≤ count → OlderAsked r second

-- older block i of n: its header, and its data
unfoldable pub older_put : Report → OlderReport → ℕ → ℕ → List ℕ → List ℕ
older_put r o i n output =
    put_at (payload_bytes o.code o.ended o.volume o.duration) (13 + 4 * n + 4 * i)
    (put_at (header_of (older_written r o)) (12 + 4 * i) output)

-- the packet's header, and after those of n older blocks the header and the data of the last
unfoldable pub ends_put : Report → ℕ → ℕ → List ℕ → List ℕ
ends_put r redundant_type n output =
    put_at (payload_bytes r.code r.ended r.volume r.duration) (13 + 8 * n)
    (set (put_at (header_bytes r redundant_type) 0 output) (12 + 4 * n) r.payload_type)
