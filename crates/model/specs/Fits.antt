-- What the machine's types say: bytes below 256, numbers within the widths of their fields. The records here do not know these, and with
-- `FitsTypes` of the demands they are the only hypotheses beyond 01's.
use Rattle.std.specs.Prelude.{ℕ, ◌<◌}
use mathlib.Core.List.{List, Memᴰ}
use Rattle.model.specs.declared.Report.{Report}

abbrev pub BytesFit : List ℕ → Type 0
BytesFit bs = (b : ℕ) → Memᴰ b bs → b < 256

pub record ReportFits (r : Report) : Type 0 where
  pub sequence : r.sequence < 65536
  pub timestamp : r.timestamp < 0x1_0000_0000
  pub ssrc : r.ssrc < 0x1_0000_0000
