-- Two reports of one segment, each in the number that tells what was heard.
use Rattle.std.specs.Prelude.{ℕ}
use Rattle.model.specs.Segments.{merge}
use Rattle.model.specs.Table.{heard_of, segment_of}

-- what two reports of one segment say together
abbrev pub merged_heard : ℕ → ℕ → ℕ
merged_heard told held = heard_of (merge (segment_of 0 told) (segment_of 0 held))
