-- Of a segment which a table may hold the two conversions undo each other.
use Prim.Native.Nat.{◌%◌, ◌≤◌, ◌<◌}
use mathlib.Core.Path.{◌≡◌}
use native.Mathlib.Omega.{arith}
use borrow.Author.Tests.{lt-ltb, le-leb}
use Rattle.model.specs.declared.Segment.{Segment}
use Rattle.model.specs.Table.{key_of}
use Rattle.theorems.proofs.Numbers.{segment_back}
use Rattle.segment_numbers.specs.BothWays.{segment_shown, numbers_of}

-- of a segment whose numbers have the widths of their types, and whose quietest has room
pub there_and_back : (s : Segment) → s.offset < 0x1_0000_0000 → s.code < 256 → s.duration < 65536 → s.quietest ≤ 63
    → segment_shown (numbers_of s).key (numbers_of s).heard ≡ s
there_and_back s offset code duration quietest =
    let room : s.quietest % 64 ≡ s.quietest = omega arith in
    simp (lt-ltb (key_of s) 0x100_0000_0000 (omega arith), le-leb s.quietest 63 quietest, room)
    (segment_back s code duration (omega arith))
