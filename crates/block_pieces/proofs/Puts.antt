-- The pieces of a redundant packet, put into the output.
use Prim.Native.Nat.{ℕ, ◌+◌, ◌*◌, ◌≤◌}
use mathlib.Core.Path.{◌≡◌, refl, ◌∙◌}
use mathlib.Core.Bool.{false}
use mathlib.Core.List.{List}
use native.Mathlib.Omega.{arith}
use borrow.Author.Rules.{rules}
use lib.ListN.{length, set, length-set}
use Rattle.model.specs.declared.Report.{Report}
use Rattle.model.specs.declared.OlderReport.{OlderReport}
use Rattle.model.specs.Packet.{bit, header_bytes, payload_bytes}
use Rattle.model.specs.Blocks.{header_of}
use Rattle.model.proofs.Minus.{wrapped}
use Rattle.model.specs.WriteRedundant.{older_written}
use Rattle.writer.specs.Pieces.{put_at}
use Rattle.block_pieces.specs.Pieces.{older_put, ends_put}

pub older_put_lem : (r : Report) (o : OlderReport) (i n : ℕ) (h before one after : List ℕ)
    → h ≡ header_of (older_written r o) → one ≡ put_at h (12 + 4 * i) before
    → after ≡ put_at (payload_bytes o.code o.ended o.volume o.duration) (13 + 4 * n + 4 * i) one
    → after ≡ older_put r o i n before
unfolding older_put
older_put_lem r o i n h before one after a b c = c ∙ rw (b, a) refl

pub ends_put_lem : (r : Report) (type n last : ℕ) (before one after : List ℕ)
    → one ≡ put_at (header_bytes r type) 0 before → last ≡ bit false * 128 + r.payload_type
    → after ≡ put_at (payload_bytes r.code r.ended r.volume r.duration) (13 + 8 * n) (set one (12 + 4 * n) last)
    → after ≡ ends_put r type n before
unfolding ends_put
ends_put_lem r type n last before one after a b c =
    let e : last ≡ r.payload_type = omega arith in
    c ∙ rw (a, e) refl

-- a byte stored changes no length
pub room_stays : (before l : List ℕ) (i x n : ℕ) → 17 + 8 * n ≤ length before → length l ≡ length before
    → 13 + 8 * n + 4 ≤ length (set l i x)
room_stays before l i x n h e = omega (arith, length-set l i x)

pub length_stays : (before l after : List ℕ) (i x : ℕ) → length l ≡ length before → length after ≡ length (set l i x)
    → length after ≡ length before
length_stays before l after i x a b = b ∙ length-set l i x ∙ a

pub ruleset putting = (rules, wrapped, older_put_lem, ends_put_lem, room_stays, length_stays)
