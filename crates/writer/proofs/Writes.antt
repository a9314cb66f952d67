-- The laws of writing: the ranges of refusal 12 test by test, a packet's pieces byte by byte, and putting them into the output.
use Prim.Native.Nat.{ℕ, ◌/◌, ◌%◌, ◌≤◌, ◌<◌}
use mathlib.Core.Path.{◌≡◌, sym, ◌∙◌, ap}
use mathlib.Core.Bool.{Bool, true, false, not}
use mathlib.Core.List.{List, ◌++◌}
use native.Mathlib.Omega.{arith}
use borrow.Author.Rules.{rules}
use borrow.Author.Tests.{lt-ltb, le-ltb, not-true, not-false}
use lib.ListN.{length}
use lib.Seq.{drop-drop}
use Rattle.model.specs.declared.Codes.{Codes}
use Rattle.model.specs.declared.Report.{Report}
use Rattle.refusals.specs.Refusals.{answered, refused_by}
use Rattle.model.specs.Packet.{header_bytes, payload_bytes, packet_of, report_in_range, write}
use Rattle.theorems.proofs.Packets.{ranges}
use Rattle.writer.specs.Pieces.{PayloadInRange, put_at}

-- BYTES

-- the four bytes of a number are those of its halves
module _ (x : ℕ) where
  pub highest : x / 0x100_0000 % 256 ≡ x / 65536 / 256 % 256
  highest = omega arith

  pub third : x / 256 % 256 ≡ x % 65536 / 256 % 256
  third = omega arith

  pub lowest : x % 256 ≡ x % 65536 % 256
  lowest = omega arith

-- PUTTING A PIECE

pub piece_put : (p q before after : List ℕ) (at : ℕ) → p ≡ q → after ≡ put_at p at before → after ≡ put_at q at before
piece_put p q before after at e h = rw (← e) h

-- THE CALL

module _ (codes : Codes) (r : Report) where
  module _ (b : Bool) (e : b ≡ report_in_range codes r) (h : not b ≡ false) where
    pub type_asked : r.payload_type ≤ 127
    type_asked = (ranges codes r (sym e ∙ not-false b h)).type

    pub payload_asked : PayloadInRange r.code r.volume r.duration
    payload_asked = let k = ranges codes r (sym e ∙ not-false b h) in record { code = omega (arith, k.byte); volume = k.volume; duration = k.most }

  -- for each way what is answered, and the output after it
  module _ (output : List ℕ) (b : Bool) (e : b ≡ report_in_range codes r) where
    module _ (h : not b ≡ true) where
      pub range_refused : refused_by 12 tt ≡ (write codes r output).answer
      unfolding write
      range_refused = rw (← e, not-true b h)

      pub range_refused_stays : output ≡ (write codes r output).output
      unfolding write
      range_refused_stays = rw (← e, not-true b h)

    module _ (h : not b ≡ false) where
      module _ (k : length output < 16) where
        pub output_refused : refused_by 14 tt ≡ (write codes r output).answer
        unfolding write
        output_refused = rw (← e, not-false b h, lt-ltb (length output) 16 k)

        pub output_refused_stays : output ≡ (write codes r output).output
        unfolding write
        output_refused_stays = rw (← e, not-false b h, lt-ltb (length output) 16 k)

      module _ (k : 16 ≤ length output) where
        pub written : answered tt ≡ (write codes r output).answer
        unfolding write
        written = rw (← e, not-false b h, le-ltb (length output) 16 k)

        pub written_after : (one after : List ℕ) → one ≡ put_at (header_bytes r r.payload_type) 0 output
            → after ≡ put_at (payload_bytes r.code r.ended r.volume r.duration) 12 one → after ≡ (write codes r output).output
        unfolding write packet_of put_at
        written_after one after x y =
            rw (← e, not-false b h, le-ltb (length output) 16 k) (y ∙ rw x (ap (λ (l : List ℕ). packet_of r ++ l) (drop-drop 4 12 output)))

pub ruleset writing = (
  rules,
  piece_put,
  type_asked,
  payload_asked,
  range_refused,
  range_refused_stays,
  output_refused,
  output_refused_stays,
  written,
  written_after,
)
