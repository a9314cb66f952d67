-- The order of segments as an order of their keys, and the numbers of a segment or of two reports together.
use Prim.Native.Nat.{ℕ, ◌+◌, ◌*◌, ◌/◌, ◌%◌, ◌<◌, min, max}
use mathlib.Core.Path.{◌≡◌, refl, sym, ◌∙◌}
use mathlib.Core.Bool.{Bool, true, false, ◌&&◌, ◌||◌}
use native.Mathlib.Omega.{arith}
use borrow.Author.Tests.{lt-ltb, le-ltb, ltb-true, ltb-false, eqb-true, eqb-false}
use lib.Bits.{bit_and, bit_or, and_mask, and_high}
use lib.Dec.{ltb, eqb}
use Rattle.std.proofs.lemmas.Nat.Bits.{bit_at_or}
use Rattle.model.specs.declared.Segment.{Segment}
use Rattle.model.specs.Packet.{bit}
use Rattle.model.specs.Segments.{before, merge}
use Rattle.model.specs.Table.{key_of, heard_of, segment_of}
use Rattle.theorems.proofs.Numbers.{bit_of_test}

-- THE ORDER

pub before_key : (r s : Segment) → r.code < 256 → s.code < 256 → before r s ≡ ltb (key_of r) (key_of s)
before_key r s h k = go (ltb r.offset s.offset) (eqb r.offset s.offset) (ltb r.code s.code) refl refl refl
  where
    go : (a b c : Bool) → ltb r.offset s.offset ≡ a → eqb r.offset s.offset ≡ b → ltb r.code s.code ≡ c
        → (a || (b && c)) ≡ ltb (key_of r) (key_of s)
    go true b c p q u = sym (lt-ltb (key_of r) (key_of s) (omega (arith, ltb-true)))
    go false true true p q u = sym (lt-ltb (key_of r) (key_of s) (omega (arith, ltb-true, eqb-true)))
    go false true false p q u = sym (le-ltb (key_of r) (key_of s) (omega (arith, ltb-false, eqb-true)))
    go false false c p q u = sym (le-ltb (key_of r) (key_of s) (omega (arith, ltb-false, eqb-false)))

-- TWO REPORTS IN ONE NUMBER

bit_or_lem : (a b : Bool) → bit (a || b) ≡ max (bit a) (bit b)
bit_or_lem true true = refl
bit_or_lem true false = refl
bit_or_lem false true = refl
bit_or_lem false false = refl

-- the flags of both are E of either and M of either
flags_are : (told held : ℕ) → bit_and (bit_or told held) 0x3_0000
    ≡ 0x1_0000 * (max (told / 0x1_0000 % 2) (held / 0x1_0000 % 2) + 2 * max (told / 0x2_0000 % 2) (held / 0x2_0000 % 2))
flags_are told held = and_high (bit_or told held) 2 16 ∙ omega (arith, bit_at_or told held 16, bit_at_or told held 17)

-- compared where they stand
quietest_is : (a b : ℕ) → max (bit_and a 0xfc_0000) (bit_and b 0xfc_0000) ≡ 0x4_0000 * max (a / 0x4_0000 % 64) (b / 0x4_0000 % 64)
quietest_is a b = rw (and_high a 6 18, and_high b 6 18) (omega arith)

volume_on_top : (a b : ℕ) → a < 0x1_0000_0000 → b < 0x1_0000_0000
    → bit_and (min a b) 0xff00_0000 ≡ 0x100_0000 * min (a / 0x100_0000) (b / 0x100_0000)
volume_on_top a b h k = and_high (min a b) 8 24 ∙ omega arith

pub merged_is : (told held : ℕ) → told < 0x1_0000_0000 → held < 0x1_0000_0000
    → (d q v : ℕ) → d ≡ max (bit_and told 0xffff) (bit_and held 0xffff) → q ≡ max (bit_and told 0xfc_0000) (bit_and held 0xfc_0000)
    → v ≡ min told held → d + bit_and (bit_or told held) 0x3_0000 + q + bit_and v 0xff00_0000 ≡ heard_of (merge (segment_of 0 told) (segment_of 0 held))
merged_is told held h k d q v e f g =
    rw (
      e,
      f,
      g,
      and_mask told 16,
      and_mask held 16,
      flags_are told held,
      quietest_is told held,
      volume_on_top told held h k,
      bit_or_lem (eqb (told / 0x1_0000 % 2) 1) (eqb (held / 0x1_0000 % 2) 1),
      bit_or_lem (eqb (told / 0x2_0000 % 2) 1) (eqb (held / 0x2_0000 % 2) 1),
      bit_of_test (told / 0x1_0000 % 2) (omega arith),
      bit_of_test (held / 0x1_0000 % 2) (omega arith),
      bit_of_test (told / 0x2_0000 % 2) (omega arith),
      bit_of_test (held / 0x2_0000 % 2) (omega arith),
    )
    (omega arith)
