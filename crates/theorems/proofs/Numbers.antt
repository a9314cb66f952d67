-- A segment in two numbers: every two numbers are those of a segment, and of one only, since a segment within its ranges is
-- the one that its two numbers give back.
use Prim.Native.Nat.{ℕ, ◌+◌, ◌*◌, ◌/◌, ◌%◌, ◌<◌}
use mathlib.Core.Path.{◌≡◌, refl, sym, ap, ◌∙◌}
use mathlib.Core.Bool.{Bool, true, false}
use native.Mathlib.Omega.{arith}
use lib.Dec.{eqb}
use borrow.Author.Tests.{eqb-true, eqb-false}
use Rattle.model.specs.declared.Segment.{Segment}
use Rattle.model.specs.Packet.{bit}
use Rattle.model.specs.Table.{key_of, heard_of, segment_of}

pub bit_of_test : (n : ℕ) → n < 2 → bit (eqb n 1) ≡ n
bit_of_test n h = go (eqb n 1) refl
  where
    go : (b : Bool) → eqb n 1 ≡ b → bit b ≡ n
    go true e = sym (eqb-true n 1 e)
    go false e = omega (arith, eqb-false n 1 e)

test_of_bit : (b : Bool) → eqb (bit b) 1 ≡ b
test_of_bit true = refl
test_of_bit false = refl

bit_small : (b : Bool) → bit b < 2
bit_small true = omega arith
bit_small false = omega arith

pub key_back : (key heard : ℕ) → key_of (segment_of key heard) ≡ key
key_back key heard = omega arith

pub heard_back : (key heard : ℕ) → heard_of (segment_of key heard) ≡ heard
heard_back key heard =
    let both : heard / 0x4_0000 % 64 + 64 * (heard / 0x100_0000) ≡ heard / 0x4_0000 = omega arith in
    rw (bit_of_test (heard / 0x1_0000 % 2) (omega arith), bit_of_test (heard / 0x2_0000 % 2) (omega arith), both) (omega arith)

pub segment_back : (s : Segment) → s.code < 256 → s.duration < 65536 → s.quietest < 64 → segment_of (key_of s) (heard_of s) ≡ s
segment_back s code duration quietest x = record {
  offset = e₁ x;
  code = e₂ x;
  duration = e₃ x;
  volume = e₄ x;
  quietest = e₇ x;
  ended = (ap (λ (n : ℕ). eqb n 1) e₅ ∙ test_of_bit s.ended) x;
  marked = (ap (λ (n : ℕ). eqb n 1) e₆ ∙ test_of_bit s.marked) x;
}
  where
    a : bit s.ended < 2
    a = bit_small s.ended

    b : bit s.marked < 2
    b = bit_small s.marked

    e₁ : key_of s / 256 ≡ s.offset
    e₁ = omega arith

    e₂ : key_of s % 256 ≡ s.code
    e₂ = omega arith

    e₃ : heard_of s % 65536 ≡ s.duration
    e₃ = omega (arith, a, b)

    e₄ : heard_of s / 0x100_0000 ≡ s.volume
    e₄ = omega (arith, a, b)

    e₅ : heard_of s / 0x1_0000 % 2 ≡ bit s.ended
    e₅ = omega (arith, a, b)

    e₆ : heard_of s / 0x2_0000 % 2 ≡ bit s.marked
    e₆ = omega (arith, a, b)

    e₇ : heard_of s / 0x4_0000 % 64 ≡ s.quietest
    e₇ = omega (arith, a, b)
