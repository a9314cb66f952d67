-- The library's subtraction modulo 2^32 is the timestamp's.
use Prim.Native.Nat.{ℕ, ◌+◌, ◌-◌, ◌%◌, ◌<◌}
use mathlib.Core.Path.{◌≡◌, ap}
use native.Mathlib.Omega.{arith}
use Rattle.model.specs.Packet.{minus}

-- what timestamp.wrapping_sub(n) answers
pub wrapped : (timestamp n : ℕ) → n < 0x1_0000_0000 → (timestamp + (0x1_0000_0000 - n)) % 0x1_0000_0000 ≡ minus timestamp n
wrapped timestamp n h = ap (λ (x : ℕ). x % 0x1_0000_0000) (omega arith)
