-- Division from the quotient's highest bit down: a step doubles what is found of the quotient, and subtracts the divisor, shifted to
-- the bits still to go, if it can.
use Prim.Native.Nat.{ℕ, zero, suc, ◌+◌, ◌-◌, ◌*◌, ◌/◌, ◌%◌, ◌^◌, ◌≤◌, ◌<◌}
use mathlib.Core.Path.{◌≡◌, sym, ◌∙◌, ap}
use native.Mathlib.Omega.{arith}
use native.Mathlib.Nat.{pow-suc, mod-eq_of_lt, mul-le-mul_left, mul-le-mul_right, mul_assoc}
use native.Mathlib.Decide.{dec_lt}
use lib.Arith.{digits_div, digits_mod}
use lib.Pow.{pow_mono}
use mir.Syntax.{w32}
use mir.Val.{Fits}
use borrow.Author.Rules.{rules}

-- with k bits to go, the quotient's bits above them are found, and the remainder is what they leave
pub record Dividing (n d bits quotient remainder k : ℕ) : Type 0 where
  pub left : k ≤ bits
  pub whole : quotient * (d * 2 ^ k) + remainder ≡ n
  pub below : remainder < d * 2 ^ k

some_divisor : (n d x : ℕ) → n < d * x → 1 ≤ d
some_divisor n zero x h = absurd (omega arith)
some_divisor n (suc d) x h = omega arith

module _ (n d bits : ℕ) (few : n < d * 2 ^ bits) (narrow : d * 2 ^ bits < 0x1_0000_0000)
    (q r k : ℕ) (s : Dividing n d bits q r k) (more : 0 < k) where
  -- the divisor at the next bit
  abbrev part : ℕ
  part = d * 2 ^ (k - 1)

  twice : d * 2 ^ k ≡ part + part
  twice =
      let e : suc (k - 1) ≡ k = omega arith in
      let p = ap (λ (x : ℕ). d * 2 ^ x) (sym e) ∙ ap (λ (x : ℕ). d * x) (pow-suc 2 (k - 1)) ∙ sym (mul_assoc d (2 ^ (k - 1)) 2) in
      omega (arith, p)

  regrouped : q * (part + part) + r ≡ n
  regrouped = ap (λ (x : ℕ). q * x + r) (sym twice) ∙ s.whole

  exact : part % 0x1_0000_0000 ≡ part
  exact =
      let l : 2 ^ (k - 1) ≤ 2 ^ bits = pow_mono (omega (arith, s.left)) in
      mod-eq_of_lt (omega (arith, mul-le-mul_left d l))

  pub shift_in_width : k - 1 < 32
  shift_in_width = go (dec_lt bits 32)
    where
      go : Dec (bits < 32) → k - 1 < 32
      go (yes l) = omega (arith, s.left)
      go (no l) =
          let wide : 2 ^ 32 ≤ 2 ^ bits = pow_mono {i = 32} (omega arith) in
          absurd (omega (arith, wide, mul-le-mul_right (2 ^ bits) (some_divisor n d (2 ^ bits) few)))

  at_most : q * 2 ≤ n
  at_most =
      let some : 1 ≤ part = omega (arith, s.below, twice) in
      omega (arith, regrouped, mul-le-mul_left q some)

  pub doubled_fits : Fits w32 (q * 2)
  doubled_fits = record { fits = omega (arith, at_most) }

  pub odd_fits : Fits w32 (q * 2 + 1)
  odd_fits = record { fits = omega (arith, at_most) }

  pub subtracted : part % 0x1_0000_0000 ≤ r → Dividing n d bits (q * 2 + 1) (r - part % 0x1_0000_0000) (k - 1)
  subtracted h =
      record {
        left = omega (arith, s.left);
        whole = rw exact (omega (arith, regrouped, exact));
        below = rw exact (omega (arith, s.below, twice, exact));
      }

  pub passed_over : r < part % 0x1_0000_0000 → Dividing n d bits (q * 2) r (k - 1)
  passed_over h =
      record {
        left = omega (arith, s.left);
        whole = omega (arith, regrouped);
        below = omega (arith, exact);
      }

-- with none to go
module _ (n d bits q r : ℕ) where
  pub found : (k : ℕ) → Dividing n d bits q r k → k ≤ 0 → q ≡ n / d
  found zero s done =
      let e : q * d + r ≡ n = omega (arith, s.whole) in
      sym (digits_div q (omega (arith, s.below))) ∙ ap (λ (x : ℕ). x / d) e
  found (suc k) s done = absurd (omega arith)

  pub left_over : (k : ℕ) → Dividing n d bits q r k → k ≤ 0 → r ≡ n % d
  left_over zero s done =
      let e : q * d + r ≡ n = omega (arith, s.whole) in
      sym (digits_mod q (omega (arith, s.below))) ∙ ap (λ (x : ℕ). x % d) e
  left_over (suc k) s done = absurd (omega arith)

pub ruleset dividing = (rules, shift_in_width, doubled_fits, odd_fits, subtracted, passed_over, found, left_over)
