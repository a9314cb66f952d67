-- How many reports a plan has: the closed form of the length of its list (`length_reports`); and that the numbers on the way fit.
use Prim.Native.Nat.{ℕ, ◌+◌, ◌-◌, ◌*◌, ◌%◌, ◌<◌, ◌≤◌}
use mathlib.Core.Path.{◌≡◌}
use mathlib.Core.Bool.{true}
use native.Mathlib.Omega.{arith}
use native.Mathlib.Nat.{div-le_self, mul-le-mul_right, mod-lt}
use lib.ListN.{length}
use mir.Syntax.{w32}
use mir.Val.{Fits}
use Rattle.model.specs.declared.Plan.{Plan}
use Rattle.model.specs.Plan.{full_segments, rest_units, lengths_in_range, reports}
use Rattle.theorems.proofs.Sends.{length_ranges}
use Rattle.plan_formulas.specs.Formula.{interim_count}
use Rattle.plan_formulas.proofs.InRange.{some_length, some_size, size_fits, few_full}
use Rattle.plan_formulas.proofs.Laws.{length_reports}
use Rattle.plan_formulas.proofs.Places.{one_counted}

module _ (p : Plan) where
  pub one_segment : lengths_in_range p ≡ true → p.length ≤ p.segment_size
      → (n : ℕ) → n ≡ interim_count p.period p.length → n + 3 ≡ length (reports p)
  one_segment h one n e = rw (length_reports p) (one_counted p h one n e)

  pub all_counted : (n : ℕ) → n ≡ interim_count p.period p.segment_size → (q : ℕ) → q ≡ full_segments p
      → (r m : ℕ) → r ≡ (p.length - 1) % p.segment_size → m ≡ interim_count p.period (r + 1)
      → q * (n + 3) + (m + 3) ≡ length (reports p)
  all_counted n each q full r m rest last = rw (length_reports p, full, each, last, rest)

-- THE NUMBERS ON THE WAY FIT
-- and a quotient has no more bits than the division finds

pub few_more : (units period n m : ℕ) → n ≡ interim_count period units → m ≤ 3 → units ≤ 65535 → Fits w32 (n + m)
few_more units period n m interim l h = record { fits = omega (arith, div-le_self (units - 1) period) }

module _ (p : Plan) (h : lengths_in_range p ≡ true) where
  pub within_16 : p.length - 1 < p.segment_size * 16
  within_16 = omega (arith, (length_ranges p h).most, some_length p h)

  pub size_in_width : p.segment_size * 16 < 0x1_0000_0000
  size_in_width = omega (arith, size_fits p h)

  pub one_narrow : p.length ≤ p.segment_size → p.length ≤ 65535
  one_narrow one = omega (arith, size_fits p h)

  rest_fits : rest_units p ≤ 65535
  rest_fits = omega (arith, mod-lt (p.length - 1) (some_size p h), size_fits p h)

  module _ (r m : ℕ) (rest : r ≡ (p.length - 1) % p.segment_size) (one : m ≤ 1) where
    pub last_narrow : r + m ≤ 65535
    last_narrow = omega (arith, rest_fits)

    pub last_fits : Fits w32 (r + m)
    last_fits = record { fits = omega (arith, rest_fits) }

  module _ (n : ℕ) (each : n ≡ interim_count p.period p.segment_size) where
    per_narrow : n + 3 ≤ 65537
    per_narrow = omega (arith, div-le_self (p.segment_size - 1) p.period, size_fits p h)

    pub per_in_width : (n + 3) * 16 < 0x1_0000_0000
    per_in_width = omega (arith, per_narrow)

    module _ (q : ℕ) (full : q ≡ full_segments p) where
      full_reports : q * (n + 3) ≤ 983055
      full_reports =
          let few : q ≤ 15 = omega (arith, few_full p h) in
          omega (arith, mul-le-mul_right (n + 3) few, per_narrow)

      pub full_fit : Fits w32 (q * (n + 3))
      full_fit = record { fits = omega (arith, full_reports) }

      pub all_fit : (r m : ℕ) → r ≡ (p.length - 1) % p.segment_size → m ≡ interim_count p.period (r + 1) → Fits w32 (q * (n + 3) + (m + 3))
      all_fit r m rest last =
          record { fits = omega (arith, full_reports, div-le_self (r + 1 - 1) p.period, last_narrow r 1 rest (omega arith)) }
