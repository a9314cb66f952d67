-- A place is found for every number: its report's own, or one with no report.
use Prim.Native.Nat.{ℕ, ◌+◌, ◌-◌, ◌*◌, ◌/◌, ◌%◌, ◌<◌, ◌≤◌}
use mathlib.Core.Path.{◌≡◌, refl, sym, ap}
use mathlib.Core.Bool.{true, false, and-false}
use native.Mathlib.Omega.{arith}
use native.Mathlib.Nat.{div-eq_of_lt, mod-eq_of_lt, mod-lt, div-lt_iff_lt-mul, div-add-mod', mul-le-mul_right}
use native.Mathlib.Decide.{dec_lt}
use borrow.Author.Tests.{le-ltb}
use Rattle.model.specs.declared.Plan.{Plan}
use Rattle.model.specs.Plan.{full_segments, rest_units, lengths_in_range}
use Rattle.plan_formulas.specs.Formula.{interim_count, report_count_in, has_report, per_full, report_total, place_of, units_at, Stands}
use Rattle.plan_formulas.proofs.Laws.{none_left, last_units, last_at_most}
use Rattle.plan_formulas.proofs.InRange.{some_length, some_size, some_period, few_full}

none_past : (period units i : ℕ) → report_count_in period units ≤ i → has_report period units i ≡ false
unfolding has_report
none_past period units i h = rw (le-ltb i (report_count_in period units) h, and-false)

none_in_none : (period i : ℕ) → has_report period 0 i ≡ false
unfolding has_report
none_in_none period i = refl

module _ (p : Plan) (h : lengths_in_range p ≡ true) where
  some : 1 ≤ p.segment_size
  some = some_size p h

  long : 1 ≤ p.length
  long = some_length p h

  fewer : report_count_in p.period (rest_units p) ≤ per_full p
  fewer = last_at_most p some long (some_period p h)

  total_narrow : report_total p ≤ per_full p * 16
  total_narrow = omega (arith, mul-le-mul_right (per_full p) (few_full p h), fewer)

  none_after : (j : ℕ) → full_segments p < j → (i : ℕ) → has_report p.period (units_at p j) i ≡ false
  none_after j l i = let z : units_at p j ≡ 0 = omega (arith, none_left p some long j l) in rw z (none_in_none p.period i)

  -- one segment alone
  module _ (one : p.length ≤ p.segment_size) where
    no_full : 0 ≡ full_segments p
    no_full = sym (div-eq_of_lt (omega (arith, long)))

    last_alone : report_total p ≡ report_count_in p.period (rest_units p)
    last_alone = omega (arith, ap (λ (n : ℕ). n * per_full p) no_full)

    all_rest : rest_units p ≡ p.length
    all_rest =
        let e : (p.length - 1) % p.segment_size ≡ p.length - 1 = mod-eq_of_lt (omega (arith, long)) in
        omega (arith, e, long)

    pub one_counted : (n : ℕ) → n ≡ interim_count p.period p.length → n + 3 ≡ report_total p
    one_counted n e = rw (last_alone, all_rest, e)

    pub in_one_segment : (i : ℕ) → Stands p i (record { segment = 0; index = i })
    in_one_segment i = record { few = omega arith; its_own = own; or_none = none }
      where
        own : i < report_total p → record { segment = 0; index = i } ≡ place_of p i
        own l =
            let within : i < per_full p = omega (arith, fewer, last_alone) in
            rw (div-eq_of_lt within, mod-eq_of_lt within)

        none : report_total p ≤ i → has_report p.period (units_at p 0) i ≡ false
        none l = rw (last_units p some long 0 no_full) (none_past p.period (rest_units p) i (omega (arith, last_alone)))

  module _ (i : ℕ) where
    by_division : i < per_full p * 16 → Stands p i (place_of p i)
    by_division low = record { few = omega (arith, below); its_own = λ l. refl; or_none = none }
      where
        q : ℕ
        q = i / per_full p

        below : q < 16
        below = (div-lt_iff_lt-mul {k = per_full p} {x = i} {y = 16} (omega arith)).1 (omega arith)

        none : report_total p ≤ i → has_report p.period (units_at p q) (i % per_full p) ≡ false
        none l = go (dec_lt (full_segments p) q) (dec_lt q (full_segments p))
          where
            parts : q * per_full p + i % per_full p ≡ i
            parts = div-add-mod' i (per_full p)

            go : Dec (full_segments p < q) → Dec (q < full_segments p) → has_report p.period (units_at p q) (i % per_full p) ≡ false
            go (yes m) _ = none_after q m (i % per_full p)
            go (no m) (yes k) = absurd (omega (arith, parts, mul-le-mul_right (per_full p) k, mod-lt i {m = per_full p} (omega arith)))
            go (no m) (no k) =
                let e : q ≡ full_segments p = omega arith in
                rw (last_units p some long q e)
                (none_past p.period (rest_units p) (i % per_full p) (omega (arith, parts, ap (λ (n : ℕ). n * per_full p) e)))

    module _ (n : ℕ) (each : n ≡ interim_count p.period p.segment_size) where
      pub in_no_segment : (n + 3) * 16 ≤ i → report_total p ≤ i
      in_no_segment high = omega (arith, total_narrow)

      pub in_a_segment : i < (n + 3) * 16 → (q r : ℕ) → q ≡ i / (n + 3) → r ≡ i % (n + 3) → Stands p i (record { segment = q; index = r })
      in_a_segment low q r e f = rw (e, f, each) (by_division (omega arith))

pub ruleset placing = (in_one_segment, in_no_segment, in_a_segment)
