-- What a report says, by comparing multiples of the period with its segment's units, and that each number fits its type.
use Prim.Native.Nat.{ℕ, ◌+◌, ◌-◌, ◌*◌, ◌%◌, ◌<◌, ◌≤◌, min}
use mathlib.Core.Path.{◌≡◌, sym, ◌∙◌}
use mathlib.Core.Bool.{Bool, true, false, cond, true≢false}
use native.Mathlib.Omega.{arith}
use native.Mathlib.Decide.{dec_lt}
use native.Mathlib.Nat.{div-le_self, mul-le-mul_right, le-div_iff_mul-le, div-lt_iff_lt-mul}
use lib.Dec.{ltb, leb, eqb}
use lib.ListN.{length}
use mir.Syntax.{w32}
use mir.Val.{Fits}
use borrow.Author.Tests.{lt-ltb, le-ltb, le-leb, lt-leb}
use Rattle.model.specs.declared.Plan.{Plan}
use Rattle.model.specs.declared.Report.{Report}
use Rattle.model.specs.Plan.{lengths_in_range, reports, report_at}
use Rattle.plan_formulas.specs.declared.Place.{Place}
use Rattle.plan_formulas.specs.Formula.{
  interim_count,
  report_count_in,
  has_report,
  duration_at,
  ended_at,
  report_total,
  place_of,
  units_left,
  units_at,
  Stands,
}
use Rattle.plan_formulas.proofs.Laws.{some_left, InPlace, in_place, length_reports, report_at_lem}
use Rattle.plan_formulas.proofs.InRange.{some_length, some_size, size_fits, some_period, few_full, in_ranges}

-- at the start of a segment
module _ (p : Plan) (h : lengths_in_range p ≡ true) (j : ℕ) (few : j ≤ 16) where
  pub start_fits : Fits w32 (j * p.segment_size)
  start_fits = record { fits = omega (arith, mul-le-mul_right p.segment_size few, size_fits p h) }

module _ (units period i : ℕ) where
  pub no_units : units ≡ 0 → false ≡ has_report period units i
  unfolding has_report
  no_units e = rw e

  module _ (some : units ≡ 0 → ⊥) where
    pub one_of_three : i < 3 → true ≡ has_report period units i
    unfolding has_report
    one_of_three l = rw (lt-ltb 0 units (omega arith), lt-ltb i (report_count_in period units) (omega arith))

    pub too_far : units ≤ 65535 → 65536 < i → false ≡ has_report period units i
    unfolding has_report
    too_far n l =
        rw (lt-ltb 0 units (omega arith), le-ltb i (report_count_in period units) (omega (arith, div-le_self (units - 1) period)))

    pub by_multiple : 1 ≤ period → 3 ≤ i → ltb ((i - 2) * period) units ≡ has_report period units i
    unfolding has_report
    by_multiple steps l = rw (lt-ltb 0 units (omega arith)) (go (dec_lt ((i - 2) * period) units))
      where
        go : Dec ((i - 2) * period < units) → ltb ((i - 2) * period) units ≡ ltb i (report_count_in period units)
        go (yes m) =
            let k : i - 2 ≤ interim_count period units = (le-div_iff_mul-le steps).1 (omega arith) in
            rw (lt-ltb ((i - 2) * period) units m, lt-ltb i (report_count_in period units) (omega arith))
        go (no m) =
            let k : interim_count period units < i - 2 = (div-lt_iff_lt-mul {k = period} {x = units - 1} {y = i - 2} steps).1 (omega arith) in
            rw (le-ltb ((i - 2) * period) units (omega arith), le-ltb i (report_count_in period units) (omega arith))

-- the multiples of the period around a report
module _ (i period : ℕ) (h : i ≤ 65536) (k : period ≤ 65535) where
  pub multiple_fits : Fits w32 (i * period)
  multiple_fits = record { fits = omega (arith, mul-le-mul_right period h) }

  pub later_fits : (m : ℕ) → m ≤ 1 → Fits w32 ((i + m) * period)
  later_fits m l =
      let n : i + m ≤ 65537 = omega arith in
      record { fits = omega (arith, mul-le-mul_right period n) }

  pub earlier_fits : (m : ℕ) → Fits w32 ((i - m) * period)
  earlier_fits m =
      let n : i - m ≤ 65536 = omega arith in
      record { fits = omega (arith, mul-le-mul_right period n) }

module _ (units period i : ℕ) (some : 1 ≤ units) (steps : 1 ≤ period) where
  pub next_or_last : min ((i + 1) * period) units ≡ duration_at period units i
  unfolding duration_at
  next_or_last = go (dec_lt ((i + 1) * period) units)
    where
      go : Dec ((i + 1) * period < units) → min ((i + 1) * period) units ≡ cond (ltb i (interim_count period units)) ((i + 1) * period) units
      go (yes l) =
          let k : i + 1 ≤ interim_count period units = (le-div_iff_mul-le steps).1 (omega arith) in
          rw (lt-ltb i (interim_count period units) (omega arith)) (omega arith)
      go (no l) =
          let k : interim_count period units < i + 1 = (div-lt_iff_lt-mul {k = period} {x = units - 1} {y = i + 1} steps).1 (omega arith) in
          rw (le-ltb i (interim_count period units) (omega arith)) (omega arith)

module _ (size period left i : ℕ) where
  pub goes_on : size < left → false ≡ ended_at size period left i
  unfolding ended_at
  goes_on l = rw (lt-ltb size left l)

  pub may_end : 1 ≤ left → 1 ≤ period → left ≤ size → leb left (i * period) ≡ ended_at size period left i
  unfolding ended_at
  may_end some steps l = rw (le-ltb size left l) (go (dec_lt (i * period) left))
    where
      go : Dec (i * period < left) → leb left (i * period) ≡ ltb (interim_count period left) i
      go (yes m) =
          let k : i ≤ interim_count period left = (le-div_iff_mul-le steps).1 (omega arith) in
          rw (lt-leb left (i * period) m, le-ltb (interim_count period left) i k)
      go (no m) =
          let k : interim_count period left < i = (div-lt_iff_lt-mul {k = period} {x = left - 1} {y = i} steps).1 (omega arith) in
          rw (le-leb left (i * period) (omega arith), lt-ltb (interim_count period left) i k)

-- WHERE IT STANDS

-- report k is report i from 0
module _ (p : Plan) (k i : ℕ) (from_0 : (1 ≤ k) × (i ≡ k - 1)) where
  pub no_place : report_total p ≤ i → (1 ≤ k) × (k ≤ length (reports p)) → ⊥
  no_place past there = absurd (omega (arith, from_0.1, length_reports p, there.0, there.1))

  -- a place that has a report is that of the number asked for
  module _ (at : Place) (s : Stands p i at) (left : ℕ) (l : left ≡ units_left p at.segment)
      (u : ℕ) (e : u ≡ min left p.segment_size) (b : Bool) (has : b ≡ has_report p.period u at.index) where
    its : b ≡ has_report p.period (units_at p at.segment) at.index
    its = has ∙ rw (e, l)

    pub has_number : b ≡ true → i < report_total p
    has_number h = go (dec_lt i (report_total p))
      where
        go : Dec (i < report_total p) → i < report_total p
        go (yes w) = w
        go (no w) = absurd (true≢false (sym h ∙ its ∙ s.or_none (omega arith)))

    pub its_place : b ≡ true → at ≡ place_of p i
    its_place h = s.its_own (has_number h)

    pub is_report : b ≡ true → (r : Report) → r ≡ report_at p (i + 1) → ((1 ≤ k) × (k ≤ length (reports p))) × (r ≡ report_at p k)
    is_report h r same =
        let number : i + 1 ≡ k = omega (arith, from_0.0, from_0.1) in
        ((from_0.0, omega (arith, length_reports p, has_number h)), rw number at same)

    pub has_no_report : lengths_in_range p ≡ true → b ≡ false → (1 ≤ k) × (k ≤ length (reports p)) → ⊥
    unfolding has_report
    has_no_report h none there =
        let less : i < report_total p = omega (arith, from_0.1, length_reports p, there.0, there.1) in
        let w : InPlace p i at = rw (s.its_own less) (in_place p (some_size p h) (some_length p h) (some_period p h) i less) in
        let x = some_left p (some_size p h) (some_length p h) at.segment w.segment in
        let y : 1 ≤ units_at p at.segment = omega (arith, x, some_size p h) in
        let z : has_report p.period (units_at p at.segment) at.index ≡ true =
        rw (lt-ltb 0 (units_at p at.segment) y, lt-ltb at.index (report_count_in p.period (units_at p at.segment)) w.index)
        in
        true≢false (sym z ∙ sym its ∙ none)

module _ (p : Plan) (h : lengths_in_range p ≡ true) (i : ℕ) (low : i < report_total p) (at : Place) (place : at ≡ place_of p i) where
  stands : InPlace p i at
  stands = rw place (in_place p (some_size p h) (some_length p h) (some_period p h) i low)

  pub offset_fits : (size : ℕ) → size ≤ 65535 → Fits w32 (at.segment * size)
  offset_fits size narrow =
      let few : at.segment ≤ 15 = omega (arith, stands.segment, few_full p h) in
      record { fits = omega (arith, mul-le-mul_right size few) }

  pub index_low : at.index ≤ 65536
  index_low =
      omega (arith, stands.index, div-le_self (units_at p at.segment - 1) p.period, size_fits p h)

  module _ (left : ℕ) (l : left ≡ units_left p at.segment) where
    pub part_left : 1 ≤ left
    part_left = rw l (some_left p (some_size p h) (some_length p h) at.segment stands.segment)

    pub part_of_segment : (u : ℕ) → u ≡ min left p.segment_size → 1 ≤ u
    part_of_segment u e = omega (arith, part_left, some_size p h)

    pub as_planned : (u : ℕ) → u ≡ min left p.segment_size
        → (d : ℕ) → d ≡ duration_at p.period u at.index
        → (e : Bool) → e ≡ ended_at p.segment_size p.period left at.index
        → record {
          marker = eqb i 0;
          payload_type = p.payload_type;
          sequence = (p.sequence + i % 65536) % 65536;
          timestamp = (p.start + at.segment * p.segment_size) % 0x1_0000_0000;
          ssrc = p.ssrc;
          code = p.code;
          ended = e;
          volume = p.volume;
          duration = d;
        } ≡ report_at p (i + 1)
    unfolding report_at
    as_planned u units d duration e ended =
        let number : i + 1 - 1 ≡ i = omega arith in
        let sequence : (p.sequence + i % 65536) % 65536 ≡ (p.sequence + i) % 65536 = omega arith in
        rw (sequence, ended, duration, units, l, place, number)
        (rw (report_at_lem p (some_size p h) (some_length p h) (some_period p h) i low))

pub ruleset planning = (
  in_ranges,
  no_units,
  one_of_three,
  too_far,
  by_multiple,
  next_or_last,
  goes_on,
  may_end,
  offset_fits,
  index_low,
  has_number,
  its_place,
  part_left,
  part_of_segment,
  as_planned,
)
