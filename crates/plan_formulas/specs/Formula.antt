-- The plan by formula, with no list: how many reports a segment and an event have, and what a report says. Segments,
-- reports and places are counted from 0. proofs/Laws.antt shows that the formulas give the model's lists.
use Rattle.std.specs.Prelude.{ℕ, ◌+◌, ◌-◌, ◌*◌, ◌/◌, ◌%◌, ◌≤◌, ◌<◌, ◌≡◌, Bool, false, not, cond, ◌&&◌, ltb, eqb, min}
use Rattle.model.specs.declared.Plan.{Plan}
use Rattle.model.specs.declared.Segment.{Segment}
use Rattle.model.specs.Plan.{segment, full_segments, rest_units}
use Rattle.plan_formulas.specs.declared.Place.{Place}

module _ (period : ℕ) where
  -- the reports of a segment before its end: at the multiples of the period below its length
  abbrev pub interim_count : ℕ → ℕ
  interim_count units = (units - 1) / period

  -- with the three at its end
  abbrev pub report_count_in : ℕ → ℕ
  report_count_in units = interim_count units + 3

  -- whether a segment has a report i; one of no units has none
  unfoldable pub has_report : ℕ → ℕ → Bool
  has_report units i = ltb 0 units && ltb i (report_count_in units)

  -- the duration that report i of a segment says
  unfoldable pub duration_at : ℕ → ℕ → ℕ
  duration_at units i = cond (ltb i (interim_count units)) ((i + 1) * period) units

-- E stands on the second and third report at the end of the last segment: the one after which nothing is left
unfoldable pub ended_at : ℕ → ℕ → ℕ → ℕ → Bool
ended_at size period left i = not (ltb size left) && ltb (interim_count period left) i

module _ (p : Plan) where
  -- the reports of a full segment
  abbrev pub per_full : ℕ
  per_full = report_count_in p.period p.segment_size

  abbrev pub report_total : ℕ
  report_total = full_segments p * per_full + report_count_in p.period (rest_units p)

  -- the segment of report i, and the report's place in it: no segment has more reports than a full one
  abbrev pub place_of : ℕ → Place
  place_of i = record { segment = i / per_full; index = i % per_full }

  -- the units from the start of segment j to the event's end, and its own
  abbrev pub units_left : ℕ → ℕ
  units_left j = p.length - j * p.segment_size

  abbrev pub units_at : ℕ → ℕ
  units_at j = min (units_left j) p.segment_size

  -- a place found for report i: its own, or one with no report if the plan has no such one
  pub record Stands (i : ℕ) (at : Place) : Type 0 where
    pub few : at.segment ≤ 15
    pub its_own : i < report_total → at ≡ place_of i
    pub or_none : report_total ≤ i → has_report p.period (units_at at.segment) at.index ≡ false

  -- what report i says, if it stands at this place
  abbrev pub saying_at : Place → ℕ → Segment
  saying_at at i =
      segment
      (at.segment * p.segment_size)
      p.code
      (duration_at p.period (units_at at.segment) at.index)
      p.volume
      (ended_at p.segment_size p.period (units_left at.segment) at.index)
      (eqb i 0)
