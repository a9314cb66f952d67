-- The formulas of specs/Formula.antt give the model's lists of reports.
use Prim.Native.Nat.{ℕ, zero, suc, ◌+◌, ◌-◌, ◌*◌, ◌/◌, ◌%◌, ◌<◌, ◌≤◌}
use mathlib.Core.Path.{◌≡◌, refl, sym, ap, ◌∙◌}
use mathlib.Core.Bool.{Bool, true, false, not, cond, ◌&&◌, and-true, and-false}
use mathlib.Core.List.{List, [], ◌∷◌, ◌++◌}
use native.Mathlib.Omega.{arith}
use native.Mathlib.Nat.{div-mul-le_self, div-add-mod', le-div_iff_mul-le, div-lt_iff_lt-mul, mod-lt, mul-le-mul_right}
use native.Mathlib.Decide.{dec_lt}
use lib.Dec.{ltb, eqb, leb-suc-suc, eqb-suc-zero}
use lib.ListN.{length, get_or, length-append, get_or-append}
use lib.Seq.{get_or-append-add}
use borrow.Author.Tests.{lt-ltb, le-ltb}
use Rattle.model.specs.declared.Plan.{Plan}
use Rattle.model.specs.declared.Segment.{Segment}
use Rattle.model.specs.Plan.{
  segment,
  full_segments,
  rest_units,
  next_start,
  cut_from,
  saying,
  interim,
  reports_of_segment,
  reports_of_all,
  marking,
  mark_first,
  sayings,
  on_wire,
  reports,
}
use Rattle.model.specs.Answers.{no_report}
use Rattle.theorems.proofs.Cuts.{whole, after}
use Rattle.theorems.proofs.Plans.{reports_of_segment_lem, length_wire, wire_at, length_interim}
use Rattle.plan_formulas.specs.declared.Place.{Place}
use Rattle.plan_formulas.specs.Formula.{
  interim_count,
  report_count_in,
  duration_at,
  ended_at,
  per_full,
  report_total,
  place_of,
  units_left,
  units_at,
  saying_at,
}

-- ONE SEGMENT. Reports, segments and places are counted from 0.

interim_at : (period : ℕ) (g : Segment) (j n i : ℕ) (d : Segment) → i < n → get_or (interim period g j n) i d ≡ saying g ((i + j) * period) false
unfolding interim
interim_at period g j zero i d h = absurd (omega arith)
interim_at period g j (suc n) zero d h =
    let e : j ≡ zero + j = omega arith in
    ap (λ (m : ℕ). saying g (m * period) false) e
interim_at period g j (suc n) (suc i) d h =
    let e : i + suc j ≡ suc i + j = omega arith in
    interim_at period g (suc j) n i d (omega arith) ∙ ap (λ (m : ℕ). saying g (m * period) false) e

-- in the second of two lists, the first of length n
past : (a b : List Segment) (n i : ℕ) (d : Segment) → length a ≡ n → get_or (a ++ b) (n + i) d ≡ get_or b i d
past a b n i d h = rw (← h) (get_or-append-add a b i d)

-- what report i says of segment g
abbrev of_segment : ℕ → Segment → ℕ → Segment
of_segment period g i = saying g (duration_at period g.duration i) (g.ended && ltb (interim_count period g.duration) i)

of_segment_lem : (period : ℕ) (g : Segment) (i : ℕ) (d : Segment) → i < report_count_in period g.duration
    → get_or (reports_of_segment period g) i d ≡ of_segment period g i
unfolding duration_at
of_segment_lem period g i d h = go (dec_lt i n)
  where
    n : ℕ
    n = interim_count period g.duration

    early : List Segment
    early = interim period g 1 n

    last : List Segment
    last = saying g g.duration false ∷ saying g g.duration g.ended ∷ saying g g.duration g.ended ∷ []

    at_end : (j : ℕ) → j < 3 → get_or last j d ≡ saying g g.duration (g.ended && ltb n (n + j))
    at_end zero l = rw (le-ltb n (n + 0) (omega arith), and-false)
    at_end (suc zero) l = rw (lt-ltb n (n + 1) (omega arith), and-true)
    at_end (suc (suc zero)) l = rw (lt-ltb n (n + 2) (omega arith), and-true)
    at_end (suc (suc (suc j))) l = absurd (omega arith)

    late : (j : ℕ) → n + j ≡ i → get_or (early ++ last) i d ≡ saying g g.duration (g.ended && ltb n i)
    late j e = rw (← e) (past early last n j d (length_interim period g 1 n) ∙ at_end j (omega arith))

    go : Dec (i < n) → get_or (early ++ last) i d ≡ of_segment period g i
    go (yes l) =
        rw (lt-ltb i n l, le-ltb n i (omega arith), and-false)
        (get_or-append early last d i (rw length_interim l) ∙ interim_at period g 1 n i d l)
    go (no l) = rw (le-ltb i n (omega arith)) (late (i - n) (omega arith))

-- THE MARK

-- it is put on report 0, and nothing else changes
length_mark : (rs : List Segment) → length (mark_first rs) ≡ length rs
unfolding mark_first
length_mark [] = refl
length_mark (r ∷ rs) = refl

mark_at : (rs : List Segment) (i : ℕ) (d r : Segment) → i < length rs → get_or rs i d ≡ r → r.marked ≡ false → r.quietest ≡ r.volume
    → get_or (mark_first rs) i d ≡ segment r.offset r.code r.duration r.volume r.ended (eqb i 0)
unfolding mark_first
mark_at [] i d r h e f s = absurd (omega arith)
mark_at (x ∷ rs) zero d r h e f s = ap marking e
mark_at (x ∷ rs) (suc i) d r h e f s =
    e ∙ (λ j. record {
      offset = r.offset;
      code = r.code;
      duration = r.duration;
      volume = r.volume;
      quietest = s j;
      ended = r.ended;
      marked = (f ∙ sym (eqb-suc-zero i)) j;
    })

-- ALL SEGMENTS

-- report i of the segment that stands first
of_first : (period : ℕ) (g : Segment) (more : List Segment) (k i : ℕ) (d : Segment) → i < report_count_in period g.duration
    → get_or (reports_of_segment period g ++ more) (0 * k + i) d ≡ of_segment period g i
of_first period g more k i d h =
    let e : 0 * k + i ≡ i = omega arith in
    rw (e, get_or-append (reports_of_segment period g) more d i (omega (arith, reports_of_segment_lem period g))) (of_segment_lem period g i d h)

module _ (p : Plan) where
  length_all : (n o : ℕ) (m : Bool) → length (reports_of_all p.period (cut_from p n o m))
      ≡ n * per_full p + report_count_in p.period (rest_units p)
  unfolding cut_from reports_of_all
  length_all zero o m =
      let g = segment o p.code (rest_units p) p.volume true m in
      rw length-append (omega (arith, reports_of_segment_lem p.period g))
  length_all (suc n) o m =
      let g = whole p o m in
      rw length-append (omega (arith, reports_of_segment_lem p.period g, length_all n (next_start p o) false))

  -- segment j of n full ones and the last, from offset o on
  abbrev units_of : ℕ → ℕ → ℕ
  units_of n j = cond (ltb j n) p.segment_size (rest_units p)

  abbrev segment_at : ℕ → ℕ → ℕ → Segment
  segment_at n o j = segment (o + j * p.segment_size) p.code (units_of n j) p.volume (not (ltb j n)) false

  -- report i of segment j
  in_all : (n o : ℕ) (m : Bool) (j i : ℕ) (d : Segment) → j ≤ n → i < report_count_in p.period (units_of n j)
      → get_or (reports_of_all p.period (cut_from p n o m)) (j * per_full p + i) d ≡ of_segment p.period (segment_at n o j) i
  unfolding cut_from reports_of_all
  in_all zero o m zero i d a h =
      let f : o + 0 * p.segment_size ≡ o = omega arith in
      rw f (of_first p.period (segment o p.code (rest_units p) p.volume true m) [] (per_full p) i d h)
  in_all zero o m (suc j) i d a h = absurd (omega arith)
  in_all (suc n) o m zero i d a h =
      let f : o + 0 * p.segment_size ≡ o = omega arith in
      let t = lt-ltb 0 (suc n) (omega arith) in
      let g = whole p o m in
      let more = reports_of_all p.period (after p n o) in
      rw (f, t) (of_first p.period g more (per_full p) i d (rw t at h))
  in_all (suc n) o m (suc j) i d a h =
      let g = whole p o m in
      let e : suc j * per_full p + i ≡ per_full p + (j * per_full p + i) = omega arith in
      let f : o + suc j * p.segment_size ≡ o + p.segment_size + j * p.segment_size = omega arith in
      let t = leb-suc-suc (suc j) n in
      let more = reports_of_all p.period (after p n o) in
      rw (e, f, t)
      (past (reports_of_segment p.period g) more (per_full p) (j * per_full p + i) d (reports_of_segment_lem p.period g)
      ∙ in_all n (next_start p o) false j i d (omega arith) (rw t at h))

  -- THE EVENT

  pub length_sayings : length (sayings p) ≡ report_total p
  length_sayings = length_mark (reports_of_all p.period (cut_from p (full_segments p) 0 true)) ∙ length_all (full_segments p) 0 true

  -- report i stands in a segment of the event, among that segment's reports
  pub record InPlace (i : ℕ) (at : Place) : Type 0 where
    pub segment : at.segment ≤ full_segments p
    pub index : at.index < report_count_in p.period (units_at p at.segment)
    pub both : at.segment * per_full p + at.index ≡ i

  -- the length in full segments and the rest, and so what is left at the start of each
  module _ (some : 1 ≤ p.segment_size) (long : 1 ≤ p.length) where
    in_all_units : full_segments p * p.segment_size + rest_units p ≡ p.length
    in_all_units = omega (arith, div-add-mod' (p.length - 1) p.segment_size)

    rest_at_most : rest_units p ≤ p.segment_size
    rest_at_most = omega (arith, mod-lt (p.length - 1) some)

    module _ (j : ℕ) where
      more_left : j < full_segments p → p.segment_size < units_left p j
      more_left l = omega (arith, in_all_units, mul-le-mul_right p.segment_size l)

      rest_left : j ≡ full_segments p → units_left p j ≡ rest_units p
      rest_left e = omega (arith, in_all_units, ap (λ (n : ℕ). n * p.segment_size) e)

      pub none_left : full_segments p < j → units_left p j ≡ 0
      none_left l = omega (arith, in_all_units, rest_at_most, mul-le-mul_right p.segment_size l)

      module _ (within : j ≤ full_segments p) where
        units_as : units_at p j ≡ units_of (full_segments p) j
        units_as = go (dec_lt j (full_segments p))
          where
            go : Dec (j < full_segments p) → units_at p j ≡ units_of (full_segments p) j
            go (yes l) = rw (lt-ltb j (full_segments p) l) (omega (arith, more_left l))
            go (no l) = rw (le-ltb j (full_segments p) (omega arith)) (omega (arith, rest_left (omega arith), rest_at_most))

        ends : (i : ℕ) → (not (ltb j (full_segments p)) && ltb (interim_count p.period (units_of (full_segments p) j)) i)
            ≡ ended_at p.segment_size p.period (units_left p j) i
        unfolding ended_at
        ends i = go (dec_lt j (full_segments p))
          where
            go : Dec (j < full_segments p) → (not (ltb j (full_segments p)) && ltb (interim_count p.period (units_of (full_segments p) j)) i)
                ≡ (not (ltb p.segment_size (units_left p j)) && ltb (interim_count p.period (units_left p j)) i)
            go (yes l) = rw (lt-ltb j (full_segments p) l, lt-ltb p.segment_size (units_left p j) (more_left l))
            go (no l) =
                let e = rest_left (omega arith) in
                rw (le-ltb j (full_segments p) (omega arith), le-ltb p.segment_size (units_left p j) (omega (arith, e, rest_at_most)), e)

    pub last_units : (j : ℕ) → j ≡ full_segments p → units_at p j ≡ rest_units p
    last_units j e =
        let l : j ≤ full_segments p = omega arith in
        units_as j l ∙ rw (le-ltb j (full_segments p) (omega arith))

    pub some_left : (j : ℕ) → j ≤ full_segments p → 1 ≤ units_left p j
    some_left j l = go (dec_lt j (full_segments p))
      where
        go : Dec (j < full_segments p) → 1 ≤ units_left p j
        go (yes m) = omega (arith, more_left j m)
        go (no m) = omega (arith, rest_left j (omega arith))

  module _ (some : 1 ≤ p.segment_size) (long : 1 ≤ p.length) (steps : 1 ≤ p.period) where
    -- the last segment is no longer than a full one, so it has no more reports
    last_steps : interim_count p.period (rest_units p) * p.period ≤ p.segment_size - 1
    last_steps = omega (arith, div-mul-le_self (rest_units p - 1) p.period, mod-lt (p.length - 1) some)

    pub last_at_most : report_count_in p.period (rest_units p) ≤ per_full p
    last_at_most = omega (arith, (le-div_iff_mul-le steps).1 last_steps)

    module _ (i : ℕ) (h : i < report_total p) where
      pub in_place : InPlace i (place_of p i)
      in_place = record { segment = upper; index = rw (units_as some long q upper) (go (dec_lt q n)); both = div-add-mod' i (per_full p) }
        where
          q : ℕ
          q = i / per_full p

          n : ℕ
          n = full_segments p

          upper : q ≤ n
          upper =
              let l : q < suc n = (div-lt_iff_lt-mul {k = per_full p} {x = i} {y = suc n} (omega arith)).1 (omega (arith, last_at_most)) in
              omega arith

          go : Dec (q < n) → i % per_full p < report_count_in p.period (units_of n q)
          go (yes l) = rw (lt-ltb q n l) (mod-lt i (omega arith))
          go (no l) =
              let e : n ≡ q = omega (arith, upper) in
              rw (le-ltb q n (omega arith)) (omega (arith, div-add-mod' i (per_full p), ap (λ (k : ℕ). k * per_full p) e))

      pub saying_at_lem : (d : Segment) → get_or (sayings p) i d ≡ saying_at p (place_of p i) i
      saying_at_lem d =
          let n = full_segments p in
          let at = place_of p i in
          let rs = reports_of_all p.period (cut_from p n 0 true) in
          let u = units_as some long at.segment in_place.segment in
          let e = in_all n 0 true at.segment at.index d in_place.segment (rw u at in_place.index) in
          let f : 0 + at.segment * p.segment_size ≡ at.segment * p.segment_size = omega arith in
          rw (f, ends some long at.segment in_place.segment at.index, ← u) at
          (mark_at rs i d (of_segment p.period (segment_at n 0 at.segment) at.index)
          (omega (arith, length_all n 0 true)) (rw in_place.both at e) refl refl)

-- ON THE WIRE

pub length_reports : (p : Plan) → length (reports p) ≡ report_total p
unfolding reports
length_reports p = length_wire p 0 (sayings p) ∙ length_sayings p

pub report_at_lem : (p : Plan) → 1 ≤ p.segment_size → 1 ≤ p.length → 1 ≤ p.period → (i : ℕ) → i < report_total p
    → get_or (reports p) i no_report ≡ on_wire p i (saying_at p (place_of p i) i)
unfolding reports
report_at_lem p some long steps i h =
    let rs = sayings p in
    let d = segment 0 0 0 0 false false in
    let e : 0 + i ≡ i = omega arith in
    rw (wire_at p 0 i rs no_report d (omega (arith, length_sayings p)), e, saying_at_lem p some long steps i h d)
