-- The reports that demand 3 needs are what each segment of the events has to have: so a table that heard them, and else only what is
-- sent, copied or refused, holds the segments of the events.
use Prim.Native.Nat.{ℕ, ◌+◌, ◌*◌, ◌%◌, ◌≤◌}
use mathlib.Core.Path.{◌≡◌, refl, sym, ap, ◌∙◌}
use mathlib.Core.Bool.{Bool, true, false}
use mathlib.Core.List.Memᴰ
use mathlib.Core.List.{List, [], map}
use mathlib.Core.Logic.{◌⊎◌, inl, inr}
use native.Mathlib.Omega.{arith}
use lib.ListN.{length}
use Rattle.model.specs.declared.Report.{Report}
use Rattle.model.specs.declared.Segment.{Segment}
use Rattle.model.specs.declared.Table.{Table}
use Rattle.model.specs.Plan.{full_segments, rest_units, cut, reports, report_at, plan_in_range}
use Rattle.model.specs.Segments.{segments_of}
use Rattle.model.specs.Table.{held}
use Rattle.model.specs.Receive.{Arrival, heard_by}
use Rattle.model.specs.Redundant.{table_after_reports}
use Rattle.model.specs.Events.{events_of}
use Rattle.theorems.specs.Sizes.{as_listed, Sent, plan_of, Sizes, FitsTypes}
use Rattle.theorems.specs.Demands.{Empty}
use Rattle.theorems.specs.Redundancy.{taken_of, sent_arrival, unmarked, OneOf, FairReports, BringsReport, NeededReports}
use Rattle.theorems.proofs.Order.{rising_one}
use Rattle.theorems.proofs.Segments.{is_segments_of}
use Rattle.theorems.proofs.Runs.{Reached, heard_from, filled}
use Rattle.theorems.proofs.Cuts.{InCut, cut_place, cut_units, one_first, one_last, later}
use Rattle.theorems.proofs.Plans.{Says, sayings_first}
use Rattle.theorems.proofs.Recovered.{segments_sent, all_sent, of_all, in_all, all_rising, events_of_all, Witness, recovered}
use Rattle.theorems.proofs.Sends.{plans_for, plan_ranges, some_report, saying_at, report_is, said, said_says, said_before, sent_later}
use Rattle.theorems.proofs.Arrives.{SaidBy, says_too, apart, ToldOf, along_empty, said_by, told_sent, sent_fits, heard_sent, Outcome, outcome}
use Rattle.model.specs.Search.{no_segment}
use Rattle.theorems.proofs.Basics.{Mem, mem_map, map_mem}

-- all that is asked of a table, a list of events and the reports that are looked at
pub record Brought (t : Table) (es : List Sent) (more : List Arrival) : Type 0 where
  pub empty : Empty t
  pub sizes : Sizes t es
  pub fits : FitsTypes t es []
  pub fair : FairReports es t t more
  pub needed : (e : Sent) → Mem e es → NeededReports t more e

module _ (t : Table) (es : List Sent) (more : List Arrival) (d : Brought t es more) where
  abbrev rs : List Segment
  rs = map (heard_by t) (taken_of t more)

  what_arrives : Outcome t es d.sizes d.fits more t
  what_arrives = outcome t es d.sizes d.fits more [] t (along_empty t es d.sizes d.fits d.empty) d.fair

  pub final : Reached t rs (table_after_reports t more)
  final = filled t more d.empty (λ a m. sent_fits t es d.sizes d.fits a (what_arrives.only a m))

  -- every report taken says something of a segment of the events
  told : (r : Segment) → Mem r rs → ToldOf t es d.sizes d.fits r
  told r m =
      let p = map_mem (heard_by t) (taken_of t more) r m in
      rw p.2 (told_sent t es d.sizes d.fits p.0 (what_arrives.only p.0 p.1))

  -- a report that was looked at is among those taken, itself or as a copy
  heard_at : (a : Arrival) (e : Sent) (k : ℕ) → OneOf es t e k → (a ≡ sent_arrival t e k) ⊎ (a ≡ unmarked (sent_arrival t e k)) → Mem a more
      → Mem (heard_by t a) rs × SaidBy (said t e k) (heard_by t a)
  heard_at a e k o is m =
      (mem_map (heard_by t) (taken_of t more) a (what_arrives.all a m (e, k, o, is)), said_by t es d.sizes d.fits a e k o is)

  pub record HeardReport (e : Sent) (k : ℕ) : Type 0 where
    pub low : 1 ≤ k
    pub high : k ≤ length (reports (plan_of t e))
    pub it : Segment
    pub taken : Mem it rs
    pub like : SaidBy (said t e k) it

  heard : (e : Sent) (k : ℕ) → Mem e es → BringsReport more t e k → HeardReport e k
  heard e k m b = go b.2
    where
      go : Mem (sent_arrival t e k) more ⊎ Mem (unmarked (sent_arrival t e k)) more → HeardReport e k
      go (inl n) =
          let q = heard_at (sent_arrival t e k) e k (m, b.0, b.1) (inl refl) n in
          record { low = b.0; high = b.1; it = heard_by t (sent_arrival t e k); taken = q.0; like = q.1 }
      go (inr n) =
          let q = heard_at (unmarked (sent_arrival t e k)) e k (m, b.0, b.1) (inr refl) n in
          record { low = b.0; high = b.1; it = heard_by t (unmarked (sent_arrival t e k)); taken = q.0; like = q.1 }

  -- WHAT WAS NEEDED IS WHAT EACH SEGMENT HAS TO HAVE
  module _ (e : Sent) (m : Mem e es) (g : Segment) (i : Mem g (segments_sent (plan_of t) e)) where
    range : plan_in_range t.head.codes (plan_of t e) ≡ true
    range = d.sizes.ranges e m

    marked : g.marked ≡ true → (r : Segment) × Mem r rs × Says g r × (r.marked ≡ true)
    marked h =
        let o : OneOf es t e 1 = (m, omega arith, some_report (plan_of t e)) in
        let n = heard_at (sent_arrival t e 1) e 1 o (inl refl) (d.needed e m).first in
        let q = said_says t e range 1 o.1 o.2 in
        let first = (sayings_first (plan_of t e) no_segment).0 in
        let same : q.0 ≡ g = one_first (plan_of t e) (full_segments (plan_of t e)) e.start true q.0 g q.1 i (q.2.marked first) h in
        (said t e 1, Memᴰ.cast (sym (heard_sent t es d.sizes d.fits e 1 o)) n.0, rw same at q.2, first)

    ended : g.ended ≡ true → (r : Segment) × Mem r rs × Says g r × (r.ended ≡ true)
    ended h =
        let y = (d.needed e m).ended in
        let k = heard e y.0 m y.1 in
        let q = said_says t e range y.0 k.low k.high in
        let last : (said t e y.0).ended ≡ true = sym (ap (λ (r : Report). r.ended) (report_is (plan_of t e) y.0 k.low k.high)) ∙ y.2 in
        let same : q.0 ≡ g = one_last (plan_of t e) (full_segments (plan_of t e)) e.start true q.0 g q.1 i (q.2.ended last).0 h in
        (k.it, k.taken, says_too (rw same at q.2) k.like, k.like.ended ∙ last)

    -- a report with a segment's timestamp says something of that segment
    timestamp_tells : (c : Segment) → g ≡ later e.start c → (k : ℕ) → HeardReport e k
        → (report_at (plan_of t e) k).timestamp ≡ ((plan_of t e).start + c.offset) % 0x1_0000_0000 → Says g (said t e k)
    timestamp_tells c moved k h stamp = rw same at q.2
      where
        q : (x : Segment) × Mem x (segments_sent (plan_of t) e) × Says x (said t e k)
        q = said_says t e range k h.low h.high

        at : ((plan_of t e).start + (saying_at (plan_of t e) k).offset) % 0x1_0000_0000 ≡ ((plan_of t e).start + c.offset) % 0x1_0000_0000
        at = sym (ap (λ (x : Report). x.timestamp) (report_is (plan_of t e) k h.low h.high)) ∙ stamp

        place : (x : Segment) → Mem x (segments_sent (plan_of t) e)
            → InCut (plan_of t e) e.start (e.start + (full_segments (plan_of t e) * e.segment_size + rest_units (plan_of t e))) x
        place = cut_place (plan_of t e) (plan_ranges t.head.codes (plan_of t e) range).lengths.wide (full_segments (plan_of t e)) e.start true

        same_offset : (said t e k).offset ≡ g.offset
        same_offset =
            omega (
              arith,
              at,
              ap (λ (s : Segment). s.offset) moved,
              said_before t e range k h.low h.high,
              (place g i).to,
              cut_units (plan_of t e) (plan_ranges t.head.codes (plan_of t e) range).lengths.some,
              d.sizes.near e m,
            )

        same : q.0 ≡ g
        same =
            rising_one (all_sent (plan_of t) es)
            (all_rising (plan_of t) (plans_for t) 0 es (apart t es d.sizes d.fits)) q.0 g
            (in_all (plan_of t) es e q.0 m q.1) (in_all (plan_of t) es e g m i)
            (record { offset = sym q.2.offset ∙ same_offset; code = (place q.0 q.1).code ∙ sym (place g i).code })

    full_report : (b : Bool) → g.ended ≡ b → (r : Segment) × Mem r rs × Says g r × (r.duration ≡ g.duration)
    full_report true h = let y = ended h in (y.0, y.1, y.2, (y.2.ended y.3).1)
    full_report false h =
        let c = map_mem (later e.start) (cut (plan_of t e)) g (rw (sym (sent_later t e)) at i) in
        let y = (d.needed e m).full c.0 c.1 (sym (ap (λ (s : Segment). s.ended) c.2) ∙ h) in
        let k = heard e y.0 m y.1 in
        let long : (said t e y.0).duration ≡ g.duration =
        sym (ap (λ (x : Report). x.duration) (report_is (plan_of t e) y.0 k.low k.high)) ∙ y.3 ∙ sym (ap (λ (s : Segment). s.duration) c.2) in
        (k.it, k.taken, says_too (timestamp_tells c.0 c.2 y.0 k y.2) k.like, k.like.duration ∙ long)

    pub witness : Witness rs g
    witness = record { full = full_report g.ended refl; ended = ended; marked = marked }

  -- THE TABLE AND THE EVENTS AFTER THE LAST REPORT

  held_after : held (table_after_reports t more) ≡ all_sent (plan_of t) es
  held_after =
      recovered (plan_of t) (plans_for t) es (apart t es d.sizes d.fits) final.derived told
      (λ g i. let q = of_all (plan_of t) es g i in witness q.0 q.1 g q.2)

  pub events_after : events_of (held (table_after_reports t more)) ≡ map as_listed es
  events_after = ap events_of held_after ∙ events_of_all (plan_of t) (plans_for t) 0 es (apart t es d.sizes d.fits) []

-- EQUAL ARRIVALS, EQUAL EVENTS

-- what is heard follows from the arrivals and the origin
same_heard : (t u : Table) → t.head.origin ≡ u.head.origin → (l : List Arrival) → map (heard_by t) l ≡ map (heard_by u) l
same_heard t u o l = λ i. map (λ a. heard_from u t a o i) l

pub same_events : (t u : Table) (es fs : List Sent) (more others : List Arrival) → t.head.origin ≡ u.head.origin
    → Brought t es more → Brought u fs others → taken_of t more ≡ taken_of u others → map as_listed es ≡ map as_listed fs
same_events t u es fs more others o d c e =
    sym (events_after t es more d)
    ∙ ap events_of (is_segments_of (final t es more d).derived
    ∙ ap segments_of (ap (map (heard_by t)) e ∙ same_heard t u o (taken_of u others))
    ∙ sym (is_segments_of (final u fs others c).derived))
    ∙ events_after u fs others c
