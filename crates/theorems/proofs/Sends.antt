-- The packets of a sent event: they are in range, so the reader gives their reports back, and from the table's origin each
-- is heard as what the plan says of its segment, at the event's own offsets.
use Prim.Native.Nat.{ℕ, ◌+◌, ◌-◌, ◌%◌, ◌<◌, ◌≤◌}
use mathlib.Core.Path.{◌≡◌, refl, sym, ap, ◌∙◌}
use mathlib.Core.Bool.{true}
use mathlib.Core.List.{map, append-nil}
use native.Mathlib.Omega.{arith}
use lib.Dec.{leb}
use lib.ListN.{length, get_or, replicate}
use borrow.Author.Tests.{leb-true, le-leb, le-ltb, ne_eqb}
use Rattle.model.specs.declared.Codes.{Codes}
use Rattle.model.specs.declared.Report.{Report}
use Rattle.model.specs.declared.Plan.{Plan}
use Rattle.model.specs.declared.Segment.{Segment}
use Rattle.model.specs.declared.Table.{Table}
use Rattle.model.specs.Codes.{is_in}
use Rattle.refusals.specs.Refusals.{none}
use Rattle.model.specs.Answers.{no_report}
use Rattle.model.specs.Packet.{report_in, payload_refusal, packet_of, report_in_range}
use Rattle.model.specs.Plan.{
  full_segments,
  cut_from,
  cut,
  sayings,
  on_wire,
  reports,
  report_at,
  longest,
  lengths_in_range,
  plan_in_range,
  write_report,
}
use Rattle.model.specs.Receive.{offset, heard_by, arrival_in}
use Rattle.theorems.specs.Sizes.{Sent, end, plan_of}
use Rattle.model.specs.Fits.{BytesFit, ReportFits}
use Rattle.theorems.specs.Demands.{sent, bytes_of}
use Rattle.theorems.specs.Redundancy.{sent_arrival}
use Rattle.theorems.proofs.Packets.{Ranges, ranges, payload_back, payload_passes, payload_bytes_fit, packet_arrival, packet_report}
use Rattle.theorems.proofs.Cuts.{cut_place, cut_within, cut_units, later, cut_later}
use Rattle.theorems.proofs.Plans.{Says, sayings_first, sayings_say, length_wire, wire_at, mem_at, marked_first}
use Rattle.theorems.proofs.Recovered.{PlansFor, segments_sent}
use Rattle.model.specs.Search.{no_segment}
use Rattle.refusals.proofs.Tests.{and_then, and_both}
use Rattle.theorems.proofs.Basics.{Mem, mem_map}

-- the ranges of a plan, one by one
pub record LengthRanges (p : Plan) : Type 0 where
  pub wide : 1 ≤ p.segment_size
  pub narrow : p.segment_size ≤ 65535
  pub some : 1 ≤ p.length
  pub most : p.length ≤ longest p
  pub often : 1 ≤ p.period
  pub seldom : p.period ≤ 65535

pub length_ranges : (p : Plan) → lengths_in_range p ≡ true → LengthRanges p
length_ranges p v =
    let a = and_then _ _ v in
    let size = and_then _ _ a.0 in
    let b = and_then _ _ a.1 in
    let length = and_then _ _ b.0 in
    let period = and_then _ _ b.1 in
    record {
      wide = leb-true _ _ size.0;
      narrow = leb-true _ _ size.1;
      some = leb-true _ _ length.0;
      most = leb-true _ _ length.1;
      often = leb-true _ _ period.0;
      seldom = leb-true _ _ period.1;
    }

pub record PlanRanges (codes : Codes) (p : Plan) : Type 0 where
  pub type : leb p.payload_type 127 ≡ true
  pub code : is_in codes p.code ≡ true
  pub volume : p.volume ≤ 63
  pub lengths : LengthRanges p

pub plan_ranges : (codes : Codes) (p : Plan) → plan_in_range codes p ≡ true → PlanRanges codes p
plan_ranges codes p v =
    let a = and_then _ _ v in
    let b = and_then _ _ a.1 in
    let c = and_then _ _ b.1 in
    record { type = a.0; code = b.0; volume = leb-true _ _ c.0; lengths = length_ranges p c.1 }

-- REPORT K OF A PLAN

-- what report k says, its offset counted from the event's start
abbrev pub saying_at : Plan → ℕ → Segment
saying_at p k = get_or (sayings p) (k - 1) no_segment

module _ (p : Plan) (k : ℕ) (low : 1 ≤ k) (high : k ≤ length (reports p)) where
  within : k - 1 < length (sayings p)
  unfolding reports
  within = omega (arith, length_wire p 0 (sayings p))

  pub report_is : report_at p k ≡ on_wire p (k - 1) (saying_at p k)
  unfolding report_at reports
  report_is =
      let z : 0 + (k - 1) ≡ k - 1 = omega arith in
      wire_at p 0 (k - 1) (sayings p) no_report no_segment within ∙ ap (λ (j : ℕ). on_wire p j (saying_at p k)) z

  -- only report 1 carries M
  pub marked_is_1 : (report_at p k).marker ≡ true → k ≡ 1
  marked_is_1 m = omega (arith, marked_first p no_segment (k - 1) within (sym (ap (λ (r : Report). r.marker) report_is) ∙ m))

  pub saying_says : LengthRanges p → (g : Segment) × Mem g (cut p) × Says g (saying_at p k)
  saying_says r = sayings_say p r.wide r.often (saying_at p k) (mem_at (sayings p) (k - 1) no_segment within)

  pub report_in_range_lem : {codes : Codes} → PlanRanges codes p → report_in_range codes (report_at p k) ≡ true
  unfolding report_in_range
  report_in_range_lem {codes} r =
      let n = r.lengths in
      let q = saying_says n in
      let s = q.2 in
      let c = cut_place p n.wide (full_segments p) 0 true q.0 q.1 in
      let w = cut_within p n.wide (full_segments p) 0 true q.0 q.1 in
      let known : is_in codes (saying_at p k).code ≡ true = rw (s.code ∙ c.code) r.code in
      rw report_is
      (and_both r.type (and_both known (and_both (le-leb (saying_at p k).volume 63 (omega (arith, s.volume, c.volume, r.volume)))
      (and_both (le-leb 1 (saying_at p k).duration s.some) (le-leb (saying_at p k).duration 65535 (omega (arith, s.duration, w, n.narrow)))))))

  pub report_fits : p.ssrc < 0x1_0000_0000 → ReportFits (report_at p k)
  report_fits h = rw report_is (record { sequence = omega arith; timestamp = omega arith; ssrc = h })

  -- the sender's call gives its 16 bytes
  pub planned_bytes : (codes : Codes) → plan_in_range codes p ≡ true → (write_report codes p k (replicate 16 0)).output ≡ packet_of (report_at p k)
  unfolding write_report
  planned_bytes codes r = rw (r, ne_eqb k 0 (λ e. omega arith), le-ltb (length (reports p)) k high) (append-nil _)

-- a plan has a report 1, and it carries M
pub some_report : (p : Plan) → 1 ≤ length (reports p)
unfolding reports
some_report p = omega (arith, length_wire p 0 (sayings p), (sayings_first p no_segment).1)

pub report_1_marked : (p : Plan) → (report_at p 1).marker ≡ true
report_1_marked p = ap (λ (r : Report). r.marker) (report_is p 1 (omega arith) (some_report p)) ∙ (sayings_first p no_segment).0

-- REPORT K OF A SENT EVENT

-- what it says, at the event's own offsets
abbrev pub said : Table → Sent → ℕ → Segment
said t e k = later e.start (saying_at (plan_of t e) k)

says_later : (n : ℕ) {g r : Segment} → Says g r → Says (later n g) (later n r)
says_later n s = record {
  offset = ap (λ (x : ℕ). n + x) s.offset;
  code = s.code;
  some = s.some;
  duration = s.duration;
  volume = s.volume;
  quietest = s.quietest;
  ended = s.ended;
  marked = s.marked;
}

pub plans_for : (t : Table) → PlansFor (plan_of t)
plans_for t = record { code = λ e. refl; long = λ e. refl; size = λ e. refl; volume = λ e. refl }

-- an event's segments are those of its plan, moved to its start
pub sent_later : (t : Table) (e : Sent) → map (later e.start) (cut (plan_of t e)) ≡ segments_sent (plan_of t) e
sent_later t e =
    let z : e.start + 0 ≡ e.start = omega arith in
    cut_later (plan_of t e) e.start (full_segments (plan_of t e)) 0 true
    ∙ ap (λ (o : ℕ). cut_from (plan_of t e) (full_segments (plan_of t e)) o true) z

pub later_mem : (t : Table) (e : Sent) (g : Segment) → Mem g (cut (plan_of t e)) → Mem (later e.start g) (segments_sent (plan_of t) e)
later_mem t e g m = rw (sent_later t e) at (mem_map (later e.start) (cut (plan_of t e)) g m)

module _ (t : Table) (e : Sent) (range : plan_in_range t.head.codes (plan_of t e) ≡ true) (k : ℕ) (low : 1 ≤ k) (high : k ≤ length (reports (plan_of t e))) where
  pub said_says : (g : Segment) × Mem g (segments_sent (plan_of t) e) × Says g (said t e k)
  said_says =
      let q = saying_says (plan_of t e) k low high (plan_ranges t.head.codes (plan_of t e) range).lengths in
      (later e.start q.0, later_mem t e q.0 q.1, says_later e.start q.2)

  -- it lies before the event's end
  pub said_before : (said t e k).offset < end e
  said_before =
      let r = (plan_ranges t.head.codes (plan_of t e) range).lengths in
      let q = saying_says (plan_of t e) k low high r in
      let c = cut_place (plan_of t e) r.wide (full_segments (plan_of t e)) 0 true q.0 q.1 in
      omega (arith, q.2.offset, c.to, c.long, cut_units (plan_of t e) r.some)

  -- it has one volume
  said_steady : (saying_at (plan_of t e) k).volume ≡ (saying_at (plan_of t e) k).quietest
  said_steady =
      let r = (plan_ranges t.head.codes (plan_of t e) range).lengths in
      let q = saying_says (plan_of t e) k low high r in
      let c = cut_place (plan_of t e) r.wide (full_segments (plan_of t e)) 0 true q.0 q.1 in
      omega (arith, q.2.volume, q.2.quietest, c.volume, c.quietest)

  pub sent_bytes : bytes_of t (sent e k) ≡ packet_of (report_at (plan_of t e) k)
  sent_bytes = planned_bytes (plan_of t e) k low high t.head.codes range

  pub sent_in_range : report_in_range t.head.codes (report_at (plan_of t e) k) ≡ true
  sent_in_range = report_in_range_lem (plan_of t e) k low high (plan_ranges t.head.codes (plan_of t e) range)

  module _ (fits : t.head.ssrc < 0x1_0000_0000) where
    pub sent_report : report_in (packet_of (report_at (plan_of t e) k)) ≡ on_wire (plan_of t e) (k - 1) (saying_at (plan_of t e) k)
    sent_report = packet_report t.head.codes (report_at (plan_of t e) k) (report_fits (plan_of t e) k low high fits) sent_in_range ∙ report_is (plan_of t e) k low high

    -- its report arrives by its own timestamp, marker and payload
    pub sent_arrives : arrival_in (packet_of (report_at (plan_of t e) k)) ≡ sent_arrival t e k
    unfolding sent_arrival
    sent_arrives = packet_arrival t.head.codes (report_at (plan_of t e) k) (report_fits (plan_of t e) k low high fits) sent_in_range

  abbrev in_range : Ranges t.head.codes (report_at (plan_of t e) k)
  in_range = ranges t.head.codes (report_at (plan_of t e) k) sent_in_range

  pub sent_passes : payload_refusal t.head.codes (sent_arrival t e k).payload ≡ none
  unfolding sent_arrival
  sent_passes =
      payload_passes t.head.codes (report_at (plan_of t e) k).code (report_at (plan_of t e) k).ended (report_at (plan_of t e) k).volume
      (report_at (plan_of t e) k).duration in_range.code in_range.some in_range.most

  pub sent_payload_fits : BytesFit (sent_arrival t e k).payload
  unfolding sent_arrival
  sent_payload_fits =
      payload_bytes_fit (report_at (plan_of t e) k).code (report_at (plan_of t e) k).ended (report_at (plan_of t e) k).volume
      (report_at (plan_of t e) k).duration in_range.byte (omega (arith, in_range.volume))

  -- from the table's origin it is heard as it was said
  pub heard_as_said : t.head.origin < 0x1_0000_0000 → end e < 0x8000_0000 → heard_by t (sent_arrival t e k) ≡ said t e k
  unfolding heard_by sent_arrival
  heard_as_said small near =
      let r = report_at (plan_of t e) k in
      let s = saying_at (plan_of t e) k in
      let q : offset t.head.origin (((t.head.origin + e.start) % 0x1_0000_0000 + s.offset) % 0x1_0000_0000) ≡ e.start + s.offset = omega (arith, said_before) in
      let is = report_is (plan_of t e) k low high in
      let back = payload_back r.code r.ended r.volume r.duration in_range.volume in_range.most in
      let at = ap (λ (x : Report). offset t.head.origin x.timestamp) is ∙ q in
      let long = back.duration_is ∙ ap (λ (x : Report). x.duration) is in
      let loud = back.volume_is ∙ ap (λ (x : Report). x.volume) is in
      let last = back.end_is ∙ ap (λ (x : Report). x.ended) is in
      let quiet = loud ∙ said_steady in
      λ i. record { offset = at i; code = (is i).code; duration = long i; volume = loud i; quietest = quiet i; ended = last i; marked = (is i).marker }
