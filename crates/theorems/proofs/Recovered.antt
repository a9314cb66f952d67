-- The core of demand 3, with no bytes, table or calls: the segments that events which do not overlap are cut into give
-- those events, and they are what is derived from any reports that say something of them and hold what each needs.
use Prim.Native.Nat.{ℕ, zero, suc, ◌+◌, ◌*◌, ◌<◌, ◌≤◌}
use mathlib.Core.Path.{◌≡◌, refl, ◌∙◌}
use mathlib.Core.Bool.{Bool, true, false}
use mathlib.Core.List.Memᴰ
use mathlib.Core.List.{
  List,
  [],
  ◌∷◌,
  ◌++◌,
  map,
}
use mathlib.Core.Logic.{◌⊎◌, inl, inr}
use native.Mathlib.Omega.{arith}
use Rattle.model.specs.declared.Plan.{Plan}
use Rattle.model.specs.declared.Segment.{Segment}
use Rattle.model.specs.Plan.{full_segments, rest_units, next_start, cut_from}
use Rattle.model.specs.Segments.{Keeps, Attained, Derived}
use Rattle.model.specs.Events.{events_from}
use Rattle.theorems.specs.Sizes.{Sent, end, Apart, as_listed}
use Rattle.theorems.proofs.Order.{◌≺◌, sooner, Rising, rises_if}
use Rattle.theorems.proofs.Segments.{derived_unique}
use Rattle.theorems.proofs.Cuts.{whole, after, cut_place, cut_apart, cut_units}
use Rattle.theorems.proofs.Plans.{Says}
use Rattle.theorems.proofs.Events.{events_of_cut}
use Rattle.theorems.proofs.Basics.{Mem}

-- an event has a length, and segments have one
abbrev pub Some : Sent → Type 0
Some e = (1 ≤ e.length) × (1 ≤ e.segment_size)

-- each event starts at an offset or later, and ends at or before the next one's start
abbrev pub ApartFrom : ℕ → List Sent → Type 0
ApartFrom low [] = Unit {0}
ApartFrom low (e ∷ es) = (low ≤ e.start) × Some e × ApartFrom (end e) es

tail_apart : (e : Sent) (es : List Sent) → Apart (e ∷ es) → ((f : Sent) → Mem f es → Some f) → ApartFrom (end e) es
unfolding Apart
tail_apart e [] a l = tt
tail_apart e (f ∷ es) a l = (a.0, l f (Memᴰ.head refl), tail_apart f es a.1 (λ g m. l g (Memᴰ.tail m)))

pub apart_from : (es : List Sent) → Apart es → ((e : Sent) → Mem e es → Some e) → ApartFrom 0 es
apart_from [] a l = tt
apart_from (e ∷ es) a l = (omega arith, l e (Memᴰ.head refl), tail_apart e es a (λ f m. l f (Memᴰ.tail m)))

-- a plan for each event: its code, length, segment size and volume
pub record PlansFor (plan : Sent → Plan) : Type 0 where
  pub code : (e : Sent) → (plan e).code ≡ e.code
  pub long : (e : Sent) → (plan e).length ≡ e.length
  pub size : (e : Sent) → (plan e).segment_size ≡ e.segment_size
  pub volume : (e : Sent) → (plan e).volume ≡ e.volume

-- the segments of a plan rise, before others that come after them
rising_cut : (p : Plan) → 1 ≤ p.segment_size → (n o : ℕ) (m : Bool) (l : List Segment) → Rising l
    → ((y : Segment) → Mem y l → o + (n * p.segment_size + rest_units p) ≤ y.offset) → Rising (cut_from p n o m ++ l)
unfolding cut_from
rising_cut p wide zero o m l h b = (λ y k. sooner (omega (arith, b y k)), h)
rising_cut p wide (suc n) o m l h b = (
  λ y k. go y (Memᴰ.append_cases (after p n o) k),
  rising_cut p wide n (next_start p o) false l h (λ y k. omega (arith, b y k)),
)
  where
    go : (y : Segment) → Mem y (after p n o) ⊎ Mem y l → whole p o m ≺ y
    go y (inl k) = sooner (omega (arith, (cut_place p wide n (next_start p o) false y k).from))
    go y (inr k) = sooner (omega (arith, b y k))

module _ (plan : Sent → Plan) where
  -- the segments of one event, at their offsets
  abbrev pub segments_sent : Sent → List Segment
  segments_sent e = cut_from (plan e) (full_segments (plan e)) e.start true

  unfoldable pub all_sent : List Sent → List Segment
  all_sent [] = []
  all_sent (e ∷ es) = segments_sent e ++ all_sent es

  pub in_all : (es : List Sent) (e : Sent) (g : Segment) → Mem e es → Mem g (segments_sent e) → Mem g (all_sent es)
  unfolding all_sent
  in_all [] e g m k = absurd (Memᴰ.not-nil m)
  in_all (f ∷ es) e g m k = go (in_all es e g) (Memᴰ.cases_cons m)
    where
      go : (Mem e es → Mem g (segments_sent e) → Mem g (all_sent es)) → (e ≡ f) ⊎ Mem e es → Mem g (segments_sent f ++ all_sent es)
      go ih (inl p) = Memᴰ.append_left (all_sent es) (rw p at k)
      go ih (inr n) = Memᴰ.append_right (segments_sent f) (ih n k)

  pub of_all : (es : List Sent) (g : Segment) → Mem g (all_sent es) → (e : Sent) × Mem e es × Mem g (segments_sent e)
  unfolding all_sent
  of_all [] g m = absurd (Memᴰ.not-nil m)
  of_all (f ∷ es) g m = go (of_all es g) (Memᴰ.append_cases (segments_sent f) m)
    where
      go : (Mem g (all_sent es) → (e : Sent) × Mem e es × Mem g (segments_sent e)) → Mem g (segments_sent f) ⊎ Mem g (all_sent es)
          → (e : Sent) × Mem e (f ∷ es) × Mem g (segments_sent e)
      go ih (inl k) = (f, Memᴰ.head refl, k)
      go ih (inr k) = let q = ih k in (q.0, Memᴰ.tail q.1, q.2)

  -- together they are as long as the event
  units_of : PlansFor plan → (e : Sent) → 1 ≤ e.length → full_segments (plan e) * (plan e).segment_size + rest_units (plan e) ≡ e.length
  units_of same e l = cut_units (plan e) (omega (arith, same.long e)) ∙ same.long e

  -- THEIR EVENTS ARE THE EVENTS SENT
  pub events_of_all : PlansFor plan → (low : ℕ) (es : List Sent) → ApartFrom low es → (earlier : List Segment)
      → events_from earlier (all_sent es) ≡ map as_listed es
  unfolding all_sent events_from
  events_of_all same low [] a earlier = refl
  events_of_all same low (e ∷ es) a earlier =
      let u = units_of same e a.1.0 in
      events_of_cut (plan e) (full_segments (plan e)) e.start earlier (all_sent es) (map as_listed es)
      (events_of_all same (end e) es a.2)
      ∙ (λ i. record { code = same.code e i; start = e.start; length = u i; volume = same.volume e i; quietest = same.volume e i; began = true; ended = true } ∷ map as_listed es)

  -- THEY RISE
  module _ (same : PlansFor plan) where
    wide : (e : Sent) → Some e → 1 ≤ (plan e).segment_size
    wide e s = omega (arith, same.size e, s.1)

    all_from : (low : ℕ) (es : List Sent) → ApartFrom low es → (g : Segment) → Mem g (all_sent es) → low ≤ g.offset
    unfolding all_sent
    all_from low [] a g m = absurd (Memᴰ.not-nil m)
    all_from low (e ∷ es) a g m = go (all_from (end e) es a.2 g) (Memᴰ.append_cases (segments_sent e) m)
      where
        go : (Mem g (all_sent es) → end e ≤ g.offset) → Mem g (segments_sent e) ⊎ Mem g (all_sent es) → low ≤ g.offset
        go ih (inl k) = omega (arith, (cut_place (plan e) (wide e a.1) (full_segments (plan e)) e.start true g k).from, a.0)
        go ih (inr k) = omega (arith, ih k, a.0)

    pub all_rising : (low : ℕ) (es : List Sent) → ApartFrom low es → Rising (all_sent es)
    unfolding all_sent
    all_rising low [] a = tt
    all_rising low (e ∷ es) a =
        rising_cut (plan e) (wide e a.1) (full_segments (plan e)) e.start true (all_sent es) (all_rising (end e) es a.2)
        (λ y k. omega (arith, all_from (end e) es a.2 y k, units_of same e a.1.0))

    -- THEY DO NOT OVERLAP
    all_apart : (low : ℕ) (es : List Sent) → ApartFrom low es → (g h : Segment) → Mem g (all_sent es) → Mem h (all_sent es)
        → g.offset < h.offset → g.offset + g.duration ≤ h.offset
    unfolding all_sent
    all_apart low [] a g h m k l = absurd (Memᴰ.not-nil m)
    all_apart low (e ∷ es) a g h m k l =
        go (all_apart (end e) es a.2 g h) (Memᴰ.append_cases (segments_sent e) m) (Memᴰ.append_cases (segments_sent e) k)
      where
        place : (s : Segment) → Mem s (segments_sent e) → s.offset + s.duration ≤ end e
        place s i =
            omega (arith, (cut_place (plan e) (wide e a.1) (full_segments (plan e)) e.start true s i).to, units_of same e a.1.0)

        go : (Mem g (all_sent es) → Mem h (all_sent es) → g.offset < h.offset → g.offset + g.duration ≤ h.offset)
            → Mem g (segments_sent e) ⊎ Mem g (all_sent es) → Mem h (segments_sent e) ⊎ Mem h (all_sent es) → g.offset + g.duration ≤ h.offset
        go ih (inl i) (inl j) = cut_apart (plan e) (wide e a.1) (full_segments (plan e)) e.start true g h i j l
        go ih (inl i) (inr j) = omega (arith, place g i, all_from (end e) es a.2 h j)
        go ih (inr i) (inl j) = absurd (omega (arith, l, place h j, all_from (end e) es a.2 g i))
        go ih (inr i) (inr j) = ih i j l

    -- so a report that does not say its segment's whole length ends where none of them starts
    pub interim_meets_none : (es : List Sent) → ApartFrom 0 es → (g h r : Segment) → Mem g (all_sent es) → Mem h (all_sent es)
        → Says g r → r.duration < g.duration → r.offset + r.duration ≡ h.offset → ⊥
    interim_meets_none es a g h r m k s less meets = omega (arith, s.offset, s.some, less, meets, all_apart 0 es a g h m k (omega (arith, s.offset, s.some, meets)))

-- WHAT HAS TO BE HEARD OF A SEGMENT

pub says_keeps : {g r : Segment} → Says g r → Keeps g r
says_keeps s = record {
  offset = s.offset;
  code = s.code;
  duration = s.duration;
  volume = omega (arith, s.volume);
  quietest = omega (arith, s.quietest);
  ended = λ e. (s.ended e).0;
  marked = s.marked;
}

-- a report with its whole length, one with E if it is the last, one with M if it is the first
pub record Witness (rs : List Segment) (g : Segment) : Type 0 where
  pub full : (r : Segment) × Mem r rs × Says g r × (r.duration ≡ g.duration)
  pub ended : g.ended ≡ true → (r : Segment) × Mem r rs × Says g r × (r.ended ≡ true)
  pub marked : g.marked ≡ true → (r : Segment) × Mem r rs × Says g r × (r.marked ≡ true)

-- segments that rise, of which every report says something, and of each of which that is heard: they are derived
pub witnessed : {rs l : List Segment} → Rising l → ((r : Segment) → Mem r rs → (g : Segment) × Mem g l × Says g r) → ((g : Segment) → Mem g l → Witness rs g) → Derived rs l
witnessed {rs} {l} h told heard = record {
  rises = rises_if l h;
  kept = λ r m. let k = told r m in (k.0, k.1, says_keeps k.2);
  attained = λ g m. attained g (heard g m);
}
  where
    attained : (g : Segment) → Witness rs g → Attained rs g
    attained g w = record {
      longest = let k = w.full in (k.0, k.1, says_keeps k.2, k.3);
      loudest = let k = w.full in (k.0, k.1, says_keeps k.2, k.2.volume);
      quietest = let k = w.full in (k.0, k.1, says_keeps k.2, k.2.quietest);
      ended = λ e. let k = w.ended e in (k.0, k.1, says_keeps k.2, k.3);
      marked = λ e. let k = w.marked e in (k.0, k.1, says_keeps k.2, k.3);
    }

-- THE CORE
pub recovered : {rs l : List Segment} (plan : Sent → Plan) → PlansFor plan → (es : List Sent) → ApartFrom 0 es
    → Derived rs l → ((r : Segment) → Mem r rs → (g : Segment) × Mem g (all_sent plan es) × Says g r)
    → ((g : Segment) → Mem g (all_sent plan es) → Witness rs g) → l ≡ all_sent plan es
recovered plan same es a d told heard = derived_unique (λ r m. m) (λ r m. m) d (witnessed (all_rising plan same 0 es a) told heard)
