-- What a plan's reports say of the segments that the event is cut into: at which durations, how many of each segment,
-- which is marked, and how the list stands on the wire.
use Prim.Native.Nat.{ℕ, zero, suc, ◌+◌, ◌-◌, ◌*◌, ◌/◌, ◌<◌, ◌≤◌}
use mathlib.Core.Path.{◌≡◌, refl, sym, ap, ◌∙◌}
use mathlib.Core.Bool.{Bool, true, false, false≢true}
use mathlib.Core.List.Memᴰ
use mathlib.Core.List.{List, [], ◌∷◌, ◌++◌}
use mathlib.Core.Logic.{◌⊎◌, inl, inr, ⊎_elim}
use native.Mathlib.Omega.{arith}
use native.Mathlib.Nat.{le-div_iff_mul-le, mul-le-mul_right, add-div_right}
use native.Mathlib.Decide.{ℕ_discrete}
use lib.ListN.{length, get_or, length-append}
use Rattle.model.specs.declared.Report.{Report}
use Rattle.model.specs.declared.Plan.{Plan}
use Rattle.model.specs.declared.Segment.{Segment}
use Rattle.model.specs.Plan.{
  full_segments,
  cut_from,
  cut,
  saying,
  interim,
  reports_of_segment,
  reports_of_all,
  marking,
  mark_first,
  sayings,
  on_wire,
  all_on_wire,
}
use Rattle.theorems.proofs.Cuts.{cut_place}
use Rattle.theorems.proofs.Basics.{Mem}

-- THE REPORTS OF ONE SEGMENT

-- n reports from the j-th on are those at the j-th multiple of the period and its n - 1 successors
interim_only : (period : ℕ) (g : Segment) (j n : ℕ) (r : Segment) → Mem r (interim period g j n)
    → (k : ℕ) × (j ≤ k) × (k < j + n) × (r ≡ saying g (k * period) false)
unfolding interim
interim_only period g j zero r m = absurd (Memᴰ.not-nil m)
interim_only period g j (suc n) r m = go (interim_only period g (suc j) n r) (Memᴰ.cases_cons m)
  where
    Found : ℕ → ℕ → Type 0
    Found j n = (k : ℕ) × (j ≤ k) × (k < j + n) × (r ≡ saying g (k * period) false)

    go : (Mem r (interim period g (suc j) n) → Found (suc j) n) → (r ≡ saying g (j * period) false) ⊎ Mem r (interim period g (suc j) n)
        → Found j (suc n)
    go ih (inl e) = (j, omega arith, omega arith, e)
    go ih (inr m') = let f = ih m' in (f.0, omega arith, omega arith, f.3)

interim_every : (period : ℕ) (g : Segment) (j n k : ℕ) → j ≤ k → k < j + n → Mem (saying g (k * period) false) (interim period g j n)
unfolding interim
interim_every period g j zero k a b = absurd (omega arith)
interim_every period g j (suc n) k a b = go (interim_every period g (suc j) n k) (ℕ_discrete k j)
  where
    go : (suc j ≤ k → k < suc j + n → Mem (saying g (k * period) false) (interim period g (suc j) n)) → Dec (k ≡ j)
        → Mem (saying g (k * period) false) (saying g (j * period) false ∷ interim period g (suc j) n)
    go ih (yes e) = Memᴰ.head (ap (λ (i : ℕ). saying g (i * period) false) e)
    go ih (no d) = Memᴰ.tail (ih (omega arith) (omega arith))

-- before the end, a segment is reported at the multiples of the period below its duration, ...
pub interim_are : (period : ℕ) (g : Segment) → 1 ≤ period → (r : Segment) → Mem r (interim period g 1 ((g.duration - 1) / period))
    → (j : ℕ) × (1 ≤ j) × (j * period < g.duration) × (r ≡ saying g (j * period) false)
interim_are period g h r m =
    let f = interim_only period g 1 ((g.duration - 1) / period) r m in
    let below : f.0 * period ≤ g.duration - 1 = (le-div_iff_mul-le h).0 (omega arith) in
    (f.0, f.1, omega (arith, mul-le-mul_right period f.1), f.3)

-- ... and at all of them
pub interim_all : (period : ℕ) (g : Segment) → 1 ≤ period → (j : ℕ) → 1 ≤ j → j * period < g.duration
    → Mem (saying g (j * period) false) (interim period g 1 ((g.duration - 1) / period))
interim_all period g h j a b =
    let below : j ≤ (g.duration - 1) / period = (le-div_iff_mul-le h).1 (omega arith) in
    interim_every period g 1 ((g.duration - 1) / period) j a (omega arith)

pub length_interim : (period : ℕ) (g : Segment) (j n : ℕ) → length (interim period g j n) ≡ n
unfolding interim
length_interim period g j zero = refl
length_interim period g j (suc n) = ap suc (length_interim period g (suc j) n)

pub reports_of_segment_lem : (period : ℕ) (g : Segment) → length (reports_of_segment period g) ≡ (g.duration - 1) / period + 3
reports_of_segment_lem period g = simp (length-append, length_interim)

-- in 01's words: the length divided by the period, rounded up, and two more
pub reports_rounded_up : (period : ℕ) (g : Segment) → 1 ≤ period → 1 ≤ g.duration → length (reports_of_segment period g) ≡ (g.duration + period - 1) / period + 2
reports_rounded_up period g h d =
    let e : g.duration + period - 1 ≡ g.duration - 1 + period = omega arith in
    rw (e, add-div_right (g.duration - 1) h) (reports_of_segment_lem period g ∙ omega arith)

-- r is a report of segment g
pub record Says (g r : Segment) : Type 0 where
  pub offset : r.offset ≡ g.offset
  pub code : r.code ≡ g.code
  pub some : 1 ≤ r.duration
  pub duration : r.duration ≤ g.duration
  pub volume : r.volume ≡ g.volume
  pub quietest : r.quietest ≡ g.quietest
  pub ended : r.ended ≡ true → (g.ended ≡ true) × (r.duration ≡ g.duration)
  pub marked : r.marked ≡ true → g.marked ≡ true

-- a segment that is sent has a length, and one volume
record Whole (g : Segment) : Type 0 where
  long : 1 ≤ g.duration
  steady : g.volume ≡ g.quietest

saying_says : (g : Segment) (d : ℕ) (e : Bool) → Whole g → 1 ≤ d → d ≤ g.duration → (e ≡ true → (g.ended ≡ true) × (d ≡ g.duration))
    → Says g (saying g d e)
saying_says g d e w a b h = record {
  offset = refl;
  code = refl;
  some = a;
  duration = b;
  volume = refl;
  quietest = w.steady;
  ended = h;
  marked = λ z. absurd (false≢true z);
}

marking_says : (g r : Segment) → Whole g → g.marked ≡ true → Says g r → Says g (marking r)
marking_says g r w h s = record {
  offset = s.offset;
  code = s.code;
  some = s.some;
  duration = s.duration;
  volume = s.volume;
  quietest = s.volume ∙ w.steady;
  ended = s.ended;
  marked = λ z. h;
}

-- the three reports at the segment's end
abbrev at_end : Segment → List Segment
at_end g = saying g g.duration false ∷ saying g g.duration g.ended ∷ saying g g.duration g.ended ∷ []

reports_say : (period : ℕ) (g r : Segment) → 1 ≤ period → Whole g → Mem r (reports_of_segment period g) → Says g r
reports_say period g r h w m = ⊎_elim early final (Memᴰ.append_cases (interim period g 1 ((g.duration - 1) / period)) m)
  where
    early : Mem r (interim period g 1 ((g.duration - 1) / period)) → Says g r
    early m =
        let f = interim_are period g h r m in
        rw f.3 (saying_says g (f.0 * period) false w (omega (arith, mul-le-mul_right period f.1)) (omega arith) (λ z. absurd (false≢true z)))

    whole : (e : Bool) → (e ≡ true → g.ended ≡ true) → r ≡ saying g g.duration e → Says g r
    whole e k q = rw q (saying_says g g.duration e w w.long (omega arith) (λ z. (k z, refl)))

    final : Mem r (at_end g) → Says g r
    final (Memᴰ.head q) = whole false (λ z. absurd (false≢true z)) q
    final (Memᴰ.tail (Memᴰ.head q)) = whole g.ended (λ z. z) q
    final (Memᴰ.tail (Memᴰ.tail (Memᴰ.head q))) = whole g.ended (λ z. z) q
    final (Memᴰ.tail (Memᴰ.tail (Memᴰ.tail x12))) = elim x12 [ ]

-- THE REPORTS OF ALL SEGMENTS

all_say : (period : ℕ) (gs : List Segment) (r : Segment) → 1 ≤ period → ((g : Segment) → Mem g gs → Whole g)
    → Mem r (reports_of_all period gs) → (g : Segment) × Mem g gs × Says g r
unfolding reports_of_all
all_say period [] r h d m = absurd (Memᴰ.not-nil m)
all_say period (g ∷ gs) r h d m = go (all_say period gs r h (λ k i. d k (Memᴰ.tail i))) (Memᴰ.append_cases (reports_of_segment period g) m)
  where
    go : (Mem r (reports_of_all period gs) → (k : Segment) × Mem k gs × Says k r) → Mem r (reports_of_segment period g) ⊎ Mem r (reports_of_all period gs)
        → (k : Segment) × Mem k (g ∷ gs) × Says k r
    go ih (inl m') = (g, Memᴰ.head refl, reports_say period g r h (d g (Memᴰ.head refl)) m')
    go ih (inr m') = let f = ih m' in (f.0, Memᴰ.tail f.1, f.2)

-- an event's first cut is marked, and a segment has a first report
first_cut : (p : Plan) (n o : ℕ) → (g : Segment) × (gs : List Segment) × (cut_from p n o true ≡ g ∷ gs) × (g.marked ≡ true)
unfolding cut_from
first_cut p zero o = (_, _, refl, refl)
first_cut p (suc n) o = (_, _, refl, refl)

first_report : (period : ℕ) (g : Segment) → (x : Segment) × (xs : List Segment) × (reports_of_segment period g ≡ x ∷ xs)
unfolding interim
first_report period g = go ((g.duration - 1) / period)
  where
    go : (n : ℕ) → (x : Segment) × (xs : List Segment) × (interim period g 1 n ++ at_end g ≡ x ∷ xs)
    go zero = (_, _, refl)
    go (suc n) = (_, _, refl)

-- so the mark is put on a report of a marked segment
sayings_start : (period : ℕ) (g : Segment) (gs : List Segment) (x : Segment) (xs : List Segment) → reports_of_segment period g ≡ x ∷ xs
    → mark_first (reports_of_all period (g ∷ gs)) ≡ marking x ∷ (xs ++ reports_of_all period gs)
unfolding mark_first reports_of_all
sayings_start period g gs x xs e = ap (λ (l : List Segment). mark_first (l ++ reports_of_all period gs)) e

pub sayings_first : (p : Plan) (d : Segment) → ((get_or (sayings p) 0 d).marked ≡ true) × (1 ≤ length (sayings p))
sayings_first p d =
    let c = first_cut p (full_segments p) 0 in
    let f = first_report p.period c.0 in
    rw (c.2, sayings_start p.period c.0 c.1 f.0 f.1 f.2) (refl, omega arith)

-- every report of the plan says something of one of the event's segments
pub sayings_say : (p : Plan) → 1 ≤ p.segment_size → 1 ≤ p.period → (r : Segment) → Mem r (sayings p)
    → (g : Segment) × Mem g (cut p) × Says g r
unfolding reports_of_all
sayings_say p a h r m = go (Memᴰ.cases_cons (rw (c.2, sayings_start p.period c.0 c.1 f.0 f.1 f.2) at m))
  where
    c : (g : Segment) × (gs : List Segment) × (cut p ≡ g ∷ gs) × (g.marked ≡ true)
    c = first_cut p (full_segments p) 0

    f : (x : Segment) × (xs : List Segment) × (reports_of_segment p.period c.0 ≡ x ∷ xs)
    f = first_report p.period c.0

    whole : (g : Segment) → Mem g (cut p) → Whole g
    whole g i = let k = cut_place p a (full_segments p) 0 true g i in record { long = k.long; steady = k.volume ∙ sym k.quietest }

    top : Mem c.0 (cut p)
    top = rw c.2 (Memᴰ.head refl)

    go : (r ≡ marking f.0) ⊎ Mem r (f.1 ++ reports_of_all p.period c.1) → (g : Segment) × Mem g (cut p) × Says g r
    go (inl e) = (c.0, top, rw e (marking_says c.0 f.0 (whole c.0 top) c.3 (reports_say p.period c.0 f.0 h (whole c.0 top) (rw f.2 (Memᴰ.head refl)))))
    go (inr m') = all_say p.period (cut p) r h whole (rw (c.2, f.2) (Memᴰ.tail m'))

-- ON THE WIRE

pub length_wire : (p : Plan) (j : ℕ) (rs : List Segment) → length (all_on_wire p j rs) ≡ length rs
unfolding all_on_wire
length_wire p j [] = refl
length_wire p j (r ∷ rs) = ap suc (length_wire p (suc j) rs)

pub wire_at : (p : Plan) (j i : ℕ) (rs : List Segment) (d : Report) (d' : Segment) → i < length rs
    → get_or (all_on_wire p j rs) i d ≡ on_wire p (j + i) (get_or rs i d')
unfolding all_on_wire
wire_at p j i [] d d' h = absurd (omega arith)
wire_at p j zero (r ∷ rs) d d' h =
    let e : j ≡ j + 0 = omega arith in
    ap (λ (k : ℕ). on_wire p k r) e
wire_at p j (suc i) (r ∷ rs) d d' h =
    let e : suc j + i ≡ j + suc i = omega arith in
    wire_at p (suc j) i rs d d' (omega arith) ∙ ap (λ (k : ℕ). on_wire p k (get_or rs i d')) e

pub mem_at : {A : Type 0} (l : List A) (i : ℕ) (d : A) → i < length l → Mem (get_or l i d) l
mem_at [] i d h = absurd (omega arith)
mem_at (x ∷ l) zero d h = Memᴰ.head refl
mem_at (x ∷ l) (suc i) d h = Memᴰ.tail (mem_at l i d (omega arith))

-- ONE MARK

reports_unmarked : (period : ℕ) (g r : Segment) → Mem r (reports_of_segment period g) → r.marked ≡ false
reports_unmarked period g r m = ⊎_elim early final (Memᴰ.append_cases (interim period g 1 ((g.duration - 1) / period)) m)
  where
    early : Mem r (interim period g 1 ((g.duration - 1) / period)) → r.marked ≡ false
    early m = ap (λ (s : Segment). s.marked) (interim_only period g 1 ((g.duration - 1) / period) r m).3

    final : Mem r (at_end g) → r.marked ≡ false
    final (Memᴰ.head q) = ap (λ (s : Segment). s.marked) q
    final (Memᴰ.tail (Memᴰ.head q)) = ap (λ (s : Segment). s.marked) q
    final (Memᴰ.tail (Memᴰ.tail (Memᴰ.head q))) = ap (λ (s : Segment). s.marked) q
    final (Memᴰ.tail (Memᴰ.tail (Memᴰ.tail x12))) = elim x12 [ ]

all_unmarked : (period : ℕ) (gs : List Segment) (r : Segment) → Mem r (reports_of_all period gs) → r.marked ≡ false
unfolding reports_of_all
all_unmarked period [] r m = absurd (Memᴰ.not-nil m)
all_unmarked period (g ∷ gs) r m = ⊎_elim (reports_unmarked period g r) (λ k. all_unmarked period gs r k) (Memᴰ.append_cases (reports_of_segment period g) m)

-- only the event's very first report carries M
pub marked_first : (p : Plan) (d : Segment) (i : ℕ) → i < length (sayings p) → (get_or (sayings p) i d).marked ≡ true → i ≡ 0
unfolding mark_first
marked_first p d i h m = go (reports_of_all p.period (cut p)) (all_unmarked p.period (cut p)) i h m
  where
    go : (l : List Segment) → ((r : Segment) → Mem r l → r.marked ≡ false)
        → (i : ℕ) → i < length (mark_first l) → (get_or (mark_first l) i d).marked ≡ true → i ≡ 0
    go l f zero h m = refl
    go [] f (suc i) h m = absurd (omega arith)
    go (r ∷ l) f (suc i) h m = absurd (false≢true (sym (f (get_or l i d) (Memᴰ.tail (mem_at l i d (omega arith)))) ∙ m))
