-- The events of the segments that an event is cut into are that event. The order of the segments plays no part. The rule
-- of which segment continues which is used through its two laws alone, `continues_if` and `continues_then`.
use Prim.Native.Nat.{ℕ, zero, suc, ◌+◌, ◌*◌}
use mathlib.Core.Path.{◌≡◌, refl, sym, ap, ap₂, ◌∙◌}
use mathlib.Core.Bool.{Bool, true, false, cond, true≢false}
use mathlib.Core.List.{List, [], ◌∷◌, ◌++◌}
use native.Mathlib.Omega.{arith}
use lib.Dec.{eqb}
use borrow.Author.Tests.{eq-eqb, eqb-true, not-true}
use Rattle.model.specs.declared.Plan.{Plan}
use Rattle.model.specs.declared.Segment.{Segment}
use Rattle.model.specs.declared.Event.{Event}
use Rattle.model.specs.Plan.{segment, rest_units, next_start, cut_from}
use Rattle.model.specs.Events.{units, loudest, quietest, last_ended, event_of, continues, continues_nearest, continuing, events_from}
use Rattle.refusals.proofs.Tests.{and_then}
use Rattle.theorems.proofs.Cuts.{whole, after}

-- TESTS

not_so : (b : Bool) → (b ≡ true → ⊥) → b ≡ false
not_so true h = absurd (h refl)
not_so false h = refl

cond_both : {A : Type 0} (b : Bool) {x y z : A} → x ≡ z → y ≡ z → cond b x y ≡ z
cond_both true e f = e
cond_both false e f = f

-- THE TWO LAWS OF CONTINUING

pub continues_if : (prev cur : Segment) → cur.marked ≡ false → prev.ended ≡ false → prev.offset + prev.duration ≡ cur.offset → continues prev cur ≡ true
continues_if prev cur a b c = simp (a, b, eq-eqb)

pub continues_then : (prev cur : Segment) → continues prev cur ≡ true
    → (cur.marked ≡ false) × (prev.ended ≡ false) × (prev.offset + prev.duration ≡ cur.offset)
continues_then prev cur h =
    let a = and_then _ _ h in
    let b = and_then _ _ a.1 in
    (not-true _ a.0, not-true _ b.0, eqb-true _ _ b.1)

-- what is marked continues nothing, so it begins an event
continues_none : (earlier : List Segment) (s : Segment) → s.marked ≡ true → continues_nearest earlier s ≡ false
unfolding continues_nearest
continues_none [] s h = refl
continues_none (q ∷ qs) s h =
    cond_both (eqb q.code s.code) (not_so (continues q s) (λ e. true≢false (sym h ∙ (continues_then q s e).0))) (continues_none qs s h)

begins : (earlier l : List Segment) (s : Segment) → s.marked ≡ true
    → events_from earlier (s ∷ l) ≡ event_of s (continuing s l) ∷ events_from (s ∷ earlier) l
unfolding events_from
begins earlier l s h = rw (continues_none earlier s h) refl

-- what has E is continued by nothing
continued_by_none : (s : Segment) (l : List Segment) → s.ended ≡ true → continuing s l ≡ []
unfolding continuing
continued_by_none s [] h = refl
continued_by_none s (t ∷ ts) h =
    cond_both (eqb s.code t.code)
    (rw (not_so (continues s t) (λ e. true≢false (sym h ∙ (continues_then s t e).1))) refl)
    (continued_by_none s ts h)

-- t continues s, the nearest of its code
record Next (s t : Segment) : Type 0 where
  code : s.code ≡ t.code
  so : continues s t ≡ true

continuing_next : (s t : Segment) (l : List Segment) → Next s t → continuing s (t ∷ l) ≡ t ∷ continuing t l
unfolding continuing
continuing_next s t l h = rw (eq-eqb s.code t.code h.code, h.so) refl

events_next : (earlier : List Segment) (s t : Segment) (l : List Segment) → Next s t
    → events_from (s ∷ earlier) (t ∷ l) ≡ events_from (t ∷ s ∷ earlier) l
unfolding events_from continues_nearest
events_next earlier s t l h = rw (eq-eqb s.code t.code h.code, h.so) refl

-- THE CUTS OF ONE EVENT
module _ (p : Plan) where
  -- the last cut
  abbrev last : ℕ → Bool → Segment
  last o m = segment o p.code (rest_units p) p.volume true m

  -- after a full cut come the cuts from its end on: all of them continue it, ...
  next : (o : ℕ) (m : Bool) (t : Segment) → t.code ≡ p.code → t.marked ≡ false → t.offset ≡ o + p.segment_size → Next (whole p o m) t
  next o m t c u e = record { code = sym c; so = continues_if (whole p o m) t u refl (sym e) }

  continuing_cuts : (n o : ℕ) (m : Bool) (l : List Segment)
      → continuing (whole p o m) (after p n o ++ l) ≡ after p n o
  unfolding cut_from
  continuing_cuts zero o m l =
      let t = last (next_start p o) false in
      continuing_next (whole p o m) t l (next o m t refl refl refl) ∙ ap (λ (r : List Segment). t ∷ r) (continued_by_none t l refl)
  continuing_cuts (suc n) o m l =
      let t = whole p (next_start p o) false in
      continuing_next (whole p o m) t _ (next o m t refl refl refl) ∙ ap (λ (r : List Segment). t ∷ r) (continuing_cuts n (next_start p o) false l)

  -- ... and none of them begins an event
  events_cuts : (n o : ℕ) (m : Bool) (earlier l : List Segment) (vs : List Event) → ((q : List Segment) → events_from q l ≡ vs)
      → events_from (whole p o m ∷ earlier) (after p n o ++ l) ≡ vs
  unfolding cut_from
  events_cuts zero o m earlier l vs k =
      let t = last (next_start p o) false in
      events_next earlier (whole p o m) t l (next o m t refl refl refl) ∙ k _
  events_cuts (suc n) o m earlier l vs k =
      let t = whole p (next_start p o) false in
      events_next earlier (whole p o m) t _ (next o m t refl refl refl) ∙ events_cuts n (next_start p o) false (whole p o m ∷ earlier) l vs k

  -- their sum, loudest, quietest and end
  sums : (n o : ℕ) (s : Segment) → s.volume ≡ p.volume → s.quietest ≡ p.volume
      → (units s (cut_from p n o false) ≡ s.duration + (n * p.segment_size + rest_units p))
      × (loudest s (cut_from p n o false) ≡ p.volume)
      × (quietest s (cut_from p n o false) ≡ p.volume)
      × (last_ended s (cut_from p n o false) ≡ true)
  unfolding cut_from units loudest quietest last_ended
  sums zero o s h q = (omega arith, omega arith, omega arith, refl)
  sums (suc n) o s h q =
      let ih = sums n (next_start p o) (whole p o false) refl refl in
      (omega arith, omega arith, omega arith, ih.3)

  -- the event at an offset, of so many units
  abbrev pub of_cut : ℕ → ℕ → Event
  of_cut o u = record { code = p.code; start = o; length = u; volume = p.volume; quietest = p.volume; began = true; ended = true }

  pub events_of_cut : (n o : ℕ) (earlier l : List Segment) (vs : List Event) → ((q : List Segment) → events_from q l ≡ vs)
      → events_from earlier (cut_from p n o true ++ l)
      ≡ of_cut o (n * p.segment_size + rest_units p) ∷ vs
  unfolding cut_from units loudest quietest last_ended
  events_of_cut zero o earlier l vs k =
      let s = last o true in
      let u : rest_units p ≡ zero * p.segment_size + rest_units p = omega arith in
      begins earlier l s refl
      ∙ ap₂ ◌∷◌
      (ap (event_of s) (continued_by_none s l refl)
      ∙ ap (of_cut o) u)
      (k (s ∷ earlier))
  events_of_cut (suc n) o earlier l vs k =
      let s = whole p o true in
      let sum = sums n (next_start p o) s refl refl in
      let u : units s (after p n o) ≡ suc n * p.segment_size + rest_units p = omega arith in
      begins earlier _ s refl
      ∙ ap₂ ◌∷◌
      (ap (event_of s) (continuing_cuts n o true l)
      ∙ (λ i. record { code = p.code; start = o; length = u i; volume = sum.1 i; quietest = sum.2 i; began = true; ended = sum.3 i }))
      (events_cuts n o true earlier l vs k)
