-- Along the reports of demand 3 every sent one and every copy is taken, and nothing else is. None meets 11: each pair that is held is
-- that of one of the events' segments, of which there are at most 128.
use Prim.Native.Nat.{ℕ, suc, ◌+◌, ◌≤◌, ◌<◌}
use mathlib.Core.Path.{◌≡◌, refl, sym, ap, ◌∙◌}
use mathlib.Core.Bool.{Bool, true, false, not, ◌&&◌, false≢true}
use mathlib.Core.List.Memᴰ
use mathlib.Core.List.{List, [], ◌∷◌}
use mathlib.Core.Logic.{◌⊎◌, inl, inr, ⊎_elim}
use native.Mathlib.Omega.{arith}
use lib.Dec.{eqb}
use lib.ListN.{length, length-append, length-map}
use borrow.Author.Tests.{eqb-true}
use Rattle.model.specs.declared.Segment.{Segment}
use Rattle.model.specs.declared.Table.{Table}
use Rattle.refusals.specs.Refusals.{none}
use Rattle.model.specs.Plan.{cut}
use Rattle.model.specs.Segments.{Derived}
use Rattle.model.specs.Table.{held, holds, no_room, put}
use Rattle.model.specs.Receive.{Arrival, heard_by, hear_refusal, hear, refuses}
use Rattle.theorems.specs.Sizes.{Sent, plan_of, segments_in_all, Sizes, FitsTypes}
use Rattle.theorems.specs.Demands.{Empty}
use Rattle.theorems.specs.Redundancy.{taken_of, sent_arrival, unmarked, SentReport, OneOf, FairReports}
use Rattle.theorems.proofs.Order.{◌≺◌, Alike, alike_sym, alike_trans, ≺_trans, ≺_alike, alike-≺, ≺_not_alike, Rising, rises}
use Rattle.theorems.proofs.Segments.{derived_put}
use Rattle.theorems.proofs.Keeping.{keeps_alike}
use Rattle.theorems.proofs.Tables.{held_length, put_new}
use Rattle.theorems.proofs.Receives.{taken_if, refused_leaves, takes, taken_not_refused}
use Rattle.theorems.proofs.Runs.{PayloadFits, Reached, start, heard_from, step_taken}
use Rattle.theorems.proofs.Plans.{Says}
use Rattle.theorems.proofs.Recovered.{ApartFrom, apart_from, segments_sent, all_sent, in_all, all_rising}
use Rattle.theorems.proofs.Sends.{plans_for, plan_ranges, said, said_says, said_before, sent_later, sent_passes, sent_payload_fits, heard_as_said}
use Rattle.theorems.proofs.Basics.{Mem}

-- FEWER PAIRS, FEWER SEGMENTS

-- of two rising lists, one that has a like in the other for each segment is no longer
pub fewer : (a b : List Segment) → Rising a → Rising b → ((x : Segment) → Mem x a → (y : Segment) × Mem y b × Alike x y) → length a ≤ length b
fewer [] b g h f = omega arith
fewer (x ∷ a) [] g h f = absurd (Memᴰ.not-nil (f x (Memᴰ.head refl)).1)
fewer (x ∷ a) (y ∷ b) g h f = go (Memᴰ.cases_cons like.1) (fewer a b g.1 h.1) (fewer (x ∷ a) b g h.1)
  where
    like : (z : Segment) × Mem z (y ∷ b) × Alike x z
    like = f x (Memᴰ.head refl)

    -- what is above y has its like behind y
    behind : (z : Segment) → y ≺ z → (u : Segment) × Mem u (y ∷ b) × Alike z u → (u : Segment) × Mem u b × Alike z u
    behind z k q = side (Memᴰ.cases_cons q.1)
      where
        side : (q.0 ≡ y) ⊎ Mem q.0 b → (u : Segment) × Mem u b × Alike z u
        side (inl e) = absurd (≺_not_alike k (alike_sym (rw e at q.2)))
        side (inr n) = (q.0, n, q.2)

    go : (like.0 ≡ y) ⊎ Mem like.0 b
        → (((z : Segment) → Mem z a → (u : Segment) × Mem u b × Alike z u) → length a ≤ length b)
        → (((z : Segment) → Mem z (x ∷ a) → (u : Segment) × Mem u b × Alike z u) → suc (length a) ≤ length b)
        → suc (length a) ≤ suc (length b)
    go (inl e) i j = omega (arith, i (λ z m. behind z (alike-≺ (alike_sym (rw e at like.2)) (g.0 z m)) (f z (Memᴰ.tail m))))
    go (inr n) i j = omega (arith, j (λ z m. behind z (above z (Memᴰ.cases_cons m)) (f z m)))
      where
        first : y ≺ x
        first = ≺_alike (h.0 like.0 n) (alike_sym like.2)

        above : (z : Segment) → (z ≡ x) ⊎ Mem z a → y ≺ z
        above z (inl e) = rw e first
        above z (inr k) = ≺_trans first (g.0 z k)

pub length_all : (t : Table) (es : List Sent) → length (all_sent (plan_of t) es) ≡ segments_in_all t es
unfolding all_sent segments_in_all
length_all t [] = refl
length_all t (e ∷ es) =
    length-append (segments_sent (plan_of t) e) (all_sent (plan_of t) es)
    ∙ (λ i. (sym (ap length (sent_later t e)) ∙ length-map (cut (plan_of t e)) _) i + length_all t es i)

-- COPIES

-- a copy says what the report says, but for the mark
pub record SaidBy (s r : Segment) : Type 0 where
  pub offset : r.offset ≡ s.offset
  pub code : r.code ≡ s.code
  pub duration : r.duration ≡ s.duration
  pub volume : r.volume ≡ s.volume
  pub quietest : r.quietest ≡ s.quietest
  pub ended : r.ended ≡ s.ended
  pub marked : r.marked ≡ true → s.marked ≡ true

pub says_too : {g s r : Segment} → Says g s → SaidBy s r → Says g r
says_too x y = record {
  offset = y.offset ∙ x.offset;
  code = y.code ∙ x.code;
  some = omega (arith, x.some, y.duration);
  duration = omega (arith, x.duration, y.duration);
  volume = y.volume ∙ x.volume;
  quietest = y.quietest ∙ x.quietest;
  ended = λ e. let k = x.ended (sym y.ended ∙ e) in (k.0, y.duration ∙ k.1);
  marked = λ e. x.marked (y.marked e);
}

-- ALONG THE REPORTS

module _ (t : Table) (es : List Sent) (sizes : Sizes t es) (fits : FitsTypes t es []) where
  pub apart : ApartFrom 0 es
  apart = apart_from es sizes.apart (λ e m. let r = (plan_ranges t.head.codes (plan_of t e) (sizes.ranges e m)).lengths in (r.some, r.wide))

  -- every report says something of a segment of the events
  abbrev pub ToldOf : Segment → Type 0
  ToldOf r = (g : Segment) × Mem g (all_sent (plan_of t) es) × Says g r

  pub record Along (rs : List Segment) (u : Table) : Type 0 where
    pub reached : Reached t rs u
    pub type : u.head.payload_type ≡ t.head.payload_type
    pub source : u.head.ssrc ≡ t.head.ssrc
    pub codes : u.head.codes ≡ t.head.codes
    pub told : (r : Segment) → Mem r rs → ToldOf r

  -- an empty table has heard nothing
  pub along_empty : Empty t → Along [] t
  along_empty e = record { reached = start t e; type = refl; source = refl; codes = refl; told = λ r m. absurd (Memᴰ.not-nil m) }

  -- WHAT A SENT REPORT SAYS

  -- from the table's origin it is heard as it was said
  pub heard_sent : (e : Sent) (k : ℕ) → OneOf es t e k → heard_by t (sent_arrival t e k) ≡ said t e k
  heard_sent e k o = heard_as_said t e (sizes.ranges e o.0) k o.1 o.2 fits.origin (sizes.near e o.0)

  -- and a copy as the same, but for the mark
  copy_heard : (a : Arrival) → SaidBy (heard_by t a) (heard_by t (unmarked a))
  unfolding heard_by
  copy_heard a = record { offset = refl; code = refl; duration = refl; volume = refl; quietest = refl; ended = refl; marked = λ e. absurd (false≢true e) }

  pub said_by : (a : Arrival) (e : Sent) (k : ℕ) → OneOf es t e k → (a ≡ sent_arrival t e k) ⊎ (a ≡ unmarked (sent_arrival t e k))
      → SaidBy (said t e k) (heard_by t a)
  said_by a e k o (inl q) =
      rw (q, heard_sent e k o) (record { offset = refl; code = refl; duration = refl; volume = refl; quietest = refl; ended = refl; marked = λ x. x })
  said_by a e k o (inr q) = rw (q, ← (heard_sent e k o)) (copy_heard (sent_arrival t e k))

  pub told_sent : (a : Arrival) → SentReport es t a → ToldOf (heard_by t a)
  told_sent a s =
      let o = s.2 in
      let q = said_says t s.0 (sizes.ranges s.0 o.0) s.1 o.1 o.2 in
      (q.0, in_all (plan_of t) es s.0 q.0 o.0 q.1, says_too q.2 (said_by a s.0 s.1 o s.3))

  sent_payload : (a : Arrival) (e : Sent) (k : ℕ) → (a ≡ sent_arrival t e k) ⊎ (a ≡ unmarked (sent_arrival t e k)) → a.payload ≡ (sent_arrival t e k).payload
  sent_payload a e k (inl q) = ap (λ (x : Arrival). x.payload) q
  sent_payload a e k (inr q) = ap (λ (x : Arrival). x.payload) q

  pub sent_fits : (a : Arrival) → SentReport es t a → PayloadFits a
  sent_fits a s =
      rw (sent_payload a s.0 s.1 s.3) (sent_payload_fits t s.0 (sizes.ranges s.0 s.2.0) s.1 s.2.1 s.2.2)

  -- what would be held has its like among the segments of the events
  pairs_known : {rs l : List Segment} → Derived rs l → ((r : Segment) → Mem r rs → ToldOf r) → (x : Segment) → Mem x l
      → (g : Segment) × Mem g (all_sent (plan_of t) es) × Alike x g
  pairs_known d told x m =
      let h = (d.attained x m).longest in
      let q = told h.0 h.1 in
      (q.0, q.1, alike_trans (alike_sym (keeps_alike h.2)) (record { offset = q.2.offset; code = q.2.code }))

  room_for : (rs : List Segment) (u : Table) → Along rs u → (r : Segment) → ToldOf r → no_room u r ≡ false
  room_for rs u a r k = go (eqb u.head.count 128) refl (holds r (held u)) refl
    where
      d : Derived (r ∷ rs) (put r (held u))
      d = derived_put r rs (held u) a.reached.derived

      told : (q : Segment) → Mem q (r ∷ rs) → ToldOf q
      told q m = ⊎_elim (λ (e : q ≡ r). rw e k) (λ n. a.told q n) (Memᴰ.cases_cons m)

      few : length (put r (held u)) ≤ length (all_sent (plan_of t) es)
      few =
          fewer (put r (held u)) (all_sent (plan_of t) es) (rises (put r (held u)) d.rises)
          (all_rising (plan_of t) (plans_for t) 0 es apart) (pairs_known d told)

      long : length (held u) ≡ u.head.count
      long = held_length u

      go : (b : Bool) → eqb u.head.count 128 ≡ b → (c : Bool) → holds r (held u) ≡ c → (b && not c) ≡ false
      go true e true f = refl
      go true e false f = absurd (omega (arith, few, put_new r (held u) f, long, eqb-true u.head.count 128 e, length_all t es, sizes.few))
      go false e c f = refl

  -- A SENT REPORT IS TAKEN

  module _ (rs : List Segment) (u : Table) (w : Along rs u) (a : Arrival) (s : SentReport es t a) where
    heard : heard_by u a ≡ heard_by t a
    heard = heard_from t u a w.reached.origin

    near : (heard_by u a).offset < 0x8000_0000
    near =
        let range = sizes.ranges s.0 s.2.0 in
        rw (heard, (said_by a s.0 s.1 s.2 s.3).offset)
        (omega (arith, said_before t s.0 range s.1 s.2.1 s.2.2, sizes.near s.0 s.2.0))

    pub sent_taken : hear_refusal u a ≡ none
    sent_taken = taken_if u a (record {
      searched = record {
        payload = rw (sent_payload a s.0 s.1 s.3, w.codes) (sent_passes t s.0 (sizes.ranges s.0 s.2.0) s.1 s.2.1 s.2.2);
        near = near;
      };
      room = rw heard (room_for rs u w (heard_by t a) (told_sent a s));
    })

    pub along_sent : Along (heard_by t a ∷ rs) (hear u a).table
    along_sent =
        let n = sent_taken in
        record {
          reached = step_taken t u a rs w.reached (sent_fits a s) (taken_not_refused u a n);
          type = ap (λ (x : Table). x.head.payload_type) (takes u a n) ∙ w.type;
          source = ap (λ (x : Table). x.head.ssrc) (takes u a n) ∙ w.source;
          codes = ap (λ (x : Table). x.head.codes) (takes u a n) ∙ w.codes;
          told = λ r i. ⊎_elim (λ (q : r ≡ heard_by t a). rw q (told_sent a s)) (λ j. w.told r j) (Memᴰ.cases_cons i);
        }

  pub along_refused : (rs : List Segment) (u : Table) (a : Arrival) → Along rs u → refuses (hear u a).answer ≡ true → Along rs (hear u a).table
  along_refused rs u a w e = rw (refused_leaves u a e) w

  -- what is refused is none of the events' reports
  refused_not_sent : (rs : List Segment) (u : Table) → Along rs u → (a : Arrival) → SentReport es t a → refuses (hear u a).answer ≡ true → ⊥
  refused_not_sent rs u w a s r = false≢true (sym (taken_not_refused u a (sent_taken rs u w a s)) ∙ r)

  -- WHAT ARRIVES

  -- each report of the events, and each copy, is taken; and nothing else is
  pub record Outcome (more : List Arrival) (u : Table) : Type 0 where
    pub all : (a : Arrival) → Mem a more → SentReport es t a → Mem a (taken_of u more)
    pub only : (a : Arrival) → Mem a (taken_of u more) → SentReport es t a

  taken_first : (x : Arrival) (more : List Arrival) (u : Table) → refuses (hear u x).answer ≡ false → taken_of u (x ∷ more) ≡ x ∷ taken_of (hear u x).table more
  unfolding taken_of
  taken_first x more u e = rw e

  refused_first : (x : Arrival) (more : List Arrival) (u : Table) → refuses (hear u x).answer ≡ true → taken_of u (x ∷ more) ≡ taken_of (hear u x).table more
  unfolding taken_of
  refused_first x more u e = rw e

  pub outcome : (more : List Arrival) (rs : List Segment) (u : Table) → Along rs u → FairReports es t u more → Outcome more u
  unfolding FairReports taken_of
  outcome [] rs u w f = record { all = λ a m s. m; only = λ a m. absurd (Memᴰ.not-nil m) }
  outcome (x ∷ more) rs u w f = go f.0 (λ qs v. outcome more qs (hear u x).table v f.1)
    where
      go : SentReport es t x ⊎ (refuses (hear u x).answer ≡ true)
          → ((qs : List Segment) → Along qs (hear u x).table → Outcome more (hear u x).table) → Outcome (x ∷ more) u
      go (inl s) ih =
          let k = ih (heard_by t x ∷ rs) (along_sent rs u w x s) in
          let q = taken_first x more u (taken_not_refused u x (sent_taken rs u w x s)) in
          record {
            all = λ a m c. rw q (⊎_elim (λ e. Memᴰ.head e) (λ n. Memᴰ.tail (k.all a n c)) (Memᴰ.cases_cons m));
            only = λ a m. ⊎_elim (λ (e : a ≡ x). rw e s) (λ n. k.only a n) (Memᴰ.cases_cons (rw q at m));
          }
      go (inr r) ih =
          let k = ih rs (along_refused rs u x w r) in
          let q = refused_first x more u r in
          record {
            all = λ a m c. rw q (⊎_elim (λ (e : a ≡ x). absurd (refused_not_sent rs u w x (rw e at c) r)) (λ n. k.all a n c) (Memᴰ.cases_cons m));
            only = λ a m. k.only a (rw q at m);
          }
