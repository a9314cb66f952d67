-- DEMAND 2. Along any list of receiving calls a table that passes the tests goes on passing them, and holds what is derived
-- from the reports taken.
use Prim.Native.Nat.{ℕ}
use mathlib.Core.Path.{◌≡◌, refl, sym, ap, subst, ◌∙◌}
use mathlib.Core.Bool.{Bool, true, false, cond}
use mathlib.Core.List.Memᴰ
use mathlib.Core.List.{
  List,
  [],
  ◌∷◌,
  ◌++◌,
  map,
  append-nil,
}
use mathlib.Core.Logic.{◌⊎◌, inl, inr, ⊎_elim}
use native.Mathlib.Omega.{arith}
use lib.Dec.{eqb}
use lib.ListN.{length}
use borrow.Author.Tests.{le-ltb, ne_eqb, eqb-true}
use Rattle.model.specs.declared.Segment.{Segment}
use Rattle.model.specs.declared.Event.{Event}
use Rattle.model.specs.declared.Table.{Table}
use Rattle.refusals.specs.Refusals.{none}
use Rattle.model.specs.Segments.{Within, Derived}
use Rattle.model.specs.Table.{segments_from, valid, held, valid_segment, taking}
use Rattle.model.specs.Receive.{Arrival, heard_by, hear, arrival_in, packet_refusal, receive, refuses, table_after, arrivals}
use Rattle.model.specs.Redundant.{reports_in, whole_refusal, table_after_reports}
use Rattle.model.specs.Events.{events_of}
use Rattle.theorems.specs.Grouped.{Grouped}
use Rattle.model.specs.List.{events}
use Rattle.model.specs.Fits.{BytesFit}
use Rattle.theorems.specs.Sizes.{FitsTypes}
use Rattle.theorems.specs.Demands.{Empty, Lists, Filled, Agree, reports_taken, Demand2, Demand2AnyOrder}
use Rattle.theorems.specs.Redundancy.{
  Receipt,
  by_first,
  by_second,
  bytes_given,
  after_receipt,
  after_receipts,
  heard_at,
  taken_of,
  arrivals_of,
  heard_all,
  reports_of_calls,
  Demand2Redundant,
  Demand2RedundantAnyOrder,
}
use Rattle.theorems.proofs.Order.{rises_if}
use Rattle.theorems.proofs.Segments.{derived_put, derived_unique, is_segments_of}
use Rattle.theorems.proofs.Keeping.{attained_more}
use Rattle.theorems.proofs.Grouping.{events_of_grouped}
use Rattle.theorems.proofs.Packets.{payload_fits, payload_in_range}
use Rattle.theorems.proofs.Tables.{valid_if, held_taking, room, taking_valid}
use Rattle.theorems.proofs.Receives.{Searched, Taken, taken_then, refused_leaves, taken_unless, takes, heard_if, refused_if}
use Rattle.theorems.proofs.Reports.{reports_fit}
use Rattle.theorems.proofs.Calls.{after_all, arrivals_all, of_first, first_bytes, first_calls, first_arrivals}
use Rattle.theorems.proofs.Basics.{Mem, map_map}

-- ONE REPORT

abbrev pub PayloadFits : Arrival → Type 0
PayloadFits a = BytesFit a.payload

pub heard_valid : (t : Table) (a : Arrival) → PayloadFits a → Searched t a → valid_segment t.head.codes (heard_by t a) ≡ true
unfolding heard_by
heard_valid t a f k =
    let q = payload_in_range t.head.codes a.payload f k.payload in
    valid_if t.head.codes (heard_by t a)
    (record { offset = k.near; code = q.0; some = q.1; duration = q.2; volume = omega arith; quietest = q.3 })

pub taken_valid : (t : Table) (a : Arrival) → valid t ≡ true → PayloadFits a → Taken t a → valid (taking t (heard_by t a)) ≡ true
taken_valid t a s f k = taking_valid t (heard_by t a) s (heard_valid t a f k.searched) (room t (heard_by t a) s k.room)

pub hear_stays_valid : (t : Table) (a : Arrival) → valid t ≡ true → PayloadFits a → valid (hear t a).table ≡ true
hear_stays_valid t a v f = go (refuses (hear t a).answer) refl
  where
    go : (b : Bool) → refuses (hear t a).answer ≡ b → valid (hear t a).table ≡ true
    go true q = rw (refused_leaves t a q) v
    go false q = let n = taken_unless t a q in rw (takes t a n) (taken_valid t a v f (taken_then t a n))

pub packet_report_fits : (bs : List ℕ) → BytesFit bs → PayloadFits (arrival_in bs)
unfolding arrival_in
packet_report_fits bs f = payload_fits bs f

pub stays_valid : (t : Table) (bs : List ℕ) → valid t ≡ true → BytesFit bs → valid (receive t bs).table ≡ true
stays_valid t bs v f = go (eqb (packet_refusal t bs) none) refl
  where
    go : (b : Bool) → eqb (packet_refusal t bs) none ≡ b → valid (receive t bs).table ≡ true
    go true e = rw (heard_if t bs (eqb-true (packet_refusal t bs) none e)) (hear_stays_valid t (arrival_in bs) v (packet_report_fits bs f))
    go false e = rw (refused_if t bs e) v

-- what is heard depends on the table's origin alone
pub heard_from : (t u : Table) (a : Arrival) → u.head.origin ≡ t.head.origin → heard_by u a ≡ heard_by t a
unfolding heard_by
heard_from t u a e = rw e

-- ANY LIST OF REPORTS

pub derived_same : {rs qs l : List Segment} → Within rs qs → Within qs rs → Derived rs l → Derived qs l
derived_same f k d = record { rises = d.rises; kept = λ r m. d.kept r (k r m); attained = λ s m. attained_more f (d.attained s m) }

pub derived_none : Derived [] []
derived_none = record { rises = rises_if [] tt; kept = λ r m. absurd (Memᴰ.not-nil m); attained = λ s m. absurd (Memᴰ.not-nil m) }

-- the table reached from t, which holds what is derived from rs
pub record Reached (t : Table) (rs : List Segment) (u : Table) : Type 0 where
  pub passes : valid u ≡ true
  pub origin : u.head.origin ≡ t.head.origin
  pub derived : Derived rs (held u)

-- a report in front of the others or behind them: the same set
across : (a b : List Segment) (r : Segment) → Within (a ++ (r ∷ b)) ((r ∷ a) ++ b)
across a b r x m =
    ⊎_elim (λ k. Memᴰ.tail (Memᴰ.append_left b k))
    (λ k. ⊎_elim (λ e. Memᴰ.head e) (λ n. Memᴰ.tail (Memᴰ.append_right a n)) (Memᴰ.cases_cons k)) (Memᴰ.append_cases a m)

back : (a b : List Segment) (r : Segment) → Within ((r ∷ a) ++ b) (a ++ (r ∷ b))
back a b r x m =
    ⊎_elim (λ e. Memᴰ.append_right a (Memᴰ.head e))
    (λ k. ⊎_elim (λ n. Memᴰ.append_left (r ∷ b) n) (λ n. Memᴰ.append_right a (Memᴰ.tail n)) (Memᴰ.append_cases a k)) (Memᴰ.cases_cons m)

pub step_refused : (t u : Table) (a : Arrival) (rs : List Segment) → Reached t rs u → refuses (hear u a).answer ≡ true → Reached t rs (hear u a).table
step_refused t u a rs k e = rw (refused_leaves u a e) k

derived_taking : (u : Table) (r : Segment) (rs : List Segment) → valid u ≡ true → valid_segment u.head.codes r ≡ true → Derived rs (held u) → Derived (r ∷ rs) (held (taking u r))
derived_taking u r rs s v d = rw (held_taking u r s v) (derived_put r rs (held u) d)

pub step_taken : (t u : Table) (a : Arrival) (rs : List Segment) → Reached t rs u → PayloadFits a → refuses (hear u a).answer ≡ false
    → Reached t (heard_by t a ∷ rs) (hear u a).table
step_taken t u a rs k f e =
    let n = taken_unless u a e in
    let w = taken_then u a n in
    rw (takes u a n) (record {
      passes = taken_valid u a k.passes f w;
      origin = k.origin;
      derived = rw (← (heard_from t u a k.origin)) (derived_taking u (heard_by u a) rs k.passes (heard_valid u a f w.searched) k.derived);
    })

reports_reach : (t u : Table) (more : List Arrival) (rs : List Segment) → Reached t rs u → ((a : Arrival) → Mem a (taken_of u more) → PayloadFits a)
    → Reached t (map (heard_by t) (taken_of u more) ++ rs) (table_after_reports u more)
unfolding table_after_reports taken_of
reports_reach t u [] rs k f = k
reports_reach t u (a ∷ more) rs k f = go (refuses (hear u a).answer) refl f (reports_reach t (hear u a).table more)
  where
    later : List Arrival
    later = taken_of (hear u a).table more

    last : Table
    last = table_after_reports (hear u a).table more

    go : (b : Bool) → refuses (hear u a).answer ≡ b → ((q : Arrival) → Mem q (cond b later (a ∷ later)) → PayloadFits q)
        → ((rs : List Segment) → Reached t rs (hear u a).table → ((q : Arrival) → Mem q later → PayloadFits q) → Reached t (map (heard_by t) later ++ rs) last)
        → Reached t (map (heard_by t) (cond b later (a ∷ later)) ++ rs) last
    go true e f ih = ih rs (step_refused t u a rs k e) f
    go false e f ih =
        let w = ih (heard_by t a ∷ rs) (step_taken t u a rs k (f a (Memᴰ.head refl)) e) (λ q m. f q (Memᴰ.tail m)) in
        record {
          passes = w.passes;
          origin = w.origin;
          derived = derived_same (across (map (heard_by t) later) rs (heard_by t a)) (back (map (heard_by t) later) rs (heard_by t a)) w.derived;
        }

-- an empty table has taken nothing
pub start : (t : Table) → Empty t → Reached t [] t
unfolding segments_from
start t e = record { passes = e.passes; origin = refl; derived = rw e.empty derived_none }

pub filled : (t : Table) (more : List Arrival) → Empty t → ((a : Arrival) → Mem a (taken_of t more) → PayloadFits a)
    → Reached t (map (heard_by t) (taken_of t more)) (table_after_reports t more)
filled t more e f = rw append-nil at (reports_reach t t more [] (start t e) f)

-- ANY LIST OF CALLS

-- what is taken was looked at, in bytes that fit
taken_mem : (t : Table) (more : List Arrival) (a : Arrival) → Mem a (taken_of t more) → Mem a more
unfolding taken_of
taken_mem t [] a m = m
taken_mem t (x ∷ more) a m = go (refuses (hear t x).answer) m (taken_mem (hear t x).table more a)
  where
    later : List Arrival
    later = taken_of (hear t x).table more

    go : (b : Bool) → Mem a (cond b later (x ∷ later)) → (Mem a later → Mem a more) → Mem a (x ∷ more)
    go true m ih = Memᴰ.tail (ih m)
    go false m ih = ⊎_elim (λ e. Memᴰ.head e) (λ n. Memᴰ.tail (ih n)) (Memᴰ.cases_cons m)

heard_fits : (t : Table) (c : Receipt) → BytesFit (bytes_given c) → (a : Arrival) → Mem a (heard_at t c) → PayloadFits a
heard_fits t (by_first bs) f a m = go (eqb (packet_refusal t bs) none) m
  where
    go : (b : Bool) → Mem a (cond b (arrival_in bs ∷ []) []) → PayloadFits a
    go true m = ⊎_elim (λ (e : a ≡ arrival_in bs). rw e (packet_report_fits bs f)) (λ n. absurd (Memᴰ.not-nil n)) (Memᴰ.cases_cons m)
    go false m = absurd (Memᴰ.not-nil m)
heard_fits t (by_second bs lent) f a m = go (eqb (whole_refusal t bs (length lent)) none) m
  where
    go : (b : Bool) → Mem a (cond b (reports_in t.head bs) []) → PayloadFits a
    go true m = reports_fit t.head bs f a m
    go false m = absurd (Memᴰ.not-nil m)

all_fit : (t : Table) (cs : List Receipt) → ((p : List ℕ) → Mem p (map bytes_given cs) → BytesFit p) → (a : Arrival) → Mem a (arrivals_of t cs) → PayloadFits a
unfolding arrivals_of
all_fit t [] f a m = absurd (Memᴰ.not-nil m)
all_fit t (c ∷ cs) f a m =
    go (all_fit (after_receipt t c) cs (λ p n. f p (Memᴰ.tail n)) a) (Memᴰ.append_cases (taken_of t (heard_at t c)) m)
  where
    go : (Mem a (arrivals_of (after_receipt t c) cs) → PayloadFits a) → Mem a (taken_of t (heard_at t c)) ⊎ Mem a (arrivals_of (after_receipt t c) cs) → PayloadFits a
    go ih (inl n) = heard_fits t c (f (bytes_given c) (Memᴰ.head refl)) a (taken_mem t (heard_at t c) a n)
    go ih (inr n) = ih n

reached : (t : Table) (cs : List Receipt) → Empty t → FitsTypes t [] (map bytes_given cs) → Reached t (reports_of_calls t cs) (after_receipts t cs)
reached t cs e f = rw (after_all t cs, arrivals_all t cs) (filled t (heard_all t cs) e (λ a m. all_fit t cs f.bytes a (rw (arrivals_all t cs) m)))

-- THE LIST

pub lists_events : (t : Table) → valid t ≡ true → (vs : List Event) → events t ≡ vs → Lists t vs
lists_events t v vs e = subst (Lists t) e (record {
  listed = λ lent h. rw (v, le-ltb (length lent) (length (events t)) h);
  at = λ k h h'. rw (v, ne_eqb k 0 (λ q. omega arith), le-ltb (length (events t)) k h');
})

-- what is reached is listed
pub lists_derived : (t u : Table) (rs : List Segment) → Reached t rs u → Filled rs u
lists_derived t u rs k =
    let q = is_segments_of k.derived in
    record {
      segments = q;
      derived = k.derived;
      lists = lists_events u k.passes _ (ap events_of q);
      grouped = subst (λ l. Grouped (held u) (events_of l)) q (events_of_grouped (held u) k.derived.rises);
    }

same_set : (t u t' u' : Table) (rs qs : List Segment) → Reached t rs t' → Reached u qs u' → Within rs qs → Within qs rs → Agree t' u'
same_set t u t' u' rs qs k n w w' =
    let q = derived_unique w w' k.derived n.derived in
    record {
      segments = q;
      first = lists_events t' k.passes _ refl;
      second = lists_events u' n.passes _ (ap events_of (sym q));
    }

pub demand_2_redundant : Demand2Redundant
demand_2_redundant t cs e f = lists_derived t (after_receipts t cs) (reports_of_calls t cs) (reached t cs e f)

pub demand_2_redundant_any_order : Demand2RedundantAnyOrder
demand_2_redundant_any_order t u cs ds e e' f f' =
    same_set t u (after_receipts t cs) (after_receipts u ds) (reports_of_calls t cs) (reports_of_calls u ds) (reached t cs e f) (reached u ds e' f')

-- CALLS OF 01'S RECEIVER ALONE

pub first_reports : (t : Table) (ps : List (List ℕ)) → reports_of_calls t (of_first ps) ≡ reports_taken t ps
first_reports t ps = ap (map (heard_by t)) (first_arrivals t ps) ∙ map_map (heard_by t) arrival_in (arrivals t ps)

reached_first : (t : Table) (ps : List (List ℕ)) → Empty t → FitsTypes t [] ps → Reached t (reports_taken t ps) (table_after t ps)
reached_first t ps e f =
    let bytes : FitsTypes t [] (map bytes_given (of_first ps)) = rw (first_bytes ps) f in
    rw (← (first_reports t ps), ← (first_calls t ps)) (reached t (of_first ps) e bytes)

pub demand_2 : Demand2
demand_2 t ps e f = lists_derived t (table_after t ps) (reports_taken t ps) (reached_first t ps e f)

pub demand_2_any_order : Demand2AnyOrder
demand_2_any_order t u ps qs e e' f f' =
    same_set t u (table_after t ps) (table_after u qs) (reports_taken t ps) (reports_taken u qs) (reached_first t ps e f) (reached_first u qs e' f')
