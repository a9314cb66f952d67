-- A call of either receiver is as the reports that it looks at, one after another; so are many calls. Calls of 01's receiver alone
-- are as its own definition has them.
use Prim.Native.Nat.{ℕ}
use mathlib.Core.Path.{◌≡◌, refl, sym, ap, ◌∙◌}
use mathlib.Core.Bool.{Bool, true, false, cond}
use mathlib.Core.List.{List, [], ◌∷◌, ◌++◌, map}
use lib.Dec.{eqb}
use lib.ListN.{length}
use borrow.Author.Tests.{eqb-true}
use Rattle.model.specs.declared.Table.{Table}
use Rattle.refusals.specs.Refusals.{none}
use Rattle.model.specs.Receive.{Arrival, arrival_in, hear, packet_refusal, Receiving, receive, refuses, table_after, arrivals}
use Rattle.model.specs.Redundant.{reports_in, whole_refusal, table_after_reports, receiving_each, refusing_whole, receive_redundant}
use Rattle.theorems.specs.Redundancy.{
  Receipt,
  by_first,
  by_second,
  bytes_given,
  after_receipt,
  after_receipts,
  heard_at,
  taken_of,
  arrivals_of,
  heard_all,
}
use Rattle.theorems.proofs.Receives.{heard_if, refused_if}

-- REPORTS IN TWO LISTS

pub after_both : (t : Table) (xs ys : List Arrival) → table_after_reports t (xs ++ ys) ≡ table_after_reports (table_after_reports t xs) ys
unfolding table_after_reports
after_both t [] ys = refl
after_both t (x ∷ xs) ys = after_both (hear t x).table xs ys

taken_both : (t : Table) (xs ys : List Arrival) → taken_of t (xs ++ ys) ≡ taken_of t xs ++ taken_of (table_after_reports t xs) ys
unfolding table_after_reports taken_of
taken_both t [] ys = refl
taken_both t (x ∷ xs) ys = go (refuses (hear t x).answer) (taken_both (hear t x).table xs ys)
  where
    go : (b : Bool) → taken_of (hear t x).table (xs ++ ys) ≡ taken_of (hear t x).table xs ++ taken_of (table_after_reports (hear t x).table xs) ys
        → cond b (taken_of (hear t x).table (xs ++ ys)) (x ∷ taken_of (hear t x).table (xs ++ ys))
        ≡ cond b (taken_of (hear t x).table xs) (x ∷ taken_of (hear t x).table xs) ++ taken_of (table_after_reports (hear t x).table xs) ys
    go true ih = ih
    go false ih = ap (λ (l : List Arrival). x ∷ l) ih

-- ONE CALL

first_after : (t : Table) (bs : List ℕ) → (receive t bs).table ≡ table_after_reports t (heard_at t (by_first bs))
unfolding table_after_reports
first_after t bs = go (eqb (packet_refusal t bs) none) refl
  where
    go : (b : Bool) → eqb (packet_refusal t bs) none ≡ b → (receive t bs).table ≡ table_after_reports t (cond b (arrival_in bs ∷ []) [])
    go true e = λ i. (heard_if t bs (eqb-true (packet_refusal t bs) none e) i).table
    go false e = λ i. (refused_if t bs e i).table

second_after : (t : Table) (bs lent : List ℕ) → (receive_redundant t bs lent).table ≡ table_after_reports t (heard_at t (by_second bs lent))
unfolding table_after_reports receive_redundant receiving_each
second_after t bs lent = go (eqb (whole_refusal t bs (length lent)) none)
  where
    go : (b : Bool) → (cond b (receiving_each t (reports_in t.head bs) lent) (refusing_whole (whole_refusal t bs (length lent)) t lent)).table
        ≡ table_after_reports t (cond b (reports_in t.head bs) [])
    go true = refl
    go false = refl

pub after_receipt_lem : (t : Table) (c : Receipt) → after_receipt t c ≡ table_after_reports t (heard_at t c)
after_receipt_lem t (by_first bs) = first_after t bs
after_receipt_lem t (by_second bs lent) = second_after t bs lent

-- MANY CALLS

pub after_all : (t : Table) (cs : List Receipt) → after_receipts t cs ≡ table_after_reports t (heard_all t cs)
unfolding after_receipts heard_all table_after_reports
after_all t [] = refl
after_all t (c ∷ cs) =
    after_all (after_receipt t c) cs
    ∙ ap (λ (u : Table). table_after_reports u (heard_all (after_receipt t c) cs)) (after_receipt_lem t c)
    ∙ sym (after_both t (heard_at t c) (heard_all (after_receipt t c) cs))

pub arrivals_all : (t : Table) (cs : List Receipt) → arrivals_of t cs ≡ taken_of t (heard_all t cs)
unfolding arrivals_of heard_all taken_of
arrivals_all t [] = refl
arrivals_all t (c ∷ cs) =
    ap (λ (l : List Arrival). taken_of t (heard_at t c) ++ l) (arrivals_all (after_receipt t c) cs
    ∙ ap (λ (u : Table). taken_of u (heard_all (after_receipt t c) cs)) (after_receipt_lem t c))
    ∙ sym (taken_both t (heard_at t c) (heard_all (after_receipt t c) cs))

-- CALLS OF 01'S RECEIVER ALONE

abbrev pub of_first : List (List ℕ) → List Receipt
of_first ps = map by_first ps

pub first_bytes : (ps : List (List ℕ)) → map bytes_given (of_first ps) ≡ ps
first_bytes [] = refl
first_bytes (p ∷ ps) = ap (λ (l : List (List ℕ)). p ∷ l) (first_bytes ps)

pub first_calls : (t : Table) (ps : List (List ℕ)) → after_receipts t (of_first ps) ≡ table_after t ps
unfolding after_receipts table_after
first_calls t [] = refl
first_calls t (p ∷ ps) = first_calls (receive t p).table ps

-- of a packet's report, taken or not
first_taken : (t : Table) (p : List ℕ) → taken_of t (heard_at t (by_first p)) ≡ cond (refuses (receive t p).answer) [] (arrival_in p ∷ [])
unfolding taken_of
first_taken t p = go (eqb (packet_refusal t p) none) refl
  where
    after : Receiving → List Arrival
    after r = cond (refuses r.answer) [] (arrival_in p ∷ [])

    go : (b : Bool) → eqb (packet_refusal t p) none ≡ b → taken_of t (cond b (arrival_in p ∷ []) []) ≡ after (receive t p)
    go true e = ap after (sym (heard_if t p (eqb-true (packet_refusal t p) none e)))
    go false e = rw (refused_if t p e, e)

pub first_arrivals : (t : Table) (ps : List (List ℕ)) → arrivals_of t (of_first ps) ≡ map arrival_in (arrivals t ps)
unfolding arrivals_of arrivals
first_arrivals t [] = refl
first_arrivals t (p ∷ ps) = (λ i. first_taken t p i ++ first_arrivals (receive t p).table ps i) ∙ go (refuses (receive t p).answer)
  where
    more : List (List ℕ)
    more = arrivals (receive t p).table ps

    go : (b : Bool) → cond b [] (arrival_in p ∷ []) ++ map arrival_in more ≡ map arrival_in (cond b more (p ∷ more))
    go true = refl
    go false = refl
