-- What demands 2 and 3 say over both receivers (02, request 2): 01's, and the one for packets that may be redundant. The claims of
-- Demands.antt are those about calls of 01's receiver alone.
use Rattle.std.specs.Prelude.{ℕ, ◌+◌, ◌%◌, ◌≤◌, ◌≡◌, true, false, cond, ◌⊎◌, eqb, length}
use mathlib.Core.List.{List, [], ◌∷◌, ◌++◌, map, Memᴰ}
use Rattle.model.specs.declared.Segment.{Segment}
use Rattle.model.specs.declared.Table.{Table}
use Rattle.refusals.specs.Refusals.{none}
use Rattle.model.specs.Packet.{payload_bytes}
use Rattle.model.specs.Plan.{cut, reports, report_at}
use Rattle.model.specs.Segments.{Within}
use Rattle.model.specs.Receive.{Arrival, arrival_in, heard_by, hear, packet_refusal, receive, refuses}
use Rattle.model.specs.Redundant.{reports_in, whole_refusal, receive_redundant}
use Rattle.theorems.specs.Sizes.{Sent, plan_of, as_listed, Sizes, FitsTypes}
use Rattle.theorems.specs.Demands.{Empty, Lists, Filled, Agree, Handed, sent, stranger, bytes_of, Fair, FairBytes}

-- CALLS OF BOTH RECEIVERS

-- a call hands bytes to 01's receiver, or bytes and lent entries to the other
pub data Receipt : Type 0 where
  by_first : List ℕ → Receipt
  by_second : List ℕ → List ℕ → Receipt

abbrev pub bytes_given : Receipt → List ℕ
bytes_given (by_first bs) = bs
bytes_given (by_second bs lent) = bs

abbrev pub after_receipt : Table → Receipt → Table
after_receipt t (by_first bs) = (receive t bs).table
after_receipt t (by_second bs lent) = (receive_redundant t bs lent).table

unfoldable pub after_receipts : Table → List Receipt → Table
after_receipts t [] = t
after_receipts t (c ∷ cs) = after_receipts (after_receipt t c) cs

-- the reports that a call looks at: none if it refuses the packet whole, that is, before it looks at a report
abbrev pub heard_at : Table → Receipt → List Arrival
heard_at t (by_first bs) = cond (eqb (packet_refusal t bs) none) (arrival_in bs ∷ []) []
heard_at t (by_second bs lent) = cond (eqb (whole_refusal t bs (length lent)) none) (reports_in t.head bs) []

-- those taken, of reports that are looked at one after another
unfoldable pub taken_of : Table → List Arrival → List Arrival
taken_of t [] = []
taken_of t (a ∷ more) = cond (refuses (hear t a).answer) (taken_of (hear t a).table more) (a ∷ taken_of (hear t a).table more)

-- the arrivals: "the blocks taken, in order, each by its own timestamp, whether it counts as marked, and its payload"
unfoldable pub arrivals_of : Table → List Receipt → List Arrival
arrivals_of t [] = []
arrivals_of t (c ∷ cs) = taken_of t (heard_at t c) ++ arrivals_of (after_receipt t c) cs

-- DEMAND 2
-- the set of reports taken: those of packets and blocks not refused

abbrev pub reports_of_calls : Table → List Receipt → List Segment
reports_of_calls t cs = map (heard_by t) (arrivals_of t cs)

abbrev pub Demand2Redundant : Type 0
Demand2Redundant = (t : Table) (cs : List Receipt) → Empty t → FitsTypes t [] (map bytes_given cs) → Filled (reports_of_calls t cs) (after_receipts t cs)

abbrev pub Demand2RedundantAnyOrder : Type 0
Demand2RedundantAnyOrder =
    (t u : Table) (cs ds : List Receipt) → Empty t → Empty u → FitsTypes t [] (map bytes_given cs) → FitsTypes u [] (map bytes_given ds)
    → Within (reports_of_calls t cs) (reports_of_calls u ds) → Within (reports_of_calls u ds) (reports_of_calls t cs)
    → Agree (after_receipts t cs) (after_receipts u ds)

-- DEMAND 3

-- What a block of the event's type is: report k of an event, an unmarked copy of it, or something else, which is refused.
pub data Label : Type 0 where
  report : Sent → ℕ → Label
  copy : Sent → ℕ → Label
  other : Label

-- What a call is handed: to 01's receiver a sent packet or a stranger; to the other any bytes and entries, with a label for each report
-- that it looks at, in packet order.
pub data Given : Type 0 where
  first : Handed → Given
  second : List ℕ → List ℕ → List Label → Given

abbrev pub receipt_of : Table → Given → Receipt
receipt_of t (first h) = by_first (bytes_of t h)
receipt_of t (second bs lent ls) = by_second bs lent

abbrev pub receipts : Table → List Given → List Receipt
receipts t gs = map (receipt_of t) gs

-- report k of an event by its own timestamp, its marker and its payload; and the copy
unfoldable pub sent_arrival : Table → Sent → ℕ → Arrival
sent_arrival t e k = record {
  timestamp = (report_at (plan_of t e) k).timestamp;
  marked = (report_at (plan_of t e) k).marker;
  payload = payload_bytes
      (report_at (plan_of t e) k).code (report_at (plan_of t e) k).ended (report_at (plan_of t e) k).volume (report_at (plan_of t e) k).duration;
}

abbrev pub unmarked : Arrival → Arrival
unmarked a = record { timestamp = a.timestamp; marked = false; payload = a.payload }

-- report k of one of the events
abbrev pub OneOf : List Sent → Table → Sent → ℕ → Type 0
OneOf es t e k = Memᴰ e es × (1 ≤ k) × (k ≤ length (reports (plan_of t e)))

-- A label says what a report is. `t` is the table that was opened, `now` the one on which the report is judged: that which the report
-- before it left. Something else is refused there, under whichever number.
abbrev pub FairLabel : List Sent → Table → Table → Arrival → Label → Type 0
FairLabel es t now a (report e k) = OneOf es t e k × (a ≡ sent_arrival t e k)
FairLabel es t now a (copy e k) = OneOf es t e k × (a ≡ unmarked (sent_arrival t e k))
FairLabel es t now a other = refuses (hear now a).answer ≡ true

-- one label for each report
unfoldable pub FairLabels : List Sent → Table → Table → List Arrival → List Label → Type 0
FairLabels es t now [] [] = Unit {0}
FairLabels es t now [] (l ∷ ls) = ⊥
FairLabels es t now (a ∷ more) [] = ⊥
FairLabels es t now (a ∷ more) (l ∷ ls) = FairLabel es t now a l × FairLabels es t (hear now a).table more ls

-- A packet that is refused whole has no report that is looked at, so no label; also one for which too few entries are lent, so that
-- nothing is asked of the entries.
abbrev pub FairGiven : List Sent → Table → Table → Given → Type 0
FairGiven es t now (first h) = Fair es t now h
FairGiven es t now (second bs lent ls) = FairLabels es t now (heard_at now (by_second bs lent)) ls

unfoldable pub AdmittedGiven : List Sent → Table → Table → List Given → Type 0
AdmittedGiven es t now [] = Unit {0}
AdmittedGiven es t now (g ∷ gs) = FairGiven es t now g × AdmittedGiven es t (after_receipt now (receipt_of t g)) gs

-- what all calls bring
abbrev pub labels_in : Given → List Label
labels_in (first (sent e k)) = report e k ∷ []
labels_in (first (stranger b)) = other ∷ []
labels_in (second bs lent ls) = ls

unfoldable pub labels : List Given → List Label
labels [] = []
labels (g ∷ gs) = labels_in g ++ labels gs

-- report k of an event, or a copy of it, is brought
abbrev pub Brings : List Label → Sent → ℕ → Type 0
Brings ls e k = Memᴰ (report e k) ls ⊎ Memᴰ (copy e k) ls

-- Needed are the marked first report, for which no copy stands in; of each segment before the last a full report; and a report with E.
pub record NeededGiven (t : Table) (ls : List Label) (e : Sent) : Type 0 where
  pub first : Memᴰ (report e 1) ls
  pub full : (g : Segment) → Memᴰ g (cut (plan_of t e)) → g.ended ≡ false
      → (k : ℕ) × Brings ls e k × ((report_at (plan_of t e) k).timestamp ≡ ((plan_of t e).start + g.offset) % 0x1_0000_0000)
      × ((report_at (plan_of t e) k).duration ≡ g.duration)
  pub ended : (k : ℕ) × Brings ls e k × ((report_at (plan_of t e) k).ended ≡ true)

pub record DeliveredGiven (t : Table) (es : List Sent) (gs : List Given) : Type 0 where
  pub empty : Empty t
  pub sizes : Sizes t es
  pub fits : FitsTypes t es []
  pub admitted : AdmittedGiven es t t gs
  pub needed : (e : Sent) → Memᴰ e es → NeededGiven t (labels gs) e

-- after the last call the event list is exactly the events sent
abbrev pub Demand3Redundant : Type 0
Demand3Redundant =
    (t : Table) (es : List Sent) (gs : List Given) → DeliveredGiven t es gs → Lists (after_receipts t (receipts t gs)) (map as_listed es)

-- Two lists of events that differ never yield the same arrivals at tables with the same payload type, SSRC and origin.
abbrev pub Demand3RedundantCorollary : Type 0
Demand3RedundantCorollary =
    (t u : Table) (es fs : List Sent) (gs hs : List Given)
    → t.head.payload_type ≡ u.head.payload_type → t.head.ssrc ≡ u.head.ssrc → t.head.origin ≡ u.head.origin
    → DeliveredGiven t es gs → DeliveredGiven u fs hs
    → arrivals_of t (receipts t gs) ≡ arrivals_of u (receipts u hs)
    → map as_listed es ≡ map as_listed fs

-- DEMAND 3, IN BYTES
-- The same claim with no labels: each report that a call looks at is one of the events' or a copy of one, or is refused.

abbrev pub SentReport : List Sent → Table → Arrival → Type 0
SentReport es t a = (e : Sent) × (k : ℕ) × OneOf es t e k × ((a ≡ sent_arrival t e k) ⊎ (a ≡ unmarked (sent_arrival t e k)))

unfoldable pub FairReports : List Sent → Table → Table → List Arrival → Type 0
FairReports es t now [] = Unit {0}
FairReports es t now (a ∷ more) = (SentReport es t a ⊎ (refuses (hear now a).answer ≡ true)) × FairReports es t (hear now a).table more

abbrev pub FairReceipt : List Sent → Table → Table → Receipt → Type 0
FairReceipt es t now (by_first bs) = FairBytes es t now bs
FairReceipt es t now (by_second bs lent) = FairReports es t now (heard_at now (by_second bs lent))

unfoldable pub AdmittedReceipts : List Sent → Table → Table → List Receipt → Type 0
AdmittedReceipts es t now [] = Unit {0}
AdmittedReceipts es t now (c ∷ cs) = FairReceipt es t now c × AdmittedReceipts es t (after_receipt now c) cs

-- all reports that the calls look at, in order
unfoldable pub heard_all : Table → List Receipt → List Arrival
heard_all t [] = []
heard_all t (c ∷ cs) = heard_at t c ++ heard_all (after_receipt t c) cs

-- a report is brought when a call looks at it or at its copy
abbrev pub BringsReport : List Arrival → Table → Sent → ℕ → Type 0
BringsReport more t e k = (1 ≤ k) × (k ≤ length (reports (plan_of t e))) × (Memᴰ (sent_arrival t e k) more ⊎ Memᴰ (unmarked (sent_arrival t e k)) more)

pub record NeededReports (t : Table) (more : List Arrival) (e : Sent) : Type 0 where
  pub first : Memᴰ (sent_arrival t e 1) more
  pub full : (g : Segment) → Memᴰ g (cut (plan_of t e)) → g.ended ≡ false
      → (k : ℕ) × BringsReport more t e k × ((report_at (plan_of t e) k).timestamp ≡ ((plan_of t e).start + g.offset) % 0x1_0000_0000)
      × ((report_at (plan_of t e) k).duration ≡ g.duration)
  pub ended : (k : ℕ) × BringsReport more t e k × ((report_at (plan_of t e) k).ended ≡ true)

pub record DeliveredReceipts (t : Table) (es : List Sent) (cs : List Receipt) : Type 0 where
  pub empty : Empty t
  pub sizes : Sizes t es
  pub fits : FitsTypes t es []
  pub admitted : AdmittedReceipts es t t cs
  pub needed : (e : Sent) → Memᴰ e es → NeededReports t (heard_all t cs) e

abbrev pub Demand3RedundantInBytes : Type 0
Demand3RedundantInBytes = (t : Table) (es : List Sent) (cs : List Receipt) → DeliveredReceipts t es cs → Lists (after_receipts t cs) (map as_listed es)

abbrev pub Demand3RedundantInBytesCorollary : Type 0
Demand3RedundantInBytesCorollary =
    (t u : Table) (es fs : List Sent) (cs ds : List Receipt)
    → t.head.payload_type ≡ u.head.payload_type → t.head.ssrc ≡ u.head.ssrc → t.head.origin ≡ u.head.origin
    → DeliveredReceipts t es cs → DeliveredReceipts u fs ds
    → arrivals_of t cs ≡ arrivals_of u ds
    → map as_listed es ≡ map as_listed fs
