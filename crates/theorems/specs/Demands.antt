-- What demands 2 and 3 say, as types; proofs/ has a value of each (01, "From segments to events", from "Demand 3 is a
-- single claim" on; 02, request 3). `receive`, `list`, `event_at` and `write_report` here are those that the functions' promises name.
use Rattle.std.specs.Prelude.{ℕ, ◌+◌, ◌-◌, ◌%◌, ◌≤◌, ◌≡◌, true, false, ◌⊎◌, length, get_or, take, drop, replicate}
use mathlib.Core.List.{List, [], ◌∷◌, ◌++◌, map, Memᴰ}
use Rattle.model.specs.declared.Codes.{Codes}
use Rattle.model.specs.declared.Report.{Report}
use Rattle.model.specs.declared.Segment.{Segment}
use Rattle.model.specs.declared.Table.{Table}
use Rattle.model.specs.declared.Event.{Event}
use Rattle.refusals.specs.Refusals.{none, answered}
use Rattle.model.specs.Answers.{no_event}
use Rattle.model.specs.Packet.{padded, extended, csrc_count, payload, reserved, read, write}
use Rattle.model.specs.Plan.{cut, reports, report_at, write_report}
use Rattle.model.specs.Segments.{segments_of, Derived, Within}
use Rattle.model.specs.Table.{valid, held}
use Rattle.model.specs.Receive.{heard_in, receive, refuses, table_after, arrivals}
use Rattle.model.specs.Frames.{packets_in}
use Rattle.model.specs.Capture.{receive_capture}
use Rattle.model.specs.Events.{events_of}
use Rattle.theorems.specs.Grouped.{Grouped}
use Rattle.model.specs.List.{event_at, list}
use Rattle.theorems.specs.Sizes.{Sent, plan_of, as_listed, Sizes, FitsTypes}
use Rattle.model.specs.Fits.{BytesFit, ReportFits}

-- DEMAND 2, PACKETS
-- Reading what was written gives the same fields; writing what was read gives the same bytes, for every readable packet
-- with P, X, CSRC count and R all 0. One set of codes is given to both (02, request 6).

abbrev pub ReadOfWritten : Type 0
ReadOfWritten =
    (codes : Codes) (r : Report) (output : List ℕ) → ReportFits r → (write codes r output).answer.refused ≡ false
    → read codes (take 16 (write codes r output).output) ≡ answered r

abbrev pub WrittenOfRead : Type 0
WrittenOfRead =
    (codes : Codes) (bs output : List ℕ) → BytesFit bs → (read codes bs).refused ≡ false
    → padded bs ≡ false → extended bs ≡ false → csrc_count bs ≡ 0 → reserved (payload bs) ≡ false → 16 ≤ length output
    → write codes (read codes bs).values output ≡ record { answer = answered tt; output = bs ++ drop 16 output }

-- A LIST OF RECEIVING CALLS

-- a table that holds no segments and passes the tests of 16; its places may hold anything
pub record Empty (t : Table) : Type 0 where
  pub empty : t.head.count ≡ 0
  pub passes : valid t ≡ true

-- both calls say that the events of t are vs: the list call with room for them, and the event at each number
pub record Lists (t : Table) (vs : List Event) : Type 0 where
  pub listed : (lent : List Event) → length vs ≤ length lent
      → list t lent ≡ record { answer = record { refusal = none; events = length vs }; records = vs ++ drop (length vs) lent }
  pub at : (k : ℕ) → 1 ≤ k → k ≤ length vs → event_at t k ≡ answered (get_or vs (k - 1) no_event)

-- DEMAND 2
-- A table filled by receiving calls lists exactly what 01 derives from the set of reports taken: those of the packets
-- not refused, as the reader's definition and the table's origin give them.

abbrev pub reports_taken : Table → List (List ℕ) → List Segment
reports_taken t ps = map (heard_in t) (arrivals t ps)

-- a table holds and lists exactly what is derived from these reports
pub record Filled (rs : List Segment) (t : Table) : Type 0 where
  pub segments : held t ≡ segments_of rs
  pub derived : Derived rs (held t)
  pub lists : Lists t (events_of (segments_of rs))
  pub grouped : Grouped (held t) (events_of (segments_of rs))

abbrev pub Demand2 : Type 0
Demand2 = (t : Table) (ps : List (List ℕ)) → Empty t → FitsTypes t [] ps → Filled (reports_taken t ps) (table_after t ps)

-- two tables hold the same segments, and at either both calls list the same events
pub record Agree (t u : Table) : Type 0 where
  pub segments : held t ≡ held u
  pub first : Lists t (events_of (held t))
  pub second : Lists u (events_of (held t))

-- in any order of arrival: two runs that took the same set of reports agree
abbrev pub Demand2AnyOrder : Type 0
Demand2AnyOrder =
    (t u : Table) (ps qs : List (List ℕ)) → Empty t → Empty u → FitsTypes t [] ps → FitsTypes u [] qs
    → Within (reports_taken t ps) (reports_taken u qs) → Within (reports_taken u qs) (reports_taken t ps)
    → Agree (table_after t ps) (table_after u qs)

-- DEMAND 3

-- What a call is handed: report k of an event, or a stranger, any other bytes.
pub data Handed : Type 0 where
  sent : Sent → ℕ → Handed
  stranger : List ℕ → Handed

-- the bytes: of a report, the 16 that the event's plan gives for k, with the table's set
abbrev pub bytes_of : Table → Handed → List ℕ
bytes_of t (sent e k) = (write_report t.head.codes (plan_of t e) k (replicate 16 0)).output
bytes_of t (stranger b) = b

-- Every call is handed a sent packet or a stranger, and a stranger is refused at its place in the list, under whichever
-- number. `t` is the table that was opened, `now` the one that the calls so far have left.
abbrev pub Fair : List Sent → Table → Table → Handed → Type 0
Fair es t now (sent e k) = Memᴰ e es × (1 ≤ k) × (k ≤ length (reports (plan_of t e)))
Fair es t now (stranger b) = refuses (receive now b).answer ≡ true

unfoldable pub Admitted : List Sent → Table → Table → List Handed → Type 0
Admitted es t now [] = Unit {0}
Admitted es t now (h ∷ hs) = Fair es t now h × Admitted es t (receive now (bytes_of t h)).table hs

-- A report arrives when a call is handed its packet. Needed are the marked first report; of each segment before the
-- last one of its reports whose duration is the segment's length; and a report with E. One may meet two of these.
pub record Needed (t : Table) (hs : List Handed) (e : Sent) : Type 0 where
  pub first : Memᴰ (sent e 1) hs
  pub full : (g : Segment) → Memᴰ g (cut (plan_of t e)) → g.ended ≡ false
      → (k : ℕ) × Memᴰ (sent e k) hs × ((report_at (plan_of t e) k).timestamp ≡ ((plan_of t e).start + g.offset) % 0x1_0000_0000)
      × ((report_at (plan_of t e) k).duration ≡ g.duration)
  pub ended : (k : ℕ) × Memᴰ (sent e k) hs × ((report_at (plan_of t e) k).ended ≡ true)

-- all that is asked of a table, a list of events and a list of calls
pub record Delivered (t : Table) (es : List Sent) (hs : List Handed) : Type 0 where
  pub empty : Empty t
  pub sizes : Sizes t es
  pub fits : FitsTypes t es []
  pub admitted : Admitted es t t hs
  pub needed : (e : Sent) → Memᴰ e es → Needed t hs e

abbrev pub packets : Table → List Handed → List (List ℕ)
packets t hs = map (bytes_of t) hs

-- after the last call the event list is exactly the events sent
abbrev pub Demand3 : Type 0
Demand3 = (t : Table) (es : List Sent) (hs : List Handed) → Delivered t es hs → Lists (table_after t (packets t hs)) (map as_listed es)

-- Two lists of events that differ never yield the same arrivals at tables with the same payload type, SSRC and origin.
abbrev pub Demand3Corollary : Type 0
Demand3Corollary =
    (t u : Table) (es fs : List Sent) (hs ks : List Handed)
    → t.head.payload_type ≡ u.head.payload_type → t.head.ssrc ≡ u.head.ssrc → t.head.origin ≡ u.head.origin
    → Delivered t es hs → Delivered u fs ks
    → arrivals t (packets t hs) ≡ arrivals u (packets u ks)
    → map as_listed es ≡ map as_listed fs

-- DEMAND 3, IN BYTES
-- The same claim with no labels: a call is handed a string of bytes, and a report has arrived if its bytes are among them.

-- an event's sent packets are the 16 bytes that its plan gives for each k
abbrev pub packet_at : Table → Sent → ℕ → List ℕ
packet_at t e k = bytes_of t (sent e k)

-- p is the packet of a report of one of the events
abbrev pub SentPacket : List Sent → Table → List ℕ → Type 0
SentPacket es t p = (e : Sent) × (k : ℕ) × Memᴰ e es × (1 ≤ k) × (k ≤ length (reports (plan_of t e))) × (p ≡ packet_at t e k)

-- Every call is handed a sent packet or a stranger: bytes that the call refuses at that place in the list, under whichever
-- number. `t` is the table that was opened, `now` the one that the calls so far have left.
abbrev pub FairBytes : List Sent → Table → Table → List ℕ → Type 0
FairBytes es t now p = SentPacket es t p ⊎ (refuses (receive now p).answer ≡ true)

unfoldable pub AdmittedBytes : List Sent → Table → Table → List (List ℕ) → Type 0
AdmittedBytes es t now [] = Unit {0}
AdmittedBytes es t now (p ∷ ps) = FairBytes es t now p × AdmittedBytes es t (receive now p).table ps

-- a report arrives when a call is handed its packet
pub record ArrivesBytes (t : Table) (ps : List (List ℕ)) (e : Sent) (k : ℕ) : Type 0 where
  pub low : 1 ≤ k
  pub high : k ≤ length (reports (plan_of t e))
  pub packet : Memᴰ (packet_at t e k) ps

-- Needed are the marked first report, which is report 1; of each segment before the last a full report, one of that
-- segment's reports whose duration is the segment's length; and a report with E. One report may meet two of these needs.
pub record NeededBytes (t : Table) (ps : List (List ℕ)) (e : Sent) : Type 0 where
  pub first : Memᴰ (packet_at t e 1) ps
  pub full : (g : Segment) → Memᴰ g (cut (plan_of t e)) → g.ended ≡ false
      → (k : ℕ) × ArrivesBytes t ps e k × ((report_at (plan_of t e) k).timestamp ≡ ((plan_of t e).start + g.offset) % 0x1_0000_0000)
      × ((report_at (plan_of t e) k).duration ≡ g.duration)
  pub ended : (k : ℕ) × ArrivesBytes t ps e k × ((report_at (plan_of t e) k).ended ≡ true)

-- all that is asked of a table, a list of events and a list of byte strings handed over
pub record DeliveredBytes (t : Table) (es : List Sent) (ps : List (List ℕ)) : Type 0 where
  pub empty : Empty t
  pub sizes : Sizes t es
  pub fits : FitsTypes t es []
  pub admitted : AdmittedBytes es t t ps
  pub needed : (e : Sent) → Memᴰ e es → NeededBytes t ps e

-- after the last call the event list is exactly the events sent
abbrev pub Demand3InBytes : Type 0
Demand3InBytes = (t : Table) (es : List Sent) (ps : List (List ℕ)) → DeliveredBytes t es ps → Lists (table_after t ps) (map as_listed es)

-- if the arrivals are the same, the two lists agree
abbrev pub Demand3InBytesCorollary : Type 0
Demand3InBytesCorollary =
    (t u : Table) (es fs : List Sent) (ps qs : List (List ℕ))
    → t.head.payload_type ≡ u.head.payload_type → t.head.ssrc ≡ u.head.ssrc → t.head.origin ≡ u.head.origin
    → DeliveredBytes t es ps → DeliveredBytes u fs qs
    → arrivals t ps ≡ arrivals u qs
    → map as_listed es ≡ map as_listed fs

-- CAPTURES AMONG THE CALLS (02, request 5)

-- a call is handed a packet or a whole capture
pub data Call : Type 0 where
  packet : List ℕ → Call
  capture : List ℕ → Call

abbrev pub after_call : Table → Call → Table
after_call t (packet p) = (receive t p).table
after_call t (capture bs) = (receive_capture t bs).table

unfoldable pub table_after_calls : Table → List Call → Table
table_after_calls t [] = t
table_after_calls t (c ∷ cs) = table_after_calls (after_call t c) cs

-- the packets that are handed over: of a capture those of its whole frames
abbrev pub packets_of : Call → List (List ℕ)
packets_of (packet p) = p ∷ []
packets_of (capture bs) = packets_in bs

unfoldable pub handed_over : List Call → List (List ℕ)
handed_over [] = []
handed_over (c ∷ cs) = packets_of c ++ handed_over cs

-- a capture is as good as its packets one by one, so every claim about lists of receiving calls holds of such calls too
abbrev pub AsOneByOne : Type 0
AsOneByOne = (t : Table) (cs : List Call) → table_after_calls t cs ≡ table_after t (handed_over cs)

abbrev pub Demand3WithCaptures : Type 0
Demand3WithCaptures =
    (t : Table) (es : List Sent) (cs : List Call) → DeliveredBytes t es (handed_over cs) → Lists (table_after_calls t cs) (map as_listed es)
