-- The receiving call (01, "The receiving table"; 02, request 4). A report is looked at only when the packet was read as far as
-- its payload (none of 1 to 4); then come 5 and 6, then 17 or 7, and 8 to 11.
use Rattle.std.specs.Prelude.{ℕ, Bool, false, not, cond, List, [], ◌∷◌, leb, eqb}
use Rattle.model.specs.declared.Segment.{Segment}
use Rattle.model.specs.declared.Head.{Head}
use Rattle.model.specs.declared.Table.{Table}
use Rattle.model.specs.declared.Received.{Received}
use Rattle.refusals.specs.Refusals.{other_payload_type, other_ssrc, offset_too_large, table_full, invalid_table, none, ◌if◌else◌, ◌or_else◌}
use Rattle.model.specs.Packet.{
  minus,
  header_refusal,
  payload_refusal,
  payload,
  payload_type,
  marker,
  timestamp,
  ssrc,
  code,
  ended,
  volume,
  duration,
}
use Rattle.model.specs.Search.{search}
use Rattle.model.specs.Table.{valid, held, holds, no_room, taking}

-- ONE REPORT

-- 01's term: a report's offset is (timestamp - origin) modulo 2^32
abbrev pub offset : ℕ → ℕ → ℕ
offset origin timestamp = minus timestamp origin

-- what a table is handed of a report: its own timestamp, whether it counts as marked, and its payload
pub record Arrival : Type 0 where
  pub timestamp : ℕ
  pub marked : Bool
  pub payload : List ℕ

-- the report, as it is heard from an origin: its one volume is both the smallest and the largest
abbrev pub heard_from : ℕ → Arrival → Segment
heard_from origin a = record {
  offset = offset origin a.timestamp;
  code = code a.payload;
  duration = duration a.payload;
  volume = volume a.payload;
  quietest = volume a.payload;
  ended = ended a.payload;
  marked = a.marked;
}

unfoldable pub heard_by : Table → Arrival → Segment
heard_by t a = heard_from t.head.origin a

-- the refusals before the segments held are searched for the report's pair, in a table with this head
unfoldable pub unheard : Head → Arrival → ℕ
unheard h a =
    payload_refusal h.codes a.payload or_else
    offset_too_large if leb 0x8000_0000 (offset h.origin a.timestamp) else
    none

-- and then the one that the search finds out
unfoldable pub hear_refusal : Table → Arrival → ℕ
hear_refusal t a =
    unheard t.head a or_else
    table_full if no_room t (heard_by t a) else
    none

-- the number of entries looked at: "Under 11 too; refused before the search: 0" (02, request 4)
unfoldable pub probes : Table → Arrival → ℕ
probes t a = cond (eqb (unheard t.head a) none) (search (heard_by t a) (held t)).probes 0

-- what the call answers, and the table after it
pub record Receiving : Type 0 where
  pub answer : Received
  pub table : Table

-- a refusal returns its number: nothing is new, and as many segments are held as before
abbrev pub refused_with : ℕ → ℕ → ℕ → Received
refused_with n count looked = record { refusal = n; is_new = false; count = count; probes = looked }

-- and the table comes back equal
abbrev pub refusing : ℕ → Table → ℕ → Receiving
refusing n t looked = record { answer = refused_with n t.head.count looked; table = t }

-- the answer to a report taken says whether its segment is new, and how many are held now
abbrev pub taken : Table → Segment → ℕ → Receiving
taken t r looked = record {
  answer = record { refusal = none; is_new = not (holds r (held t)); count = (taking t r).head.count; probes = looked };
  table = taking t r;
}

unfoldable pub hear : Table → Arrival → Receiving
hear t a =
    cond (eqb (hear_refusal t a) none)
    (taken t (heard_by t a) (probes t a))
    (refusing (hear_refusal t a) t (probes t a))

-- A PACKET

-- the report in a packet that was read as far as its payload
unfoldable pub arrival_in : List ℕ → Arrival
arrival_in bs = record { timestamp = timestamp bs; marked = marker bs; payload = payload bs }

abbrev pub heard_in : Table → List ℕ → Segment
heard_in t bs = heard_by t (arrival_in bs)

-- the refusals of a packet by its header, for a table with this head
unfoldable pub refusal_for : Head → List ℕ → ℕ
refusal_for h bs =
    header_refusal bs or_else
    other_payload_type if not (eqb (payload_type bs) h.payload_type) else
    other_ssrc if not (eqb (ssrc bs) h.ssrc) else
    none

-- all refusals before its report is looked at
unfoldable pub packet_refusal : Table → List ℕ → ℕ
packet_refusal t bs =
    invalid_table if not (valid t) else
    refusal_for t.head bs

unfoldable pub receive : Table → List ℕ → Receiving
receive t bs =
    cond (eqb (packet_refusal t bs) none)
    (hear t (arrival_in bs))
    (refusing (packet_refusal t bs) t 0)

-- does an answer refuse?
abbrev pub refuses : Received → Bool
refuses a = not (eqb a.refusal none)

-- ONE CALL AFTER ANOTHER

-- the first call gets the table, each later one the table that the call before it returned, also where that refused
unfoldable pub table_after : Table → List (List ℕ) → Table
table_after t [] = t
table_after t (p ∷ ps) = table_after (receive t p).table ps

-- what the calls answer
unfoldable pub answers : Table → List (List ℕ) → List Received
answers t [] = []
answers t (p ∷ ps) = (receive t p).answer ∷ answers (receive t p).table ps

-- the arrivals: the packets handed over, in order and with repeats, those refused left out
unfoldable pub arrivals : Table → List (List ℕ) → List (List ℕ)
arrivals t [] = []
arrivals t (p ∷ ps) =
    cond (refuses (receive t p).answer) (arrivals (receive t p).table ps) (p ∷ arrivals (receive t p).table ps)
