-- Receiving packets that may be redundant (02, request 2): "a receiver that takes each block of the event's type at timestamp minus
-- offset, in packet order, and passes over other types".
use Rattle.std.specs.Prelude.{ℕ, ◌+◌, ◌*◌, ◌/◌, ◌%◌, Bool, not, cond, ◌&&◌, ◌||◌, List, [], ◌∷◌, map, ltb, eqb, length}
use Rattle.model.specs.declared.Head.{Head}
use Rattle.model.specs.declared.Table.{Table}
use Rattle.model.specs.declared.Received.{Received}
use Rattle.model.specs.declared.BlocksReceived.{BlocksReceived}
use Rattle.refusals.specs.Refusals.{other_payload_type, other_ssrc, list_too_small, invalid_table, none, ◌if◌else◌, ◌or_else◌}
use Rattle.model.specs.Packet.{bit, minus, header_refusal, payload, payload_type, marker, timestamp, ssrc}
use Rattle.model.specs.Blocks.{Block, blocks_refusal, blocks}
use Rattle.model.specs.Table.{is_for_both, valid, place}
use Rattle.model.specs.Receive.{Arrival, arrival_in, hear}

-- THE REPORTS OF A PACKET

-- Plain is a packet of the event's type; redundant one of the other type, in a table that was opened for both.
abbrev pub is_plain : Head → List ℕ → Bool
is_plain h bs = eqb (payload_type bs) h.payload_type

abbrev pub is_redundant : Head → List ℕ → Bool
is_redundant h bs = is_for_both h && eqb (payload_type bs) h.redundant_type

-- the blocks of a type; those of other types are passed over
unfoldable pub of_type : ℕ → List Block → List Block
of_type type [] = []
of_type type (b ∷ bs) = cond (eqb b.type type) (b ∷ of_type type bs) (of_type type bs)

-- a block's report: its timestamp is the packet's less the offset, modulo 2^32, and only the primary can count as marked
abbrev pub arrival_of : List ℕ → Block → Arrival
arrival_of bs b = record {
  timestamp = minus (timestamp bs) b.offset;
  marked = marker bs && b.primary;
  payload = b.bytes;
}

-- in packet order, "a plain packet being one"
unfoldable pub reports_in : Head → List ℕ → List Arrival
reports_in h bs = cond (is_plain h bs) (arrival_in bs ∷ []) (map (arrival_of bs) (of_type h.payload_type (blocks (payload bs))))

-- REFUSED WHOLE

-- 18 and 19 of a packet that is not plain
abbrev pub carried_refusal : Head → List ℕ → ℕ
carried_refusal h bs = cond (is_plain h bs) none (blocks_refusal (payload bs))

-- by its header, for a table with this head
unfoldable pub refusal_for_both : Head → List ℕ → ℕ
refusal_for_both h bs =
    header_refusal bs or_else
    other_payload_type if not (is_plain h bs || is_redundant h bs) else
    other_ssrc if not (eqb (ssrc bs) h.ssrc) else
    none

-- and by its blocks, if so many entries are lent
unfoldable pub refusal_of_both : Head → List ℕ → ℕ → ℕ
refusal_of_both h bs room =
    refusal_for_both h bs or_else
    carried_refusal h bs or_else
    list_too_small if ltb room (length (reports_in h bs)) else
    none

unfoldable pub whole_refusal : Table → List ℕ → ℕ → ℕ
whole_refusal t bs room =
    invalid_table if not (valid t) else
    refusal_of_both t.head bs room

-- ONE REPORT AFTER ANOTHER

-- each on the table that the one before it left, also where that was refused
unfoldable pub table_after_reports : Table → List Arrival → Table
table_after_reports t [] = t
table_after_reports t (a ∷ more) = table_after_reports (hear t a).table more

unfoldable pub answers_to : Table → List Arrival → List Received
answers_to t [] = []
answers_to t (a ∷ more) = (hear t a).answer ∷ answers_to (hear t a).table more

-- An answer in one number: the refusal, 256 if the segment is new, 65,536 for each entry looked at. At most 8 are looked at and
-- refusals are below 256, so no two answers have the same number (proofs/Entries.antt).
abbrev pub entry_of : Received → ℕ
entry_of a = a.refusal + (256 * bit a.is_new + 65536 * a.probes)

-- its three parts, read from it
abbrev pub refusal_in : ℕ → ℕ
refusal_in n = n % 256

abbrev pub is_new_in : ℕ → Bool
is_new_in n = eqb (n / 256 % 2) 1

abbrev pub probes_in : ℕ → ℕ
probes_in n = n / 65536

-- THE CALL

-- what it answers, the table after it, and the lent entries after it
pub record ReceivingBlocks : Type 0 where
  pub answer : BlocksReceived
  pub table : Table
  pub entries : List ℕ

-- each report counts by itself, with its answer in an entry; the entries above stay as they are
unfoldable pub receiving_each : Table → List Arrival → List ℕ → ReceivingBlocks
receiving_each t reports entries = record {
  answer = record { blocks = length reports; count = (table_after_reports t reports).head.count; refusal = none };
  table = table_after_reports t reports;
  entries = place (map entry_of (answers_to t reports)) entries;
}

-- refused whole: no entry and no table field changes
abbrev pub refusing_whole : ℕ → Table → List ℕ → ReceivingBlocks
refusing_whole n t entries = record {
  answer = record { blocks = 0; count = t.head.count; refusal = n };
  table = t;
  entries = entries;
}

unfoldable pub receive_redundant : Table → List ℕ → List ℕ → ReceivingBlocks
receive_redundant t bs entries =
    cond (eqb (whole_refusal t bs (length entries)) none)
    (receiving_each t (reports_in t.head bs) entries)
    (refusing_whole (whole_refusal t bs (length entries)) t entries)
