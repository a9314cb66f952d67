-- Receiving redundant packets on both sides of each edge, computed from the definitions: what refuses a packet whole and in which order, and
-- answer, entries and columns of the call. Beside each row stands what it must be.
use Prim.Native.Nat.{ℕ, zero, suc, ◌+◌, ◌*◌}
use mathlib.Core.Path.{◌≡◌, refl}
use mathlib.Core.Bool.{Bool, true, false}
use mathlib.Core.List.{List, [], ◌∷◌, ◌++◌, map}
use lib.ListN.{replicate}
use Rattle.model.specs.declared.Table.{Table}
use Rattle.model.specs.declared.BlocksReceived.{BlocksReceived}
use Rattle.model.specs.Codes.{is_in}
use Rattle.model.specs.Packet.{after_header, payload, header_refusal, payload_refusal}
use Rattle.model.specs.Segments.{rising}
use Rattle.model.specs.Search.{middle, is_smaller, kept, searching}
use Rattle.model.specs.Table.{segments_from, all_valid, valid, holds, put}
use Rattle.model.specs.Receive.{heard_by, unheard, hear_refusal, probes, hear, arrival_in, refusal_for, packet_refusal, receive}
use Rattle.model.specs.Blocks.{older_within, older, lengths, blocks_refusal, cut_data, blocks}
use Rattle.model.specs.Redundant.{
  of_type,
  reports_in,
  refusal_for_both,
  refusal_of_both,
  whole_refusal,
  table_after_reports,
  answers_to,
  refusal_in,
  is_new_in,
  probes_in,
  receiving_each,
  receive_redundant,
}
use Rattle.model.proofs.OpeningRows.{head, zeros}

-- REFUSED WHOLE

-- twelve bytes of header with these first two bytes: sequence 1, timestamp 100, SSRC 7. 0x66 is type 102, 0xE6 the same with M, 0x65 and
-- 0xE5 are type 101.
abbrev header : ℕ → ℕ → List ℕ
header first second = first ∷ second ∷ 0 ∷ 1 ∷ 0 ∷ 0 ∷ 0 ∷ 100 ∷ 0 ∷ 0 ∷ 0 ∷ 7 ∷ []

-- key 5, volume 10, duration 400
abbrev good : List ℕ
good = 5 ∷ 10 ∷ 1 ∷ 0x90 ∷ []

-- three blocks of type 101 and one of type 0
abbrev three : List ℕ
three = (0xE5 ∷ 0 ∷ 0 ∷ 4 ∷ 0x80 ∷ 0 ∷ 0 ∷ 1 ∷ 0xE5 ∷ 0 ∷ 0 ∷ 0 ∷ 0x65 ∷ []) ++ (good ++ (9 ∷ good))

abbrev both : ℕ → Table
both ssrc = zeros (head 101 1 102 ssrc 0 0)

abbrev whole : List ((Table × List ℕ × ℕ) × ℕ)
whole =
    -- 16 before 1
    ((zeros (head 101 1 128 7 0 0), [], 0), 16)
    ∷ ((zeros (head 128 1 102 7 0 0), [], 0), 16)
    ∷ ((zeros (head 101 1 101 7 0 0), [], 0), 16)
    ∷ ((zeros (head 101 0 128 7 0 0), [], 0), 1)
    -- 1 to 4 before 5
    ∷ ((both 7, [], 0), 1)
    ∷ ((both 7, header 0x40 0x67, 0), 2)
    ∷ ((both 7, header 0x81 0x67, 0), 3)
    ∷ ((both 7, header 0xA0 0x67, 0), 4)
    -- 5 before 6 and 18: a third type; in a table of the first opening all but the event's, whatever the other field holds
    ∷ ((both 8, header 0x80 0x67, 0), 5)
    ∷ ((both 8, header 0x80 0, 0), 5)
    ∷ ((zeros (head 101 0 102 8 0 0), header 0x80 0x66, 0), 5)
    ∷ ((zeros (head 101 0 102 7 0 0), header 0x80 0xE6 ++ three, 3), 5)
    ∷ ((zeros (head 101 0 0 7 0 0), header 0x80 0 ++ three, 3), 5)
    ∷ ((zeros (head 101 0 102 7 0 0), header 0x80 0x65 ++ good, 1), 0)
    ∷ ((zeros (head 101 0 101 7 0 0), header 0x80 0x65 ++ good, 1), 0)
    -- 6 before 18 and 15
    ∷ ((both 8, header 0x80 0x66, 0), 6)
    ∷ ((both 8, header 0x80 0x65, 0), 6)
    -- 18 and 19 before 15
    ∷ ((both 7, header 0x80 0x66, 0), 18)
    ∷ ((both 7, header 0x80 0x66 ++ (0xE5 ∷ 0 ∷ 0 ∷ 0 ∷ []), 0), 18)
    ∷ ((both 7, header 0x80 0x66 ++ (0xE5 ∷ 0 ∷ 0 ∷ 1 ∷ 0x65 ∷ []), 0), 19)
    -- 15: an entry for each block of the event's type, and for no other
    ∷ ((both 7, header 0x80 0x66 ++ three, 0), 15)
    ∷ ((both 7, header 0x80 0x66 ++ three, 2), 15)
    ∷ ((both 7, header 0x80 0x66 ++ three, 3), 0)
    ∷ ((both 7, header 0x80 0x66 ++ three, 4), 0)
    ∷ ((both 7, header 0x80 0x66 ++ (0xE6 ∷ 0 ∷ 0 ∷ 1 ∷ 0 ∷ 1 ∷ []), 0), 0)
    -- a plain packet is one block, and no header of a block is looked for in it; 15 before 7
    ∷ ((both 7, header 0x80 0x65 ++ good, 0), 15)
    ∷ ((both 7, header 0x80 0x65, 0), 15)
    ∷ ((both 7, header 0x80 0x65 ++ good, 1), 0)
    ∷ ((both 7, header 0x80 0x65, 1), 0)
    ∷ ((both 7, header 0x80 0xE5 ++ (0xE5 ∷ 0 ∷ 0 ∷ 9 ∷ 0x65 ∷ []), 1), 0)
    ∷ []

pub whole_refused : map (λ row. whole_refusal row.0.0 row.0.1 row.0.2) whole ≡ map (λ row. row.1) whole
unfolding is_in whole_refusal refusal_of_both refusal_for_both reports_in of_type blocks_refusal blocks cut_data older older_within lengths
    header_refusal after_header payload arrival_in valid rising all_valid segments_from
whole_refused = refl

-- 01's receiver gives 5 for the redundant type, in a table of either opening
pub first_refuses : map (λ t. (receive t (header 0x80 0x66 ++ three)).answer.refusal) (both 7 ∷ zeros (head 101 0 102 7 0 0) ∷ []) ≡ 5 ∷ 5 ∷ []
unfolding is_in receive packet_refusal refusal_for valid rising all_valid segments_from header_refusal after_header payload
first_refuses = refl

-- THE CALL

-- Opened so that the wire's timestamps wrap 256 units after the origin; the packets' offset is 356. Of four places the first holds offset 156,
-- code 5, duration 400, volume 10.
abbrev table : Table
table = record { head = head 101 1 102 7 0xFFFF_FF00 1; keys = 0x9C05 ∷ 99 ∷ 98 ∷ 97 ∷ []; heard = 0xA28_0190 ∷ 96 ∷ 95 ∷ 94 ∷ [] }

-- the table with other columns
abbrev after : ℕ → List ℕ → List ℕ → Table
after count keys heard = record { head = head 101 1 102 7 0xFFFF_FF00 count; keys = keys; heard = heard }

abbrev answer : ℕ → ℕ → ℕ → BlocksReceived
answer blocks count refusal = record { blocks = blocks; count = count; refusal = refusal }

-- an entry: the refusal, 256 if the segment is new, 65,536 for each entry looked at
abbrev entry : ℕ → ℕ → ℕ → ℕ
entry refusal new looked = refusal + 256 * new + 65536 * looked

-- M is bit 17 of what was heard, E bit 16.
abbrev calls : List ((List ℕ × List ℕ) × (BlocksReceived × List ℕ × Table))
calls =
    -- 200 units earlier, across the wrap: known, and now with E. 100 earlier: code 16. The primary: new, with M.
    (
      (
        header 0x80 0xE6 ++ (0xE5 ∷ 0x03 ∷ 0x20 ∷ 4 ∷ 0xE5 ∷ 0x01 ∷ 0x90 ∷ 4 ∷ 0x65 ∷ 5 ∷ 0x8A ∷ 1 ∷ 0x90 ∷ 16 ∷ 10 ∷ 1 ∷ 0x90 ∷ 5 ∷ 3 ∷ 0 ∷ 40 ∷ []),
        9 ∷ 9 ∷ 9 ∷ 9 ∷ [],
      ),
      (
        answer 3 2 0,
        entry 0 0 1 ∷ entry 8 0 0 ∷ entry 0 1 1 ∷ 9 ∷ [],
        after 2 (0x9C05 ∷ 0x1_6405 ∷ 98 ∷ 97 ∷ []) (0xA29_0190 ∷ 0x30E_0028 ∷ 95 ∷ 94 ∷ []),
      ),
    )
    -- Eight bytes, none, duration 0, 357 units earlier; and 356, which is the origin itself: new, and not marked. The primary has three bytes.
    ∷ (
      (
        header 0x80 0xE6
            ++ ((0xE5 ∷ 0 ∷ 0 ∷ 8 ∷ 0xE5 ∷ 0 ∷ 0 ∷ 0 ∷ 0xE5 ∷ 0 ∷ 0 ∷ 4 ∷ 0xE5 ∷ 0x05 ∷ 0x94 ∷ 4 ∷ 0xE5 ∷ 0x05 ∷ 0x90 ∷ 4 ∷ 0x65 ∷ [])
            ++ (good ++ (good ++ ((5 ∷ 10 ∷ 0 ∷ 0 ∷ []) ++ (good ++ (good ++ (5 ∷ 10 ∷ 1 ∷ []))))))),
        replicate 6 9,
      ),
      (answer 6 2 0, 17 ∷ 7 ∷ 9 ∷ 10 ∷ entry 0 1 1 ∷ 7 ∷ [], after 2 (5 ∷ 0x9C05 ∷ 98 ∷ 97 ∷ []) (0xA28_0190 ∷ 0xA28_0190 ∷ 95 ∷ 94 ∷ [])),
    )
    -- Each on the table that the one before it left: the same report twice, new and then known, and once more as the primary, marked.
    ∷ (
      (header 0x80 0xE6 ++ ((0xE5 ∷ 0 ∷ 0 ∷ 4 ∷ 0xE5 ∷ 0 ∷ 0 ∷ 4 ∷ 0x65 ∷ []) ++ (good ++ (good ++ good))), 9 ∷ 9 ∷ 9 ∷ []),
      (
        answer 3 2 0,
        entry 0 1 1 ∷ entry 0 0 2 ∷ entry 0 0 2 ∷ [],
        after 2 (0x9C05 ∷ 0x1_6405 ∷ 98 ∷ 97 ∷ []) (0xA28_0190 ∷ 0xA2A_0190 ∷ 95 ∷ 94 ∷ []),
      ),
    )
    -- the primary is of another type: nothing is marked, though M is set
    ∷ (
      (header 0x80 0xE6 ++ ((0xE5 ∷ 0x01 ∷ 0x90 ∷ 4 ∷ 0 ∷ []) ++ (good ++ (1 ∷ 2 ∷ []))), 9 ∷ 9 ∷ []),
      (answer 1 2 0, entry 0 1 1 ∷ 9 ∷ [], after 2 (0x9C05 ∷ 0x1_0005 ∷ 98 ∷ 97 ∷ []) (0xA28_0190 ∷ 0xA28_0190 ∷ 95 ∷ 94 ∷ [])),
    )
    -- a primary without M is not marked
    ∷ (
      (header 0x80 0x66 ++ (0x65 ∷ good), 9 ∷ []),
      (answer 1 2 0, entry 0 1 1 ∷ [], after 2 (0x9C05 ∷ 0x1_6405 ∷ 98 ∷ 97 ∷ []) (0xA28_0190 ∷ 0xA28_0190 ∷ 95 ∷ 94 ∷ [])),
    )
    -- no block of the event's type; the redundant type is another one too
    ∷ ((header 0x80 0xE6 ++ ((0xE6 ∷ 0 ∷ 0 ∷ 4 ∷ 0x66 ∷ []) ++ (good ++ good)), []), (answer 0 1 0, [], table))
    -- plain packets: taken and marked; refused by their report
    ∷ (
      (header 0x80 0xE5 ++ good, 9 ∷ 9 ∷ []),
      (answer 1 2 0, entry 0 1 1 ∷ 9 ∷ [], after 2 (0x9C05 ∷ 0x1_6405 ∷ 98 ∷ 97 ∷ []) (0xA28_0190 ∷ 0xA2A_0190 ∷ 95 ∷ 94 ∷ [])),
    )
    ∷ ((header 0x80 0xE5 ++ (16 ∷ 10 ∷ 1 ∷ 0x90 ∷ []), 9 ∷ 9 ∷ []), (answer 1 1 0, 8 ∷ 9 ∷ [], table))
    ∷ ((header 0x80 0xE5, 9 ∷ 9 ∷ []), (answer 1 1 0, 7 ∷ 9 ∷ [], table))
    -- refused whole: no entry changes, and no field of the table
    ∷ ((header 0x80 0xE6 ++ (0xE5 ∷ 0 ∷ 0 ∷ 5 ∷ 0x65 ∷ good), 9 ∷ 9 ∷ []), (answer 0 1 19, 9 ∷ 9 ∷ [], table))
    ∷ ((header 0x80 0xE6 ++ ((0xE5 ∷ 0 ∷ 0 ∷ 4 ∷ 0x65 ∷ []) ++ (good ++ good)), 9 ∷ []), (answer 0 1 15, 9 ∷ [], table))
    ∷ []

pub calls_answer :
    map (λ row. (
      (receive_redundant table row.0.0 row.0.1).answer,
      (receive_redundant table row.0.0 row.0.1).entries,
      (receive_redundant table row.0.0 row.0.1).table,
    )) calls ≡ map (λ row. row.1) calls
unfolding is_in receive_redundant receiving_each answers_to table_after_reports whole_refusal refusal_of_both refusal_for_both reports_in of_type
    blocks_refusal blocks cut_data older older_within lengths hear hear_refusal unheard probes heard_by arrival_in valid rising all_valid segments_from holds
    put header_refusal after_header payload payload_refusal middle is_smaller kept searching
calls_answer = refl

-- A FULL TABLE

-- n numbers, k, k + 512, ..
abbrev keys_from : ℕ → ℕ → List ℕ
keys_from k zero = []
keys_from k (suc n) = k ∷ keys_from (k + 512) n

-- 128 segments of code 5, at offsets 1, 3, .. 255
abbrev full : Table
full = record { head = head 101 1 102 7 0 128; keys = keys_from 261 128; heard = replicate 128 0xA28_0190 }

-- Offsets 98, 99 and 100: 11 for the two that are not held, with the entries looked at, and the one between them is taken.
abbrev full_packet : List ℕ
full_packet = header 0x80 0xE6 ++ ((0xE5 ∷ 0 ∷ 8 ∷ 4 ∷ 0xE5 ∷ 0 ∷ 4 ∷ 4 ∷ 0x65 ∷ []) ++ (good ++ (good ++ good)))

pub full_entries : (receive_redundant full full_packet (9 ∷ 9 ∷ 9 ∷ [])).entries ≡ entry 11 0 7 ∷ entry 0 0 7 ∷ entry 11 0 7 ∷ []
unfolding is_in receive_redundant receiving_each answers_to table_after_reports whole_refusal refusal_of_both refusal_for_both reports_in of_type
    blocks_refusal blocks cut_data older older_within lengths hear hear_refusal unheard probes heard_by arrival_in valid rising all_valid segments_from holds
    put header_refusal after_header payload payload_refusal middle is_smaller kept searching
full_entries = refl

-- an entry, and its three parts
abbrev entries : List (ℕ × (ℕ × Bool × ℕ))
entries =
    (0, (0, false, 0))
    ∷ (256, (0, true, 0))
    ∷ (8, (8, false, 0))
    ∷ (0x1_0100, (0, true, 1))
    ∷ (0x8_0000, (0, false, 8))
    ∷ (0x8_000B, (11, false, 8))
    ∷ []

pub entries_read : map (λ row. (refusal_in row.0, is_new_in row.0, probes_in row.0)) entries ≡ map (λ row. row.1) entries
entries_read = refl
