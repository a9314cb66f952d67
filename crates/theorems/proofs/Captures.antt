-- A whole capture in one call: the same as its packets one by one, and in pieces the same as at once.
use Prim.Native.Nat.{ℕ, zero, suc, ◌+◌, ◌*◌, ◌≤◌, ◌<◌}
use mathlib.Core.Path.{◌≡◌, refl, sym, ◌∙◌, ap}
use mathlib.Core.Bool.{Bool, true, false, not, cond}
use mathlib.Core.List.Memᴰ
use mathlib.Core.List.{List, [], ◌∷◌, ◌++◌}
use mathlib.Core.Logic.{⊎_elim}
use native.Mathlib.Omega.{arith}
use lib.ListN.{length, drop, length-append}
use lib.Dec.{eqb}
use borrow.Author.Tests.{ne_eqb}
use Rattle.model.specs.declared.Table.{Table}
use Rattle.model.specs.declared.Received.{Received}
use Rattle.model.specs.declared.Captured.{Captured}
use Rattle.model.specs.Packet.{bit, number16}
use Rattle.model.specs.Table.{valid}
use Rattle.model.specs.Receive.{packet_refusal, receive, refuses, answers, table_after}
use Rattle.model.specs.Fits.{BytesFit}
use Rattle.model.specs.Frames.{frames, starts_whole, first_packet, after_first, packets_in, used, rest, frame_size}
use Rattle.model.specs.Capture.{
  how_many,
  takes,
  refuses_packed,
  Capturing,
  receiving_all,
  receiving_none,
  receive_capture,
  together,
  unused,
  InPieces,
}
use Rattle.theorems.specs.Demands.{
  Call,
  packet,
  capture,
  after_call,
  table_after_calls,
  packets_of,
  handed_over,
  AsOneByOne,
  Demand3WithCaptures,
}
use Rattle.theorems.proofs.Basics.{Mem}
use Rattle.theorems.proofs.Packets.{fits_parts}
use Rattle.theorems.proofs.Receives.{packet_leaves}
use Rattle.theorems.proofs.Runs.{stays_valid}
use Rattle.theorems.proofs.Frames.{too_few, none_first, one_first, used_none, used_first, fit_after, frame_by_frame, packets_in_pieces, used_in_pieces, used_within, rest_short}
use Rattle.theorems.proofs.FirstAlone.{demand_3_in_bytes}

-- LISTS OF CALLS

pub table_after_both : (t : Table) (ps qs : List (List ℕ)) → table_after t (ps ++ qs) ≡ table_after (table_after t ps) qs
unfolding table_after
table_after_both t [] qs = refl
table_after_both t (p ∷ ps) qs = table_after_both (receive t p).table ps qs

answers_to_both : (t : Table) (ps qs : List (List ℕ)) → answers t (ps ++ qs) ≡ answers t ps ++ answers (table_after t ps) qs
unfolding answers table_after
answers_to_both t [] qs = refl
answers_to_both t (p ∷ ps) qs = ap (λ (l : List Received). (receive t p).answer ∷ l) (answers_to_both (receive t p).table ps qs)

how_many_both : (test : Received → Bool) (l m : List Received) → how_many test (l ++ m) ≡ how_many test l + how_many test m
unfolding how_many
how_many_both test [] m = omega arith
how_many_both test (a ∷ l) m = rw (how_many_both test l m) (omega arith)

valid_after : (t : Table) (ps : List (List ℕ)) → valid t ≡ true → ((p : List ℕ) → Mem p ps → BytesFit p) → valid (table_after t ps) ≡ true
unfolding table_after
valid_after t [] v f = v
valid_after t (p ∷ ps) v f = valid_after (receive t p).table ps (stays_valid t p v (f p (Memᴰ.head refl))) (λ q m. f q (Memᴰ.tail m))

-- a table that fails the tests takes nothing
refuses_invalid : (t : Table) (p : List ℕ) → valid t ≡ false → refuses (receive t p).answer ≡ true
unfolding receive packet_refusal
refuses_invalid t p bad = rw bad

invalid_stays : (t : Table) (ps : List (List ℕ)) → valid t ≡ false → table_after t ps ≡ t
unfolding table_after
invalid_stays t [] bad = refl
invalid_stays t (p ∷ ps) bad = rw (packet_leaves t p (refuses_invalid t p bad)) (invalid_stays t ps bad)

-- THE PACKETS OF A BUFFER

fit_first : (bs : List ℕ) → BytesFit bs → BytesFit (first_packet bs)
unfolding first_packet
fit_first bs f = (fits_parts (number16 bs 0) (drop 2 bs) (fits_parts 2 bs f).1).0

packets_fit : (bs : List ℕ) → BytesFit bs → (p : List ℕ) → Mem p (packets_in bs) → BytesFit p
packets_fit = frame_by_frame (λ bs. BytesFit bs → (p : List ℕ) → Mem p (packets_in bs) → BytesFit p)
    (λ bs e f. rw (none_first bs e) (λ p m. absurd (Memᴰ.not-nil m)))
    (λ bs e ih f. rw (one_first bs e) (λ p m. ⊎_elim (λ q. rw q (fit_first bs f)) (λ k. ih (fit_after bs f) p k) (Memᴰ.cases_cons m)))

-- THE CALL

pub all_if_valid : (t : Table) (bs : List ℕ) → valid t ≡ true → receive_capture t bs ≡ receiving_all t bs
unfolding receive_capture
all_if_valid t bs v = rw v

pub none_if_invalid : (t : Table) (bs : List ℕ) → valid t ≡ false → receive_capture t bs ≡ receiving_none t
unfolding receive_capture
none_if_invalid t bs bad = rw bad

-- the table is that of the packets one by one, also where 16 refuses them
pub captured_table : (t : Table) (bs : List ℕ) → (receive_capture t bs).table ≡ table_after t (packets_in bs)
unfolding receive_capture receiving_all receiving_none
captured_table t bs = go (valid t) refl
  where
    go : (b : Bool) → valid t ≡ b → (cond b (receiving_all t bs) (receiving_none t)).table ≡ table_after t (packets_in bs)
    go true e = refl
    go false e = sym (invalid_stays t (packets_in bs) e)

-- a table that passes the tests goes on passing them
pub captured_valid : (t : Table) (bs : List ℕ) → valid t ≡ true → BytesFit bs → valid (receive_capture t bs).table ≡ true
captured_valid t bs v f = rw (captured_table t bs) (valid_after t (packets_in bs) v (packets_fit bs f))

-- each packet of a whole frame is counted as taken or as refused, and a packed one as refused
counted_once : (l : List Received) → how_many takes l + how_many refuses l ≡ length l
unfolding how_many
counted_once [] = omega arith
counted_once (a ∷ l) = go (eqb a.refusal 0) (counted_once l)
  where
    go : (b : Bool) → how_many takes l + how_many refuses l ≡ length l → bit b + how_many takes l + (bit (not b) + how_many refuses l) ≡ suc (length l)
    go true ih = omega arith
    go false ih = omega arith

pub at_most_1 : (b : Bool) → bit b ≤ 1
at_most_1 true = omega arith
at_most_1 false = omega arith

pub packed_once : (n : ℕ) → bit (eqb n 17) ≤ bit (not (eqb n 0))
packed_once zero = omega arith
packed_once (suc n) = rw (ne_eqb (suc n) 0 (omega arith)) (at_most_1 (eqb (suc n) 17))

packed_refused : (l : List Received) → how_many refuses_packed l ≤ how_many refuses l
unfolding how_many
packed_refused [] = omega arith
packed_refused (a ∷ l) = omega (arith, packed_once a.refusal, packed_refused l)

length_answers : (t : Table) (ps : List (List ℕ)) → length (answers t ps) ≡ length ps
unfolding answers
length_answers t [] = refl
length_answers t (p ∷ ps) = ap suc (length_answers (receive t p).table ps)

-- a frame has two bytes at least
two_each : (ps : List (List ℕ)) → 2 * length ps ≤ length (frames ps)
unfolding frames
two_each [] = omega arith
two_each (p ∷ ps) = omega (arith, two_each ps, length-append p (frames ps))

-- so no count is larger than the bytes are many
pub record Counts (bs : List ℕ) (a : Captured) : Type 0 where
  pub each : a.taken + a.refused ≡ length (packets_in bs)
  pub few : 2 * (a.taken + a.refused) ≤ a.used
  pub among : a.packed ≤ a.refused
  pub within : a.used ≤ length bs

pub counts : (t : Table) (bs : List ℕ) → valid t ≡ true → Counts bs (receive_capture t bs).answer
unfolding receiving_all used
counts t bs v =
    let l = counted_once (answers t (packets_in bs)) ∙ length_answers t (packets_in bs) in
    rw (all_if_valid t bs v) (record { each = l; few = omega (arith, l, two_each (packets_in bs)); among = packed_refused (answers t (packets_in bs)); within = used_within bs })

pub captured_within : (t : Table) (bs : List ℕ) → (receive_capture t bs).answer.used ≤ length bs
unfolding receive_capture receiving_all receiving_none
captured_within t bs = go (valid t)
  where
    go : (b : Bool) → (cond b (receiving_all t bs) (receiving_none t)).answer.used ≤ length bs
    go true = used_within bs
    go false = omega arith

-- what is not used is less than the longest frame
pub unused_short : (t : Table) (bs : List ℕ) → valid t ≡ true → BytesFit bs → length (unused (receive_capture t bs).answer bs) < 65537
unfolding receiving_all rest
unused_short t bs v f = rw (all_if_valid t bs v) (rest_short bs f)

-- ONE FRAME AFTER ANOTHER

-- nothing is left to receive
abbrev pub nothing_more : Table → Capturing
nothing_more t = record { answer = record { refusal = 0; count = t.head.count; used = 0; taken = 0; refused = 0; packed = 0 }; table = t }

pub all_none : (t : Table) (bs : List ℕ) → starts_whole bs ≡ false → receiving_all t bs ≡ nothing_more t
unfolding receiving_all table_after answers how_many
all_none t bs e = rw (used_none bs e, none_first bs e)

-- an empty buffer: nothing is used or counted
pub of_empty : (t : Table) → valid t ≡ true → receive_capture t [] ≡ nothing_more t
of_empty t v = all_if_valid t [] v ∙ all_none t [] (too_few [] (omega arith))

-- what one frame of so many bytes adds to the counts
abbrev pub of_frame : ℕ → Received → Captured
of_frame size a = record { refusal = 0; count = a.count; used = size; taken = bit (takes a); refused = bit (refuses a); packed = bit (refuses_packed a) }

pub all_first : (t : Table) (bs : List ℕ) → starts_whole bs ≡ true
    → receiving_all t bs ≡ together (of_frame (frame_size bs) (receive t (first_packet bs)).answer) (receiving_all (receive t (first_packet bs)).table (after_first bs))
unfolding receiving_all table_after answers how_many
all_first t bs e = rw (used_first bs e, one_first bs e)

-- IN PIECES

all_in_pieces : (t : Table) (bs more : List ℕ)
    → receiving_all t (bs ++ more) ≡ together (receiving_all t bs).answer (receiving_all (receiving_all t bs).table (unused (receiving_all t bs).answer bs ++ more))
unfolding receiving_all rest
all_in_pieces t bs more =
    let ps = packets_in bs in
    let qs = packets_in (rest bs ++ more) in
    let u = table_after t ps in
    rw (packets_in_pieces bs more, used_in_pieces bs more, table_after_both t ps qs, answers_to_both t ps qs)
    (λ i. record {
      answer = record {
        refusal = 0;
        count = (table_after u qs).head.count;
        used = used bs + used (rest bs ++ more);
        taken = how_many_both takes (answers t ps) (answers u qs) i;
        refused = how_many_both refuses (answers t ps) (answers u qs) i;
        packed = how_many_both refuses_packed (answers t ps) (answers u qs) i;
      };
      table = table_after u qs;
    })

none_in_pieces : (t : Table) (bs more : List ℕ) → valid t ≡ false
    → receiving_none t ≡ together (receiving_none t).answer (receive_capture (receiving_none t).table (unused (receiving_none t).answer bs ++ more))
unfolding receiving_none receive_capture
none_in_pieces t bs more bad = rw bad

pub in_pieces : InPieces
in_pieces t bs more f = go (valid t) refl
  where
    go : (b : Bool) → valid t ≡ b
        → receive_capture t (bs ++ more)
        ≡ together (receive_capture t bs).answer (receive_capture (receive_capture t bs).table (unused (receive_capture t bs).answer bs ++ more))
    go true v =
        let w : valid (receiving_all t bs).table ≡ true = ap (λ (c : Capturing). valid c.table) (sym (all_if_valid t bs v)) ∙ captured_valid t bs v f in
        rw (all_if_valid t (bs ++ more) v, all_if_valid t bs v, all_if_valid (receiving_all t bs).table (unused (receiving_all t bs).answer bs ++ more) w)
        (all_in_pieces t bs more)
    go false bad = rw (none_if_invalid t (bs ++ more) bad, none_if_invalid t bs bad) (none_in_pieces t bs more bad)

-- CAPTURES AMONG THE CALLS

after_call_lem : (t : Table) (c : Call) → after_call t c ≡ table_after t (packets_of c)
unfolding table_after
after_call_lem t (packet p) = refl
after_call_lem t (capture bs) = captured_table t bs

pub as_one_by_one : AsOneByOne
unfolding table_after_calls handed_over table_after
as_one_by_one t [] = refl
as_one_by_one t (c ∷ cs) = as_one_by_one (after_call t c) cs ∙ ap (λ (u : Table). table_after u (handed_over cs)) (after_call_lem t c) ∙ sym (table_after_both t (packets_of c) (handed_over cs))

pub demand_3_with_captures : Demand3WithCaptures
demand_3_with_captures t es cs d = rw (as_one_by_one t cs) (demand_3_in_bytes t es (handed_over cs) d)
