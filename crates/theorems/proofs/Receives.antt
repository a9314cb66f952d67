-- Hearing a report, and receiving a packet: when it is taken, and what is left of the table when it is not. What is refused leaves
-- the table; what is taken is put into it.
use Prim.Native.Nat.{ℕ, ◌<◌}
use mathlib.Core.Path.{◌≡◌, refl, sym, ◌∙◌}
use mathlib.Core.Bool.{Bool, true, false, not, cond, false≢true}
use mathlib.Core.List.{List}
use lib.Dec.{leb, eqb}
use borrow.Author.Tests.{leb-false, lt-leb, eqb-true, eq-eqb, not-false}
use Rattle.model.specs.declared.Table.{Table}
use Rattle.refusals.specs.Refusals.{none}
use Rattle.model.specs.Packet.{header_refusal, payload_refusal, payload_type, ssrc}
use Rattle.model.specs.Table.{valid, no_room, taking}
use Rattle.model.specs.Receive.{
  Arrival,
  heard_by,
  offset,
  unheard,
  hear_refusal,
  probes,
  refusing,
  taken,
  hear,
  arrival_in,
  refusal_for,
  packet_refusal,
  receive,
  refuses,
}
use Rattle.refusals.proofs.Tests.{passed, both_none}

-- WHEN A REPORT IS TAKEN

-- nothing refuses it before the segments held are searched
pub record Searched (t : Table) (a : Arrival) : Type 0 where
  pub payload : payload_refusal t.head.codes a.payload ≡ none
  pub near : (heard_by t a).offset < 0x8000_0000

pub record Taken (t : Table) (a : Arrival) : Type 0 where
  pub searched : Searched t a
  pub room : no_room t (heard_by t a) ≡ false

module _ (t : Table) (a : Arrival) where
  pub searched_then : unheard t.head a ≡ none → Searched t a
  unfolding unheard heard_by
  searched_then e =
      let k = both_none (payload_refusal t.head.codes a.payload) _ e in
      record { payload = k.0; near = leb-false _ _ (passed (leb 0x8000_0000 (offset t.head.origin a.timestamp)) 9 0 k.1).0 }

  pub searched_if : Searched t a → unheard t.head a ≡ none
  unfolding unheard heard_by
  searched_if k = rw (k.payload, lt-leb 0x8000_0000 (offset t.head.origin a.timestamp) k.near)

  pub taken_then : hear_refusal t a ≡ none → Taken t a
  unfolding hear_refusal
  taken_then e =
      let k = both_none (unheard t.head a) _ e in
      record { searched = searched_then k.0; room = (passed (no_room t (heard_by t a)) 10 0 k.1).0 }

  pub taken_if : Taken t a → hear_refusal t a ≡ none
  unfolding hear_refusal
  taken_if k = rw (searched_if k.searched, k.room)

  -- WHAT IS ANSWERED

  pub answer_refusal : (hear t a).answer.refusal ≡ hear_refusal t a
  unfolding hear
  answer_refusal = go (eqb (hear_refusal t a) none) refl _ _
    where
      go : (b : Bool) → eqb (hear_refusal t a) none ≡ b → (x y : ℕ)
          → (cond b (taken t (heard_by t a) x) (refusing (hear_refusal t a) t y)).answer.refusal ≡ hear_refusal t a
      go true e x y = sym (eqb-true (hear_refusal t a) none e)
      go false e x y = refl

  pub answer_probes : (hear t a).answer.probes ≡ probes t a
  unfolding hear
  answer_probes = go (eqb (hear_refusal t a) none)
    where
      go : (b : Bool) → (cond b (taken t (heard_by t a) (probes t a)) (refusing (hear_refusal t a) t (probes t a))).answer.probes ≡ probes t a
      go true = refl
      go false = refl

  -- WHAT IS LEFT

  -- an answer refuses under the refusal's number and under no other
  pub refuses_by : refuses (hear t a).answer ≡ not (eqb (hear_refusal t a) none)
  refuses_by = rw answer_refusal

  pub refused_leaves : refuses (hear t a).answer ≡ true → (hear t a).table ≡ t
  unfolding hear
  refused_leaves h = go (eqb (hear_refusal t a) none) (sym refuses_by ∙ h) _ _
    where
      go : (b : Bool) → not b ≡ true → (x y : ℕ) → (cond b (taken t (heard_by t a) x) (refusing (hear_refusal t a) t y)).table ≡ t
      go true e x y = absurd (false≢true e)
      go false e x y = refl

  pub taken_unless : refuses (hear t a).answer ≡ false → hear_refusal t a ≡ none
  taken_unless h = eqb-true (hear_refusal t a) none (not-false (eqb (hear_refusal t a) none) (sym refuses_by ∙ h))

  pub takes : hear_refusal t a ≡ none → (hear t a).table ≡ taking t (heard_by t a)
  unfolding hear
  takes e = rw e

  pub taken_not_refused : hear_refusal t a ≡ none → refuses (hear t a).answer ≡ false
  taken_not_refused e = refuses_by ∙ rw e

-- A PACKET

-- nothing refuses it before its report is looked at
pub record Read (t : Table) (bs : List ℕ) : Type 0 where
  pub passes : valid t ≡ true
  pub header : header_refusal bs ≡ none
  pub type : payload_type bs ≡ t.head.payload_type
  pub source : ssrc bs ≡ t.head.ssrc

module _ (t : Table) (bs : List ℕ) where
  pub read_then : packet_refusal t bs ≡ none → Read t bs
  unfolding packet_refusal refusal_for
  read_then e =
      let a = passed (not (valid t)) 15 _ e in
      let b = both_none (header_refusal bs) _ a.1 in
      let c = passed (not (eqb (payload_type bs) t.head.payload_type)) 4 _ b.1 in
      let d = passed (not (eqb (ssrc bs) t.head.ssrc)) 5 0 c.1 in
      record {
        passes = not-false (valid t) a.0;
        header = b.0;
        type = eqb-true _ _ (not-false _ c.0);
        source = eqb-true _ _ (not-false _ d.0);
      }

  pub read_if : Read t bs → packet_refusal t bs ≡ none
  unfolding packet_refusal refusal_for
  read_if k =
      rw (
        k.passes,
        k.header,
        eq-eqb (payload_type bs) t.head.payload_type k.type,
        eq-eqb (ssrc bs) t.head.ssrc k.source,
      )

  -- a packet that was read is as its report; one that was not leaves the table
  pub heard_if : packet_refusal t bs ≡ none → receive t bs ≡ hear t (arrival_in bs)
  unfolding receive
  heard_if e = rw e

  pub refused_if : eqb (packet_refusal t bs) none ≡ false → receive t bs ≡ refusing (packet_refusal t bs) t 0
  unfolding receive
  refused_if e = rw e

  pub packet_leaves : refuses (receive t bs).answer ≡ true → (receive t bs).table ≡ t
  packet_leaves h = go (eqb (packet_refusal t bs) none) refl
    where
      go : (b : Bool) → eqb (packet_refusal t bs) none ≡ b → (receive t bs).table ≡ t
      go true e =
          let q = heard_if (eqb-true (packet_refusal t bs) none e) in
          (λ i. (q i).table) ∙ refused_leaves t (arrival_in bs) ((λ i. refuses (sym q i).answer) ∙ h)
      go false e = λ i. (refused_if e i).table

  -- what is not refused was read, and its report was taken
  pub packet_taken : refuses (receive t bs).answer ≡ false → (packet_refusal t bs ≡ none) × (hear_refusal t (arrival_in bs) ≡ none)
  packet_taken h = go (eqb (packet_refusal t bs) none) refl
    where
      go : (b : Bool) → eqb (packet_refusal t bs) none ≡ b → (packet_refusal t bs ≡ none) × (hear_refusal t (arrival_in bs) ≡ none)
      go true e =
          let n = eqb-true (packet_refusal t bs) none e in
          (n, taken_unless t (arrival_in bs) ((λ i. refuses (sym (heard_if n) i).answer) ∙ h))
      go false e =
          let q : not (eqb (packet_refusal t bs) none) ≡ false = (λ i. refuses (sym (refused_if e) i).answer) ∙ h in
          absurd (false≢true (sym q ∙ rw e))
