-- How far a capture has been received, and each way on.
use Prim.Native.Nat.{ℕ, ◌+◌, ◌-◌, ◌≤◌, ◌<◌}
use mathlib.Core.Path.{◌≡◌, refl, sym, ◌∙◌, ap}
use mathlib.Core.Bool.{Bool, true, false, not}
use mathlib.Core.List.{List}
use native.Mathlib.Omega.{arith}
use borrow.Author.Rules.{rules}
use borrow.Author.Tests.{not-true, not-false}
use lib.Dec.{eqb}
use lib.ListN.{length, take, drop}
use Rattle.model.specs.declared.Head.{Head}
use Rattle.model.specs.declared.Table.{Table}
use Rattle.model.specs.declared.Received.{Received}
use Rattle.model.specs.declared.Captured.{Captured}
use Rattle.model.specs.Packet.{bit}
use Rattle.model.specs.Table.{table_of, holding, valid}
use Rattle.model.specs.Receive.{receive, refuses}
use Rattle.model.specs.Frames.{frame_size}
use Rattle.model.specs.Capture.{Capturing, refuses_packed, receiving_all, receiving_none, receive_capture, together}
use Rattle.theorems.proofs.Captures.{all_if_valid, none_if_invalid, nothing_more, all_none, of_frame, all_first, at_most_1, packed_once}
use Rattle.receive.specs.declared.Tested.{Tested}
use Rattle.receive.specs.Receives.{in_table, SameColumns, Receives}
use Rattle.std.specs.Prelude.{Some, None}
use Rattle.framing.specs.declared.Frame.{Frame}
use Rattle.framing.specs.Frame.{frame_at}
use Rattle.framing.proofs.Laws.{WholeAt, whole_there, no_whole_there}
use Rattle.tally.specs.declared.Tally.{Tally}
use Rattle.tally.specs.Counts.{uncounted, none_yet, Room, one_more, captured}
use Rattle.capture.specs.Receives.{ReceivesAll}

-- FRAME BY FRAME
-- Together with what is left to receive, the tally so far comes to the answer to the whole buffer.

pub record Progress (t : Tested) (bs : List ℕ) (t' : Tested) (c : Tally) : Type 0 where
  pub held : t'.head ≡ holding c.count t.head
  pub lent : SameColumns t t'
  pub within : c.used ≤ length bs
  pub few : c.packets ≤ c.used
  pub among : c.refused ≤ c.packets
  pub fewer : c.packed ≤ c.refused
  pub same : together (captured c) (receiving_all (in_table t') (drop c.used bs)) ≡ receiving_all (in_table t) bs

none_before : (x : Capturing) (count : ℕ) → together (captured (none_yet count)) x ≡ x
none_before x count = λ i. record {
  answer = record {
    refusal = x.answer.refusal;
    count = x.answer.count;
    used = zero x.answer.used i;
    taken = zero x.answer.taken i;
    refused = zero x.answer.refused i;
    packed = zero x.answer.packed i;
  };
  table = x.table;
}
  where
    zero : (n : ℕ) → 0 + n ≡ n
    zero n = omega arith

none_after : (u : Table) (c : Tally) → u.head.count ≡ c.count → together (captured c) (nothing_more u) ≡ record { answer = captured c; table = u }
none_after u c n = λ i. record {
  answer = record {
    refusal = 0;
    count = n i;
    used = zero c.used i;
    taken = zero (c.packets - c.refused) i;
    refused = zero c.refused i;
    packed = zero c.packed i;
  };
  table = u;
}
  where
    zero : (n : ℕ) → n + 0 ≡ n
    zero n = omega arith

-- a frame counted with those before it, or with those after it
one_between : (x : Capturing) (c : Tally) (got : Received) (size : ℕ) → c.refused ≤ c.packets
    → together (captured (one_more c got (c.used + size))) x ≡ together (captured c) (together (of_frame size got) x)
one_between x c got size among = λ i. record {
  answer = record {
    refusal = x.answer.refusal;
    count = x.answer.count;
    used = assoc c.used size x.answer.used i;
    taken = taken (eqb got.refusal 0) i;
    refused = assoc c.refused (bit (refuses got)) x.answer.refused i;
    packed = assoc c.packed (bit (refuses_packed got)) x.answer.packed i;
  };
  table = x.table;
}
  where
    assoc : (n m k : ℕ) → n + m + k ≡ n + (m + k)
    assoc n m k = omega arith

    taken : (b : Bool) → c.packets + 1 - (c.refused + bit (not b)) + x.answer.taken ≡ c.packets - c.refused + (bit b + x.answer.taken)
    taken true = omega arith
    taken false = omega arith

module _ (t : Tested) (bs : List ℕ) where
  pub starts : (c : Tally) → c ≡ none_yet t.head.count → Progress t bs t c
  starts c e = rw e (record {
    held = refl;
    lent = record { keys = refl; heard = refl };
    within = omega arith;
    few = omega arith;
    among = omega arith;
    fewer = omega arith;
    same = none_before (receiving_all (in_table t) bs) t.head.count;
  })

module _ (t : Tested) (bs : List ℕ) (t' : Tested) (c : Tally) (w : Progress t bs t' c) where
  pub refused_among : c.refused ≤ c.packets
  refused_among = w.among

  pub used_within : c.used ≤ length bs
  used_within = w.within

  pub no_more : None ≡ frame_at bs c.used → (a : Captured) → a ≡ captured c → ReceivesAll t bs a t'
  no_more e a is =
      let u = in_table t' in
      let x : ◌≡◌ {A = Capturing} (record { answer = captured c; table = u }) (receiving_all (in_table t) bs)
      = sym (none_after u c (λ i. (w.held i).count)) ∙ ap (together (captured c)) (sym (all_none u (drop c.used bs) (no_whole_there bs c.used e))) ∙ w.same in
      let all : receive_capture (in_table t) bs ≡ receiving_all (in_table t) bs = all_if_valid (in_table t) bs t.passes in
      rw is (record { answer = λ i. ((x ∙ sym all) i).answer; table = λ i. ((x ∙ sym all) i).table; head = w.held; lent = w.lent })

  module _ (p : Frame) (e : Some p ≡ frame_at bs c.used) where
    here : WholeAt bs c.used p.start p.end
    here = whole_there bs c.used p e

    pub whole_ordered : p.start ≤ p.end
    whole_ordered = here.ordered

    pub whole_within : p.end ≤ length bs
    whole_within = here.within

    pub room_for_one : Room c p.end
    room_for_one = record { few = w.few; among = w.among; fewer = w.fewer; more = omega (arith, here.passed) }

    -- fewer bytes come after it than from its place on
    pub fewer_left : (c' : Tally) (got : Received) → c' ≡ one_more c got p.end → length bs - c'.used < length bs - c.used
    fewer_left c' got e = let u : c'.used ≡ p.end = λ i. (e i).used in omega (arith, u, here.passed, here.within)

    abbrev left : List ℕ
    left = drop c.used bs

    -- what was left to receive is this frame, and what comes after it
    next : (got : Received) (u : Table) → got ≡ (receive (in_table t') (take (p.end - p.start) (drop p.start bs))).answer
        → u ≡ (receive (in_table t') (take (p.end - p.start) (drop p.start bs))).table
        → together (of_frame (frame_size left) got) (receiving_all u (drop p.end bs)) ≡ receiving_all (in_table t') left
    next got u x y = rw (x, y, here.packet, here.after) (sym (all_first (in_table t') left here.whole))

    pub one_more_frame : (got : Received) (t'' : Tested) → Receives t' (take (p.end - p.start) (drop p.start bs)) got t''
        → (c' : Tally) → c' ≡ one_more c got p.end → Progress t bs t'' c'
    one_more_frame got t'' r c' q =
        let u = in_table t'' in
        let both : together (captured (one_more c got p.end)) (receiving_all u (drop p.end bs)) ≡ receiving_all (in_table t) bs
        = ap (λ (n : ℕ). together (captured (one_more c got n)) (receiving_all u (drop p.end bs))) here.size
        ∙ one_between (receiving_all u (drop p.end bs)) c got (frame_size left) w.among ∙ ap (together (captured c)) (next got u r.answer r.table) ∙ w.same in
        rw q (record {
          held = r.head ∙ (λ i. holding got.count (w.held i));
          lent = record { keys = r.lent.keys ∙ w.lent.keys; heard = r.lent.heard ∙ w.lent.heard };
          within = here.within;
          few = omega (arith, w.few, here.passed);
          among = omega (arith, at_most_1 (refuses got), w.among);
          fewer = omega (arith, packed_once got.refusal, w.fewer);
          same = both;
        })

-- 16

module _ (h : Head) (keys heard bs : List ℕ) (b : Bool) (is : b ≡ valid (table_of h keys heard)) where
  pub passed : not b ≡ false → valid (table_of h keys heard) ≡ true
  passed ok = sym is ∙ not-false b ok

  module _ (bad : not b ≡ true) (a : Captured) (e : a ≡ uncounted 16 h.count) where
    refused : receive_capture (table_of h keys heard) bs ≡ receiving_none (table_of h keys heard)
    refused = none_if_invalid (table_of h keys heard) bs (sym is ∙ not-true b bad)

    pub bad_table : a ≡ (receive_capture (table_of h keys heard) bs).answer
    unfolding receiving_none
    bad_table = rw (refused, e)

    pub bad_table_stays : table_of (holding a.count h) keys heard ≡ (receive_capture (table_of h keys heard) bs).table
    unfolding receiving_none
    bad_table_stays = rw (refused, e)

pub ruleset capturing = (
  rules,
  starts,
  refused_among,
  used_within,
  no_more,
  whole_ordered,
  whole_within,
  room_for_one,
  fewer_left,
  one_more_frame,
  passed,
  bad_table,
  bad_table_stays,
)
