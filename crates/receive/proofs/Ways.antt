-- The receiving calls: 16, and the steps together, as laws over a head, two columns and a packet's bytes.
use Prim.Native.Nat.{ℕ, ◌≤◌, ◌<◌}
use mathlib.Core.Path.{◌≡◌, refl, sym, ◌∙◌, ap}
use mathlib.Core.Bool.{Bool, true, false, not, cond}
use mathlib.Core.List.{List}
use native.Mathlib.Omega.{arith}
use borrow.Author.Rules.{rules}
use borrow.Author.Tests.{eqb-true, not-true, not-false}
use lib.Dec.{eqb}
use Rattle.model.specs.declared.Table.{Table}
use Rattle.model.specs.declared.Head.{Head}
use Rattle.model.specs.declared.Received.{Received}
use Rattle.model.specs.Packet.{payload_refusal, code}
use Rattle.model.specs.Search.{search}
use Rattle.model.specs.Table.{key_of, heard_of, segment_of, held, table_of, holding, valid, no_room}
use Rattle.model.specs.Receive.{
  Arrival,
  heard_by,
  unheard,
  hear_refusal,
  probes,
  refused_with,
  Receiving,
  refusing,
  taken,
  hear,
  arrival_in,
  refusal_for,
  packet_refusal,
  receive,
}
use Rattle.model.specs.Fits.{BytesFit}
use Rattle.refusals.proofs.Tests.{both_none}
use Rattle.theorems.proofs.Sets.{in_below}
use Rattle.theorems.proofs.Packets.{bytes_fit, payload_in_range}
use Rattle.theorems.proofs.Numbers.{segment_back}
use Rattle.theorems.proofs.Looks.{hears_with_8, looks_at_8}
use Rattle.theorems.proofs.Entries.{hears_below_256, receives_below_256}
use Rattle.theorems.proofs.Runs.{PayloadFits, packet_report_fits, hear_stays_valid, stays_valid}
use Rattle.table.specs.Columns.{taken_into}
use Rattle.refusals.specs.Refusals.{Told, refused_by}
use Rattle.hearing.specs.declared.Heard.{Heard}
use Rattle.hearing.specs.Sayings.{arrival, nothing_heard, hearing_of}
use Rattle.receive.specs.declared.Tested.{Tested}
use Rattle.receive.specs.Steps.{hearing_in, taken_heard, TakesHeard}
use Rattle.receive.specs.Receives.{Does}
use Rattle.receive.proofs.Stepwise.{took, not_heard}

pub passed : (t : Table) (b : Bool) → b ≡ valid t → not b ≡ false → valid t ≡ true
passed t b is ok = sym is ∙ not-false b ok

-- ONE REPORT

module _ (t : Table) (a : Arrival) (fit : PayloadFits a) where
  abbrev refusal : ℕ
  refusal = unheard t.head a

  -- refused before the search
  refuses_it : eqb refusal 0 ≡ false → refusing refusal t 0 ≡ hear t a
  unfolding hear hear_refusal probes
  refuses_it z = rw (z, z)

  -- or by the table, or taken
  module _ (none : refusal ≡ 0) where
    to_the_table : hear t a ≡ taken_into t (heard_by t a)
    unfolding hear hear_refusal probes taken_into
    to_the_table = rw none (go (no_room t (heard_by t a)))
      where
        looked : ℕ
        looked = (search (heard_by t a) (held t)).probes

        go : (b : Bool) → cond (eqb (cond b 11 0) 0) (taken t (heard_by t a) looked) (refusing (cond b 11 0) t looked)
            ≡ cond b (refusing 11 t looked) (taken t (heard_by t a) looked)
        go true = refl
        go false = refl

    same_report : segment_of (key_of (heard_by t a)) (heard_of (heard_by t a)) ≡ heard_by t a
    unfolding unheard heard_by
    same_report =
        let s = t.head.codes in
        let q = payload_in_range s a.payload fit (both_none (payload_refusal s a.payload) _ none).0 in
        segment_back (heard_by t a) (in_below s (code a.payload) q.0) (omega (arith, q.2)) (omega (arith, q.3))

  -- what a report says, taken, is what the model hears
  said_and_taken : taken_heard t (hearing_of t.head a) ≡ hear t a
  unfolding hearing_of heard_by
  said_and_taken = go (eqb refusal 0) refl
    where
      go : (b : Bool) → eqb refusal 0 ≡ b → taken_heard t (hearing_of t.head a) ≡ hear t a
      go false e = rw e (refuses_it e)
      go true e = let none = eqb-true refusal 0 e in rw e (ap (taken_into t) (same_report none) ∙ sym (to_the_table none))

-- what was said, taken into columns, as the model has it
pub record Does_in (r : Receiving) (h : Head) (a : Received) (keys' heard' : List ℕ) : Type 0 where
  pub answer : a ≡ r.answer
  pub table : table_of (holding a.count h) keys' heard' ≡ r.table
  pub passes : valid (table_of (holding a.count h) keys' heard') ≡ true
  pub bounded : a.probes ≤ 8
  pub small : a.refusal < 256

does : (h : Head) (keys heard : List ℕ) (said : Told Heard) (r : Receiving) (a : Received) (keys' heard' : List ℕ)
    → taken_heard (table_of h keys heard) said ≡ r → TakesHeard h keys heard said a keys' heard'
    → valid r.table ≡ true → r.answer.probes ≤ 8 → r.answer.refusal < 256
    → Does_in r h a keys' heard'
does h keys heard said r a keys' heard' both e v few small =
    let answer : a ≡ r.answer = e.answer ∙ (λ i. (both i).answer) in
    let table : table_of (holding a.count h) keys' heard' ≡ r.table = e.table ∙ (λ i. (both i).table) in
    record { answer = answer; table = table; passes = ap valid table ∙ v; bounded = rw answer few; small = rw answer small }

module _ (h : Head) (keys heard : List ℕ) (v : valid (table_of h keys heard) ≡ true) (time : ℕ) (m : Bool) (p : List ℕ) (fit : BytesFit p) where
  pub hears_it : (said : Told Heard) → said ≡ hearing_of h (arrival time m p) → (a : Received) (keys' heard' : List ℕ)
      → TakesHeard h keys heard said a keys' heard' → Does_in (hear (table_of h keys heard) (arrival time m p)) h a keys' heard'
  hears_it said stage a keys' heard' e =
      let t = table_of h keys heard in
      does h keys heard said (hear t (arrival time m p)) a keys' heard'
      (ap (taken_heard t) stage ∙ said_and_taken t (arrival time m p) fit) e
      (hear_stays_valid t (arrival time m p) v fit) (hears_with_8 t (arrival time m p) v) (hears_below_256 t (arrival time m p))

-- A PACKET

module _ (h : Head) (keys heard bs : List ℕ) (v : valid (table_of h keys heard) ≡ true) (fit : BytesFit bs) where
  abbrev t : Table
  t = table_of h keys heard

  -- what is heard in a packet and then taken is what the model receives
  step : taken_heard t (hearing_in h bs) ≡ receive t bs
  unfolding hearing_in receive packet_refusal
  step = rw v (go (eqb (refusal_for h bs) 0))
    where
      go : (b : Bool)
          → taken_heard t (cond b (hearing_of h (arrival_in bs)) (refused_by (refusal_for h bs) nothing_heard))
          ≡ cond b (hear t (arrival_in bs)) (refusing (refusal_for h bs) t 0)
      go false = refl
      go true = said_and_taken t (arrival_in bs) (packet_report_fits bs fit)

  pub receives : (said : Told Heard) → said ≡ hearing_in h bs → (a : Received) (keys' heard' : List ℕ) → TakesHeard h keys heard said a keys' heard'
      → Does_in (receive t bs) h a keys' heard'
  receives said stage a keys' heard' e =
      does h keys heard said (receive t bs) a keys' heard' (ap (taken_heard t) stage ∙ step) e (stays_valid t bs v fit) (looks_at_8 t bs)
      (receives_below_256 t bs)

-- THE TESTS FIRST

module _ (h : Head) (keys heard bs : List ℕ) (b : Bool) (is : b ≡ valid (table_of h keys heard)) (bad : not b ≡ true) where
  untested : refusing 16 (table_of h keys heard) 0 ≡ receive (table_of h keys heard) bs
  unfolding receive packet_refusal
  untested = rw (sym is ∙ not-true b bad)

  module _ (a : Received) (e : a ≡ refused_with 16 h.count 0) where
    pub refused_first : a ≡ (receive (table_of h keys heard) bs).answer
    refused_first = e ∙ (λ i. (untested i).answer)

    pub table_stays : table_of (holding a.count h) keys heard ≡ (receive (table_of h keys heard) bs).table
    table_stays = (λ i. table_of (holding (e i).count h) keys heard) ∙ (λ i. (untested i).table)

-- THE TABLE THAT IS LENT

module _ (r : Receiving) (t : Tested) (a : Received) where
  -- the same columns, with what was done in them
  pub as_lent : (keys' heard' : List ℕ) → Does_in r t.head a keys' heard' → (t' : Tested)
      → t'.head ≡ holding a.count t.head → t'.keys.now ≡ keys' → t'.heard.now ≡ heard'
      → t'.keys.ghost_name ≡ t.keys.ghost_name → t'.heard.ghost_name ≡ t.heard.ghost_name
      → Does r t a t'
  as_lent keys' heard' d t' head keys heard k w = record {
    answer = d.answer;
    table = (λ i. table_of (head i) (keys i) (heard i)) ∙ d.table;
    head = head;
    lent = record { keys = k; heard = w };
    bounded = d.bounded;
    small = d.small;
  }

  -- nothing was done
  pub as_it_was : Does_in r t.head a t.keys.now t.heard.now → (n : ℕ) → a ≡ refused_with n t.head.count 0 → Does r t a t
  as_it_was d n e =
      as_lent t.keys.now t.heard.now d t (λ i. holding (sym e i).count t.head) refl refl refl refl

pub ruleset ways = (rules, passed, took, not_heard, bytes_fit, hears_it, receives, refused_first, table_stays)
