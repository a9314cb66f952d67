-- A written redundant packet: its header is refused nowhere and its payload carries the blocks given, so the walker hands them out and
-- the receiver takes their reports.
use Prim.Native.Nat.{ℕ, zero, suc, ◌+◌, ◌-◌, ◌*◌, ◌%◌, ◌≤◌, ◌<◌}
use mathlib.Core.Path.{◌≡◌, refl, sym, ◌∙◌, ap, subst}
use mathlib.Core.Logic.{⊎_elim}
use mathlib.Core.Bool.{Bool, true, false, not, ◌&&◌}
use mathlib.Core.List.Memᴰ
use mathlib.Core.List.{
  List,
  [],
  ◌∷◌,
  ◌++◌,
  map,
}
use native.Mathlib.Omega.{arith}
use borrow.Author.Tests.{leb-true, le-ltb, eq-eqb, ne_eqb, eqb-false, not-true, not-false}
use lib.Dec.{leb, eqb}
use lib.ListN.{length, drop, length-append, length-map}
use lib.Seq.{take_at}
use Rattle.model.specs.declared.Codes.{Codes}
use Rattle.model.specs.declared.Report.{Report}
use Rattle.model.specs.declared.OlderReport.{OlderReport}
use Rattle.model.specs.declared.Head.{Head}
use Rattle.model.specs.declared.Table.{Table}
use Rattle.model.specs.Codes.{is_in}
use Rattle.refusals.specs.Refusals.{none}
use Rattle.model.specs.Packet.{
  marker,
  payload_type,
  timestamp,
  ssrc,
  after_header,
  payload,
  header_refusal,
  payload_refusal,
  header_bytes,
  payload_bytes,
  report_in_range,
}
use Rattle.model.specs.Blocks.{Block, blocks, blocks_refusal, laid_out, headers_of, data_of, OlderFits, Carries}
use Rattle.model.specs.Table.{is_for_both, types_differ, valid}
use Rattle.model.specs.Receive.{Arrival}
use Rattle.model.specs.Walk.{walk_refusal, walk_start, HandsOut}
use Rattle.model.specs.Redundant.{of_type, arrival_of, reports_in, refusal_for_both, refusal_of_both, whole_refusal}
use Rattle.model.specs.WriteRedundant.{
  offset_before,
  older_written,
  primary_written,
  blocks_written,
  redundant_packet_of,
  older_given,
  older_in_range,
  all_older_in_range,
  redundant_in_range,
  write_redundant_refusal,
  write_redundant,
}
use Rattle.theorems.specs.WrittenRedundant.{
  Writable,
  OlderReportsFit,
  PacketOfCall,
  WalkedAsWritten,
  older_arrival,
  report_arrival,
  arrivals_written,
  IsReceivedAsWritten,
}
use Rattle.model.specs.Fits.{ReportFits}
use Rattle.refusals.proofs.Tests.{and_then, passed, not_refused}
use Rattle.theorems.proofs.Basics.{Mem, map_mem}
use Rattle.theorems.proofs.Packets.{number32_back, flag_back, ranges, payload_passes, plain_payload}
use Rattle.theorems.proofs.Sets.{in_below}
use Rattle.theorems.proofs.Blocks.{carries_then}
use Rattle.theorems.proofs.Walks.{walks}

-- RANGES

pub record OlderRanges (codes : Codes) (r : Report) (o : OlderReport) : Type 0 where
  pub code : is_in codes o.code ≡ true
  pub byte : o.code < 256
  pub volume : o.volume ≤ 63
  pub some : 1 ≤ o.duration
  pub most : o.duration ≤ 65535
  pub offset : offset_before r o ≤ 16383

pub older_ranges : (codes : Codes) (r : Report) (o : OlderReport) → older_in_range codes r o ≡ true → OlderRanges codes r o
older_ranges codes r o h =
    let a = and_then _ _ h in
    let b = and_then _ _ a.1 in
    let c = and_then _ _ b.1 in
    let d = and_then _ _ c.0 in
    record {
      code = a.0;
      byte = in_below codes o.code a.0;
      volume = leb-true _ _ b.0;
      some = leb-true _ _ d.0;
      most = leb-true _ _ d.1;
      offset = leb-true _ _ c.1;
    }

each_older : (codes : Codes) (r : Report) (os : List OlderReport) → all_older_in_range codes r os ≡ true → (o : OlderReport) → Mem o os
    → OlderRanges codes r o
unfolding all_older_in_range
each_older codes r [] h o m = absurd (Memᴰ.not-nil m)
each_older codes r (x ∷ os) h o m =
    let k = and_then (older_in_range codes r x) (all_older_in_range codes r os) h in
    ⊎_elim (λ (e : o ≡ x). rw e (older_ranges codes r x k.0)) (each_older codes r os k.1 o) (Memᴰ.cases_cons m)

-- THE HEADER
-- of any payload: version, P, X and CSRC count are written as constants

module _ (r : Report) (type : ℕ) (p : List ℕ) where
  pub written_header : header_refusal (header_bytes r type ++ p) ≡ none
  unfolding header_refusal after_header
  written_header = rw (le-ltb (length (header_bytes r type ++ p)) 12 (omega arith)) refl

  pub written_payload : payload (header_bytes r type ++ p) ≡ p
  written_payload = plain_payload (header_bytes r type ++ p) refl refl refl

  module _ (h : type ≤ 127) where
    pub written_type : payload_type (header_bytes r type ++ p) ≡ type
    written_type = omega arith

    pub written_marker : marker (header_bytes r type ++ p) ≡ r.marker
    written_marker = flag_back r.marker type (omega arith)

  module _ (f : ReportFits r) where
    pub written_timestamp : timestamp (header_bytes r type ++ p) ≡ r.timestamp
    written_timestamp = number32_back r.timestamp f.timestamp

    pub written_ssrc : ssrc (header_bytes r type ++ p) ≡ r.ssrc
    written_ssrc = number32_back r.ssrc f.ssrc

-- THE REPORTS

-- all blocks are of the event's type
all_of_type : (r : Report) (os : List OlderReport) → of_type r.payload_type (blocks_written r os) ≡ blocks_written r os
unfolding of_type
all_of_type r [] = rw (eq-eqb r.payload_type r.payload_type refl) refl
all_of_type r (o ∷ os) =
    rw (eq-eqb r.payload_type r.payload_type refl) (ap (λ (l : List Block). older_written r o ∷ l) (all_of_type r os))

-- a timestamp less how much earlier another one is, is that one
own_timestamp : (a b : ℕ) → a < 0x1_0000_0000 → b < 0x1_0000_0000
    → (a + 0x1_0000_0000 - (a + 0x1_0000_0000 - b) % 0x1_0000_0000) % 0x1_0000_0000 ≡ b
own_timestamp a b h k = omega arith

same_timestamp : (a : ℕ) → a < 0x1_0000_0000 → (a + 0x1_0000_0000 - 0) % 0x1_0000_0000 ≡ a
same_timestamp a h = omega arith

and-false : (m : Bool) → (m && false) ≡ false
and-false true = refl
and-false false = refl

and-true : (m : Bool) → (m && true) ≡ m
and-true true = refl
and-true false = refl

-- in a packet with the report's timestamp and marker
module _ (r : Report) (bs : List ℕ) (t : timestamp bs ≡ r.timestamp) (m : marker bs ≡ r.marker) (f : ReportFits r) where
  older_arrives : (o : OlderReport) → o.timestamp < 0x1_0000_0000 → arrival_of bs (older_written r o) ≡ older_arrival o
  older_arrives o h =
      let own = own_timestamp r.timestamp o.timestamp f.timestamp h in
      let bare = and-false r.marker in
      rw (t, m) (λ i. record {
        timestamp = own i;
        marked = bare i;
        payload = payload_bytes o.code o.ended o.volume o.duration;
      })

  report_arrives : arrival_of bs (primary_written r) ≡ report_arrival r
  report_arrives =
      let own = same_timestamp r.timestamp f.timestamp in
      let whole = and-true r.marker in
      rw (t, m) (λ i. record {
        timestamp = own i;
        marked = whole i;
        payload = payload_bytes r.code r.ended r.volume r.duration;
      })

  all_arrive : (os : List OlderReport) → ((o : OlderReport) → Mem o os → o.timestamp < 0x1_0000_0000)
      → map (arrival_of bs) (blocks_written r os) ≡ arrivals_written r os
  all_arrive [] h = ap (λ (a : Arrival). a ∷ []) report_arrives
  all_arrive (o ∷ os) h =
      let one = older_arrives o (h o (Memᴰ.head refl)) in
      let more = all_arrive os (λ x n. h x (Memᴰ.tail n)) in
      λ i. one i ∷ more i

-- THE PACKET

module _ (codes : Codes) (r : Report) (type : ℕ) (os : List OlderReport) (w : Writable codes r type os) where
  abbrev packet : List ℕ
  packet = redundant_packet_of r type os

  abbrev carried : List ℕ
  carried = laid_out (map (older_written r) os) (primary_written r)

  event_type : r.payload_type ≤ 127
  event_type = (ranges codes r w.report).type

  pub packet_type : type ≤ 127
  packet_type =
      let k = and_then (leb r.payload_type 127) _ w.types in
      leb-true type 127 (and_then (leb type 127) _ k.1).0

  types_apart : eqb type r.payload_type ≡ false
  types_apart =
      let k = and_then (leb r.payload_type 127) _ w.types in
      let n = not-true (eqb r.payload_type type) (and_then (leb type 127) _ k.1).1 in
      ne_eqb type r.payload_type (λ e. eqb-false r.payload_type type n (sym e))

  header_unrefused : header_refusal packet ≡ none
  unfolding redundant_packet_of
  header_unrefused = written_header r type carried

  older_fits : (b : Block) → Mem b (map (older_written r) os) → OlderFits b
  older_fits b m =
      let k = map_mem (older_written r) os b m in
      let g = each_older codes r os w.older k.0 k.1 in
      rw k.2 (record { type = omega (arith, event_type); offset = omega (arith, g.offset); length = omega arith; older = refl })

  packet_carries : Carries (payload packet) (map (older_written r) os) (primary_written r)
  unfolding redundant_packet_of
  packet_carries = record { laid = written_payload r type carried; fit = older_fits; type = omega (arith, event_type); primary = refl }

  blocks_unrefused : blocks_refusal (payload packet) ≡ none
  blocks_unrefused = (carries_then (payload packet) (map (older_written r) os) (primary_written r) packet_carries).0

  packet_blocks : blocks (payload packet) ≡ blocks_written r os
  packet_blocks = (carries_then (payload packet) (map (older_written r) os) (primary_written r) packet_carries).1

  -- the walker
  walk_starts : (walk_start packet).refusal ≡ none
  unfolding walk_start walk_refusal
  walk_starts = rw (header_unrefused, blocks_unrefused) refl

  walk_hands_out : HandsOut packet (walk_start packet).cursor (blocks_written r os)
  walk_hands_out = subst (HandsOut packet (walk_start packet).cursor) packet_blocks (walks packet walk_starts)

  -- the receiver
  payloads_heard : (a : Arrival) → Mem a (arrivals_written r os) → payload_refusal codes a.payload ≡ none
  payloads_heard a m =
      ⊎_elim older_one (λ k. ⊎_elim last_one (λ n. absurd (Memᴰ.not-nil n)) (Memᴰ.cases_cons k))
      (Memᴰ.append_cases (map older_arrival os) m)
    where
      older_one : Mem a (map older_arrival os) → payload_refusal codes a.payload ≡ none
      older_one k =
          let g = map_mem older_arrival os a k in
          let o = g.0 in
          let q = each_older codes r os w.older o g.1 in
          rw g.2 (payload_passes codes o.code o.ended o.volume o.duration q.code q.some q.most)

      last_one : a ≡ report_arrival r → payload_refusal codes a.payload ≡ none
      last_one e =
          let q = ranges codes r w.report in
          rw e (payload_passes codes r.code r.ended r.volume r.duration q.code q.some q.most)

  module _ (h : Head) (f : OlderReportsFit r os)
      (event : h.payload_type ≡ r.payload_type) (both : is_for_both h ≡ true) (other : h.redundant_type ≡ type) where
    is_type : payload_type packet ≡ type
    unfolding redundant_packet_of
    is_type = written_type r type carried packet_type

    is_ssrc : ssrc packet ≡ r.ssrc
    unfolding redundant_packet_of
    is_ssrc = written_ssrc r type carried f.report

    arrive : map (arrival_of packet) (blocks_written r os) ≡ arrivals_written r os
    unfolding redundant_packet_of
    arrive =
        all_arrive r packet (written_timestamp r type carried f.report) (written_marker r type carried packet_type)
        f.report os f.older

    packet_reports : reports_in h packet ≡ arrivals_written r os
    unfolding reports_in
    packet_reports = rw (is_type, event, types_apart, packet_blocks, all_of_type r os) arrive

    many : length (arrivals_written r os) ≡ length os + 1
    many = length-append (map older_arrival os) (report_arrival r ∷ []) ∙ ap (λ (n : ℕ). n + 1) (length-map os older_arrival)

    whole_unrefused : (t : Table) (room : ℕ) → t.head ≡ h → valid t ≡ true → h.ssrc ≡ r.ssrc → length os + 1 ≤ room
        → whole_refusal t packet room ≡ none
    unfolding whole_refusal refusal_of_both refusal_for_both
    whole_unrefused t room is passes source enough =
        let same_type = eq-eqb type type refl in
        let same_ssrc = eq-eqb r.ssrc r.ssrc refl in
        let fits = le-ltb room (length os + 1) enough in
        rw (
          passes,
          header_unrefused,
          is,
          packet_reports,
          is_type,
          is_ssrc,
          source,
          event,
          both,
          other,
          types_apart,
          same_type,
          same_ssrc,
          blocks_unrefused,
          many,
          fits,
        )
        refl

pub walked_as_written : WalkedAsWritten
walked_as_written codes r type os w = (walk_starts codes r type os w, walk_hands_out codes r type os w)

pub received_as_written : IsReceivedAsWritten
received_as_written r type os h w f event both other = record {
  reports = packet_reports h.codes r type os w h f event both other;
  payloads = payloads_heard h.codes r type os w;
  whole = whole_unrefused h.codes r type os w h f event both other;
}

-- THE CALL

headers_length : (r : Report) (os : List OlderReport) → length (headers_of (map (older_written r) os)) ≡ 4 * length os
unfolding headers_of
headers_length r [] = refl
headers_length r (o ∷ os) = omega (arith, headers_length r os)

data_length : (r : Report) (os : List OlderReport) → length (data_of (map (older_written r) os)) ≡ 4 * length os
unfolding data_of
data_length r [] = refl
data_length r (o ∷ os) = omega (arith, data_length r os)

pub packet_length : (r : Report) (type : ℕ) (os : List OlderReport) → length (redundant_packet_of r type os) ≡ 17 + 8 * length os
unfolding redundant_packet_of
packet_length r type os =
    let behind = data_of (map (older_written r) os) ++ (primary_written r).bytes in
    omega (
      arith,
      headers_length r os,
      data_length r os,
      length-append (headers_of (map (older_written r) os)) (r.payload_type ∷ behind),
      length-append (data_of (map (older_written r) os)) (primary_written r).bytes,
    )

given_length : (count : ℕ) (first second : OlderReport) → count ≤ 2 → length (older_given count first second) ≡ count
given_length zero first second h = refl
given_length (suc zero) first second h = refl
given_length (suc (suc zero)) first second h = refl
given_length (suc (suc (suc n))) first second h = absurd (omega arith)

pub bytes_length : (r : Report) (type count : ℕ) (first second : OlderReport) → count ≤ 2
    → length (redundant_packet_of r type (older_given count first second)) ≡ 17 + 8 * count
bytes_length r type count first second h =
    packet_length r type (older_given count first second) ∙ ap (λ (n : ℕ). 17 + 8 * n) (given_length count first second h)

-- what the test of all numbers says
pub record Tested (codes : Codes) (r : Report) (type count : ℕ) (first second : OlderReport) : Type 0 where
  pub writable : Writable codes r type (older_given count first second)
  pub few : count ≤ 2

pub tested : (codes : Codes) (r : Report) (type count : ℕ) (first second : OlderReport) → redundant_in_range codes r type count first second ≡ true
    → Tested codes r type count first second
tested codes r type count first second h =
    let a = and_then (report_in_range codes r) _ h in
    let b = and_then (types_differ r.payload_type type) _ a.1 in
    let c = and_then (leb count 2) _ b.1 in
    record { writable = record { report = a.0; types = b.0; older = c.1 }; few = leb-true count 2 c.0 }

pub packet_of_call : PacketOfCall
unfolding write_redundant
packet_of_call codes r type count first second output e =
    let n = not_refused (write_redundant_refusal codes r type count first second output) tt tt e in
    let a = passed (not (redundant_in_range codes r type count first second)) 11 _ n in
    let t = tested codes r type count first second (not-false (redundant_in_range codes r type count first second) a.0) in
    let bytes = redundant_packet_of r type (older_given count first second) in
    let long = bytes_length r type count first second t.few in
    (t.writable, rw n (take_at bytes (drop (length bytes) output) (17 + 8 * count) long))
