-- What the headers of a redundant packet's blocks say.
use mathlib.Core.Path.{◌≡◌}
use Rattle.std.proofs.lemmas.Result.{err_from_is_err_and}
use Rattle.model.specs.Packet.{after_header}
use Rattle.header.specs.Stage.{payload_end}
use Rattle.header.proofs.Laws.{starts_before_end, ends_within}
use Rattle.locating.proofs.Locates.{read, blocks_refused, too_few_entries, blocks_located}
use Rattle.locating.proofs.locate.Goals.{In_ok-header}
use Rattle.locating.proofs.locate.Goals as goal

-- the header's packet is the one that was given
from : (c : In_ok-header) → c.in_ok-header.header.start ≡ after_header c.args.packet.now
from c = rw c.in_ok-header.ensures.same_packet at c.in_ok-header.header.starts

to : (c : In_ok-header) → c.in_ok-header.header.end ≡ payload_end c.args.packet.now
to c = rw c.in_ok-header.ensures.same_packet at c.in_ok-header.header.ends

pub scan-requires-clause-start_le_end : goal.scan-requires-clause-start_le_end
scan-requires-clause-start_le_end c =
    let h = (goal.at.scan-requires-clause-start_le_end c).In_ok-header in
    starts_before_end c.args.packet.now (read c.args.head _ c.in_ok-header.ensures.none_refuses) _ _ (from h) (to h)

pub scan-requires-clause-end_in_bounds : goal.scan-requires-clause-end_in_bounds
scan-requires-clause-end_in_bounds c =
    let h = (goal.at.scan-requires-clause-end_in_bounds c).In_ok-header in
    ends_within c.args.packet.now (read c.args.head _ c.in_ok-header.ensures.none_refuses) _ _ (from h) (to h)

pub returns-in_err-scanned : goal.returns-in_err-scanned
returns-in_err-scanned c =
    let h = (goal.at.returns-in_err-scanned c).In_ok-header in
    let s = c.in_ok-header.ensures in
    let e = err_from_is_err_and c.from_residual-in_err-scanned.result c.from_residual-in_err-scanned.ensures.1 in
    rw (e.1, e.2)
    (blocks_refused c.args.head c.args.packet.now s.none_refuses _ _ (from h) (to h) _ (rw s.same_packet at c.timestamp-timestamp.ensures) _
    (rw s.same_packet at c.marker-marked.ensures) c.args.room _ (rw s.same_packet at c.payload_type.ensures) c.if-payload_type-head.false _
    c.in_err-scanned.ensures)

pub returns-then-room-scanned : goal.returns-then-room-scanned
returns-then-room-scanned c =
    let h = (goal.at.returns-then-room-scanned c).In_ok-header in
    let s = c.in_ok-header.ensures in
    too_few_entries c.args.head c.args.packet.now s.none_refuses _ _ (from h) (to h) _ (rw s.same_packet at c.timestamp-timestamp.ensures) _
    (rw s.same_packet at c.marker-marked.ensures) c.args.room _ (rw s.same_packet at c.payload_type.ensures) c.if-payload_type-head.false
    c.in_ok-scanned.scanned c.in_ok-scanned.ensures c.if-room-scanned.true

pub returns : goal.returns
returns c =
    let h = (goal.at.returns c).In_ok-header in
    let s = c.in_ok-header.ensures in
    blocks_located c.args.head c.args.packet.now s.none_refuses _ _ (from h) (to h) _ (rw s.same_packet at c.timestamp-timestamp.ensures) _
    (rw s.same_packet at c.marker-marked.ensures) c.args.room _ (rw s.same_packet at c.payload_type.ensures) c.if-payload_type-head.false
    c.in_ok-scanned.scanned c.in_ok-scanned.ensures c.if-room-scanned.false
