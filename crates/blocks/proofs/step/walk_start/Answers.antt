-- What the headers of the blocks say is where the walk starts.
use mathlib.Core.Path.{◌≡◌}
use Rattle.std.proofs.lemmas.Result.{err_from_is_err_and}
use Rattle.model.specs.Packet.{after_header}
use Rattle.header.specs.Stage.{payload_end}
use Rattle.header.proofs.Laws.{starts_before_end, ends_within}
use Rattle.blocks.proofs.Steps.{no_start, not_carried, started}
use Rattle.blocks.proofs.step.walk_start.Goals.{In_ok-header}
use Rattle.blocks.proofs.step.walk_start.Goals as goal

-- the header's packet is the one that was given
from : (c : In_ok-header) → c.in_ok-header.header.start ≡ after_header c.args.s.now
from c = rw c.in_ok-header.ensures.same_packet at c.in_ok-header.header.starts

to : (c : In_ok-header) → c.in_ok-header.header.end ≡ payload_end c.args.s.now
to c = rw c.in_ok-header.ensures.same_packet at c.in_ok-header.header.ends

pub returns-in_err-header : goal.returns-in_err-header
returns-in_err-header c =
    let e = err_from_is_err_and c.from_residual.result c.from_residual.ensures.1 in
    rw (e.1, e.2) (no_start c.args.s.now _ c.in_err-header.ensures)

pub scan-requires-clause-start_le_end : goal.scan-requires-clause-start_le_end
scan-requires-clause-start_le_end c =
    let h = (goal.at.scan-requires-clause-start_le_end c).In_ok-header in
    starts_before_end c.args.s.now c.in_ok-header.ensures.none_refuses _ _ (from h) (to h)

pub scan-requires-clause-end_in_bounds : goal.scan-requires-clause-end_in_bounds
scan-requires-clause-end_in_bounds c =
    let h = (goal.at.scan-requires-clause-end_in_bounds c).In_ok-header in
    ends_within c.args.s.now c.in_ok-header.ensures.none_refuses _ _ (from h) (to h)

pub returns-in_err-scanned : goal.returns-in_err-scanned
returns-in_err-scanned c =
    let h = (goal.at.returns-in_err-scanned c).In_ok-header in
    let e = err_from_is_err_and c.from_residual-in_err-scanned.result c.from_residual-in_err-scanned.ensures.1 in
    rw (e.1, e.2) (not_carried c.args.s.now c.in_ok-header.ensures.none_refuses _ _ (from h) (to h) _ c.in_err-scanned.ensures)

pub returns : goal.returns
returns c =
    let h = (goal.at.returns c).In_ok-header in
    started c.args.s.now c.in_ok-header.ensures.none_refuses _ _ (from h) (to h) c.in_ok-scanned.scanned c.in_ok-scanned.ensures
