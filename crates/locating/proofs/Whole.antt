-- A packet whose blocks were located: what is known of it, and a plain one, which is one block.
use Prim.Native.Nat.{ℕ, ◌≤◌}
use mathlib.Core.Path.{◌≡◌, refl, sym, ◌∙◌, ap}
use mathlib.Core.Bool.{Bool, true, false, ◌&&◌}
use mathlib.Core.List.{List, [], ◌∷◌}
use native.Mathlib.Omega.{arith}
use borrow.Author.Rules.{rules}
use borrow.Author.Tests.{ltb-false}
use lib.Dec.{ltb}
use lib.ListN.{length}
use Rattle.model.specs.declared.Head.{Head}
use Rattle.model.specs.declared.BlockStep.{BlockStep}
use Rattle.model.specs.Packet.{header_refusal, after_header, payload, timestamp, marker}
use Rattle.model.specs.Receive.{offset, arrival_in}
use Rattle.model.specs.Walk.{cursor, payload_ends, primary_step, block_step, part_of, block_of}
use Rattle.model.specs.Redundant.{is_plain, arrival_of, reports_in, carried_refusal, refusal_for_both, refusal_of_both}
use Rattle.model.specs.Fits.{BytesFit}
use Rattle.refusals.proofs.Tests.{passed, both_none}
use Rattle.theorems.proofs.Packets.{header_passed, number32_fits}
use Rattle.theorems.proofs.Walks.{payload_part, payload_within}
use Rattle.std.specs.Prelude.{Option, Some}
use Rattle.refusals.proofs.Told.{given}
use Rattle.model.specs.declared.Cursor.{Cursor}
use Rattle.blocks.specs.declared.step.Block.{Block}
use Rattle.blocks.specs.Step.{step_of}
use Rattle.locating.specs.declared.Located.{Located}
use Rattle.locating.specs.declared.Blocks.TheVariants as at
use Rattle.locating.specs.Located.{nowhere, located_at, cursor_of, plain_of, cursor_in, plain_in, body_of, located_in, locating, first_step, Locates}

-- A PACKET THAT WAS LOCATED

module _ (h : Head) (bs : List ℕ) (room : ℕ) (o : Located) (w : Locates h bs room o) where
  accepted : (refusal_of_both h bs room ≡ 0) × (o ≡ located_in h bs)
  unfolding locating
  accepted = given (refusal_of_both h bs room) nowhere (located_in h bs) o w.is

  pub unrefused : refusal_of_both h bs room ≡ 0
  unrefused = accepted.0

  its_kind : (b : Bool) (c : Cursor) → (cursor_of (located_at b c) ≡ c) × (plain_of (located_at b c) ≡ b)
  its_kind true c = (refl, refl)
  its_kind false c = (refl, refl)

  abbrev its_cursor : Cursor
  its_cursor = cursor (after_header bs) (body_of h bs) (payload_ends bs)

  pub at_cursor : cursor_in o ≡ its_cursor
  at_cursor = ap cursor_in accepted.1 ∙ (its_kind (is_plain h bs) its_cursor).0

  pub at_time : o.timestamp ≡ timestamp bs
  at_time = ap (λ (l : Located). l.timestamp) accepted.1

  pub is_marked : o.marked ≡ marker bs
  is_marked = ap (λ (l : Located). l.marked) accepted.1

  pub of_kind : plain_in o ≡ is_plain h bs
  of_kind = ap plain_in accepted.1 ∙ (its_kind (is_plain h bs) its_cursor).1

  -- nothing refuses it: its header, its blocks, and there are entries enough
  read : header_refusal bs ≡ 0
  unfolding refusal_of_both refusal_for_both
  read = (both_none (header_refusal bs) _ (both_none (refusal_for_both h bs) _ unrefused).0).0

  pub carried : carried_refusal h bs ≡ 0
  unfolding refusal_of_both
  carried = (both_none (carried_refusal h bs) _ (both_none (refusal_for_both h bs) _ unrefused).1).0

  pub enough : length (reports_in h bs) ≤ room
  unfolding refusal_of_both
  enough =
      let last = (both_none (carried_refusal h bs) _ (both_none (refusal_for_both h bs) _ unrefused).1).1 in
      ltb-false room (length (reports_in h bs)) (passed (ltb room (length (reports_in h bs))) 14 0 last).0

  pub whole_header : 12 ≤ length bs
  whole_header = (header_passed bs read).0

  pub starts_inside : after_header bs ≤ length bs
  starts_inside = (header_passed bs read).2

  pub header_read : header_refusal bs ≡ 0
  header_read = read

-- A PLAIN PACKET

-- its one block
module _ (h : Head) (bs : List ℕ) (room : ℕ) (o : Located) (w : Locates h bs room o) (plain : plain_in o ≡ true) where
  abbrev step : BlockStep
  step = primary_step (cursor_in o) h.payload_type

  is_plain_lem : is_plain h bs ≡ true
  is_plain_lem = sym (of_kind h bs room o w) ∙ plain

  starts : (cursor_in o).body ≡ after_header bs
  starts = ap (λ (c : Cursor). c.body) (at_cursor h bs room o w) ∙ rw is_plain_lem

  ends : (cursor_in o).end ≡ payload_ends bs
  ends = ap (λ (c : Cursor). c.end) (at_cursor h bs room o w)

  pub plain_ordered : step.start ≤ step.end
  plain_ordered = omega (arith, starts, ends)

  pub plain_within : step.end ≤ length bs
  plain_within = omega (arith, ends, payload_within bs, starts_inside h bs room o w)

  -- its report is the packet's
  module _ (fit : BytesFit bs) where
    own_time : offset 0 (timestamp bs) ≡ timestamp bs
    own_time = omega (arith, number32_fits bs 4 fit)

    counts : (m : Bool) → (m && true) ≡ m
    counts true = refl
    counts false = refl

    its_payload : part_of bs step.start step.end ≡ payload bs
    its_payload = rw (starts, ends) (payload_part bs)

    pub plain_report : reports_in h bs ≡ arrival_of bs (block_of bs step) ∷ []
    unfolding reports_in arrival_in
    plain_report = rw is_plain_lem (λ i. record { timestamp = sym own_time i; marked = sym (counts (marker bs)) i; payload = sym its_payload i } ∷ [])

-- its first block
module _ (type : ℕ) (bs : List ℕ) (o : Located) (c : Cursor) where
  pub first_plain : o.blocks ≡ at.Plain c → (b : Block) → step_of c (Some b) ≡ primary_step c type → step_of (cursor_in o) (Some b) ≡ first_step type bs o
  unfolding first_step
  first_plain p b e = rw p e

  pub first_carried : o.blocks ≡ at.Redundant c → (b : Option Block) → step_of c b ≡ block_step bs c → step_of (cursor_in o) b ≡ first_step type bs o
  unfolding first_step
  first_carried p b e = rw p e

pub ruleset first_blocks = (rules, first_plain, first_carried)
