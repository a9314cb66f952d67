-- The first step of receiving a packet that may be redundant: all refusals but 16, and where its blocks stand.
use Rattle.std.specs.Prelude.{ℕ, ◌+◌, ◌≡◌, Bool, true, false, not, cond, ◌&&◌, ◌||◌, List, eqb}
use Rattle.model.specs.declared.Head.{Head}
use Rattle.model.specs.declared.Cursor.{Cursor}
use Rattle.model.specs.declared.BlockStep.{BlockStep}
use Rattle.refusals.specs.Refusals.{Told, telling, answered}
use Rattle.model.specs.Packet.{after_header, payload, timestamp, marker}
use Rattle.model.specs.Blocks.{last_header}
use Rattle.model.specs.Walk.{cursor, payload_ends, primary_step, block_step}
use Rattle.model.specs.Redundant.{is_plain, refusal_of_both}
use Rattle.locating.specs.declared.Located.{Located}
use Rattle.locating.specs.declared.Blocks.{Blocks}
use Rattle.locating.specs.declared.Blocks.TheVariants as blocks

-- the event's type or, in a table opened for both, that of redundant packets
abbrev pub is_for : ℕ → ℕ → ℕ → ℕ → Bool
is_for type both redundant kind = eqb kind type || (not (eqb both 0) && eqb kind redundant)

-- 1 to 6, then 18, 19 and 15

abbrev pub nowhere : Located
nowhere = record { timestamp = 0; marked = false; blocks = blocks.Redundant (cursor 0 0 0) }

-- at a cursor, and is the packet plain?
abbrev pub located_at : Bool → Cursor → Blocks
located_at true c = blocks.Plain c
located_at false c = blocks.Redundant c

abbrev pub cursor_of : Blocks → Cursor
cursor_of (blocks.Plain c) = c
cursor_of (blocks.Redundant c) = c

abbrev pub plain_of : Blocks → Bool
plain_of (blocks.Plain c) = true
plain_of (blocks.Redundant c) = false

abbrev pub cursor_in : Located → Cursor
cursor_in l = cursor_of l.blocks

abbrev pub plain_in : Located → Bool
plain_in l = plain_of l.blocks

-- a plain packet's one block starts where the payload does
abbrev pub body_of : Head → List ℕ → ℕ
body_of h bs = cond (is_plain h bs) (after_header bs) (after_header bs + last_header (payload bs) + 1)

abbrev pub located_in : Head → List ℕ → Located
located_in h bs = record {
  timestamp = timestamp bs;
  marked = marker bs;
  blocks = located_at (is_plain h bs) (cursor (after_header bs) (body_of h bs) (payload_ends bs));
}

unfoldable pub locating : Head → List ℕ → ℕ → Told Located
locating h bs room = telling (refusal_of_both h bs room) nowhere (located_in h bs)

-- the first block, for a table of this payload type
unfoldable pub first_step : ℕ → List ℕ → Located → BlockStep
first_step type bs l = cond (plain_in l) (primary_step (cursor_in l) type) (block_step bs (cursor_in l))

-- a packet that was located and not refused
pub record Locates (h : Head) (bs : List ℕ) (room : ℕ) (l : Located) : Type 0 where
  pub is : answered l ≡ locating h bs room
