-- One block of a packet: heard, with its answer in an entry, or passed over.
use Rattle.std.specs.Prelude.{ℕ, ◌+◌, ◌≤◌, ◌<◌, ◌≡◌, Bool, ◌&&◌, List, length, set}
use Rattle.model.specs.Table.{holding}
use Rattle.model.specs.Receive.{Arrival, offset, Receiving, hear}
use Rattle.model.specs.Walk.{part_of}
use Rattle.model.specs.Redundant.{entry_of}
use Rattle.blocks.specs.declared.step.Block.{Block}
use Rattle.receive.specs.declared.Tested.{Tested}
use Rattle.receive.specs.Receives.{in_table, SameColumns}

-- the report of a block of a packet of this timestamp and marker
abbrev pub report_at : List ℕ → ℕ → Bool → Block → Arrival
report_at bs time m b = record {
  timestamp = offset b.offset time;
  marked = m && b.primary;
  payload = part_of bs b.start b.end;
}

-- a block that stands inside its packet, and an entry for it
pub record InPlace (bs : List ℕ) (b : Block) (i : ℕ) (entries : List ℕ) : Type 0 where
  pub ordered : b.start ≤ b.end
  pub within : b.end ≤ length bs
  pub lent : i < length entries

-- or it is of another type than the event's
pub record Ready (t : Tested) (bs : List ℕ) (b : Block) (i : ℕ) (entries : List ℕ) : Type 0 where
  pub is_of_type : b.payload_type ≡ t.head.payload_type → InPlace bs b i entries

-- one report heard into the columns, with its answer in entry i; of the head the count alone changes
pub record Enters (r : Receiving) (t : Tested) (i : ℕ) (entries : List ℕ) (t' : Tested) (entries' : List ℕ) : Type 0 where
  pub table : in_table t' ≡ r.table
  pub head : t'.head ≡ holding t'.head.count t.head
  pub lent : SameColumns t t'
  pub entered : entries' ≡ set entries i (entry_of r.answer)

abbrev pub EntersBlock : Tested → List ℕ → ℕ → Bool → Block → ℕ → List ℕ → Tested → List ℕ → Type 0
EntersBlock t bs time m b i entries = Enters (hear (in_table t) (report_at bs time m b)) t i entries

-- a block of the event's type is entered, and one of another type passed over
pub record EntersOrPasses (t : Tested) (bs : List ℕ) (time : ℕ) (m : Bool) (b : Block) (i : ℕ) (entries : List ℕ) (next : ℕ)
    (t' : Tested) (entries' : List ℕ) : Type 0 where
  pub enters : b.payload_type ≡ t.head.payload_type → EntersBlock t bs time m b i entries t' entries' × (next ≡ i + 1)
  pub passes : (b.payload_type ≡ t.head.payload_type → ⊥) → (next ≡ i) × (t' ≡ t) × (entries' ≡ entries)
