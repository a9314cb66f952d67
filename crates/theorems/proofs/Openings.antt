-- An opened table is one that demand 3 speaks of: it holds nothing and passes the tests. Of either opening.
use Prim.Native.Nat.{ℕ, ◌<◌}
use mathlib.Core.Path.{◌≡◌, refl}
use mathlib.Core.Bool.{Bool, true, false, not, ◌&&◌}
use mathlib.Core.List.Memᴰ
use mathlib.Core.List.{List, [], map}
use native.Mathlib.Omega.{arith}
use lib.Dec.{leb}
use Rattle.model.specs.declared.Codes.{Codes}
use Rattle.model.specs.declared.Head.{Head}
use Rattle.model.specs.declared.Table.{Table}
use Rattle.refusals.specs.Refusals.{none}
use Rattle.model.specs.Codes.{is_empty}
use Rattle.model.specs.Segments.{rising}
use Rattle.model.specs.Table.{
  segments_from,
  one_type,
  both_types,
  empty_table,
  opened_if,
  opened,
  types_differ,
  opened_both,
  all_valid,
  valid_types,
  valid,
}
use Rattle.model.specs.Receive.{table_after}
use Rattle.theorems.specs.Sizes.{as_listed, Sent, Sizes, FitsTypes}
use Rattle.theorems.specs.Demands.{Empty, Lists, Handed, Admitted, Needed, packets}
use Rattle.theorems.specs.Redundancy.{Given, receipts, after_receipts, AdmittedGiven, labels, NeededGiven}
use Rattle.theorems.proofs.Demand3.{demand_3_redundant}
use Rattle.theorems.proofs.FirstAlone.{demand_3}
use Rattle.refusals.proofs.Tests.{and_then}
use Rattle.theorems.proofs.Basics.{Mem}

-- one that was not refused has the numbers given, which are in range
opened_then : (b : Bool) (h : Head) → (opened_if b h).refusal ≡ none → (b ≡ true) × ((opened_if b h).table ≡ empty_table h)
opened_then true h e = (refl, refl)
opened_then false h e = absurd (omega (arith, e))

empty_passes : (h : Head) → h.count ≡ 0 → valid_types h ≡ true → Empty (empty_table h)
unfolding valid rising all_valid segments_from
empty_passes h z v = record { empty = z; passes = rw (z, v) }

-- what the machine's types say of an opened table
fits_opened : (h : Head) (es : List Sent) → h.ssrc < 0x1_0000_0000 → h.origin < 0x1_0000_0000
    → ((e : Sent) → Mem e es → e.sequence < 65536) → FitsTypes (empty_table h) es []
fits_opened h es s o q = record { ssrc = s; origin = o; sequences = q; bytes = λ p m. absurd (Memᴰ.not-nil m) }

-- THE FIRST OPENING

module _ (codes : Codes) (type ssrc origin : ℕ) (accepted : (opened codes type ssrc origin).refusal ≡ none) where
  abbrev table : Table
  table = (opened codes type ssrc origin).table

  abbrev head : Head
  head = one_type codes type ssrc origin

  pub opened_empty : Empty table
  opened_empty =
      let k = opened_then (not (is_empty codes) && leb type 127) head accepted in
      rw k.1 (empty_passes head refl (and_then (not (is_empty codes)) (leb type 127) k.0).1)

  pub demand_3_opened : (es : List Sent) (hs : List Handed) → ssrc < 0x1_0000_0000 → origin < 0x1_0000_0000 → ((e : Sent) → Mem e es → e.sequence < 65536)
      → Sizes table es → Admitted es table table hs → ((e : Sent) → Mem e es → Needed table hs e) → Lists (table_after table (packets table hs)) (map as_listed es)
  demand_3_opened es hs s o q sizes admitted needed = demand_3 table es hs (record {
    empty = opened_empty;
    sizes = sizes;
    fits = rw (opened_then (not (is_empty codes) && leb type 127) head accepted).1 (fits_opened head es s o q);
    admitted = admitted;
    needed = needed;
  })

-- THE SECOND OPENING

module _ (codes : Codes) (type redundant_type ssrc origin : ℕ) (accepted : (opened_both codes type redundant_type ssrc origin).refusal ≡ none) where
  abbrev table_of_both : Table
  table_of_both = (opened_both codes type redundant_type ssrc origin).table

  abbrev head_of_both : Head
  head_of_both = both_types codes type redundant_type ssrc origin

  pub opened_both_empty : Empty table_of_both
  opened_both_empty =
      let k = opened_then (not (is_empty codes) && types_differ type redundant_type) head_of_both accepted in
      rw k.1 (empty_passes head_of_both refl (and_then (not (is_empty codes)) (types_differ type redundant_type) k.0).1)

  pub demand_3_opened_both : (es : List Sent) (gs : List Given) → ssrc < 0x1_0000_0000 → origin < 0x1_0000_0000 → ((e : Sent) → Mem e es → e.sequence < 65536)
      → Sizes table_of_both es → AdmittedGiven es table_of_both table_of_both gs → ((e : Sent) → Mem e es → NeededGiven table_of_both (labels gs) e)
      → Lists (after_receipts table_of_both (receipts table_of_both gs)) (map as_listed es)
  demand_3_opened_both es gs s o q sizes admitted needed = demand_3_redundant table_of_both es gs (record {
    empty = opened_both_empty;
    sizes = sizes;
    fits = rw (opened_then (not (is_empty codes) && types_differ type redundant_type) head_of_both accepted).1 (fits_opened head_of_both es s o q);
    admitted = admitted;
    needed = needed;
  })
