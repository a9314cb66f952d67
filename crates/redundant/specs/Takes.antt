-- All blocks of a packet taken.
use Rattle.std.specs.Prelude.{ℕ, ◌≡◌, List}
use Rattle.model.specs.Table.{holding}
use Rattle.model.specs.Redundant.{receive_redundant, ReceivingBlocks}
use Rattle.receive.specs.declared.Tested.{Tested}
use Rattle.receive.specs.Receives.{in_table, SameColumns}

-- so many blocks are taken into the columns, as the model says; of the head the count alone changes
pub record TakesAll (r : ReceivingBlocks) (t : Tested) (taken : ℕ) (t' : Tested) (entries' : List ℕ) : Type 0 where
  pub answer : record { blocks = taken; count = t'.head.count; refusal = 0 } ≡ r.answer
  pub table : in_table t' ≡ r.table
  pub head : t'.head ≡ holding t'.head.count t.head
  pub lent : SameColumns t t'
  pub entries : entries' ≡ r.entries

abbrev pub TakesReports : Tested → List ℕ → List ℕ → ℕ → Tested → List ℕ → Type 0
TakesReports t bs entries = TakesAll (receive_redundant (in_table t) bs entries) t
