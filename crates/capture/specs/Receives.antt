-- The whole frames of a buffer received.
use Rattle.std.specs.Prelude.{◌≡◌, List, ℕ}
use Rattle.model.specs.declared.Captured.{Captured}
use Rattle.model.specs.Table.{holding}
use Rattle.model.specs.Capture.{receive_capture}
use Rattle.receive.specs.declared.Tested.{Tested}
use Rattle.receive.specs.Receives.{in_table, SameColumns}

-- on a table that passes the tests the call answers what the model says, and leaves the table that the model says, in the same columns
pub record ReceivesAll (t : Tested) (bs : List ℕ) (a : Captured) (t' : Tested) : Type 0 where
  pub answer : a ≡ (receive_capture (in_table t) bs).answer
  pub table : in_table t' ≡ (receive_capture (in_table t) bs).table
  pub head : t'.head ≡ holding a.count t.head
  pub lent : SameColumns t t'
