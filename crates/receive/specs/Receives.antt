-- What a receiving call does to a table that passes the tests, and what hearing one report does.
use Rattle.std.specs.Prelude.{ℕ, ◌≤◌, ◌<◌, ◌≡◌, Bool, List}
use Rattle.model.specs.declared.Table.{Table}
use Rattle.model.specs.declared.Received.{Received}
use Rattle.model.specs.Table.{table_of, holding}
use Rattle.model.specs.Receive.{Receiving, hear, receive}
use Rattle.hearing.specs.Sayings.{arrival}
use Rattle.receive.specs.declared.Tested.{Tested}

-- the table in the columns
abbrev pub in_table : Tested → Table
in_table t = table_of t.head t.keys.now t.heard.now

-- the columns are those that were lent
pub record SameColumns (t t' : Tested) : Type 0 where
  pub keys : t'.keys.ghost_name ≡ t.keys.ghost_name
  pub heard : t'.heard.ghost_name ≡ t.heard.ghost_name

-- it answers what the model says, leaves the table that the model says, in the same columns, the search looks at no more than 8 entries,
-- and the refusal's number fits in a byte
pub record Does (r : Receiving) (t : Tested) (a : Received) (t' : Tested) : Type 0 where
  pub answer : a ≡ r.answer
  pub table : in_table t' ≡ r.table
  pub head : t'.head ≡ holding a.count t.head
  pub lent : SameColumns t t'
  pub bounded : a.probes ≤ 8
  pub small : a.refusal < 256

abbrev pub Receives : Tested → List ℕ → Received → Tested → Type 0
Receives t bs = Does (receive (in_table t) bs) t

-- a payload at its timestamp, marked or not
abbrev pub Hears : Tested → ℕ → Bool → List ℕ → Received → Tested → Type 0
Hears t timestamp marked p = Does (hear (in_table t) (arrival timestamp marked p)) t
