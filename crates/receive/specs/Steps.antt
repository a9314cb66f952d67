-- The steps of receiving: what a packet's report says to a table, and the table after it.
use Rattle.std.specs.Prelude.{ℕ, ◌≡◌, cond, List, eqb}
use Rattle.model.specs.declared.Head.{Head}
use Rattle.model.specs.declared.Table.{Table}
use Rattle.model.specs.declared.Received.{Received}
use Rattle.refusals.specs.Refusals.{Told, refused_by, none}
use Rattle.model.specs.Table.{segment_of, table_of, holding}
use Rattle.model.specs.Receive.{arrival_in, refusal_for, Receiving, refusing}
use Rattle.table.specs.Columns.{taken_into}
use Rattle.hearing.specs.declared.Heard.{Heard}
use Rattle.hearing.specs.Sayings.{nothing_heard, hearing_of}

-- 1 to 6, then 17 or 7, and 8 to 10
unfoldable pub hearing_in : Head → List ℕ → Told Heard
hearing_in h bs = cond (eqb (refusal_for h bs) none) (hearing_of h (arrival_in bs)) (refused_by (refusal_for h bs) nothing_heard)

-- then 11
abbrev pub taken_heard : Table → Told Heard → Receiving
taken_heard t s = cond s.refused (refusing s.number t 0) (taken_into t (segment_of s.values.key s.values.told))

-- a head h, columns and what was heard: what the call answers, and the columns after it
pub record TakesHeard (h : Head) (keys heard : List ℕ) (said : Told Heard) (a : Received) (keys' heard' : List ℕ) : Type 0 where
  pub answer : a ≡ (taken_heard (table_of h keys heard) said).answer
  pub table : table_of (holding a.count h) keys' heard' ≡ (taken_heard (table_of h keys heard) said).table
