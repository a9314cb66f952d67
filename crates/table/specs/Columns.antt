-- What the table's functions make of its columns.
use Rattle.std.specs.Prelude.{ℕ, ◌+◌, ◌≡◌, cond, List, ◌∷◌, ◌++◌, take, drop}
use Rattle.model.specs.declared.Segment.{Segment}
use Rattle.model.specs.declared.Table.{Table}
use Rattle.model.specs.declared.Head.{Head}
use Rattle.model.specs.declared.Received.{Received}
use Rattle.refusals.specs.Refusals.{table_full}
use Rattle.model.specs.Search.{search}
use Rattle.model.specs.Table.{segment_of, held, table_of, holding, no_room}
use Rattle.model.specs.Receive.{Receiving, refusing, taken}

-- a column of which the first n places are held, with x put in at place i: later ones move up by one place, and the places
-- above stay as they are
unfoldable pub inserted_at : {A : Type 0} → ℕ → A → ℕ → List A → List A
inserted_at i x n l = (take i (take n l) ++ (x ∷ drop i (take n l))) ++ drop (n + 1) l

-- the last step of receiving: a report that nothing refuses before the search
unfoldable pub taken_into : Table → Segment → Receiving
taken_into t r = cond (no_room t r) (refusing table_full t (search r (held t)).probes) (taken t r (search r (held t)).probes)

-- a head h, columns and a segment's two numbers k and w: what the call answers, and the columns after it
pub record Takes (h : Head) (keys heard : List ℕ) (k w : ℕ) (a : Received) (keys' heard' : List ℕ) : Type 0 where
  pub answer : a ≡ (taken_into (table_of h keys heard) (segment_of k w)).answer
  pub table : table_of (holding a.count h) keys' heard' ≡ (taken_into (table_of h keys heard) (segment_of k w)).table
