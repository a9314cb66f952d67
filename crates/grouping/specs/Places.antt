-- The events of two columns by the places of their segments: what the functions that go from place to place answer. They
-- see the columns and how many places are held; a table's head plays no part.
use Rattle.std.specs.Prelude.{ℕ, zero, suc, ◌+◌, ◌-◌, ◌≤◌, ◌<◌, Bool, not, List, [], ◌∷◌, get_or}
use Rattle.model.specs.declared.Segment.{Segment}
use Rattle.model.specs.declared.Event.{Event}
use Rattle.model.specs.Table.{segment_at, segments_from}
use Rattle.model.specs.Events.{event_of, continues_nearest, continuing, events_from, events_of}

module _ (keys heard : List ℕ) where
  -- n places, at most 128, and the offset of the segment at each as wide as its type
  pub record InRanges (n : ℕ) : Type 0 where
    pub few : n ≤ 128
    pub each : (i : ℕ) → i < n → get_or keys i 0 < 0x100_0000_0000

  -- the segments before place i, nearest first
  unfoldable pub earlier : ℕ → List Segment
  earlier zero = []
  earlier (suc i) = segment_at keys heard i ∷ earlier i

  -- the segment at place i begins an event if it continues no earlier one
  unfoldable pub begins : ℕ → Bool
  begins i = not (continues_nearest (earlier i) (segment_at keys heard i))

  -- of n places, the segments after place i
  abbrev pub later : ℕ → ℕ → List Segment
  later n i = segments_from keys heard (i + 1) (n - (i + 1))

  -- the event that the segment at place i begins, among those of n places
  unfoldable pub event_from : ℕ → ℕ → Event
  event_from n i = event_of (segment_at keys heard i) (continuing (segment_at keys heard i) (later n i))

  -- of n places, the events that begin at place i or later
  unfoldable pub events_after : ℕ → ℕ → List Event
  events_after n i = events_from (earlier i) (segments_from keys heard i (n - i))

  -- the events of n places
  abbrev pub events_in : ℕ → List Event
  events_in n = events_of (segments_from keys heard 0 n)
