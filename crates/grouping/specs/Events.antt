-- The events of the segments held.
use Rattle.std.specs.Prelude.{ℕ, List, length}
use Rattle.model.specs.declared.Event.{Event}
use Rattle.grouping.specs.declared.held.Held.{Held}
use Rattle.grouping.specs.Places.{events_after, events_in}

abbrev pub events_of : Held → List Event
events_of h = events_in h.keys.now h.heard.now (length h.keys.now)

-- those that begin at a place or later
abbrev pub events_from : Held → ℕ → List Event
events_from h i = events_after h.keys.now h.heard.now (length h.keys.now) i
