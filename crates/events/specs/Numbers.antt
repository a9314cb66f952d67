-- What a table holds, and where the event at a number begins, of those from a place on.
use Rattle.std.specs.Prelude.{ℕ, suc, ◌+◌, ◌<◌, ◌≡◌, true, false, List, get_or, drop, Result, MatchResult}
use Rattle.refusals.specs.declared.Refusal.{Refusal}
use Rattle.refusals.specs.declared.Refusal.TheVariants.{InvalidTable}
use Rattle.model.specs.declared.Table.{Table}
use Rattle.model.specs.Answers.{no_event}
use Rattle.model.specs.Table.{valid}
use Rattle.model.specs.List.{events}
use Rattle.grouping.specs.declared.held.Held.{Held}
use Rattle.grouping.specs.Events.{events_of}
use Rattle.grouping.specs.Places.{event_from, events_after}

-- of n places: place i is where event k begins of those that begin at place `from` or later
pub record Finds (keys heard : List ℕ) (n from k i : ℕ) : Type 0 where
  pub less : i < n
  pub event : event_from keys heard n i ≡ get_or (events_after keys heard n from) k no_event
  pub rest : events_after keys heard n (i + 1) ≡ drop (suc k) (events_after keys heard n from)

-- what a table that passes the tests holds, which makes its events; or 16
abbrev pub HeldBy : Table → Result Held Refusal → Type 0
HeldBy t r =
    MatchResult r (λ h. (valid t ≡ true) × (events_of h ≡ events t)) (λ e. (e ≡ InvalidTable) × (valid t ≡ false))
