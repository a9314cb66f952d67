-- What shorter segments make likely: a segment ends where another starts, or nearly so. Of two presses of one key, the second
-- from the very unit where the first ends, each row has the reports that arrive and the events that are listed. Only if the end
-- of the first and the mark of the second are both lost do they make one event; demand 3 asks that both arrive.
use Prim.Native.Nat.{ℕ}
use mathlib.Core.Path.{◌≡◌, refl}
use mathlib.Core.Bool.{Bool, true, false}
use mathlib.Core.List.{List, [], ◌∷◌, map}
use Rattle.model.specs.declared.Event.{Event}
use Rattle.model.specs.declared.Table.{Table}
use Rattle.model.specs.Codes.{is_in, the_keys}
use Rattle.model.specs.Packet.{after_header, payload, header_refusal, payload_refusal, packet_of}
use Rattle.model.specs.Plan.{cut_from, interim, reports_of_all, mark_first, all_on_wire, reports, report_at, write_report}
use Rattle.model.specs.Segments.{rising}
use Rattle.model.specs.Table.{segments_from, opened, all_valid, valid, holds, put}
use Rattle.model.specs.Receive.{heard_by, unheard, hear_refusal, probes, hear, arrival_in, refusal_for, packet_refusal, receive, table_after}
use Rattle.model.specs.Events.{units, loudest, quietest, last_ended, continues_nearest, continuing, events_from}
use Rattle.model.specs.List.{events}
use Rattle.theorems.specs.Sizes.{Sent}
use Rattle.theorems.specs.Demands.{Handed, sent, packets}

abbrev table : Table
table = (opened the_keys 101 7 0).table

abbrev press : ℕ → ℕ → ℕ → ℕ → ℕ → Sent
press code start length period size =
    record { code = code; start = start; length = length; volume = 10; period = period; segment_size = size; sequence = 1 }

-- 160 with M, 200 three times; 160, 200, 200 with E twice
abbrev first : Sent
first = press 5 0 400 160 200

-- 300 with M, 300 with E twice, of key 5 and of key 6
abbrev second : Sent
second = press 5 400 300 300 300

abbrev other : Sent
other = press 6 400 300 300 300

-- from where the first report of the first press ends: 40 with M, 40 with E twice, of key 5 and of key 6. The presses overlap, which
-- demand 3 does not allow: of those that do not, no interim report ends where a segment starts (`interim_meets_none` of Recovered).
abbrev within : Sent
within = press 5 160 40 40 40

abbrev beside : Sent
beside = press 6 160 40 40 40

-- one unit later than the second
abbrev apart : Sent
apart = press 5 401 300 300 300

abbrev event : ℕ → ℕ → ℕ → Bool → Bool → Event
event code start length b e = record { code = code; start = start; length = length; volume = 10; quietest = 10; began = b; ended = e }

abbrev rows : List (List Handed × List Event)
rows =
    -- all that is needed
    (sent first 1 ∷ sent first 2 ∷ sent first 7 ∷ sent second 1 ∷ sent second 2 ∷ [], event 5 0 400 true true ∷ event 5 400 300 true true ∷ [])
    -- the end of the first is lost: the mark of the second parts them
    ∷ (sent first 1 ∷ sent first 2 ∷ sent first 6 ∷ sent second 1 ∷ sent second 2 ∷ [], event 5 0 400 true false ∷ event 5 400 300 true true ∷ [])
    -- the mark of the second is lost: the end of the first parts them
    ∷ (sent first 1 ∷ sent first 2 ∷ sent first 7 ∷ sent second 2 ∷ [], event 5 0 400 true true ∷ event 5 400 300 false true ∷ [])
    -- both are lost: one event
    ∷ (sent first 1 ∷ sent first 2 ∷ sent first 6 ∷ sent second 2 ∷ [], event 5 0 700 true true ∷ [])
    -- both are lost, of another key
    ∷ (sent first 1 ∷ sent first 2 ∷ sent first 6 ∷ sent other 2 ∷ [], event 5 0 400 true false ∷ event 6 400 300 false true ∷ [])
    -- both are lost, one unit apart
    ∷ (sent first 1 ∷ sent first 2 ∷ sent first 6 ∷ sent apart 2 ∷ [], event 5 0 400 true false ∷ event 5 401 300 false true ∷ [])
    -- both are lost, and the full reports of the first: its last interim report ends too early
    ∷ (sent first 1 ∷ sent first 2 ∷ sent first 5 ∷ sent second 2 ∷ [], event 5 0 360 true false ∷ event 5 400 300 false true ∷ [])
    -- the full reports of an earlier segment are lost
    ∷ (
      sent first 1 ∷ sent first 7 ∷ sent second 1 ∷ sent second 2 ∷ [],
      event 5 0 160 true false ∷ event 5 200 200 false true ∷ event 5 400 300 true true ∷ [],
    )
    -- an interim report ends where a marked segment starts
    ∷ (sent first 1 ∷ sent within 1 ∷ [], event 5 0 160 true false ∷ event 5 160 40 true false ∷ [])
    -- or one of another key
    ∷ (sent first 1 ∷ sent beside 2 ∷ [], event 5 0 160 true false ∷ event 6 160 40 false true ∷ [])
    -- or an unmarked one, but its segment is heard to go on
    ∷ (sent first 1 ∷ sent first 2 ∷ sent within 2 ∷ [], event 5 0 200 true false ∷ event 5 160 40 false true ∷ [])
    -- or an unmarked one, and nothing more is heard: this is how an event goes on
    ∷ (sent first 1 ∷ sent within 2 ∷ [], event 5 0 200 true true ∷ [])
    ∷ []

pub rows_listed : map (λ row. events (table_after table (packets table row.0))) rows ≡ map (λ row. row.1) rows
unfolding is_in table_after receive packet_refusal refusal_for hear hear_refusal unheard probes heard_by arrival_in valid rising all_valid segments_from holds put header_refusal after_header payload
    payload_refusal write_report packet_of report_at reports all_on_wire mark_first reports_of_all interim cut_from units loudest quietest last_ended
    continues_nearest continuing events_from
rows_listed = refl
