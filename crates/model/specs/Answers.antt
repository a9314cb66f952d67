-- The values that an answer holds where it is refused: zeros (01, "Numbers handed back when something is refused"); and the structs that
-- hold a refusal's number, 0 if none, beside the values (01, "The form each place takes").
use Rattle.std.specs.Prelude.{ℕ, false}
use Rattle.refusals.specs.Refusals.{Told}
use Rattle.model.specs.declared.Report.{Report}
use Rattle.model.specs.declared.Event.{Event}
use Rattle.model.specs.declared.Table.{Table}
use Rattle.model.specs.declared.Opened.{Opened}
use Rattle.model.specs.declared.Cursor.{Cursor}
use Rattle.model.specs.declared.WalkStart.{WalkStart}
use Rattle.model.specs.declared.Listed.{Listed}

abbrev pub no_report : Report
no_report = record {
  marker = false;
  payload_type = 0;
  sequence = 0;
  timestamp = 0;
  ssrc = 0;
  code = 0;
  ended = false;
  volume = 0;
  duration = 0;
}

abbrev pub no_event : Event
no_event = record { code = 0; start = 0; length = 0; volume = 0; quietest = 0; began = false; ended = false }

abbrev pub no_cursor : Cursor
no_cursor = record { header = 0; body = 0; end = 0 }

abbrev pub opened_of : Told Table → Opened
opened_of t = record { table = t.values; refusal = t.number }

abbrev pub walk_start_of : Told Cursor → WalkStart
walk_start_of t = record { cursor = t.values; refusal = t.number }

abbrev pub listed_of : Told ℕ → Listed
listed_of t = record { refusal = t.number; events = t.values }
