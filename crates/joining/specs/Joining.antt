-- An event, and a segment more.
use Rattle.std.specs.Prelude.{◌+◌, min, max}
use Rattle.model.specs.declared.Segment.{Segment}
use Rattle.model.specs.declared.Event.{Event}

-- an event that one segment more continues
abbrev pub lengthened : Event → Segment → Event
lengthened v s = record {
  code = v.code;
  start = v.start;
  length = v.length + s.duration;
  volume = min v.volume s.volume;
  quietest = max v.quietest s.quietest;
  began = v.began;
  ended = s.ended;
}
