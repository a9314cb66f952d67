-- What stands for each enum answer: the refusal's number, 0 if none, and the values, zeros if refused.
use Rattle.std.specs.Prelude.{ℕ}
use Rattle.model.specs.declared.Report.{Report}
use Rattle.refusals.specs.Refusals.{Told}
use Rattle.results.specs.declared.ReadResult.{ReadResult}
use Rattle.model.specs.declared.Event.{Event}
use Rattle.results.specs.declared.CountResult.{CountResult}
use Rattle.results.specs.declared.EventResult.{EventResult}
use Rattle.model.specs.declared.Codes.{Codes}
use Rattle.results.specs.declared.CodesResult.{CodesResult}
use Rattle.results.specs.declared.TextResult.{TextResult}
use Rattle.results.specs.declared.LowestResult.{LowestResult}

abbrev pub read_result : Told Report → ReadResult
read_result t = record { refusal = t.number; report = t.values }

abbrev pub count_result : Told ℕ → CountResult
count_result t = record { refusal = t.number; reports = t.values }

abbrev pub event_result : Told Event → EventResult
event_result t = record { event = t.values; refusal = t.number }

abbrev pub codes_result : Told Codes → CodesResult
codes_result t = record { codes = t.values; refusal = t.number }

abbrev pub text_result : Told ℕ → TextResult
text_result t = record { bytes = t.values; refusal = t.number }

abbrev pub lowest_result : Told ℕ → LowestResult
lowest_result t = record { code = t.values; refusal = t.number }
