-- What a report says by itself: refusal 17 or 7, 8 to 10, or a segment heard once. Every number is that of the model's definitions.
use Rattle.std.specs.Prelude.{ℕ, Bool, List}
use Rattle.model.specs.declared.Head.{Head}
use Rattle.refusals.specs.Refusals.{Told, telling}
use Rattle.model.specs.Table.{key_of, heard_of}
use Rattle.model.specs.Receive.{Arrival, heard_from, unheard}
use Rattle.hearing.specs.declared.Heard.{Heard}

-- a payload at its timestamp, marked or not
abbrev pub arrival : ℕ → Bool → List ℕ → Arrival
arrival timestamp marked p = record { timestamp = timestamp; marked = marked; payload = p }

abbrev pub nothing_heard : Heard
nothing_heard = record { key = 0; told = 0 }

unfoldable pub hearing_of : Head → Arrival → Told Heard
hearing_of h a =
    telling
    (unheard h a)
    nothing_heard
    (record { key = key_of (heard_from h.origin a); told = heard_of (heard_from h.origin a) })
