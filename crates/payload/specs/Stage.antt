-- The second stage of reading, the payload (17 or 7, 8, 9). Every number is that of the model's definitions.
use Rattle.std.specs.Prelude.{ℕ, false, List}
use Rattle.model.specs.declared.Codes.{Codes}
use Rattle.refusals.specs.Refusals.{Told, telling}
use Rattle.model.specs.Packet.{code, ended, volume, duration, payload_refusal}
use Rattle.payload.specs.declared.Payload.{Payload}

abbrev pub no_payload : Payload
no_payload = record { code = 0; ended = false; volume = 0; duration = 0 }

-- the second stage: the payload's fields, if its code is in the set
unfoldable pub payload_of : Codes → List ℕ → Told Payload
payload_of codes p =
    telling
    (payload_refusal codes p)
    no_payload
    (record { code = code p; ended = ended p; volume = volume p; duration = duration p })
