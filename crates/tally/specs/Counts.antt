-- The tally of a capture's frames, and the answers that it comes to.
use Rattle.std.specs.Prelude.{ℕ, ◌+◌, ◌-◌, ◌<◌, ◌≤◌}
use Rattle.model.specs.declared.Received.{Received}
use Rattle.model.specs.declared.Captured.{Captured}
use Rattle.refusals.specs.Refusals.{none}
use Rattle.model.specs.Packet.{bit}
use Rattle.model.specs.Receive.{refuses}
use Rattle.model.specs.Capture.{refuses_packed}
use Rattle.tally.specs.declared.Tally.{Tally}

abbrev pub uncounted : ℕ → ℕ → Captured
uncounted refusal count = record { refusal = refusal; count = count; used = 0; taken = 0; refused = 0; packed = 0 }

-- THE TALLY

abbrev pub none_yet : ℕ → Tally
none_yet count = record { count = count; used = 0; packets = 0; refused = 0; packed = 0 }

abbrev pub one_more : Tally → Received → ℕ → Tally
one_more c got end = record {
  count = got.count;
  used = end;
  packets = c.packets + 1;
  refused = c.refused + bit (refuses got);
  packed = c.packed + bit (refuses_packed got);
}

-- the answer that it comes to: those not refused were taken
abbrev pub captured : Tally → Captured
captured c = record {
  refusal = none;
  count = c.count;
  used = c.used;
  taken = c.packets - c.refused;
  refused = c.refused;
  packed = c.packed;
}

-- no count is larger than the bytes used are many, and the next frame has a byte at least
pub record Room (c : Tally) (end : ℕ) : Type 0 where
  pub few : c.packets ≤ c.used
  pub among : c.refused ≤ c.packets
  pub fewer : c.packed ≤ c.refused
  pub more : c.used < end
