-- Hearing a payload: each way through it, and what its answer says of the payload.
use Prim.Native.Nat.{ℕ, ◌+◌, ◌*◌, ◌≤◌, ◌<◌}
use mathlib.Core.Path.{◌≡◌}
use mathlib.Core.Bool.{Bool}
use mathlib.Core.List.{List}
use native.Mathlib.Omega.{arith}
use borrow.Author.Rules.{rules}
use borrow.Author.Tests.{le-leb, lt-leb}
use Rattle.model.specs.declared.Head.{Head}
use Rattle.model.specs.Packet.{bit}
use Rattle.model.specs.Receive.{offset, unheard}
use Rattle.model.proofs.Minus.{wrapped}
use Rattle.refusals.specs.Refusals.{answered, refused_by}
use Rattle.payload.specs.declared.Payload.{Payload}
use Rattle.payload.specs.Stage.{no_payload, payload_of}
use Rattle.payload.proofs.Laws.{Reported, reported_says, unreported_says}
use Rattle.hearing.specs.Sayings.{arrival, nothing_heard, hearing_of}

-- THE WAYS THROUGH

module _ (h : Head) (time : ℕ) (m : Bool) (p : List ℕ) where
  pub no_report : (k : ℕ) → refused_by k no_payload ≡ payload_of h.codes p → refused_by k nothing_heard ≡ hearing_of h (arrival time m p)
  unfolding hearing_of unheard
  no_report k e = let s = unreported_says h.codes p k e in rw (s.1, s.0, s.0)

  module _ (f : Payload) (read : answered f ≡ payload_of h.codes p) where
    says : Reported h.codes p f
    says = reported_says h.codes p f read

    -- the volume has 6 bits
    pub volume_in_range : f.volume ≤ 63
    volume_in_range = omega (arith, says.volume_is)

    module _ (o : ℕ) (at : o ≡ offset h.origin time) where
      pub too_far : 0x8000_0000 ≤ o → refused_by 10 nothing_heard ≡ hearing_of h (arrival time m p)
      unfolding hearing_of unheard
      too_far far = rw (says.unrefused, le-leb 0x8000_0000 (offset h.origin time) (omega (arith, at)))

      pub all_heard : o < 0x8000_0000 → (key : ℕ) → key ≡ o * 256 + f.code
          → (told : ℕ) → told ≡ f.duration + 0x1_0000 * (bit f.ended + 2 * (bit m + 2 * (f.volume + 64 * f.volume)))
          → answered (record { key = key; told = told }) ≡ hearing_of h (arrival time m p)
      unfolding hearing_of unheard
      all_heard near key k told t =
          let not_far = lt-leb 0x8000_0000 (offset h.origin time) (omega (arith, at)) in
          rw (says.unrefused, not_far, k, t, at, says.code_is, says.end_is, says.volume_is, says.duration_is)

pub ruleset hears = (rules, wrapped, no_report, volume_in_range, too_far, all_heard)
