-- Each way through the second stage of reading, as a law over the payload's bytes.
use Prim.Native.Nat.{ℕ, ◌/◌, ◌%◌, ◌≤◌, ◌<◌}
use mathlib.Core.Path.{◌≡◌, sym, ◌∙◌, ap}
use mathlib.Core.Bool.{Bool, true, false, not}
use mathlib.Core.List.{List}
use borrow.Author.Rules.{rules}
use borrow.Author.Tests.{not-true, not-false, le-leb, lt-leb, eq-eqb, ne_eqb}
use lib.Dec.{eqb}
use lib.ListN.{length}
use Rattle.model.specs.Packet.{byte, number16, code, ended, volume, duration, payload_refusal}
use Rattle.model.specs.declared.Codes.{Codes}
use Rattle.model.specs.Codes.{is_in}
use Rattle.refusals.specs.Refusals.{answered, refused_by}
use Rattle.refusals.proofs.Told.{given, refused}
use Rattle.payload.specs.declared.Payload.{Payload}
use Rattle.payload.specs.Stage.{no_payload, payload_of}

-- THE SECOND STAGE

module _ (codes : Codes) (p : List ℕ) where
  module _ (not_four : length p ≡ 4 → ⊥) where
    pub too_few : length p < 8 → refused_by 7 no_payload ≡ payload_of codes p
    unfolding payload_of payload_refusal
    too_few h = rw (lt-leb 8 (length p) h, ne_eqb (length p) 4 not_four)

    module _ (eight : 8 ≤ length p) where
      pub no_fours : (length p % 4 ≡ 0 → ⊥) → refused_by 7 no_payload ≡ payload_of codes p
      unfolding payload_of payload_refusal
      no_fours h = rw (le-leb 8 (length p) eight, ne_eqb (length p % 4) 0 h, ne_eqb (length p) 4 not_four)

      pub whole_fours : length p % 4 ≡ 0 → refused_by 17 no_payload ≡ payload_of codes p
      unfolding payload_of payload_refusal
      whole_fours h = rw (le-leb 8 (length p) eight, eq-eqb (length p % 4) 0 h)

  module _ (four : length p ≡ 4) where
    pub code_outside : (b : Bool) → b ≡ is_in codes (byte p 0) → not b ≡ true → refused_by 8 no_payload ≡ payload_of codes p
    unfolding payload_of payload_refusal
    code_outside b e h = rw (four, ← e, not-true b h)

    module _ (b : Bool) (known : b ≡ is_in codes (byte p 0)) (h : not b ≡ false) (d : ℕ) (e : d ≡ number16 p 2) where
      inside : is_in codes (byte p 0) ≡ true
      inside = sym known ∙ not-false b h

      pub no_duration : d ≡ 0 → refused_by 9 no_payload ≡ payload_of codes p
      unfolding payload_of payload_refusal
      no_duration z = rw (four, inside, eq-eqb (number16 p 2) 0 (sym e ∙ z))

      pub heard : (d ≡ 0 → ⊥) → answered (record { code = byte p 0; ended = eqb (byte p 1 / 128) 1; volume = byte p 1 % 64; duration = d }) ≡ payload_of codes p
      unfolding payload_of payload_refusal
      heard z = rw (e, four, inside, ne_eqb (number16 p 2) 0 (λ q. z (e ∙ q)))

-- WHAT THE ANSWER SAYS of the payload, if it is a report

pub record Reported (codes : Codes) (p : List ℕ) (f : Payload) : Type 0 where
  pub unrefused : payload_refusal codes p ≡ 0
  pub code_is : f.code ≡ code p
  pub end_is : f.ended ≡ ended p
  pub volume_is : f.volume ≡ volume p
  pub duration_is : f.duration ≡ duration p

module _ (codes : Codes) (p : List ℕ) where
  abbrev reported : Payload
  reported = record { code = code p; ended = ended p; volume = volume p; duration = duration p }

  pub unreported_says : (k : ℕ) → refused_by k no_payload ≡ payload_of codes p → (eqb (payload_refusal codes p) 0 ≡ false) × (k ≡ payload_refusal codes p)
  unfolding payload_of
  unreported_says k e =
      let s = refused (payload_refusal codes p) no_payload reported k e in
      (s.1, s.0)

  pub reported_says : (f : Payload) → answered f ≡ payload_of codes p → Reported codes p f
  unfolding payload_of
  reported_says f e =
      let s = given (payload_refusal codes p) no_payload reported f e in
      record {
        unrefused = s.0;
        code_is = ap (λ (x : Payload). x.code) s.1;
        end_is = ap (λ (x : Payload). x.ended) s.1;
        volume_is = ap (λ (x : Payload). x.volume) s.1;
        duration_is = ap (λ (x : Payload). x.duration) s.1;
      }

pub ruleset reporting = (rules, too_few, no_fours, whole_fours, code_outside, no_duration, heard)
