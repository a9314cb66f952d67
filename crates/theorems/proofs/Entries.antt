-- An answer in one number: refusals are below 256, so its three parts can be read from it, and no two answers have the same number.
use Prim.Native.Nat.{ℕ, ◌/◌, ◌%◌, ◌<◌, ◌≤◌}
use mathlib.Core.Path.{◌≡◌, refl, sym, ap, ◌∙◌}
use mathlib.Core.Bool.{Bool, true, false, cond}
use mathlib.Core.List.{List}
use native.Mathlib.Omega.{arith}
use lib.Dec.{ltb, eqb}
use borrow.Author.Tests.{ltb-true, eqb-true}
use Rattle.model.specs.declared.Codes.{Codes}
use Rattle.model.specs.declared.Table.{Table}
use Rattle.model.specs.declared.Received.{Received}
use Rattle.refusals.specs.Refusals.{none}
use Rattle.model.specs.Packet.{bit, header_refusal, payload_refusal}
use Rattle.model.specs.Receive.{Arrival, unheard, hear_refusal, hear, arrival_in, refusal_for, packet_refusal, receive}
use Rattle.model.specs.Redundant.{entry_of, is_new_in, refusal_in, probes_in}
use Rattle.theorems.proofs.Receives.{answer_refusal, heard_if, refused_if}

-- REFUSALS ARE SMALL

abbrev Small : ℕ → Type 0
Small n = ltb n 256 ≡ true

either : (c : Bool) (n later : ℕ) → Small n → Small later → Small (cond c n later)
either true n later p q = p
either false n later p q = q

small_header : (bs : List ℕ) → Small (header_refusal bs)
unfolding header_refusal
small_header bs = search either

small_payload : (codes : Codes) (p : List ℕ) → Small (payload_refusal codes p)
unfolding payload_refusal
small_payload codes p = search either

small_hearing : (t : Table) (a : Arrival) → Small (hear_refusal t a)
unfolding hear_refusal unheard
small_hearing t a = search (either, small_payload) depth 8

small_packet : (t : Table) (bs : List ℕ) → Small (packet_refusal t bs)
unfolding packet_refusal refusal_for
small_packet t bs = search (either, small_header) depth 8

pub hears_below_256 : (t : Table) (a : Arrival) → (hear t a).answer.refusal < 256
hears_below_256 t a = rw (answer_refusal t a) (ltb-true _ _ (small_hearing t a))

pub receives_below_256 : (t : Table) (bs : List ℕ) → (receive t bs).answer.refusal < 256
receives_below_256 t bs = go (eqb (packet_refusal t bs) none) refl
  where
    go : (b : Bool) → eqb (packet_refusal t bs) none ≡ b → (receive t bs).answer.refusal < 256
    go true e = rw (heard_if t bs (eqb-true (packet_refusal t bs) none e)) (hears_below_256 t (arrival_in bs))
    go false e = rw (refused_if t bs e) (ltb-true _ _ (small_packet t bs))

-- THE PARTS OF AN ENTRY

one_bit : (b : Bool) → bit b ≤ 1
one_bit true = omega arith
one_bit false = omega arith

bit_back : (b : Bool) → eqb (bit b) 1 ≡ b
bit_back true = refl
bit_back false = refl

module _ (a : Received) (small : a.refusal < 256) where
  pub refusal_back : refusal_in (entry_of a) ≡ a.refusal
  refusal_back = omega (arith, one_bit a.is_new)

  pub probes_back : probes_in (entry_of a) ≡ a.probes
  probes_back = omega (arith, one_bit a.is_new)

  pub new_back : is_new_in (entry_of a) ≡ a.is_new
  new_back =
      let q : entry_of a / 256 % 2 ≡ bit a.is_new = omega (arith, one_bit a.is_new) in
      ap (λ (n : ℕ). eqb n 1) q ∙ bit_back a.is_new

pub one_entry : (a b : Received) → a.refusal < 256 → b.refusal < 256 → entry_of a ≡ entry_of b
    → (a.refusal ≡ b.refusal) × (a.is_new ≡ b.is_new) × (a.probes ≡ b.probes)
one_entry a b s z e = (
  sym (refusal_back a s) ∙ (ap refusal_in e ∙ refusal_back b z),
  sym (new_back a s) ∙ (ap is_new_in e ∙ new_back b z),
  sym (probes_back a s) ∙ (ap probes_in e ∙ probes_back b z),
)
