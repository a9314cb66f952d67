-- How many entries a receiving call says that it looked at: at most 8, and by the answer's refusal, the search's own number or 0.
use Prim.Native.Nat.{ℕ, ◌≤◌}
use mathlib.Core.Path.{◌≡◌, refl, sym, ◌∙◌, subst}
use mathlib.Core.Bool.{Bool, true, false, cond}
use mathlib.Core.List.{List}
use mathlib.Core.Logic.{◌⊎◌, inl, inr, ⊎_elim}
use native.Mathlib.Omega.{arith}
use lib.Dec.{eqb}
use borrow.Author.Tests.{eqb-true, eqb-false}
use Rattle.model.specs.declared.Codes.{Codes}
use Rattle.model.specs.declared.Head.{Head}
use Rattle.model.specs.declared.Table.{Table}
use Rattle.refusals.specs.Refusals.{table_full, none}
use Rattle.model.specs.Packet.{header_refusal, payload_refusal}
use Rattle.model.specs.Search as lookup
use Rattle.model.specs.Table.{valid, held, no_room}
use Rattle.model.specs.Receive.{
  Arrival,
  heard_by,
  heard_in,
  unheard,
  hear_refusal,
  probes,
  Receiving,
  hear,
  arrival_in,
  refusal_for,
  packet_refusal,
  receive,
}
use Rattle.theorems.proofs.Probes.{at_most_8}
use Rattle.theorems.proofs.Tables.{tests_passed, held_length}
use Rattle.theorems.proofs.Receives.{answer_refusal, answer_probes, read_then, heard_if, refused_if}

-- AT MOST 8

few_probes : (t : Table) (a : Arrival) → valid t ≡ true → probes t a ≤ 8
unfolding probes
few_probes t a v = go (eqb (unheard t.head a) none)
  where
    go : (b : Bool) → cond b (lookup.search (heard_by t a) (held t)).probes 0 ≤ 8
    go true = at_most_8 (heard_by t a) (held t) (omega (arith, held_length t, (tests_passed t v).few))
    go false = omega arith

pub hears_with_8 : (t : Table) (a : Arrival) → valid t ≡ true → (hear t a).answer.probes ≤ 8
hears_with_8 t a v = rw (answer_probes t a) (few_probes t a v)

pub looks_at_8 : (t : Table) (bs : List ℕ) → (receive t bs).answer.probes ≤ 8
looks_at_8 t bs = go (eqb (packet_refusal t bs) none) refl
  where
    go : (b : Bool) → eqb (packet_refusal t bs) none ≡ b → (receive t bs).answer.probes ≤ 8
    go true e =
        let n = eqb-true (packet_refusal t bs) none e in
        rw (heard_if t bs n) (hears_with_8 t (arrival_in bs) (read_then t bs n).passes)
    go false e = rw (refused_if t bs e) (omega arith)

-- 11 IS FOUND OUT BY THE SEARCH, AND BY NOTHING BEFORE IT

abbrev Other : ℕ → Type 0
Other n = eqb n table_full ≡ false

either : (c : Bool) (n later : ℕ) → Other n → Other later → Other (cond c n later)
either true n later p q = p
either false n later p q = q

other_header : (bs : List ℕ) → Other (header_refusal bs)
unfolding header_refusal
other_header bs = search either

other_payload : (codes : Codes) (p : List ℕ) → Other (payload_refusal codes p)
unfolding payload_refusal
other_payload codes p = search either

other_unheard : (h : Head) (a : Arrival) → Other (unheard h a)
unfolding unheard
other_unheard h a = search (either, other_payload) depth 8

other_packet : (t : Table) (bs : List ℕ) → Other (packet_refusal t bs)
unfolding packet_refusal refusal_for
other_packet t bs = search (either, other_header) depth 8

-- BY THE REFUSAL
-- the looks of the search if nothing is refused and under 11, none under every other number

abbrev Searches : Receiving → Type 0
Searches r = (r.answer.refusal ≡ none) ⊎ (r.answer.refusal ≡ table_full)

module _ (t : Table) (a : Arrival) where
  abbrev looked : ℕ
  looked = (lookup.search (heard_by t a) (held t)).probes

  hears_of_search : Searches (hear t a) → (hear t a).answer.probes ≡ looked
  unfolding hear_refusal probes
  hears_of_search h = answer_probes t a ∙ go (eqb (unheard t.head a) none) refl (⊎_elim (λ e. inl (told ∙ e)) (λ e. inr (told ∙ e)) h)
    where
      told : hear_refusal t a ≡ (hear t a).answer.refusal
      told = sym (answer_refusal t a)

      go : (b : Bool) → eqb (unheard t.head a) none ≡ b
          → (cond b (cond (no_room t (heard_by t a)) 11 0) (unheard t.head a) ≡ none)
          ⊎ (cond b (cond (no_room t (heard_by t a)) 11 0) (unheard t.head a) ≡ table_full)
          → cond b looked 0 ≡ looked
      go true e h = refl
      go false e (inl q) = absurd (eqb-false (unheard t.head a) none e q)
      go false e (inr q) = absurd (eqb-false (unheard t.head a) table_full (other_unheard t.head a) q)

  hears_before_search : (Searches (hear t a) → ⊥) → (hear t a).answer.probes ≡ 0
  unfolding hear_refusal probes
  hears_before_search p = answer_probes t a ∙ go (eqb (unheard t.head a) none) (no_room t (heard_by t a)) (λ e. p (inl (told ∙ e))) (λ e. p (inr (told ∙ e)))
    where
      told : (hear t a).answer.refusal ≡ hear_refusal t a
      told = answer_refusal t a

      go : (b c : Bool) → (cond b (cond c 11 0) (unheard t.head a) ≡ none → ⊥)
          → (cond b (cond c 11 0) (unheard t.head a) ≡ table_full → ⊥) → cond b looked 0 ≡ 0
      go true true p q = absurd (q refl)
      go true false p q = absurd (p refl)
      go false c p q = refl

module _ (t : Table) (bs : List ℕ) where
  pub looks_of_search : Searches (receive t bs) → (receive t bs).answer.probes ≡ (lookup.search (heard_in t bs) (held t)).probes
  looks_of_search h = go (eqb (packet_refusal t bs) none) refl
    where
      go : (b : Bool) → eqb (packet_refusal t bs) none ≡ b → (receive t bs).answer.probes ≡ (lookup.search (heard_in t bs) (held t)).probes
      go true e =
          let q = heard_if t bs (eqb-true (packet_refusal t bs) none e) in
          (λ i. (q i).answer.probes) ∙ hears_of_search t (arrival_in bs) (subst Searches q h)
      go false e =
          let q = subst Searches (refused_if t bs e) h in
          absurd (⊎_elim (eqb-false (packet_refusal t bs) none e) (eqb-false (packet_refusal t bs) table_full (other_packet t bs)) q)

  pub looks_before_search : ((receive t bs).answer.refusal ≡ none → ⊥) → ((receive t bs).answer.refusal ≡ table_full → ⊥) → (receive t bs).answer.probes ≡ 0
  looks_before_search p q = go (eqb (packet_refusal t bs) none) refl
    where
      go : (b : Bool) → eqb (packet_refusal t bs) none ≡ b → (receive t bs).answer.probes ≡ 0
      go true e =
          let r = heard_if t bs (eqb-true (packet_refusal t bs) none e) in
          (λ i. (r i).answer.probes) ∙ hears_before_search t (arrival_in bs) (λ s. ⊎_elim p q (subst Searches (sym r) s))
      go false e = λ i. (refused_if t bs e i).answer.probes
