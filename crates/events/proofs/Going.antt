-- Whoever goes from event to event of a table, and asks first how many there are: what the answer says, and what is still to come.
use Prim.Native.Nat.{ℕ, ◌+◌, ◌<◌, ◌≤◌, zero-le}
use mathlib.Core.Path.{◌≡◌, refl, ◌∙◌, ap}
use mathlib.Core.Bool.{Bool, true, false, not, cond}
use mathlib.Core.List.{List}
use native.Mathlib.Nat.{not-suc-le-zero}
use native.Mathlib.Omega.{arith}
use borrow.Author.Tests.{ltb-false}
use lib.Dec.{ltb, eqb}
use lib.ListN.{length, get_or, drop, length-drop}
use lib.Seq.{get_or-drop, drop-drop}
use Rattle.model.specs.declared.Event.{Event}
use Rattle.model.specs.declared.Table.{Table}
use Rattle.model.specs.declared.Listed.{Listed}
use Rattle.refusals.specs.Refusals.{answered}
use Rattle.model.specs.Answers.{no_event, listed_of}
use Rattle.model.specs.Table.{valid}
use Rattle.model.specs.List.{events, list_answer}

-- l are the events after the first k
module _ (t : Table) (k : ℕ) (l : List Event) where
  pub still_to_come : k < length (events t) → l ≡ drop k (events t) → 0 < length l
  still_to_come h e = omega (arith, ap length e, length-drop k (events t))

  pub comes_next : l ≡ drop k (events t) → get_or l 0 no_event ≡ get_or (events t) k no_event
  comes_next e =
      let z : k + 0 ≡ k = omega arith in
      ap (λ (m : List Event). get_or m 0 no_event) e ∙ get_or-drop k (events t) 0 no_event ∙ ap (λ (j : ℕ). get_or (events t) j no_event) z

  pub goes_on_behind : (m : List Event) → l ≡ drop k (events t) → m ≡ drop 1 l → m ≡ drop (k + 1) (events t)
  goes_on_behind m e f = f ∙ ap (drop 1) e ∙ drop-drop 1 k (events t)

module _ (t : Table) where
  -- the answer asks for no more records than are lent
  pub within : (room : ℕ) → (list_answer t room).events ≤ room
  within room = go (valid t) (ltb room (length (events t))) refl
    where
      go : (v b : Bool) → ltb room (length (events t)) ≡ b → cond (eqb (cond (not v) 16 (cond b 15 0)) 0) (length (events t)) 0 ≤ room
      go false b e = zero-le
      go true true e = zero-le
      go true false e = ltb-false room (length (events t)) e

  -- a record that the answer asks for is one of a table that passes the tests, and has its event
  pub asked : (k room : ℕ) → k < (list_answer t room).events → (valid t ≡ true) × (k < length (events t))
  asked k room = go (valid t) (ltb room (length (events t)))
    where
      go : (v b : Bool) → k < cond (eqb (cond (not v) 16 (cond b 15 0)) 0) (length (events t)) 0 → (v ≡ true) × (k < length (events t))
      go false b l = absurd (not-suc-le-zero l)
      go true true l = absurd (not-suc-le-zero l)
      go true false l = (refl, l)

  -- an answer that is given is of a table that passes the tests, and no larger than what is lent
  pub given : (room n : ℕ) → listed_of (answered n) ≡ list_answer t room → (valid t ≡ true) × ((n ≡ length (events t)) × (n ≤ room))
  given room n = go (valid t) (ltb room (length (events t))) refl
    where
      go : (v b : Bool) → ltb room (length (events t)) ≡ b
          → ◌≡◌ {A = Listed} (record { refusal = 0; events = n }) (record {
            refusal = cond (not v) 16 (cond b 15 0);
            events = cond (eqb (cond (not v) 16 (cond b 15 0)) 0) (length (events t)) 0;
          })
          → (v ≡ true) × ((n ≡ length (events t)) × (n ≤ room))
      go false b x e = absurd (omega (arith, ap (λ (a : Listed). a.refusal) e))
      go true true x e = absurd (omega (arith, ap (λ (a : Listed). a.refusal) e))
      go true false x e =
          let all = ap (λ (a : Listed). a.events) e in
          (refl, (all, omega (arith, all, ltb-false room (length (events t)) x)))
