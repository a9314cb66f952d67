-- The records that the list call writes one after another are the events, and those after them stay.
use Prim.Native.Nat.{ℕ, zero, suc, ◌≤◌}
use mathlib.Core.Path.{◌≡◌, refl, sym, ◌∙◌, ap}
use mathlib.Core.Bool.{Bool, true, false, not, cond}
use mathlib.Core.List.{List, ◌++◌}
use native.Mathlib.Omega.{arith}
use borrow.Author.Tests.{ltb-false}
use lib.Dec.{ltb, eqb}
use lib.ListN.{length, get_or, take, drop, set, length-set}
use lib.Seq.{length-take-le, take-length, take-suc, drop-cons, append_snoc, set_at}
use Rattle.model.specs.declared.Event.{Event}
use Rattle.model.specs.declared.Table.{Table}
use Rattle.model.specs.Answers.{no_event}
use Rattle.model.specs.Table.{valid}
use Rattle.model.specs.List.{events, list_answer, list}

-- the lent records once k events are written
abbrev pub filled : Table → ℕ → List Event → List Event
filled t zero l = l
filled t (suc k) l = set (filled t k l) k (get_or (events t) k no_event)

module _ (t : Table) where
  pub length_filled : (k : ℕ) (l : List Event) → length (filled t k l) ≡ length l
  length_filled zero l = refl
  length_filled (suc k) l = length-set (filled t k l) k (get_or (events t) k no_event) ∙ length_filled k l

  filled_is : (k : ℕ) (l : List Event) → k ≤ length (events t) → k ≤ length l → filled t k l ≡ take k (events t) ++ drop k l
  filled_is zero l h m = refl
  filled_is (suc k) l h m =
      ap (λ (r : List Event). set r k v)
      (filled_is k l (omega arith) (omega arith) ∙ ap (λ (r : List Event). take k (events t) ++ r) (drop-cons l k no_event m))
      ∙ set_at (take k (events t)) (get_or l k no_event) (drop (suc k) l) v k (length-take-le k (events t) (omega arith))
      ∙ sym (ap (λ (r : List Event). r ++ drop (suc k) l) (take-suc (events t) k no_event h) ∙ append_snoc (take k (events t)) v (drop (suc k) l))
    where
      v : Event
      v = get_or (events t) k no_event

  pub filled_all : (l : List Event) → filled t (list_answer t (length l)).events l ≡ (list t l).records
  filled_all l = go (valid t) (ltb (length l) (length (events t))) refl
    where
      go : (v b : Bool) → ltb (length l) (length (events t)) ≡ b
          → filled t (cond (eqb (cond (not v) 16 (cond b 15 0)) 0) (length (events t)) 0) l
          ≡ cond (eqb (cond (not v) 16 (cond b 15 0)) 0) (events t ++ drop (length (events t)) l) l
      go false b e = refl
      go true true e = refl
      go true false e =
          filled_is (length (events t)) l (omega arith) (ltb-false (length l) (length (events t)) e)
          ∙ ap (λ (r : List Event). r ++ drop (length (events t)) l) (take-length (events t))
