-- Where a report belongs in a list of segments that rises, and what `holds` and `put` do there.
use Prim.Native.Nat.{ℕ, zero, suc, ◌≤◌, ◌<◌}
use mathlib.Core.Path.{◌≡◌, refl, ◌∙◌, ap}
use mathlib.Core.Bool.{Bool, true, false, cond, ◌||◌}
use mathlib.Core.List.Memᴰ
use mathlib.Core.List.{List, [], ◌∷◌, ◌++◌}
use mathlib.Core.Logic.{⊎_elim}
use native.Mathlib.Nat.{eq-or-lt_of_le}
use native.Mathlib.Omega.{arith}
use lib.Dec.{ltb}
use borrow.Author.Tests.{ltb-true, ltb-false}
use lib.ListN.{length, set, take, drop}
use Rattle.model.specs.declared.Segment.{Segment}
use Rattle.model.specs.Segments.{before, same_pair, merge}
use Rattle.model.specs.Search.{entry}
use Rattle.model.specs.Table.{holds, put}
use Rattle.theorems.proofs.Basics.{Mem}
use Rattle.theorems.proofs.Order.{
  ◌≺◌,
  Alike,
  Compared,
  compared,
  before_if,
  same_if,
  same_then,
  alike_refl,
  alike_sym,
  ≺_trans,
  ≺_not_alike,
  Rising,
}

-- those before place p are earlier than r, and from there on none is
pub record Belongs (r : Segment) (l : List Segment) (p : ℕ) : Type 0 where
  pub within : p ≤ length l
  pub below : (i : ℕ) → i < p → entry l i ≺ r
  pub above : (i : ℕ) → p ≤ i → i < length l → entry l i ≺ r → ⊥

-- THE ENTRIES OF A LIST THAT RISES

entry_mem : (l : List Segment) (i : ℕ) → i < length l → Mem (entry l i) l
entry_mem [] i h = absurd (omega arith)
entry_mem (s ∷ ts) zero h = Memᴰ.head refl
entry_mem (s ∷ ts) (suc i) h = Memᴰ.tail (entry_mem ts i (omega arith))

pub entries_rise : (l : List Segment) → Rising l → (i j : ℕ) → i < j → j < length l → entry l i ≺ entry l j
entries_rise [] g i j h k = absurd (omega arith)
entries_rise (s ∷ ts) g i zero h k = absurd (omega arith)
entries_rise (s ∷ ts) g zero (suc j) h k = g.0 (entry ts j) (entry_mem ts j (omega arith))
entries_rise (s ∷ ts) g (suc i) (suc j) h k = entries_rise ts g.1 i j (omega arith) (omega arith)

-- WHAT STANDS AT A PLACE

module _ (r : Segment) where
  passes : (s : Segment) (ts : List Segment) → s ≺ r → put r (s ∷ ts) ≡ s ∷ put r ts
  unfolding put
  passes s ts h = go (before r s) (same_pair r s) (compared r s)
    where
      go : (x y : Bool) → Compared x y r s → cond x (r ∷ s ∷ ts) (cond y (merge r s ∷ ts) (s ∷ put r ts)) ≡ s ∷ put r ts
      go true y c = absurd (≺_not_alike (≺_trans c h) (alike_refl r))
      go false true c = absurd (≺_not_alike h (alike_sym c))
      go false false c = refl

  put_same : (l : List Segment) (p : ℕ) → p < length l → ((i : ℕ) → i < p → entry l i ≺ r) → Alike r (entry l p)
      → put r l ≡ set l p (merge r (entry l p))
  unfolding put
  put_same [] p h below a = absurd (omega arith)
  put_same (s ∷ ts) zero h below a = go (before r s) (same_pair r s) (compared r s)
    where
      go : (x y : Bool) → Compared x y r s → cond x (r ∷ s ∷ ts) (cond y (merge r s ∷ ts) (s ∷ put r ts)) ≡ merge r s ∷ ts
      go true y c = absurd (≺_not_alike c a)
      go false true c = refl
      go false false c = absurd (≺_not_alike c (alike_sym a))
  put_same (s ∷ ts) (suc p) h below a =
      passes s ts (below zero (omega arith)) ∙ ap (λ (l : List Segment). s ∷ l) (put_same ts p (omega arith) (λ i k. below (suc i) (omega arith)) a)

  put_between : (l : List Segment) (p : ℕ) → p ≤ length l → ((i : ℕ) → i < p → entry l i ≺ r) → (p < length l → r ≺ entry l p)
      → put r l ≡ take p l ++ (r ∷ drop p l)
  unfolding put
  put_between [] zero h below above = refl
  put_between [] (suc p) h below above = absurd (omega arith)
  put_between (s ∷ ts) zero h below above = rw (before_if (above (omega arith)))
  put_between (s ∷ ts) (suc p) h below above =
      passes s ts (below zero (omega arith))
      ∙ ap (λ (l : List Segment). s ∷ l) (put_between ts p (omega arith) (λ i k. below (suc i) (omega arith)) (λ k. above (omega arith)))

  holds_at : (l : List Segment) (p : ℕ) → p < length l → Alike r (entry l p) → holds r l ≡ true
  unfolding holds
  holds_at [] p h a = absurd (omega arith)
  holds_at (s ∷ ts) zero h a = rw (same_if a)
  holds_at (s ∷ ts) (suc p) h a = go (same_pair r s) (holds_at ts p (omega arith) a)
    where
      go : (b : Bool) → holds r ts ≡ true → (b || holds r ts) ≡ true
      go true e = refl
      go false e = e

  holds_none : (l : List Segment) → ((i : ℕ) → i < length l → Alike r (entry l i) → ⊥) → holds r l ≡ false
  unfolding holds
  holds_none [] n = refl
  holds_none (s ∷ ts) n = go (same_pair r s) refl (holds_none ts (λ i k. n (suc i) (omega arith)))
    where
      go : (b : Bool) → same_pair r s ≡ b → holds r ts ≡ false → (b || holds r ts) ≡ false
      go true q e = absurd (n zero (omega arith) (same_then r s q))
      go false q e = e

-- WHERE A REPORT BELONGS

module _ (r : Segment) (l : List Segment) (p : ℕ) (b : Belongs r l p) where
  -- its pair stands there
  module _ (h : p < length l) (a : Alike r (entry l p)) where
    pub stands_held : holds r l ≡ true
    stands_held = holds_at r l p h a

    pub stands_put : put r l ≡ set l p (merge r (entry l p))
    stands_put = put_same r l p h b.below a

  -- another stands there, or none
  module _ (g : Rising l) (other : p < length l → Alike r (entry l p) → ⊥) where
    next : p < length l → r ≺ entry l p
    next h = go (before r (entry l p)) (same_pair r (entry l p)) (compared r (entry l p))
      where
        go : (x y : Bool) → Compared x y r (entry l p) → r ≺ entry l p
        go true y c = c
        go false true c = absurd (other h c)
        go false false c = absurd (b.above p (omega arith) h c)

    apart : (i : ℕ) → i < length l → Alike r (entry l i) → (c : Bool) → ltb i p ≡ c → ⊥
    apart i h a true q = ≺_not_alike (b.below i (ltb-true i p q)) (alike_sym a)
    apart i h a false q = ⊎_elim (λ e. other (omega arith) (rw (← e) at a)) (λ k. later k) (eq-or-lt_of_le (ltb-false i p q))
      where
        later : p < i → ⊥
        later k = ≺_not_alike (≺_trans (next (omega arith)) (entries_rise l g p i k h)) a

    pub belongs_held : holds r l ≡ false
    belongs_held = holds_none r l (λ i h a. apart i h a (ltb i p) refl)

    pub belongs_put : put r l ≡ take p l ++ (r ∷ drop p l)
    belongs_put = put_between r l p b.within b.below next
