-- The halving search: what one look keeps, how it goes on and ends, and that it finds where a pair stands or belongs.
use Prim.Native.Nat.{ℕ, zero, suc, ◌+◌, ◌*◌, ◌-◌, ◌/◌, ◌≤◌, ◌<◌}
use mathlib.Core.Path.{◌≡◌, refl, sym, ◌∙◌, ap}
use mathlib.Core.Bool.{Bool, true, false, false≢true}
use mathlib.Core.List.{List, ◌∷◌, ◌++◌}
use mathlib.Core.Logic.{⊎_elim}
use native.Mathlib.Nat.{eq-or-lt_of_le}
use native.Mathlib.Omega.{arith}
use lib.Dec.{ltb}
use borrow.Author.Tests.{lt-ltb, le-ltb, ltb-true, ltb-false}
use lib.ListN.{length, take, drop}
use Rattle.model.specs.declared.Segment.{Segment}
use Rattle.model.specs.Segments.{same_pair}
use Rattle.model.specs.Table.{holds, put}
use Rattle.model.specs.Search.{Range, size, middle, right_of, left_of, entry, is_smaller, kept, ends, one_more, searching, search_in, search}
use Rattle.theorems.proofs.Order.{◌≺◌, Alike, before_if, before_then, same_if, same_then, ≺_trans, Rising}
use Rattle.theorems.proofs.Places.{Belongs, entries_rise, stands_held, belongs_held, belongs_put}

-- ONE LOOK

smaller_then : (s r : Segment) → is_smaller s r ≡ true → s ≺ r
unfolding is_smaller
smaller_then = before_then

smaller_if : {s r : Segment} → s ≺ r → is_smaller s r ≡ true
unfolding is_smaller
smaller_if h = before_if h

-- a place of the range that has half of it, rounded down, before it
pub record Halves (m : ℕ) (g : Range) : Type 0 where
  pub from : g.low ≤ m
  pub in_range : m < g.high
  pub half : m - g.low ≡ size g / 2

pub halves : (g : Range) → g.low < g.high → Halves (middle g) g
unfolding middle
halves g h = record { from = omega arith; in_range = omega arith; half = omega arith }

-- k is a part of g, half of it or one less
pub record Part (g k : Range) : Type 0 where
  pub low : g.low ≤ k.low
  pub low_high : k.low ≤ k.high
  pub high : k.high ≤ g.high
  pub most : 2 * size k ≤ size g
  pub least : size g ≤ 2 * size k + 2

module _ (r : Segment) (l : List Segment) where
  pub keeps_right : (g : Range) → is_smaller (entry l (middle g)) r ≡ true → kept r l g ≡ right_of (middle g) g
  unfolding kept
  keeps_right g e = rw e

  pub keeps_left : (g : Range) → is_smaller (entry l (middle g)) r ≡ false → kept r l g ≡ left_of (middle g) g
  unfolding kept
  keeps_left g e = rw e

  -- whatever holds of both parts holds of the one that is kept
  pub kept_by : (P : Range → Type 0) (g : Range)
      → (is_smaller (entry l (middle g)) r ≡ true → P (right_of (middle g) g))
      → (is_smaller (entry l (middle g)) r ≡ false → P (left_of (middle g) g))
      → P (kept r l g)
  kept_by P g f k = go (is_smaller (entry l (middle g)) r) refl
    where
      go : (b : Bool) → is_smaller (entry l (middle g)) r ≡ b → P (kept r l g)
      go true e = rw (keeps_right g e) (f e)
      go false e = rw (keeps_left g e) (k e)

  pub kept_part : (g : Range) → g.low < g.high → Part g (kept r l g)
  kept_part g h =
      let m = halves g h in
      kept_by (Part g) g
      (λ e. record {
        low = omega (arith, m.from);
        low_high = omega (arith, m.in_range);
        high = omega arith;
        most = omega (arith, m.from, m.half);
        least = omega (arith, m.from, m.half);
      })
      (λ e. record { low = omega arith; low_high = m.from; high = omega (arith, m.in_range); most = omega (arith, m.half); least = omega (arith, m.half) })

  fewer : (g : Range) → g.low < g.high → size (kept r l g) < size g
  fewer g h = omega (arith, (kept_part g h).most)

  -- HOW IT GOES ON

  looks : (n : ℕ) (g : Range) → g.low < g.high → searching (suc n) r l g ≡ one_more (searching n r l (kept r l g))
  unfolding searching
  looks n g h = rw (lt-ltb g.low g.high h)

  nothing_left : (n : ℕ) (g : Range) → g.high ≤ g.low → searching n r l g ≡ ends g
  unfolding searching
  nothing_left zero g h = refl
  nothing_left (suc n) g h = rw (le-ltb g.low g.high h)

  -- any number that is large enough will do
  enough : (n k : ℕ) (g : Range) → size g ≤ n → size g ≤ k → searching n r l g ≡ searching k r l g
  enough zero k g h h' = nothing_left zero g (omega arith) ∙ sym (nothing_left k g (omega arith))
  enough (suc n) zero g h h' = nothing_left (suc n) g (omega arith) ∙ sym (nothing_left zero g (omega arith))
  enough (suc n) (suc k) g h h' = go (ltb g.low g.high) refl (λ u. enough n k (kept r l g) (omega (arith, fewer g u)) (omega (arith, fewer g u)))
    where
      go : (b : Bool) → ltb g.low g.high ≡ b → (g.low < g.high → searching n r l (kept r l g) ≡ searching k r l (kept r l g))
          → searching (suc n) r l g ≡ searching (suc k) r l g
      go true e ih = let u = ltb-true g.low g.high e in looks n g u ∙ ap one_more (ih u) ∙ sym (looks k g u)
      go false e ih = nothing_left (suc n) g (ltb-false _ _ e) ∙ sym (nothing_left (suc k) g (ltb-false _ _ e))

  pub goes_on : (g : Range) → g.low < g.high → search_in r l g ≡ one_more (search_in r l (kept r l g))
  goes_on g h = go (size g) refl
    where
      go : (n : ℕ) → n ≡ size g → searching n r l g ≡ one_more (search_in r l (kept r l g))
      go zero e = absurd (omega (arith, h))
      go (suc n) e = looks n g h ∙ ap one_more (enough n (size (kept r l g)) (kept r l g) (omega (arith, fewer g h)) (omega arith))

  pub stops : (g : Range) → g.high ≤ g.low → search_in r l g ≡ ends g
  stops g h = nothing_left (size g) g h

  -- what holds of a range with nothing in it, and of any other if it holds of what one look keeps of that, holds of every range
  module _ (P : Range → Type 0) (none : (g : Range) → g.high ≤ g.low → P g) (more : (g : Range) → g.low < g.high → P (kept r l g) → P g) where
    by_n_looks : (n : ℕ) (g : Range) → size g ≤ n → P g
    by_n_looks zero g h = none g (omega arith)
    by_n_looks (suc n) g h = go (ltb g.low g.high) refl (λ u. by_n_looks n (kept r l g) (omega (arith, fewer g u)))
      where
        go : (b : Bool) → ltb g.low g.high ≡ b → (g.low < g.high → P (kept r l g)) → P g
        go true e ih = let u = ltb-true g.low g.high e in more g u (ih u)
        go false e ih = none g (ltb-false _ _ e)

    pub by_looks : (g : Range) → P g
    by_looks g = by_n_looks (size g) g (omega arith)

  -- WHERE IT ENDS

  -- r belongs in the range: all before it are earlier, and none from its end on
  record Around (g : Range) : Type 0 where
    low_high : g.low ≤ g.high
    within : g.high ≤ length l
    below : (i : ℕ) → i < g.low → entry l i ≺ r
    above : (i : ℕ) → g.high ≤ i → i < length l → entry l i ≺ r → ⊥

  module _ (rises : Rising l) where
    around_kept : (g : Range) → g.low < g.high → Around g → Around (kept r l g)
    around_kept g h a = kept_by Around g smaller (λ e. not_smaller e)
      where
        m : Halves (middle g) g
        m = halves g h

        smaller : is_smaller (entry l (middle g)) r ≡ true → Around (right_of (middle g) g)
        smaller e = record {
          low_high = omega (arith, m.in_range);
          within = a.within;
          below = λ i u. ⊎_elim (λ q. rw q here) (λ v. ≺_trans (entries_rise l rises i (middle g) v (omega (arith, m.in_range, a.within))) here)
              (eq-or-lt_of_le (up_to i u));
          above = a.above;
        }
          where
            here : entry l (middle g) ≺ r
            here = smaller_then (entry l (middle g)) r e

            up_to : (i : ℕ) → i < middle g + 1 → i ≤ middle g
            up_to i u = omega arith

        not_smaller : is_smaller (entry l (middle g)) r ≡ false → Around (left_of (middle g) g)
        not_smaller e = record {
          low_high = m.from;
          within = omega (arith, m.in_range, a.within);
          below = a.below;
          above = λ i u v p. not_here (⊎_elim (λ q. rw q p) (λ w. ≺_trans (entries_rise l rises (middle g) i w v) p) (eq-or-lt_of_le u));
        }
          where
            not_here : entry l (middle g) ≺ r → ⊥
            not_here p = absurd (false≢true (sym e ∙ smaller_if p))

    around_finds : (g : Range) → Around g → Belongs r l (search_in r l g).place
    around_finds = by_looks (λ g. Around g → Belongs r l (search_in r l g).place)
        (λ g h a. rw (stops g h) (record { within = omega (arith, a.low_high, a.within); below = a.below; above = λ i u. a.above i (omega (arith, a.low_high)) }))
        (λ g h ih a. rw (goes_on g h) (ih (around_kept g h a)))

    pub finds : Belongs r l (search r l).place
    finds = around_finds (record { low = 0; high = length l }) (record {
      low_high = omega arith;
      within = omega arith;
      below = λ i h. absurd (omega arith);
      above = λ i h k. absurd (omega arith);
    })

    -- a pair that is held stands there
    pub finds_held : holds r l ≡ true → ((search r l).place < length l) × Alike r (entry l (search r l).place)
    finds_held e = go (ltb p (length l)) (same_pair r (entry l p)) refl refl
      where
        p : ℕ
        p = (search r l).place

        go : (b c : Bool) → ltb p (length l) ≡ b → same_pair r (entry l p) ≡ c → (p < length l) × Alike r (entry l p)
        go true true u v = (ltb-true _ _ u, same_then r (entry l p) v)
        go true false u v = absurd (false≢true (sym (belongs_held r l p finds rises (λ h a. false≢true (sym v ∙ same_if a))) ∙ e))
        go false c u v = absurd (false≢true (sym (belongs_held r l p finds rises (λ h a. omega (arith, ltb-false p (length l) u))) ∙ e))

    -- and a new one belongs there
    pub finds_new : holds r l ≡ false → put r l ≡ take (search r l).place l ++ (r ∷ drop (search r l).place l)
    finds_new e = belongs_put r l _ finds rises (λ h a. false≢true (sym e ∙ stands_held r l _ finds h a))
