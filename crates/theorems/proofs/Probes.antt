-- How many entries the halving search looks at: at most k where there are fewer than 2^k, and exactly how many for a power of two
-- and for one less.
use Prim.Native.Nat.{ℕ, zero, suc, ◌+◌, ◌^◌, ◌≤◌, ◌<◌}
use mathlib.Core.Path.{◌≡◌, refl}
use mathlib.Core.List.{List}
use native.Mathlib.Omega.{arith}
use lib.Dec.{leb}
use borrow.Author.Tests.{le-leb, lt-leb}
use lib.ListN.{length}
use Rattle.model.specs.declared.Segment.{Segment}
use Rattle.model.specs.Packet.{bit}
use Rattle.model.specs.Search.{Range, size, middle, right_of, left_of, kept, search_in, search}
use Rattle.theorems.proofs.Search.{Halves, halves, kept_by, kept_part, goes_on, stops, by_looks}

module _ (r : Segment) (l : List Segment) where
  -- AT MOST

  pub at_most : (g : Range) (k : ℕ) → size g < 2 ^ k → (search_in r l g).probes ≤ k
  at_most = by_looks r l (λ g. (k : ℕ) → size g < 2 ^ k → (search_in r l g).probes ≤ k)
      (λ g h k u. rw (stops r l g h) (omega arith))
      (λ g h ih k u. rw (goes_on r l g h) (go g h ih k u))
    where
      go : (g : Range) → g.low < g.high → ((k : ℕ) → size (kept r l g) < 2 ^ k → (search_in r l (kept r l g)).probes ≤ k) → (k : ℕ) → size g < 2 ^ k
          → (search_in r l (kept r l g)).probes + 1 ≤ k
      go g h ih zero u = absurd (omega arith)
      go g h ih (suc k) u = omega (arith, ih k (omega (arith, (kept_part r l g h).most)))

  -- EXACTLY

  -- one less than a power of two: both parts have one less than half of it
  pub exactly : (g : Range) (k : ℕ) → size g + 1 ≡ 2 ^ k → (search_in r l g).probes ≡ k
  exactly = by_looks r l (λ g. (k : ℕ) → size g + 1 ≡ 2 ^ k → (search_in r l g).probes ≡ k)
      (λ g h k u. rw (stops r l g h) (none k (omega arith)))
      (λ g h ih k u. rw (goes_on r l g h) (go g h ih k u))
    where
      none : (k : ℕ) → 1 ≡ 2 ^ k → 0 ≡ k
      none zero u = refl
      none (suc k) u = absurd (omega arith)

      go : (g : Range) → g.low < g.high → ((k : ℕ) → size (kept r l g) + 1 ≡ 2 ^ k → (search_in r l (kept r l g)).probes ≡ k) → (k : ℕ) → size g + 1 ≡ 2 ^ k
          → (search_in r l (kept r l g)).probes + 1 ≡ k
      go g h ih zero u = absurd (omega arith)
      go g h ih (suc k) u = let p = kept_part r l g h in omega (arith, ih k (omega (arith, p.most, p.least)))

  -- it ends in the range or at its end
  record Inside (g : Range) (p : ℕ) : Type 0 where
    from : g.low ≤ p
    upto : p ≤ g.high

  inside : (g : Range) → g.low ≤ g.high → Inside g (search_in r l g).place
  inside = by_looks r l (λ g. g.low ≤ g.high → Inside g (search_in r l g).place)
      (λ g h k. rw (stops r l g h) (record { from = omega arith; upto = k }))
      (λ g h ih k. rw (goes_on r l g h) (go g h ih))
    where
      go : (g : Range) → g.low < g.high → ((kept r l g).low ≤ (kept r l g).high → Inside (kept r l g) (search_in r l (kept r l g)).place)
          → Inside g (search_in r l (kept r l g)).place
      go g h ih =
          let p = kept_part r l g h in
          let w = ih p.low_high in
          record { from = omega (arith, p.low, w.from); upto = omega (arith, p.high, w.upto) }

  -- a power of two: the left part has half of it, the right part one less, so one look more is made where the pair stands or
  -- belongs in the first two places
  abbrev Counted : ℕ → Range → Range → Type 0
  Counted n g part = (search_in r l part).probes + 1 ≡ n + bit (leb (search_in r l part).place (g.low + 1))

  some_power : (k : ℕ) → 1 ≤ 2 ^ k
  some_power zero = omega arith
  some_power (suc k) = omega (arith, some_power k)

  module _ (k : ℕ) (g : Range) (u : size g ≡ 2 ^ suc k) where
    more : g.low < g.high
    more = omega (arith, some_power k)

    m : Halves (middle g) g
    m = halves g more

    abbrev right : Range
    right = right_of (middle g) g

    abbrev left : Range
    left = left_of (middle g) g

    to_the_right : Counted (suc k) g right
    to_the_right = rw (lt-leb (search_in r l right).place (g.low + 1) far) (omega (arith, exactly right k (omega (arith, m.from, m.half, some_power k))))
      where
        far : g.low + 1 < (search_in r l right).place
        far = omega (arith, (inside right (omega (arith, m.in_range))).from, m.half, some_power k)

    one_left : size g ≡ 2 → Counted 1 g left
    one_left e =
        rw (le-leb (search_in r l left).place (g.low + 1) (omega (arith, (inside left m.from).upto, m.half)))
        (omega (arith, exactly left 1 (omega (arith, m.half))))

    of_parts : Counted (suc k) g left → (search_in r l g).probes ≡ suc k + bit (leb (search_in r l g).place (g.low + 1))
    of_parts p = rw (goes_on r l g more) (kept_by r l (Counted (suc k) g) g (λ e. to_the_right) (λ e. p))

  pub power : (k : ℕ) (g : Range) → size g ≡ 2 ^ suc k → (search_in r l g).probes ≡ suc k + bit (leb (search_in r l g).place (g.low + 1))
  power zero g u = of_parts zero g u (one_left zero g u u)
  power (suc k) g u = of_parts (suc k) g u (omega (arith, power k (left_of (middle g) g) (omega (arith, (m (suc k) g u).half))))

  -- OF 128 ENTRIES AT MOST

  abbrev all : Range
  all = record { low = 0; high = length l }

  pub at_most_8 : length l ≤ 128 → (search r l).probes ≤ 8
  at_most_8 h = at_most all 8 (omega arith)

  pub at_most_7 : length l ≤ 127 → (search r l).probes ≤ 7
  at_most_7 h = at_most all 7 (omega arith)

  pub of_none : length l ≡ 0 → (search r l).probes ≡ 0
  of_none h = exactly all 0 (omega arith)

  pub of_one : length l ≡ 1 → (search r l).probes ≡ 1
  of_one h = exactly all 1 (omega arith)

  pub of_127 : length l ≡ 127 → (search r l).probes ≡ 7
  of_127 h = exactly all 7 (omega arith)

  -- 8 where the pair stands or belongs in the first two places, else 7
  pub of_128 : length l ≡ 128 → (search r l).probes ≡ 7 + bit (leb (search r l).place 1)
  of_128 h = power 6 all (omega arith)
