-- What the loop of the halving search knows: where in the model's search it is, and how many keys it has looked at.
use Prim.Native.Nat.{ℕ, ◌+◌, ◌-◌, ◌/◌, ◌≤◌, ◌<◌}
use mathlib.Core.Path.{◌≡◌, refl, sym, ◌∙◌}
use mathlib.Core.List.{List}
use native.Mathlib.Omega.{arith}
use lib.Dec.{ltb}
use borrow.Author.Tests.{lt-ltb, le-ltb}
use lib.ListN.{length, get_or}
use Rattle.model.specs.declared.Segment.{Segment}
use Rattle.model.specs.Table.{segment_of, segment_at, segments_from}
use Rattle.model.specs.Search.{Range, middle, entry, is_smaller, kept, search_in, search}
use Rattle.theorems.proofs.Numbers.{key_back}
use Rattle.theorems.proofs.Tables.{length_from, entry_from}
use Rattle.theorems.proofs.Search.{goes_on, stops, keeps_right, keeps_left}
use Rattle.segment.proofs.Keys.{before_key}
use Rattle.searching.specs.Seeks.{Finds}

-- after n looks the search for r in l has come to range g
pub record Reached (r : Segment) (l : List Segment) (n : ℕ) (g : Range) : Type 0 where
  pub place : (search r l).place ≡ (search_in r l g).place
  pub probes : (search r l).probes ≡ n + (search_in r l g).probes

reached_next : (r : Segment) (l : List Segment) (n : ℕ) (g : Range) → g.low < g.high → Reached r l n g → Reached r l (n + 1) (kept r l g)
reached_next r l n g h a =
    let q = goes_on r l g h in
    let e : (search_in r l g).probes ≡ (search_in r l (kept r l g)).probes + 1 = λ i. (q i).probes in
    record { place = a.place ∙ (λ i. (q i).place); probes = omega (arith, a.probes) }

module _ (keys : List ℕ) (k : ℕ) where
  abbrev n : ℕ
  n = length keys

  abbrev l : List ℕ → List Segment
  l heard = segments_from keys heard 0 n

  pub record Halving (low high probes : ℕ) : Type 0 where
    pub low_high : low ≤ high
    pub high_n : high ≤ n
    pub few : probes + (high - low) ≤ n
    pub reached : (heard : List ℕ) (told : ℕ) → Reached (segment_of k told) (l heard) probes (record { low = low; high = high })

  pub search_starts : Halving 0 n 0
  search_starts = record {
    low_high = omega arith;
    high_n = omega arith;
    few = omega arith;
    reached = λ heard told. record { place = rw (length_from keys heard 0 n); probes = rw (length_from keys heard 0 n) (omega arith) };
  }

  module _ (low high probes : ℕ) (b : Halving low high probes) where
    abbrev g : Range
    g = record { low = low; high = high }

    pub search_ends : high ≤ low → Finds keys k (record { place = low; probes = probes })
    search_ends h = record { is = λ heard told. ended (segment_of k told) (l heard) (b.reached heard told) }
      where
        ended : (r : Segment) (l : List Segment) → Reached r l probes g → record { place = low; probes = probes } ≡ search r l
        ended r l a =
            let q = stops r l g h in
            let e : (search r l).probes ≡ probes = a.probes ∙ rw q (omega arith) in
            λ i. record { place = sym (a.place ∙ (λ i. (q i).place)) i; probes = sym e i }

    module _ (more : low < high) where
      abbrev m : ℕ
      m = (low + high) / 2

      middle_is : middle g ≡ m
      unfolding middle
      middle_is = refl

      -- the entry at the middle is smaller than the pair if its key is
      by_key : (heard : List ℕ) (told : ℕ) → is_smaller (entry (l heard) (middle g)) (segment_of k told) ≡ ltb (get_or keys m 0) k
      unfolding is_smaller
      by_key heard told =
          rw (middle_is, entry_from keys heard 0 n m m (omega arith) (omega (arith, b.high_n)))
          (before_key (segment_at keys heard m) (segment_of k told) (omega arith) (omega arith) ∙ rw (key_back (get_or keys m 0) (get_or heard m 0), key_back k told))

      -- the part of the range that is kept, by how the keys compare
      reached_part : (h : Range) → ((heard : List ℕ) (told : ℕ) → kept (segment_of k told) (l heard) g ≡ h)
          → (heard : List ℕ) (told : ℕ) → Reached (segment_of k told) (l heard) (probes + 1) h
      reached_part h e heard told =
          rw (← e heard told) (reached_next (segment_of k told) (l heard) probes g more (b.reached heard told))

      pub search_up : get_or keys m 0 < k → Halving (m + 1) high (probes + 1)
      search_up h = record {
        low_high = omega arith;
        high_n = b.high_n;
        few = omega (arith, b.few);
        reached = reached_part (record { low = m + 1; high = high })
            (λ heard told. keeps_right (segment_of k told) (l heard) g (by_key heard told ∙ lt-ltb (get_or keys m 0) k h) ∙ rw middle_is);
      }

      pub search_down : k ≤ get_or keys m 0 → Halving low m (probes + 1)
      search_down h = record {
        low_high = omega arith;
        high_n = omega (arith, b.high_n);
        few = omega (arith, b.few);
        reached = reached_part (record { low = low; high = m })
            (λ heard told. keeps_left (segment_of k told) (l heard) g (by_key heard told ∙ le-ltb (get_or keys m 0) k h) ∙ rw middle_is);
      }
