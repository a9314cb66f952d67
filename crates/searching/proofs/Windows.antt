-- The search in a part of a column is that among the part's segments.
use Prim.Native.Nat.{ℕ, zero, suc, ◌+◌, ◌≤◌}
use mathlib.Core.Path.{◌≡◌, refl, ◌∙◌, ap, ap₂}
use mathlib.Core.Bool.{Bool, true, false, ◌&&◌}
use mathlib.Core.List.{List, ◌∷◌}
use native.Mathlib.Omega.{arith}
use borrow.Author.Tests.{ltb-true}
use lib.Dec.{ltb, eqb}
use lib.ListN.{length, get_or, take, drop, length-drop}
use lib.Seq.{get_or-take, get_or-drop, length-take-le}
use Rattle.model.specs.declared.Segment.{Segment}
use Rattle.model.specs.Search.{search}
use Rattle.model.specs.Table.{segment_of, segments_from}
use Rattle.searching.specs.declared.Sought.{Sought}
use Rattle.searching.specs.Seeks.{place_in, is_held, Seeks}

module _ (keys heard : List ℕ) (from m : ℕ) where
  part_from : (n i : ℕ) → i + n ≤ m → segments_from (take m (drop from keys)) (drop from heard) i n ≡ segments_from keys heard (from + i) n
  unfolding segments_from
  part_from zero i h = refl
  part_from (suc n) i h =
      let key : get_or (take m (drop from keys)) i 0 ≡ get_or keys (from + i) 0 =
      get_or-take m (drop from keys) i 0 (omega arith) ∙ get_or-drop from keys i 0
      in
      let told : get_or (drop from heard) i 0 ≡ get_or heard (from + i) 0 = get_or-drop from heard i 0 in
      let e : from + suc i ≡ suc (from + i) = omega arith in
      ap₂ (λ (s : Segment) (l : List Segment). s ∷ l) (ap₂ segment_of key told)
      (part_from n (suc i) (omega arith) ∙ ap (λ (j : ℕ). segments_from keys heard j n) e)

-- what is found among the n keys of a column from place `from` on
pub record SeeksIn (keys : List ℕ) (from n k : ℕ) (s : Sought) : Type 0 where
  pub found : (heard : List ℕ) (told : ℕ)
      → record { place = place_in s.place; probes = s.probes } ≡ search (segment_of k told) (segments_from keys heard from n)
  pub there : is_held s.place ≡ (ltb (place_in s.place) n && eqb (get_or keys (from + place_in s.place) 0) k)

module _ (keys : List ℕ) (from n k : ℕ) (s : Sought) (within : from + n ≤ length keys) where
  abbrev p : ℕ
  p = place_in s.place

  abbrev part : List ℕ
  part = take n (drop from keys)

  long : length part ≡ n
  long = length-take-le n (drop from keys) (omega (arith, length-drop from keys))

  pub seeks_in : Seeks part k s → SeeksIn keys from n k s
  seeks_in w = record { found = found; there = w.there ∙ rw long (there (ltb p n) refl) }
    where
      found : (heard : List ℕ) (told : ℕ) → record { place = p; probes = s.probes } ≡ search (segment_of k told) (segments_from keys heard from n)
      found heard told =
          let here : from + 0 ≡ from = omega arith in
          w.found.is (drop from heard) told
          ∙ ap (search (segment_of k told))
          (ap (segments_from part (drop from heard) 0) long
          ∙ part_from keys heard from n n 0 (omega arith)
          ∙ ap (λ (j : ℕ). segments_from keys heard j n) here)

      there : (b : Bool) → ltb p n ≡ b → (b && eqb (get_or part p 0) k) ≡ (b && eqb (get_or keys (from + p) 0) k)
      there false q = refl
      there true q =
          ap (λ (v : ℕ). eqb v k) (get_or-take n (drop from keys) p 0 (ltb-true p n q) ∙ get_or-drop from keys p 0)
