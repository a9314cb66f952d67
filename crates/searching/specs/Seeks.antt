-- What the search for a key finds: the model's search among the segments of those keys.
use Rattle.std.specs.Prelude.{ℕ, ◌≡◌, ◌&&◌, Bool, true, false, List, ltb, eqb, length, get_or, Result, Ok, Err}
use Rattle.model.specs.declared.Lookup.{Lookup}
use Rattle.model.specs.Search.{search}
use Rattle.model.specs.Table.{segment_of, segments_from}
use Rattle.searching.specs.declared.Sought.{Sought}

-- s is what the search for key k finds among the segments of the keys, whatever was heard of them
pub record Finds (keys : List ℕ) (k : ℕ) (s : Lookup) : Type 0 where
  pub is : (heard : List ℕ) (told : ℕ) → s ≡ search (segment_of k told) (segments_from keys heard 0 (length keys))

-- the place found, whether a key stands or belongs there
abbrev pub place_in : Result ℕ ℕ → ℕ
place_in (Ok i) = i
place_in (Err i) = i

abbrev pub is_held : Result ℕ ℕ → Bool
is_held (Ok i) = true
is_held (Err i) = false

-- and whether key k stands at the place found
pub record Seeks (keys : List ℕ) (k : ℕ) (s : Sought) : Type 0 where
  pub found : Finds keys k (record { place = place_in s.place; probes = s.probes })
  pub there : is_held s.place ≡ (ltb (place_in s.place) (length keys) && eqb (get_or keys (place_in s.place) 0) k)
