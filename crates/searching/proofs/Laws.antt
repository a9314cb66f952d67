-- The laws that close the needs of the search.
use Prim.Native.Nat.{ℕ, ◌≤◌, ◌<◌}
use mathlib.Core.Path.{◌≡◌}
use mathlib.Core.List.{List}
use lib.ListN.{length, get_or}
use borrow.Author.Rules.{rules}
use borrow.Author.Tests.{lt-ltb, le-ltb, eq-eqb, ne_eqb}
use Rattle.std.specs.Prelude.{Ok, Err}
use Rattle.searching.specs.Seeks.{Finds, Seeks}
use Rattle.searching.proofs.Halving.{search_starts, search_ends, search_up, search_down}

module _ (keys : List ℕ) (k i n : ℕ) (f : Finds keys k (record { place = i; probes = n })) where
  pub past_all : length keys ≤ i → Seeks keys k (record { place = Err i; probes = n })
  past_all h = record { found = f; there = rw (le-ltb i (length keys) h) }

  pub another : i < length keys → (get_or keys i 0 ≡ k → ⊥) → Seeks keys k (record { place = Err i; probes = n })
  another h o = record { found = f; there = rw (lt-ltb i (length keys) h, ne_eqb (get_or keys i 0) k o) }

  pub stands : i < length keys → get_or keys i 0 ≡ k → Seeks keys k (record { place = Ok i; probes = n })
  stands h e = record { found = f; there = rw (lt-ltb i (length keys) h, eq-eqb (get_or keys i 0) k e) }

pub ruleset seeking = (rules, search_starts, search_ends, search_up, search_down, past_all, another, stands)
