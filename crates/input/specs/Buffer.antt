-- The buffer of an input that is read in pieces.
use Rattle.std.specs.Prelude.{ℕ, ◌+◌, ◌≤◌, ◌≡◌, List, length, take, drop}

-- a read puts n bytes behind the first ones, which stay
pub record Refills (first : ℕ) (b : List ℕ) (n : ℕ) (b' : List ℕ) : Type 0 where
  pub same : length b' ≡ length b
  pub within : first + n ≤ length b'
  pub stays : take first b' ≡ take first b

-- of the first n bytes those from a place on stand at the front, so many of them
pub record Keeps (at n : ℕ) (b : List ℕ) (many : ℕ) (b' : List ℕ) : Type 0 where
  pub same : length b' ≡ length b
  pub within : many ≤ length b'
  pub front : take many b' ≡ drop at (take n b)
