-- The text of one item, and a text put at a place.
use Rattle.std.specs.Prelude.{ℕ, ◌+◌, ◌≡◌, List, ◌∷◌, ◌++◌, length, take}
use Rattle.code_text.specs.CodeText.{Item, comma, decimal, item_text}

abbrev pub range : ℕ → ℕ → Item
range first last = record { first = first; last = last }

-- a separator and a number
abbrev pub number_after : ℕ → ℕ → List ℕ
number_after separator n = separator ∷ decimal n

-- a range with its comma before it
abbrev pub range_text : ℕ → ℕ → List ℕ
range_text first last = comma ∷ item_text (range first last)

-- the text stands at its place up to the end, and what stood before it stays
pub record Puts (text : List ℕ) (at : ℕ) (before : List ℕ) (end : ℕ) (after : List ℕ) : Type 0 where
  pub ends : end ≡ at + length text
  pub so_far : take end after ≡ take at before ++ text
