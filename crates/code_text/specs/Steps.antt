-- What each step of reading a text of codes finds out.
use Rattle.std.specs.Prelude.{ℕ, cond, ◌&&◌, List, leb, Option, Some, None}
use Rattle.decimal.specs.Decimal.{are_digits, followed_by, value}
use Rattle.code_ranges.specs.declared.Range.{Range}
use Rattle.code_text.specs.CodeText.{Item, is_number, Piece, split, dash, piece_of}

-- the number that n becomes when a text follows it, if the text is digits and the number at most 255
unfoldable pub value_after : ℕ → List ℕ → Option ℕ
value_after n bs = cond (are_digits bs && leb (followed_by n bs) 255) (Some (followed_by n bs)) None

-- the number that a text is
unfoldable pub number_of : List ℕ → Option ℕ
number_of bs = cond (is_number bs) (Some (value bs)) None

-- the item that a piece is
abbrev pub told : Piece → Option Item
told p = cond p.good (Some p.item) None

unfoldable pub item_in : List ℕ → Option Item
item_in bs = told (piece_of (split dash bs))

abbrev pub item_of : Range → Item
item_of r = record { first = r.first; last = r.last }
