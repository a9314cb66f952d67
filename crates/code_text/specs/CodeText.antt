-- The text of a set of codes, as the parameters of `a=fmtp:` give it (02, request 6; RFC 4733, 2.4.1): "One or more items are joined by
-- commas: a number up to 255 without leading zeros, or a-b with a below b; no spaces; repeats and overlaps are read."
use Rattle.std.specs.Prelude.{ℕ, ◌/◌, ◌%◌, ◌≤◌, ◌≡◌, Bool, true, false, not, cond, ◌&&◌, ◌||◌, List, [], ◌∷◌, ◌++◌, map, leb, ltb, eqb, length, get_or}
use Rattle.std.specs.List.{slice_split}
use Rattle.decimal.specs.Decimal.{digit, are_digits, value, no_zero_ahead}
use Rattle.model.specs.declared.Codes.{Codes}
use Rattle.refusals.specs.Refusals.{no_codes, none, ◌if◌else◌, Told, telling}
use Rattle.model.specs.Codes.{empty_set, set_of}

abbrev pub comma : ℕ
comma = 44

abbrev pub dash : ℕ
dash = 45

-- an item: the codes from the first up to the last, which for a number are one
pub record Item : Type 0 where
  pub first : ℕ
  pub last : ℕ

abbrev pub is_item : Item → Bool
is_item i = leb i.first i.last && leb i.last 255

unfoldable pub are_items : List Item → Bool
are_items [] = true
are_items (i ∷ is) = is_item i && are_items is

-- is a code in one of the items?
unfoldable pub covered : List Item → ℕ → Bool
covered [] c = false
covered (i ∷ is) c = (leb i.first c && leb c i.last) || covered is c

-- THE TEXT AS IT IS WRITTEN

-- a code in decimal without leading zeros: it has up to three digits
unfoldable pub decimal : ℕ → List ℕ
decimal n =
    cond (ltb n 10) (digit n ∷ [])
    (cond (ltb n 100) (digit (n / 10) ∷ digit (n % 10) ∷ [])
    (digit (n / 100) ∷ digit (n / 10 % 10) ∷ digit (n % 10) ∷ []))

-- n, or a-b
abbrev pub item_text : Item → List ℕ
item_text i = cond (eqb i.first i.last) (decimal i.first) (decimal i.first ++ (dash ∷ decimal i.last))

-- the items after the first, each with a comma before it
unfoldable pub others_text : List Item → List ℕ
others_text [] = []
others_text (i ∷ is) = comma ∷ (item_text i ++ others_text is)

unfoldable pub text_of : List Item → List ℕ
text_of [] = []
text_of (i ∷ is) = item_text i ++ others_text is

-- the grammar gives the text for the set of codes that its items cover
pub record Gives (text : List ℕ) (s : Codes) : Type 0 where
  pub items : List Item
  pub one_or_more : 1 ≤ length items
  pub each : are_items items ≡ true
  pub written : text ≡ text_of items
  pub union : s ≡ set_of (covered items)

-- THE TEXT AS IT IS READ: split at the commas, each piece at its dashes (proofs/Grammar.antt shows that a text is read as a set
-- exactly if the grammar gives it)

-- the pieces between separators, one more than there are separators
abbrev pub split : ℕ → List ℕ → List (List ℕ)
split separator bs = slice_split (λ b. eqb b separator) bs

-- one digit or more, a 0 first only if it is alone, and at most 255
abbrev pub is_number : List ℕ → Bool
is_number bs = (leb 1 (length bs) && are_digits bs) && (no_zero_ahead (get_or bs 0 0) (length bs) && leb (value bs) 255)

-- a-b has a below b
abbrev pub rises : ℕ → ℕ → Bool
rises a b = ltb a b

-- what a piece between commas is: whether it is an item, and which
pub record Piece : Type 0 where
  pub good : Bool
  pub item : Item

abbrev pub bad_piece : Piece
bad_piece = record { good = false; item = record { first = 0; last = 0 } }

unfoldable pub piece_of : List (List ℕ) → Piece
piece_of [] = bad_piece
piece_of (x ∷ []) = record { good = is_number x; item = record { first = value x; last = value x } }
piece_of (x ∷ y ∷ []) = record {
  good = is_number x && (is_number y && rises (value x) (value y));
  item = record { first = value x; last = value y };
}
piece_of (x ∷ y ∷ z ∷ more) = bad_piece

abbrev pub pieces : List ℕ → List Piece
pieces text = map (λ (p : List ℕ). piece_of (split dash p)) (split comma text)

unfoldable pub all_good : List Piece → Bool
all_good [] = true
all_good (p ∷ ps) = p.good && all_good ps

unfoldable pub items_of : List Piece → List Item
items_of [] = []
items_of (p ∷ ps) = p.item ∷ items_of ps

-- 20 for a text that has another piece
unfoldable pub read_codes : List ℕ → Told Codes
read_codes text = telling (no_codes if not (all_good (pieces text)) else none) empty_set (set_of (covered (items_of (pieces text))))
