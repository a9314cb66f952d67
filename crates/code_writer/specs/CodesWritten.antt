-- A set of codes, written (02, request 6): "The writer gives the rising list with the longest ranges, one text per set."
use Rattle.std.specs.Prelude.{ℕ, suc, ◌≤◌, ◌≡◌, Bool, true, cond, ◌&&◌, List, [], ◌∷◌, ltb, eqb, length}
use Rattle.model.specs.declared.Codes.{Codes}
use Rattle.refusals.specs.Refusals.{no_codes, output_too_small, none, ◌if◌else◌, Told, telling}
use Rattle.model.specs.Codes.{is_empty, codes_in, set_of}
use Rattle.model.specs.Table.{place}
use Rattle.code_text.specs.CodeText.{Item, are_items, covered, text_of}

-- WHAT IT IS

-- an item ends two or more below where the next begins
abbrev pub lies_apart : Item → Item → Bool
lies_apart i j = ltb (suc i.last) j.first

-- The items rise, and no two of them could be one range.
unfoldable pub apart : List Item → Bool
apart [] = true
apart (i ∷ []) = true
apart (i ∷ j ∷ is) = lies_apart i j && apart (j ∷ is)

pub record WrittenFor (s : Codes) (text : List ℕ) : Type 0 where
  pub items : List Item
  pub one_or_more : 1 ≤ length items
  pub each : are_items items ≡ true
  pub rising : apart items ≡ true
  pub written : text ≡ text_of items
  pub union : s ≡ set_of (covered items)

-- HOW IT COMES ABOUT

-- a code is the one before an item
abbrev pub adjoins : ℕ → Item → Bool
adjoins c i = eqb (suc c) i.first

-- a code below all the items: it makes the first one longer, or is one of its own
unfoldable pub with_code : ℕ → List Item → List Item
with_code c [] = record { first = c; last = c } ∷ []
with_code c (i ∷ is) =
    cond (adjoins c i) (record { first = c; last = i.last } ∷ is) (record { first = c; last = c } ∷ i ∷ is)

-- the longest ranges of codes that rise
unfoldable pub ranges : List ℕ → List Item
ranges [] = []
ranges (c ∷ cs) = with_code c (ranges cs)

abbrev pub written_text : Codes → List ℕ
written_text s = text_of (ranges (codes_in s))

-- THE CALL

-- 20 for the empty set, then 14 if there is too little room
abbrev pub write_codes_refusal : Codes → List ℕ → ℕ
write_codes_refusal s output =
    no_codes if is_empty s else
    output_too_small if ltb (length output) (length (written_text s)) else
    none

-- how many bytes the text has, and the lent output
pub record CodesWriting : Type 0 where
  pub answer : Told ℕ
  pub output : List ℕ

-- the text takes the first bytes of the output, and the bytes after it stay; under a refusal all stay
unfoldable pub write_codes : Codes → List ℕ → CodesWriting
write_codes s output = record {
  answer = telling (write_codes_refusal s output) 0 (length (written_text s));
  output = cond (eqb (write_codes_refusal s output) none) (place (written_text s) output) output;
}
