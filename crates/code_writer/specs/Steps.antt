-- What the functions inside answer: the set is walked upward, range by range, and each range's text is put after the one before it.
use Rattle.std.specs.Prelude.{ℕ, ◌+◌, ◌-◌, ◌≤◌, ◌≡◌, List, [], ◌∷◌, Option}
use Rattle.std.specs.Option.{IfSome, MatchOption}
use Rattle.code_ranges.specs.declared.Range.{Range}
use Rattle.model.specs.declared.Codes.{Codes}
use Rattle.model.specs.Codes.{among, codes_in}
use Rattle.code_text.specs.CodeText.{Item, others_text}
use Rattle.item_writer.specs.Items.{range}
use Rattle.code_writer.specs.CodesWritten.{ranges}

-- the ranges of the set's codes from code c on
unfoldable pub ranges_from : Codes → ℕ → List Item
ranges_from s c = ranges (among s c (256 - c))

-- the ranges from a code on are the one that is found and those after it; there are none if none is found
pub record Next (s : Codes) (from : ℕ) (found : Option Range) : Type 0 where
  pub after : IfSome found (λ r. from ≤ r.first)
  pub left : MatchOption found (ranges_from s from ≡ []) (λ r. ranges_from s from ≡ range r.first r.last ∷ ranges_from s (r.last + 1))

-- all ranges, each with its comma before it
abbrev pub ranges_text : Codes → List ℕ
ranges_text s = others_text (ranges (codes_in s))
