-- The second opening and the tests of 16 on a table's types, on both sides of each edge, computed from the definitions.
use Prim.Native.Nat.{ℕ}
use mathlib.Core.Path.{◌≡◌, refl}
use mathlib.Core.Bool.{Bool, true, false}
use mathlib.Core.List.{List, [], ◌∷◌, map}
use lib.ListN.{replicate}
use Rattle.model.specs.declared.Codes.{Codes}
use Rattle.model.specs.declared.Head.{Head}
use Rattle.model.specs.declared.Table.{Table}
use Rattle.model.specs.declared.Opened.{Opened}
use Rattle.model.specs.Codes.{is_in, empty_set, the_keys}
use Rattle.model.specs.Segments.{rising}
use Rattle.model.specs.Table.{segments_from, opened_both, all_valid, valid}

-- OPENING

-- by the set, the event's type, what says that it is opened for both, the other type, SSRC, origin and number of segments
abbrev pub head_for : Codes → ℕ → ℕ → ℕ → ℕ → ℕ → ℕ → Head
head_for codes type both redundant ssrc origin count = record {
  payload_type = type;
  both_types = both;
  redundant_type = redundant;
  ssrc = ssrc;
  origin = origin;
  codes = codes;
  count = count;
}

abbrev pub head : ℕ → ℕ → ℕ → ℕ → ℕ → ℕ → Head
head = head_for the_keys

abbrev pub zeros : Head → Table
zeros h = record { head = h; keys = replicate 128 0; heard = replicate 128 0 }

abbrev opening : ℕ → ℕ → Opened
opening type redundant = record { table = zeros (head type 1 redundant 7 9 0); refusal = 0 }

-- the empty table of zeros, of the first opening's kind
abbrev not_opened : Opened
not_opened = record { table = zeros (head_for empty_set 0 0 0 0 0 0); refusal = 12 }

abbrev openings : List ((ℕ × ℕ) × Opened)
openings =
    ((127, 126), opening 127 126)
    ∷ ((126, 127), opening 126 127)
    ∷ ((0, 1), opening 0 1)
    ∷ ((1, 0), opening 1 0)
    ∷ ((128, 126), not_opened)
    ∷ ((126, 128), not_opened)
    ∷ ((128, 127), not_opened)
    ∷ ((127, 128), not_opened)
    ∷ ((127, 127), not_opened)
    ∷ ((0, 0), not_opened)
    ∷ ((128, 128), not_opened)
    ∷ []

pub openings_answer : map (λ row. opened_both the_keys row.0.0 row.0.1 7 9) openings ≡ map (λ row. row.1) openings
openings_answer = refl

pub not_opened_for_none : opened_both empty_set 127 126 7 9 ≡ not_opened
not_opened_for_none = refl

-- THE TESTS OF 16

-- the types in a table of the first opening, and of the second
abbrev tests : List ((ℕ × ℕ × ℕ) × Bool)
tests =
    -- the first has the event's type alone, whatever the other field holds
    ((127, 0, 0), true)
    ∷ ((127, 0, 127), true)
    ∷ ((127, 0, 200), true)
    ∷ ((0, 0, 0), true)
    ∷ ((128, 0, 0), false)
    ∷ ((127, 1, 126), true)
    ∷ ((126, 1, 127), true)
    ∷ ((0, 1, 1), true)
    ∷ ((128, 1, 126), false)
    ∷ ((126, 1, 128), false)
    ∷ ((127, 1, 127), false)
    ∷ ((0, 1, 0), false)
    -- every number but 0 says both
    ∷ ((127, 255, 126), true)
    ∷ ((127, 255, 127), false)
    ∷ []

pub tests_answer : map (λ row. valid (zeros (head row.0.0 row.0.1 row.0.2 7 9 0))) tests ≡ map (λ row. row.1) tests
unfolding is_in valid rising all_valid segments_from
tests_answer = refl
