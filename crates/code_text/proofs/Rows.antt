-- Texts of codes, computed from the definition: some that are read, and texts on the other side of each edge.
use Prim.Native.Nat.{ℕ}
use mathlib.Core.Path.{◌≡◌, refl}
use mathlib.Core.List.{List, [], ◌∷◌, map}
use Rattle.model.specs.declared.Codes.{Codes}
use Rattle.model.specs.Codes.{empty_set, word}
use Rattle.refusals.specs.Refusals.{answered, refused_by}
use Rattle.decimal.specs.Decimal.{are_digits, followed_by}
use Rattle.code_text.specs.CodeText.{covered, piece_of, all_good, items_of, read_codes}

-- a set by its words
abbrev codes : ℕ → ℕ → ℕ → ℕ → Codes
codes a b c d = record { from_0 = a; from_64 = b; from_128 = c; from_192 = d }

abbrev texts : List (List ℕ × Codes)
texts =
    (48 ∷ 45 ∷ 49 ∷ 53 ∷ 44 ∷ 54 ∷ 54 ∷ 44 ∷ 55 ∷ 48 ∷ [], codes 0xffff 68 0 0)  -- 0-15,66,70
    ∷ (55 ∷ 48 ∷ 44 ∷ 48 ∷ 45 ∷ 49 ∷ 53 ∷ 44 ∷ 54 ∷ 54 ∷ [], codes 0xffff 68 0 0)  -- 70,0-15,66
    ∷ (51 ∷ 44 ∷ 51 ∷ [], codes 8 0 0 0)  -- 3,3
    ∷ (51 ∷ 45 ∷ 53 ∷ 44 ∷ 52 ∷ [], codes 56 0 0 0)  -- 3-5,4
    ∷ (52 ∷ 44 ∷ 51 ∷ 45 ∷ 53 ∷ [], codes 56 0 0 0)  -- 4,3-5
    ∷ (48 ∷ [], codes 1 0 0 0)  -- 0
    ∷ (50 ∷ 53 ∷ 53 ∷ [], codes 0 0 0 0x8000000000000000)  -- 255
    ∷ (54 ∷ 51 ∷ 45 ∷ 54 ∷ 52 ∷ [], codes 0x8000000000000000 1 0 0)  -- 63-64
    ∷ (48 ∷ 45 ∷ 50 ∷ 53 ∷ 53 ∷ [], codes 0xffffffffffffffff 0xffffffffffffffff 0xffffffffffffffff 0xffffffffffffffff)  -- 0-255
    ∷ []

pub read_rows : map (λ r. read_codes r.0) texts ≡ map (λ r. answered r.1) texts
unfolding read_codes covered are_digits followed_by piece_of all_good items_of word
read_rows = refl

abbrev others : List (List ℕ)
others =
    []  -- no text
    ∷ (50 ∷ 53 ∷ 54 ∷ [])  -- 256
    ∷ (57 ∷ 57 ∷ 57 ∷ 57 ∷ 57 ∷ 57 ∷ 57 ∷ 57 ∷ 57 ∷ 57 ∷ 57 ∷ 57 ∷ 57 ∷ 57 ∷ 57 ∷ 57 ∷ 57 ∷ 57 ∷ 57 ∷ 57 ∷ [])  -- 99999999999999999999
    ∷ (48 ∷ 48 ∷ [])  -- 00
    ∷ (48 ∷ 49 ∷ [])  -- 01
    ∷ (53 ∷ 45 ∷ 53 ∷ [])  -- 5-5
    ∷ (57 ∷ 45 ∷ 51 ∷ [])  -- 9-3
    ∷ (48 ∷ 45 ∷ 50 ∷ 53 ∷ 54 ∷ [])  -- 0-256
    ∷ (49 ∷ 44 ∷ [])  -- 1,
    ∷ (44 ∷ 49 ∷ [])  -- ,1
    ∷ (49 ∷ 44 ∷ 44 ∷ 50 ∷ [])  -- 1,,2
    ∷ (44 ∷ [])  -- ,
    ∷ (49 ∷ 45 ∷ 50 ∷ 45 ∷ 51 ∷ [])  -- 1-2-3
    ∷ (49 ∷ 45 ∷ [])  -- 1-
    ∷ (45 ∷ 49 ∷ [])  -- -1
    ∷ (45 ∷ [])  -- -
    ∷ (49 ∷ 44 ∷ 32 ∷ 50 ∷ [])  -- 1, 2
    ∷ (97 ∷ [])  -- a
    ∷ []

pub refused_rows : map read_codes others ≡ map (λ r. refused_by 20 empty_set) others
unfolding read_codes covered are_digits followed_by piece_of all_good items_of word
refused_rows = refl
