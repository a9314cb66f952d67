-- Sets of event codes (02, request 6; RFC 4733, 2.4). A set is 256 bits in four words (01, "The form each place takes"): code c is in
-- it if bit c % 64 of word c / 64 is 1. No code above 255 is.
use Rattle.std.specs.Prelude.{ℕ, zero, suc, ◌+◌, ◌*◌, ◌/◌, ◌%◌, ◌^◌, Bool, cond, ◌&&◌, List, [], ◌∷◌, eqb, length, get_or}
use Rattle.model.specs.declared.Codes.{Codes}
use Rattle.refusals.specs.Refusals.{no_codes, none, ◌if◌else◌, Told, telling}

abbrev pub word_at : Codes → ℕ → ℕ
word_at s i = get_or (s.from_0 ∷ s.from_64 ∷ s.from_128 ∷ s.from_192 ∷ []) i 0

unfoldable pub is_in : Codes → ℕ → Bool
is_in s c = eqb (word_at s (c / 64) / 2 ^ (c % 64) % 2) 1

-- all bits are 0
abbrev pub is_empty : Codes → Bool
is_empty s = eqb s.from_0 0 && (eqb s.from_64 0 && (eqb s.from_128 0 && eqb s.from_192 0))

-- SETS BY NAME

abbrev pub empty_set : Codes
empty_set = record { from_0 = 0; from_64 = 0; from_128 = 0; from_192 = 0 }

-- the 16 keys that 01 covers: digits 0 to 9, then * 10, # 11, A to D 12 to 15 (01; RFC 4733, 3.2)
abbrev pub the_keys : Codes
the_keys = record { from_0 = 0xffff; from_64 = 0; from_128 = 0; from_192 = 0 }

-- WHAT A SET HOLDS

-- those in the set of n codes, from code c on
unfoldable pub among : Codes → ℕ → ℕ → List ℕ
among s c zero = []
among s c (suc n) = cond (is_in s c) (c ∷ among s (suc c) n) (among s (suc c) n)

-- its codes, rising
abbrev pub codes_in : Codes → List ℕ
codes_in s = among s 0 256

-- "how many codes the set holds and which is the lowest"; 20 where an empty set is asked its lowest
abbrev pub count_of : Codes → ℕ
count_of s = length (codes_in s)

abbrev pub lowest_of : Codes → Told ℕ
lowest_of s = telling (no_codes if is_empty s else none) 0 (get_or (codes_in s) 0 0)

-- THE SET OF THE CODES THAT PASS A TEST

-- the number whose lowest n bits tell which of the codes pass, from code c on
unfoldable pub word : (ℕ → Bool) → ℕ → ℕ → ℕ
word f c zero = 0
word f c (suc n) = cond (f c) 1 0 + 2 * word f (suc c) n

abbrev pub set_of : (ℕ → Bool) → Codes
set_of f = record { from_0 = word f 0 64; from_64 = word f 64 64; from_128 = word f 128 64; from_192 = word f 192 64 }
