-- Sets and their texts, computed from the definitions, and both sides of each refusal.
use Prim.Native.Nat.{ℕ}
use mathlib.Core.Path.{◌≡◌, refl}
use mathlib.Core.List.{[], ◌∷◌}
use Rattle.model.specs.declared.Codes.{Codes}
use Rattle.model.specs.Codes.{is_in, among, empty_set}
use Rattle.refusals.specs.Refusals.{answered, refused_by}
use Rattle.code_text.specs.CodeText.{decimal, others_text, text_of}
use Rattle.code_writer.specs.CodesWritten.{with_code, ranges, written_text, write_codes}

abbrev words : ℕ → ℕ → ℕ → ℕ → Codes
words a b c d = record { from_0 = a; from_64 = b; from_128 = c; from_192 = d }

-- TEXTS

-- 0-15,66,70
pub keys_and_two : written_text (words 0xffff 0x44 0 0) ≡ 48 ∷ 45 ∷ 49 ∷ 53 ∷ 44 ∷ 54 ∷ 54 ∷ 44 ∷ 55 ∷ 48 ∷ []
unfolding is_in among with_code ranges decimal others_text text_of
keys_and_two = refl

-- 3-4, and not 3,4
pub two_in_a_row : written_text (words 0x18 0 0 0) ≡ 51 ∷ 45 ∷ 52 ∷ []
unfolding is_in among with_code ranges decimal others_text text_of
two_in_a_row = refl

-- 63-64
pub across_words : written_text (words 0x8000_0000_0000_0000 1 0 0) ≡ 54 ∷ 51 ∷ 45 ∷ 54 ∷ 52 ∷ []
unfolding is_in among with_code ranges decimal others_text text_of
across_words = refl

-- 0-255
pub all_codes : written_text (words 0xffff_ffff_ffff_ffff 0xffff_ffff_ffff_ffff 0xffff_ffff_ffff_ffff 0xffff_ffff_ffff_ffff)
    ≡ 48 ∷ 45 ∷ 50 ∷ 53 ∷ 53 ∷ []
unfolding is_in among with_code ranges decimal others_text text_of
all_codes = refl

-- 255
pub one_code : written_text (words 0 0 0 0x8000_0000_0000_0000) ≡ 50 ∷ 53 ∷ 53 ∷ []
unfolding is_in among with_code ranges decimal others_text text_of
one_code = refl

-- THE CALL

-- 20 before 14
pub nothing_to_write : write_codes empty_set [] ≡ record { answer = refused_by 20 0; output = [] }
unfolding is_in among with_code ranges decimal others_text text_of write_codes
nothing_to_write = refl

pub one_byte_short : write_codes (words 0x18 0 0 0) (7 ∷ 7 ∷ []) ≡ record { answer = refused_by 14 0; output = 7 ∷ 7 ∷ [] }
unfolding is_in among with_code ranges decimal others_text text_of write_codes
one_byte_short = refl

pub just_enough : write_codes (words 0x18 0 0 0) (7 ∷ 7 ∷ 7 ∷ []) ≡ record { answer = answered 3; output = 51 ∷ 45 ∷ 52 ∷ [] }
unfolding is_in among with_code ranges decimal others_text text_of write_codes
just_enough = refl

pub bytes_after_stay : write_codes (words 0x18 0 0 0) (7 ∷ 7 ∷ 7 ∷ 7 ∷ []) ≡ record { answer = answered 3; output = 51 ∷ 45 ∷ 52 ∷ 7 ∷ [] }
unfolding is_in among with_code ranges decimal others_text text_of write_codes
bytes_after_stay = refl
