-- Decimal numbers: their digits, and the number that these say.
use Rattle.std.specs.Prelude.{ℕ, ◌+◌, ◌-◌, ◌*◌, Bool, true, not, cond, ◌&&◌, ◌||◌, List, [], ◌∷◌, leb, eqb, Result, Ok, Err}
use Rattle.decimal.specs.declared.NumberError.{NumberError}
use Rattle.decimal.specs.declared.NumberError.TheVariants.{NoDigit, TooLarge}

-- the character of one digit
abbrev pub digit : ℕ → ℕ
digit n = 48 + n

-- the characters 0 to 9
abbrev pub is_digit : ℕ → Bool
is_digit b = leb 48 b && leb b 57

unfoldable pub are_digits : List ℕ → Bool
are_digits [] = true
are_digits (b ∷ bs) = is_digit b && are_digits bs

-- the digits that a text starts with
unfoldable pub digits_of : List ℕ → List ℕ
digits_of [] = []
digits_of (b ∷ bs) = cond (is_digit b) (b ∷ digits_of bs) []

-- the number that n becomes when digits follow it
unfoldable pub followed_by : ℕ → List ℕ → ℕ
followed_by n [] = n
followed_by n (b ∷ bs) = followed_by (n * 10 + (b - 48)) bs

abbrev pub value : List ℕ → ℕ
value = followed_by 0

-- so many digits, the first of them given: a 0 is first only if it is alone
abbrev pub no_zero_ahead : ℕ → ℕ → Bool
no_zero_ahead first digits = leb digits 1 || not (eqb first 48)

-- one digit more, if it is one and the number at most the limit
unfoldable pub next_number : ℕ → ℕ → ℕ → Result ℕ NumberError
next_number n b limit =
    cond (not (is_digit b)) (Err NoDigit)
    (cond (not (leb (n * 10 + (b - 48)) limit)) (Err TooLarge)
    (Ok (n * 10 + (b - 48))))
