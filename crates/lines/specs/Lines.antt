-- One line of session.txt (01, "The listing program"): a name, and a number in decimal with no leading zeros, ended by a newline; a number
-- above 32 bits is bad. Of a line that is bad it is told why.
use Rattle.std.specs.Prelude.{ℕ, ◌+◌, not, cond, List, leb, ltb, eqb, length, get_or, drop, Result, Ok, Err}
use Rattle.std.specs.List.{starts_with}
use Rattle.decimal.specs.declared.NumberError.{NumberError}
use Rattle.decimal.specs.declared.NumberError.TheVariants.{NoDigit as Other, TooLarge as Larger}
use Rattle.decimal.specs.Decimal.{digits_of, value, no_zero_ahead}
use Rattle.lines.specs.declared.Fault.{Fault}
use Rattle.lines.specs.declared.Fault.TheVariants.{Name, NoNumber, LeadingZero, NoDigit, TooLarge, NoNewline}
use Rattle.lines.specs.declared.Line.{Line}

abbrev pub newline : ℕ
newline = 10

-- why a number that goes on so makes no line
abbrev pub fault_of : NumberError → Fault
fault_of Other = NoDigit
fault_of Larger = TooLarge

-- a line of a number, and the place after it
abbrev pub read : ℕ → ℕ → Result Line Fault
read number end = Ok (record { number = number; end = end })

-- a line whose number has so many digits
abbrev pub line_of : ℕ → ℕ → ℕ → ℕ → Result Line Fault
line_of first digits number end =
    cond (eqb digits 0) (Err NoNumber)
    (cond (no_zero_ahead first digits) (read number end)
    (Err LeadingZero))

-- the largest number of 32 bits
abbrev pub largest : ℕ
largest = 4294967295

-- the number from a place up to a newline
unfoldable pub number_at : List ℕ → ℕ → Result Line Fault
number_at bs at =
    let digits = digits_of (drop at bs) in
    let end = at + length digits in
    cond (not (leb (value digits) largest)) (Err TooLarge)
    (cond (not (ltb end (length bs))) (Err NoNewline)
    (cond (eqb (get_or bs end 0) newline) (line_of (get_or bs at 0) (length digits) (value digits) (end + 1))
    (Err NoDigit)))

-- one line: its name, and a number up to a newline
unfoldable pub line_at : List ℕ → List ℕ → ℕ → Result Line Fault
line_at name bs at = cond (starts_with eqb (drop at bs) name) (number_at bs (at + length name)) (Err Name)
