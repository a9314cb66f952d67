-- The text of session.txt (01, "The listing program"): exactly three lines `pt=`, `ssrc=` and `origin=`, decimal, no leading
-- zeros, each ended by a newline; a number above 32 bits is bad. That open refuses a payload type above 127 is open's own rule.
-- Of a text that is bad it is told which line is wrong, and why.
use Rattle.std.specs.Prelude.{ℕ, zero, suc, ◌+◌, ◌/◌, ◌%◌, ◌^◌, ◌≤◌, ◌<◌, ◌≡◌, cond, List, [], ◌∷◌, ◌++◌, eqb, length, Result, Ok, Err}
use Rattle.lines.specs.declared.Fault.{Fault}
use Rattle.lines.specs.declared.Fault.TheVariants.{MoreText}
use Rattle.lines.specs.Lines.{newline, largest, line_at}
use Rattle.session.specs.declared.Session.{Session}
use Rattle.session.specs.declared.bad_line.BadLine.{BadLine}
use Rattle.lines.specs.declared.Line.{Line}

-- THE THREE LINES

-- `pt=`, `ssrc=`, `origin=`
abbrev pub type_name : List ℕ
type_name = 112 ∷ 116 ∷ 61 ∷ []

abbrev pub source_name : List ℕ
source_name = 115 ∷ 115 ∷ 114 ∷ 99 ∷ 61 ∷ []

abbrev pub origin_name : List ℕ
origin_name = 111 ∷ 114 ∷ 105 ∷ 103 ∷ 105 ∷ 110 ∷ 61 ∷ []

-- what a text gives: three numbers, or which line is wrong and why
abbrev pub given : ℕ → ℕ → ℕ → Result Session BadLine
given type source origin = Ok (record { payload_type = type; ssrc = source; origin = origin })

abbrev pub bad : ℕ → Fault → Result Session BadLine
bad k fault = Err (record { line = k; fault = fault })

-- a line as line k: of one that is wrong it is told which it is
abbrev pub in_line : ℕ → Result Line Fault → Result Line BadLine
in_line k (Ok line) = Ok line
in_line k (Err fault) = Err (record { line = k; fault = fault })

-- what follows line k, if it is one
abbrev pub after : ℕ → Result Line Fault → (ℕ → ℕ → Result Session BadLine) → Result Session BadLine
after k (Ok line) next = next line.number line.end
after k (Err fault) next = bad k fault

unfoldable pub session_of : List ℕ → Result Session BadLine
session_of bs =
    after 1 (line_at type_name bs 0) (λ type second.
    after 2 (line_at source_name bs second) (λ source third.
    after 3 (line_at origin_name bs third) (λ origin end.
    cond (eqb end (length bs)) (given type source origin) (bad 4 MoreText))))

-- THE TEXT AS IT IS WRITTEN: what `session_of` reads, said the other way round (proofs/Written.antt shows that it is the same)

-- the last k decimal digits of n, the most significant first
unfoldable pub decimals : ℕ → ℕ → List ℕ
decimals zero n = []
decimals (suc k) n = decimals k (n / 10) ++ ((48 + n % 10) ∷ [])

-- n in its fewest decimal digits: one, and so many more
pub record Decimal (n : ℕ) (digits : List ℕ) : Type 0 where
  pub more : ℕ
  pub text : digits ≡ decimals (more + 1) n
  pub fits : n < 10 ^ (more + 1)
  pub fewest : 0 < more → 10 ^ more ≤ n

-- a text that starts with a line
pub record StartsWithLine (name : List ℕ) (n : ℕ) (bs rest : List ℕ) : Type 0 where
  pub digits : List ℕ
  pub text : bs ≡ name ++ (digits ++ (newline ∷ rest))
  pub decimal : Decimal n digits
  pub small : n ≤ largest

pub record SessionText (type source origin : ℕ) (bs : List ℕ) : Type 0 where
  pub after_type : List ℕ
  pub after_source : List ℕ
  pub first : StartsWithLine type_name type bs after_type
  pub second : StartsWithLine source_name source after_type after_source
  pub third : StartsWithLine origin_name origin after_source []
