-- The laws by which each need of the functions is closed.
use borrow.Author.Rules.{rules}
use Rattle.code_text.proofs.Numbers.{no_digits, leading_zero, saying_starts, all_said, saying_on, said_none, small_number}
use Rattle.code_text.proofs.Pieces.{no_number_alone, one_number, no_first_number, no_last_number, rising, not_rising}
use Rattle.code_text.proofs.Reading.{reading_starts, all_read, piece_refused, reading_on}

pub ruleset reading_codes = (
  rules,
  no_digits,
  leading_zero,
  saying_starts,
  all_said,
  saying_on,
  said_none,
  small_number,
  no_number_alone,
  one_number,
  no_first_number,
  no_last_number,
  rising,
  not_rising,
  reading_starts,
  all_read,
  piece_refused,
  reading_on,
)
