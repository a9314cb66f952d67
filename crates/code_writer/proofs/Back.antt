-- Reading what was written gives the set back.
use mathlib.Core.Path.{◌≡◌}
use mathlib.Core.Bool.{false}
use Rattle.model.specs.declared.Codes.{Codes}
use Rattle.refusals.specs.Refusals.{answered}
use Rattle.model.specs.Codes.{is_empty}
use Rattle.theorems.proofs.Sets.{Fits}
use Rattle.code_text.specs.CodeText.{read_codes}
use Rattle.code_text.proofs.Grammar.{given_is_read}
use Rattle.code_writer.specs.CodesWritten.{written_text}
use Rattle.code_writer.proofs.Unique.{written_for, written_given}

pub read_of_written : (s : Codes) → is_empty s ≡ false → Fits s → read_codes (written_text s) ≡ answered s
read_of_written s some fits = given_is_read (written_text s) s (written_given s (written_text s) (written_for s some fits))
