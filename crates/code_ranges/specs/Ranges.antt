-- A set with the codes of a range besides.
use Rattle.std.specs.Prelude.{ℕ, ◌&&◌, ◌||◌, leb}
use Rattle.model.specs.declared.Codes.{Codes}
use Rattle.model.specs.Codes.{is_in, set_of}

unfoldable pub with_range : Codes → ℕ → ℕ → Codes
with_range s first last = set_of (λ c. is_in s c || (leb first c && leb c last))
