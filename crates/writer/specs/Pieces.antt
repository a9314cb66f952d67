-- A packet is put into the output in pieces: what is asked of a payload's numbers, and the output with a piece at a place.
use Rattle.std.specs.Prelude.{ℕ, ◌≤◌, List, ◌++◌, take, drop}
use Rattle.model.specs.Table.{place}

pub record PayloadInRange (c v d : ℕ) : Type 0 where
  pub code : c ≤ 255
  pub volume : v ≤ 63
  pub duration : d ≤ 65535

-- the bytes before the piece and those after it stay
unfoldable pub put_at : List ℕ → ℕ → List ℕ → List ℕ
put_at p at output = take at output ++ place p (drop at output)
