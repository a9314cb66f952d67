-- What the listing program has received of an input that comes in pieces (01, "The listing program"; 02, requests 1 and 5).
use Rattle.std.specs.Prelude.{◌≡◌, ℕ, ◌+◌, ◌%◌, ◌^◌, ◌≤◌, List, [], ◌∷◌, ◌++◌, length, take}
use Rattle.model.specs.declared.Captured.{Captured}
use Rattle.model.specs.Fits.{BytesFit}
use Rattle.model.specs.Capture.{receive_capture, unused}
use Rattle.receive.specs.declared.Tested.{Tested}
use Rattle.receive.specs.Receives.{in_table, SameColumns}
use Rattle.pieces.specs.declared.counts.Counts.{Counts}
use Rattle.pieces.specs.declared.SoFar.{SoFar}

-- COUNTS OF 64 BITS

abbrev pub counted : Captured → Counts
counted a = record { taken = a.taken % 2 ^ 64; refused = a.refused % 2 ^ 64; packed = a.packed % 2 ^ 64 }

-- the counts after one piece more
abbrev pub added : Counts → Captured → Counts
added c a = record {
  taken = (c.taken + a.taken) % 2 ^ 64;
  refused = (c.refused + a.refused) % 2 ^ 64;
  packed = (c.packed + a.packed) % 2 ^ 64;
}

-- ONE PIECE
-- The buffer's first n bytes are received, by one call on the table so far, and what it does not use stands at the front. The columns are
-- those that were lent.

pub record GoesOn (t : Tested) (s : SoFar) (b : List ℕ) (n : ℕ) (s' : SoFar) (t' : Tested) (b' : List ℕ) : Type 0 where
  pub same : length b' ≡ length b
  pub bytes : BytesFit (take n b)
  pub table : in_table t' ≡ (receive_capture (in_table t) (take n b)).table
  pub lent : SameColumns t t'
  pub counts : s'.counts ≡ added s.counts (receive_capture (in_table t) (take n b)).answer
  pub within : s'.left ≤ length b'
  pub left : take s'.left b' ≡ unused (receive_capture (in_table t) (take n b)).answer (take n b)

-- ALL PIECES
-- However the input was handed out: table and counts are those of one call on all of it, and so is how many bytes it does not use.

unfoldable pub joined : List (List ℕ) → List ℕ
joined [] = []
joined (p ∷ ps) = p ++ joined ps

pub record HasReceived (t : Tested) (s : SoFar) (t' : Tested) : Type 0 where
  -- what each read handed out
  pub pieces : List (List ℕ)
  pub table : in_table t' ≡ (receive_capture (in_table t) (joined pieces)).table
  pub lent : SameColumns t t'
  pub counts : s.counts ≡ counted (receive_capture (in_table t) (joined pieces)).answer
  pub left : s.left ≡ length (unused (receive_capture (in_table t) (joined pieces)).answer (joined pieces))
