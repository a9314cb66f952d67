-- A whole capture in one call (02, request 5): "one call for a buffer of RFC 4571 frames, with table and counts of taken and refused
-- as from document 01's receiver given the frames one by one".
use Rattle.std.specs.Prelude.{ℕ, ◌+◌, ◌≡◌, Bool, cond, List, [], ◌∷◌, ◌++◌, eqb, drop}
use Rattle.model.specs.declared.Table.{Table}
use Rattle.model.specs.declared.Received.{Received}
use Rattle.model.specs.declared.Captured.{Captured}
use Rattle.refusals.specs.Refusals.{invalid_table, packed, none}
use Rattle.model.specs.Packet.{bit}
use Rattle.model.specs.Table.{valid}
use Rattle.model.specs.Receive.{refuses, answers, table_after}
use Rattle.model.specs.Fits.{BytesFit}
use Rattle.model.specs.Frames.{packets_in, used}

-- how many answers of a list pass a test
unfoldable pub how_many : (Received → Bool) → List Received → ℕ
how_many test [] = 0
how_many test (a ∷ more) = bit (test a) + how_many test more

-- new and known segments
abbrev pub takes : Received → Bool
takes a = eqb a.refusal none

-- several reports in one packet (02, request 1)
abbrev pub refuses_packed : Received → Bool
refuses_packed a = eqb a.refusal packed

-- what the call answers, and the table after it
pub record Capturing : Type 0 where
  pub answer : Captured
  pub table : Table

-- the packets of the whole frames are received one by one; a cut last frame is left, and the answer tells the bytes used
unfoldable pub receiving_all : Table → List ℕ → Capturing
receiving_all t bs = record {
  answer = record {
    refusal = none;
    count = (table_after t (packets_in bs)).head.count;
    used = used bs;
    taken = how_many takes (answers t (packets_in bs));
    refused = how_many refuses (answers t (packets_in bs));
    packed = how_many refuses_packed (answers t (packets_in bs));
  };
  table = table_after t (packets_in bs);
}

-- "A table that 16 refuses gives 16 for the whole call, with both counts and the bytes used 0."
unfoldable pub receiving_none : Table → Capturing
receiving_none t = record {
  answer = record { refusal = invalid_table; count = t.head.count; used = 0; taken = 0; refused = 0; packed = 0 };
  table = t;
}

unfoldable pub receive_capture : Table → List ℕ → Capturing
receive_capture t bs = cond (valid t) (receiving_all t bs) (receiving_none t)

-- A CAPTURE IN PIECES

-- what two calls come to, the second on the table of the first: the second's refusal, count and table, and the sums of the others
abbrev pub together : Captured → Capturing → Capturing
together first second = record {
  answer = record {
    refusal = second.answer.refusal;
    count = second.answer.count;
    used = first.used + second.answer.used;
    taken = first.taken + second.answer.taken;
    refused = first.refused + second.answer.refused;
    packed = first.packed + second.answer.packed;
  };
  table = second.table;
}

-- the bytes of a buffer that a call did not use
abbrev pub unused : Captured → List ℕ → List ℕ
unused a bs = drop a.used bs

-- a buffer with more behind it: one call, or two, the second of which goes on from the bytes used
abbrev pub InPieces : Type 0
InPieces =
    (t : Table) (bs more : List ℕ) → BytesFit bs
    → receive_capture t (bs ++ more)
    ≡ together (receive_capture t bs).answer (receive_capture (receive_capture t bs).table (unused (receive_capture t bs).answer bs ++ more))
