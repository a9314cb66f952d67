-- RFC 4571 frames, one after another in a buffer (01, "The listing program": "a 2-byte length, then that many bytes"; 02, request 5).
use Rattle.std.specs.Prelude.{ℕ, zero, suc, ◌+◌, ◌<◌, ◌≡◌, Bool, false, cond, leb, length, take, drop}
use mathlib.Core.List.{List, [], ◌∷◌, ◌++◌, Memᴰ}
use Rattle.model.specs.Packet.{number16, bytes16}

-- FRAMING

-- a packet's frame: its length in two bytes, then the packet
abbrev pub frame : List ℕ → List ℕ
frame p = bytes16 (length p) ++ p

-- the frames of packets, one after another
unfoldable pub frames : List (List ℕ) → List ℕ
frames [] = []
frames (p ∷ ps) = frame p ++ frames ps

-- WHAT A BUFFER HOLDS

-- how many bytes the frame at a buffer's start takes, by the length that it begins with
unfoldable pub frame_size : List ℕ → ℕ
frame_size bs = 2 + number16 bs 0

-- do they all stand there? (Where the length itself is cut, whatever is read for it, they do not.)
unfoldable pub starts_whole : List ℕ → Bool
starts_whole bs = leb (frame_size bs) (length bs)

-- the packet of that frame, and what comes after it
unfoldable pub first_packet : List ℕ → List ℕ
first_packet bs = take (number16 bs 0) (drop 2 bs)

unfoldable pub after_first : List ℕ → List ℕ
after_first bs = drop (frame_size bs) bs

-- the packets of the whole frames of a buffer of at most n bytes: each frame leaves fewer
unfoldable pub packets_within : ℕ → List ℕ → List (List ℕ)
packets_within zero bs = []
packets_within (suc n) bs = cond (starts_whole bs) (first_packet bs ∷ packets_within n (after_first bs)) []

-- the packets of a buffer's whole frames, in order
unfoldable pub packets_in : List ℕ → List (List ℕ)
packets_in bs = packets_within (length bs) bs

-- the bytes that these frames use
unfoldable pub used : List ℕ → ℕ
used bs = length (frames (packets_in bs))

-- what is left: nothing, one byte of a length, or a frame cut short
unfoldable pub rest : List ℕ → List ℕ
rest bs = drop (used bs) bs

-- THE SAME, WITHOUT COMPUTING
-- A buffer holds these packets, and this rest is left, if it is their frames with the rest behind them, each packet's length fits
-- in two bytes, and no whole frame stands at the start of the rest.
pub record Holds (bs : List ℕ) (ps : List (List ℕ)) (left : List ℕ) : Type 0 where
  pub framed : bs ≡ frames ps ++ left
  pub short : (p : List ℕ) → Memᴰ p ps → length p < 65536
  pub cut : starts_whole left ≡ false
