-- Buffers of frames and a capture, computed from the definitions. Beside each row stands what it must be.
use Prim.Native.Nat.{ℕ}
use lib.ListN.{take}
use mathlib.Core.Path.{◌≡◌, refl}
use mathlib.Core.List.{List, [], ◌∷◌, ◌++◌, map}
use Rattle.model.specs.Codes.{is_in, the_keys}
use Rattle.model.specs.Packet.{after_header, payload, header_refusal, payload_refusal}
use Rattle.model.specs.Segments.{rising}
use Rattle.model.specs.Search.{middle, is_smaller, kept, searching}
use Rattle.model.specs.Table.{segments_from, one_type, empty_table, all_valid, valid, holds, put}
use Rattle.model.specs.Receive.{
  heard_by,
  unheard,
  hear_refusal,
  probes,
  hear,
  arrival_in,
  refusal_for,
  packet_refusal,
  receive,
  answers,
  table_after,
}
use Rattle.model.specs.Frames.{frame, frames, frame_size, starts_whole, first_packet, after_first, packets_within, packets_in, used, rest}
use Rattle.model.specs.Capture.{how_many, receiving_all, receiving_none, receive_capture}

-- FRAMES

-- a buffer, and the packets of its whole frames
abbrev buffers : List (List ℕ × List (List ℕ))
buffers =
    ([], [])
    ∷ (0 ∷ [], [])  -- half a length
    ∷ (0 ∷ 0 ∷ [], [] ∷ [])  -- a frame of length 0 has an empty packet
    ∷ (0 ∷ 2 ∷ 8 ∷ 9 ∷ [], (8 ∷ 9 ∷ []) ∷ [])  -- it ends where the buffer does
    ∷ (0 ∷ 3 ∷ 8 ∷ 9 ∷ [], [])  -- it lacks a byte
    ∷ (1 ∷ 0 ∷ 8 ∷ [], [])  -- 256 bytes, not one: the high byte comes first
    ∷ (two_and_a_part, (7 ∷ []) ∷ (8 ∷ 9 ∷ []) ∷ [])
    ∷ []
  where
    two_and_a_part : List ℕ
    two_and_a_part = 0 ∷ 1 ∷ 7 ∷ 0 ∷ 2 ∷ 8 ∷ 9 ∷ 0 ∷ 2 ∷ 6 ∷ []

pub whole_frames : map (λ r. packets_in r.0) buffers ≡ map (λ r. r.1) buffers
unfolding packets_in packets_within starts_whole frame_size first_packet after_first
whole_frames = refl

-- A CAPTURE

-- payload type 101, timestamp 16, SSRC 7, and a payload
abbrev packet : List ℕ → List ℕ
packet said = 0x80 ∷ 0xE5 ∷ 0 ∷ 1 ∷ 0 ∷ 0 ∷ 0 ∷ 16 ∷ 0 ∷ 0 ∷ 0 ∷ 7 ∷ said

-- key 5, E, volume 10, duration 400
abbrev key_5 : List ℕ
key_5 = 5 ∷ 0x8A ∷ 1 ∷ 0x90 ∷ []

-- an empty packet, key 5, two reports in one packet, a payload of 5 bytes, key 5 again, and a frame that lacks its last byte
abbrev capture : List ℕ
capture =
    frame [] ++ (frame (packet key_5) ++ (frame (packet (key_5 ++ key_5)) ++ (frame (packet (0 ∷ key_5)) ++ (frame (packet key_5) ++ (0 ∷ 2 ∷ 1 ∷ [])))))

pub counted : (receive_capture (empty_table (one_type the_keys 101 7 0)) capture).answer ≡ record { refusal = 0; count = 1; used = 79; taken = 2; refused = 3; packed = 1 }
unfolding is_in receive_capture receiving_all how_many answers table_after used frames packets_in packets_within starts_whole frame_size first_packet after_first receive packet_refusal refusal_for hear hear_refusal unheard probes heard_by arrival_in header_refusal payload_refusal payload after_header valid all_valid rising segments_from holds put searching kept middle is_smaller
counted = refl

-- the key's segment stands in the table then
pub kept_in : take 1 (receive_capture (empty_table (one_type the_keys 101 7 0)) capture).table.keys ≡ 4101 ∷ []
unfolding is_in receive_capture receiving_all table_after packets_in packets_within starts_whole frame_size first_packet after_first receive packet_refusal refusal_for hear hear_refusal unheard probes heard_by arrival_in header_refusal payload_refusal payload after_header valid all_valid rising segments_from holds put searching kept middle is_smaller
kept_in = refl

pub part_left : rest capture ≡ 0 ∷ 2 ∷ 1 ∷ []
unfolding rest used frames packets_in packets_within starts_whole frame_size first_packet after_first
part_left = refl

-- a table that 16 refuses
pub nothing_counted : receive_capture (empty_table (one_type the_keys 128 7 0)) capture ≡ record { answer = record { refusal = 16; count = 0; used = 0; taken = 0; refused = 0; packed = 0 }; table = empty_table (one_type the_keys 128 7 0) }
unfolding is_in receive_capture receiving_none valid all_valid rising segments_from
nothing_counted = refl
