-- RFC 4733, Figure 5: tones as the primary, events as one redundant layer. The type of the redundant packets is 102, that of tones 101 and that
-- of events 100. The data follow the headers with no alignment, as the text above the figure says. The origin, 0, is ours.
use Prim.Native.Nat.{ℕ}
use mathlib.Core.Path.{◌≡◌, refl}
use mathlib.Core.Bool.{true, false}
use mathlib.Core.List.{List, [], ◌∷◌, ◌++◌}
use lib.ListN.{drop}
use Rattle.model.specs.declared.Table.{Table}
use Rattle.model.specs.Codes.{is_in, the_keys}
use Rattle.model.specs.Packet.{after_header, payload, header_refusal, payload_refusal}
use Rattle.model.specs.Segments.{rising}
use Rattle.model.specs.Search.{searching}
use Rattle.model.specs.Table.{segments_from, opened_both, all_valid, valid, holds, put}
use Rattle.model.specs.Receive.{heard_by, unheard, hear_refusal, probes, hear}
use Rattle.model.specs.Blocks.{Block, older_within, older, lengths, blocks_refusal, cut_data, blocks, headers_of, data_of, laid_out}
use Rattle.model.specs.Walk.{walk_refusal, walk_start, block_step, HandsOut}
use Rattle.model.specs.Redundant.{
  of_type,
  reports_in,
  refusal_for_both,
  refusal_of_both,
  whole_refusal,
  table_after_reports,
  answers_to,
  receiving_each,
  receive_redundant,
}
use Rattle.model.specs.Events.{units, loudest, quietest, last_ended, continues_nearest, continuing, events_from}
use Rattle.model.specs.List.{events}

-- version 2, type 102, sequence number 18; timestamp 12800; SSRC 0x5234a8
abbrev packet_header : List ℕ
packet_header = 0x80 ∷ 0x66 ∷ 0x00 ∷ 0x12 ∷ 0x00 ∷ 0x00 ∷ 0x32 ∷ 0x00 ∷ 0x00 ∷ 0x52 ∷ 0x34 ∷ 0xA8 ∷ []

-- F 1, type 100, offset 1600, length 4; F 0, type 101
abbrev block_headers : List ℕ
block_headers = 0xE4 ∷ 0x19 ∷ 0x00 ∷ 0x04 ∷ 0x65 ∷ []

-- event 1, E, volume 20, duration 1760
abbrev event : List ℕ
event = 0x01 ∷ 0x94 ∷ 0x06 ∷ 0xE0 ∷ []

-- modulation 0, T 0, volume 20, duration 160; frequencies 697 and 1209
abbrev tones : List ℕ
tones = 0x00 ∷ 0x14 ∷ 0x00 ∷ 0xA0 ∷ 0x02 ∷ 0xB9 ∷ 0x04 ∷ 0xB9 ∷ []

abbrev packet : List ℕ
packet = packet_header ++ (block_headers ++ (event ++ tones))

abbrev event_block : Block
event_block = record { type = 100; offset = 1600; primary = false; bytes = event }

abbrev tone_block : Block
tone_block = record { type = 101; offset = 0; primary = true; bytes = tones }

pub figure_blocks : blocks (drop 12 packet) ≡ event_block ∷ tone_block ∷ []
unfolding blocks cut_data older older_within
figure_blocks = refl

-- the payload is what these two blocks are laid out as
pub figure_laid_out : laid_out (event_block ∷ []) tone_block ≡ drop 12 packet
unfolding headers_of data_of
figure_laid_out = refl

-- the walker starts at the first header, place 12, with the first data at 17, and hands out both
pub figure_start : walk_start packet ≡ record { cursor = record { header = 12; body = 17; end = 29 }; refusal = 0 }
unfolding walk_start walk_refusal header_refusal after_header payload blocks_refusal older older_within lengths
figure_start = refl

pub figure_walked : HandsOut packet (record { header = 12; body = 17; end = 29 }) (event_block ∷ tone_block ∷ [])
unfolding HandsOut block_step
figure_walked = (refl, refl, (refl, refl, refl))

abbrev table : Table
table = (opened_both the_keys 100 102 0x5234A8 0).table

-- One entry is enough. The event's report is at 12800 less 1600, as in Figure 3: key 1 from 11200 on for 1760 units, with its end heard, and not
-- its marked beginning.
pub figure_received : (receive_redundant table packet (9 ∷ 9 ∷ [])).answer ≡ record { blocks = 1; count = 1; refusal = 0 }
unfolding is_in receive_redundant receiving_each answers_to table_after_reports whole_refusal refusal_of_both refusal_for_both reports_in of_type
    blocks_refusal blocks cut_data older older_within lengths hear hear_refusal unheard probes heard_by valid rising all_valid segments_from holds
    put header_refusal after_header payload payload_refusal searching
figure_received = refl

pub figure_entries : (receive_redundant table packet (9 ∷ 9 ∷ [])).entries ≡ 256 ∷ 9 ∷ []
unfolding is_in receive_redundant receiving_each answers_to table_after_reports whole_refusal refusal_of_both refusal_for_both reports_in of_type
    blocks_refusal blocks cut_data older older_within lengths hear hear_refusal unheard probes heard_by valid rising all_valid segments_from holds
    put header_refusal after_header payload payload_refusal searching
figure_entries = refl

pub figure_listed : events (receive_redundant table packet (9 ∷ [])).table
    ≡ record { code = 1; start = 11200; length = 1760; volume = 20; quietest = 20; began = false; ended = true } ∷ []
unfolding is_in receive_redundant receiving_each answers_to table_after_reports whole_refusal refusal_of_both refusal_for_both reports_in of_type
    blocks_refusal blocks cut_data older older_within lengths hear hear_refusal unheard probes heard_by valid rising all_valid segments_from holds
    put header_refusal after_header payload payload_refusal searching units loudest quietest last_ended continues_nearest continuing events_from
figure_listed = refl
