-- The numbers handed back when something is refused, and how each answer is told in them (01, "Numbers handed back
-- when something is refused" and "The form each place takes"). A number is given under its condition if no condition
-- tested before it holds; 16 is tested first, the others in rising order, but for 17, which is tested at 7's place
-- (02, request 1), for 18, 19 and then 15, which are tested after 6 and before 7 (02, request 2), and for 20, which is tested
-- before 14 (02, request 6).
use Rattle.std.specs.Prelude.{ℕ, Bool, true, false, cond, eqb, Result, Ok, Err}
use Rattle.refusals.specs.declared.Refusal.{Refusal}
use Rattle.refusals.specs.declared.Refusal.TheVariants as refusal

-- THE NUMBERS

-- fewer than 12 bytes (read, receive)
abbrev pub too_short : ℕ
too_short = 1

-- version not 2 (read, receive)
abbrev pub wrong_version : ℕ
wrong_version = 2

-- CSRC list or extension runs past the end (read, receive)
abbrev pub header_past_end : ℕ
header_past_end = 3

-- P set and pad count 0 or above the bytes after header, CSRC list and extension (read, receive)
abbrev pub bad_padding : ℕ
bad_padding = 4

-- another payload type (receive)
abbrev pub other_payload_type : ℕ
other_payload_type = 5

-- another SSRC (receive)
abbrev pub other_ssrc : ℕ
other_ssrc = 6

-- payload not 4 bytes, and not packed (read, receive)
abbrev pub not_one_report : ℕ
not_one_report = 7

-- code not in the set (read, receive; 02, request 6)
abbrev pub code_not_in_set : ℕ
code_not_in_set = 8

-- duration 0 (read, receive)
abbrev pub no_duration : ℕ
no_duration = 9

-- offset 2^31 or more (receive)
abbrev pub offset_too_large : ℕ
offset_too_large = 10

-- 128 segments held and this pair is none of them (receive)
abbrev pub table_full : ℕ
table_full = 11

-- a number given is outside its range, a code is outside the set, or the set is empty (both openings, both writers, both calls of a
-- plan; 02, requests 2 and 6)
abbrev pub out_of_range : ℕ
out_of_range = 12

-- report or event number is 0 or above the count (plan, event at a number)
abbrev pub no_such_number : ℕ
no_such_number = 13

-- output has fewer bytes than what is written: 16 (write, a plan's report), 17, 25 or 33 (02, request 2: the redundant writer), or the
-- text of a set (02, request 6)
abbrev pub output_too_small : ℕ
output_too_small = 14

-- lent list has fewer records than there are events (list), or fewer entries than blocks of the event's type (02, request 2: the redundant
-- receiver)
abbrev pub list_too_small : ℕ
list_too_small = 15

-- table fails a test (receive, list, event at a number; 02, requests 2 and 5: the redundant receiver, a whole capture)
abbrev pub invalid_table : ℕ
invalid_table = 16

-- packed: payload of 8, 12 or more bytes in whole fours (02, request 1: read, receive)
abbrev pub packed : ℕ
packed = 17

-- the block headers of a redundant packet run out (02, request 2: walker, redundant receiver)
abbrev pub headers_run_out : ℕ
headers_run_out = 18

-- its block lengths exceed the data (02, request 2: walker, redundant receiver)
abbrev pub blocks_too_long : ℕ
blocks_too_long = 19

-- text outside the grammar of event lists, or an empty set that is written or asked its lowest code (02, request 6: sets)
abbrev pub no_codes : ℕ
no_codes = 20

-- nothing is refused
abbrev pub none : ℕ
none = 0

-- the number of each refusal as the code names it
abbrev pub number_of : Refusal → ℕ
number_of refusal.TooShort = too_short
number_of refusal.WrongVersion = wrong_version
number_of refusal.HeaderPastEnd = header_past_end
number_of refusal.BadPadding = bad_padding
number_of refusal.OtherPayloadType = other_payload_type
number_of refusal.OtherSsrc = other_ssrc
number_of refusal.NotOneReport = not_one_report
number_of refusal.CodeNotInSet = code_not_in_set
number_of refusal.NoDuration = no_duration
number_of refusal.OffsetTooLarge = offset_too_large
number_of refusal.TableFull = table_full
number_of refusal.OutOfRange = out_of_range
number_of refusal.NoSuchNumber = no_such_number
number_of refusal.OutputTooSmall = output_too_small
number_of refusal.ListTooSmall = list_too_small
number_of refusal.InvalidTable = invalid_table
number_of refusal.Packed = packed
number_of refusal.HeadersRunOut = headers_run_out
number_of refusal.BlocksTooLong = blocks_too_long
number_of refusal.NoCodes = no_codes

-- THE FIRST THAT APPLIES

-- n if the condition holds, else what the later tests say
infixr 10 ◌if◌else◌
abbrev pub ◌if◌else◌ : ℕ → Bool → ℕ → ℕ
n if c else later = cond c n later

-- the first stage's number, and where that refuses nothing, the second's
infixr 10 ◌or_else◌
abbrev pub ◌or_else◌ : ℕ → ℕ → ℕ
first or_else second = cond (eqb first none) second first

-- HOW AN ANSWER IS TOLD

-- Whether a call refused, the refusal's number (0 if none), and the values that it answers (zeros if refused).
pub record Told (A : Type 0) : Type 0 where
  pub refused : Bool
  pub number : ℕ
  pub values : A

abbrev pub answered : {A : Type 0} → A → Told A
answered v = record { refused = false; number = none; values = v }

abbrev pub refused_by : {A : Type 0} → ℕ → A → Told A
refused_by n zeros = record { refused = true; number = n; values = zeros }

-- what a call tells whose refusal is n: a refusal returns its number and zeros elsewhere
abbrev pub telling : {A : Type 0} → ℕ → A → A → Told A
telling n zeros v = cond (eqb n none) (answered v) (refused_by n zeros)

-- how an answer that is either given or refused is told
abbrev pub told : {A : Type 0} → A → Result A Refusal → Told A
told zeros (Ok v) = answered v
told zeros (Err r) = refused_by (number_of r) zeros
