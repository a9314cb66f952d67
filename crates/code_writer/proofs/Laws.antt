-- The laws of the call: one range after another, and each way through `write_codes_refusal`.
use Prim.Native.Nat.{ℕ, zero, suc, ◌+◌, ◌-◌, ◌<◌, ◌≤◌}
use mathlib.Core.Path.{◌≡◌, refl, sym, ◌∙◌, ap}
use mathlib.Core.Bool.{Bool, true, false}
use mathlib.Core.List.{List, [], ◌∷◌, ◌++◌, append_assoc, append-nil}
use native.Mathlib.Omega.{arith}
use borrow.Author.Rules.{rules}
use borrow.Author.Tests.{lt-ltb, le-ltb}
use lib.ListN.{length, take, drop, length-append}
use lib.Seq.{take-nil}
use Rattle.std.specs.Prelude.{Option, Some, None}
use Rattle.code_ranges.specs.declared.Range.{Range}
use Rattle.model.specs.declared.Codes.{Codes}
use Rattle.model.specs.Codes.{is_empty, codes_in}
use Rattle.refusals.specs.Refusals.{answered, refused_by}
use Rattle.theorems.proofs.Sets.{Fits}
use Rattle.code_text.specs.CodeText.{Item, others_text, text_of}
use Rattle.code_writer.specs.CodesWritten.{ranges, written_text, write_codes}
use Rattle.item_writer.specs.Items.{Puts, range_text}
use Rattle.code_writer.specs.Steps.{ranges_from, Next, ranges_text}
use Rattle.code_writer.proofs.Longest.{at_most_610}
use Rattle.code_writer.proofs.Unique.{some_range}

-- ALL RANGES

-- the text so far, and the ranges that are left, from a code on
pub record Listing (s : Codes) (before : List ℕ) (from at : ℕ) (output : List ℕ) : Type 0 where
  pub within : from ≤ 256
  pub as_long : length output ≡ length before
  pub ends : at + length (others_text (ranges_from s from)) ≡ length (ranges_text s)
  pub so_far : take at output ++ others_text (ranges_from s from) ≡ ranges_text s

module _ (s : Codes) (before : List ℕ) where
  pub listing_starts : Listing s before 0 0 before
  unfolding ranges_from
  listing_starts = record { within = omega arith; as_long = refl; ends = omega arith; so_far = refl }

  module _ (from at : ℕ) (output : List ℕ) (k : Listing s before from at output) (found : Option Range) (n : Next s from found) where
    module _ (r : Range) (is : found ≡ Some r) where
      its : Next s from (Some r)
      its = rw is at n

      later : List ℕ
      later = others_text (ranges_from s (r.last + 1))

      range_then : others_text (ranges_from s from) ≡ range_text r.first r.last ++ later
      unfolding others_text later
      range_then = rw its.left

      its_length : length (others_text (ranges_from s from)) ≡ length (range_text r.first r.last) + length later
      its_length = ap length range_then ∙ length-append (range_text r.first r.last) later

      pub range_fits : 610 ≤ length before → at + length (range_text r.first r.last) ≤ length output
      range_fits room = omega (arith, its_length, at_most_610 s, k.ends, k.as_long)

      pub fewer_left : 256 - (r.last + 1) < 256 - from
      fewer_left = omega (arith, its.after, r.in_order, r.small)

      pub listing_on : (end : ℕ) (after : List ℕ) → Puts (range_text r.first r.last) at output end after → length after ≡ length output
          → Listing s before (r.last + 1) end after
      unfolding later
      listing_on end after p same = record {
        within = omega (arith, r.small);
        as_long = same ∙ k.as_long;
        ends = omega (arith, its_length, k.ends, p.ends);
        so_far = rw (p.so_far, append_assoc (take at output) (range_text r.first r.last) later, ← range_then) k.so_far;
      }

    pub all_listed : found ≡ None → Puts (ranges_text s) 0 before at output
    unfolding others_text
    all_listed is =
        let none = rw is at n in
        record {
          ends = omega (arith, k.ends, ap (λ (l : List Item). length (others_text l)) none.left);
          so_far = sym (append-nil (take at output)) ∙ (rw none.left at k.so_far);
        }

-- THE CALL

tail_of : (n : ℕ) (l : List ℕ) → take (n - 1) (drop 1 l) ≡ drop 1 (take n l)
tail_of zero l = refl
tail_of (suc n) [] = take-nil (suc n - 1)
tail_of (suc n) (x ∷ l) = let z : suc n - 1 ≡ n = omega arith in rw z

no_first_comma : (l : List Item) → drop 1 (others_text l) ≡ text_of l
unfolding others_text text_of
no_first_comma [] = refl
no_first_comma (i ∷ is) = refl

some_text : (l : List Item) → 1 ≤ length l → 1 ≤ length (others_text l)
unfolding others_text
some_text [] h = h
some_text (i ∷ is) h = omega arith

pub ends_within : (s : Codes) (before text : List ℕ) (end : ℕ) → Puts (ranges_text s) 0 before end text → length text ≡ 610
    → end ≤ length text
ends_within s before text end p h = omega (arith, at_most_610 s)

module _ (s : Codes) (output : List ℕ) (b : Bool) (e : b ≡ is_empty s) where
  module _ (h : b ≡ true) where
    pub empty_refused : refused_by 20 0 ≡ (write_codes s output).answer
    unfolding write_codes
    empty_refused = rw (← e, h)

    pub empty_stays : output ≡ (write_codes s output).output
    unfolding write_codes
    empty_stays = rw (← e, h)

  module _ (h : b ≡ false) (before text : List ℕ) (end : ℕ) (p : Puts (ranges_text s) 0 before end text) where
    pub first_comma_put : Fits s → 1 ≤ end
    first_comma_put f = omega (arith, some_text (ranges (codes_in s)) (some_range s (sym e ∙ h) f))

    its_text : take (end - 1) (drop 1 text) ≡ written_text s
    its_text = tail_of end text ∙ ap (drop 1) p.so_far ∙ no_first_comma (ranges (codes_in s))

    module _ (k : length output < length (take (end - 1) (drop 1 text))) where
      pub room_refused : refused_by 14 0 ≡ (write_codes s output).answer
      unfolding write_codes
      room_refused = let few = rw its_text at k in rw (← e, h, lt-ltb (length output) (length (written_text s)) few)

      pub room_refused_stays : output ≡ (write_codes s output).output
      unfolding write_codes
      room_refused_stays = let few = rw its_text at k in rw (← e, h, lt-ltb (length output) (length (written_text s)) few)

    module _ (k : length (take (end - 1) (drop 1 text)) ≤ length output) where
      pub text_written : answered (length (take (end - 1) (drop 1 text))) ≡ (write_codes s output).answer
      unfolding write_codes
      text_written =
          let enough = rw its_text at k in
          rw (its_text, ← e, h, le-ltb (length output) (length (written_text s)) enough)

      pub text_written_after : (written : List ℕ) → written ≡ take (end - 1) (drop 1 text)
          → written ++ drop (length (take (end - 1) (drop 1 text))) output ≡ (write_codes s output).output
      unfolding write_codes
      text_written_after written q =
          let enough = rw its_text at k in
          rw (q, its_text, ← e, h, le-ltb (length output) (length (written_text s)) enough)

pub ruleset writing_codes = (
  rules,
  listing_starts,
  range_fits,
  fewer_left,
  listing_on,
  all_listed,
  empty_refused,
  empty_stays,
  first_comma_put,
  ends_within,
  room_refused,
  room_refused_stays,
  text_written,
  text_written_after,
)
