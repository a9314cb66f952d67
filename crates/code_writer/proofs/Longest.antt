-- The longest text has 609 bytes. Among the ranges, each with its comma before it, a separator stands before each number; and of
-- three codes in a row at most two are written as a number. So the bytes are those of two codes of three, from the highest down: two for
-- each number, one more from 10 on, and one more from 100 on.
use Prim.Native.Nat.{ℕ, suc, ◌+◌, ◌*◌, ◌-◌, ◌/◌, ◌%◌, ◌<◌, ◌≤◌, min, max}
use mathlib.Core.Path.{◌≡◌, refl}
use mathlib.Core.Bool.{Bool, true, false, not}
use mathlib.Core.List.{List, [], ◌∷◌}
use native.Mathlib.Omega.{arith}
use borrow.Author.Tests.{eqb-true, eqb-false, ltb-true, ltb-false}
use lib.Dec.{eqb, ltb}
use lib.ListN.{length, length-append}
use Rattle.model.specs.declared.Codes.{Codes}
use Rattle.model.specs.Codes.{is_in, among, word, set_of, codes_in}
use Rattle.code_text.specs.CodeText.{Item, decimal, item_text, others_text, text_of}
use Rattle.code_writer.specs.CodesWritten.{with_code, ranges, written_text}
use Rattle.item_writer.specs.Items.{range_text}
use Rattle.code_writer.specs.Steps.{ranges_text}
use Rattle.code_writer.proofs.Rising.{Rising, ranges_rise}

-- 1 for a number that is t or above
unfoldable reaches : ℕ → ℕ → ℕ
reaches t n = min 1 (suc n - t)

-- one more than there are codes from c on that are t or above
unfoldable left : ℕ → ℕ → ℕ
left t c = 257 - max c t

-- how many of these can be written as a number
unfoldable room : ℕ → ℕ → ℕ
room t c = 2 * left t c / 3

module _ (t : ℕ) where
  reaches_once : (n : ℕ) → reaches t n ≤ 1
  unfolding reaches
  reaches_once n = omega arith

  reaches_on : (a b : ℕ) → a ≤ b → reaches t a ≤ reaches t b
  unfolding reaches
  reaches_on a b h = omega arith

  left_falls : (c d : ℕ) → c ≤ d → left t d ≤ left t c
  unfolding left
  left_falls c d h = omega arith

  left_next : (c : ℕ) → c ≤ 256 → reaches t c + left t (suc c) ≤ left t c
  unfolding left reaches
  left_next c h = omega arith

  -- after a number the next code is not written
  left_after : (n : ℕ) → n ≤ 255 → 2 * reaches t n + left t (suc (suc n)) ≤ left t n
  left_after n h = omega (arith, left_next n (omega arith), left_next (suc n) (omega arith), reaches_on n (suc n) (omega arith))

  one_number : (c n : ℕ) → c ≤ n → n ≤ 255 → reaches t n + room t (suc (suc n)) ≤ room t c
  unfolding room
  one_number c n h k = omega (arith, left_falls c n h, left_after n k, reaches_once n)

  two_numbers : (c a b : ℕ) → c ≤ a → a < b → b ≤ 255 → reaches t a + reaches t b + room t (suc (suc b)) ≤ room t c
  unfolding room
  two_numbers c a b h k m =
      omega (
        arith,
        left_falls c a h,
        left_next a (omega arith),
        left_falls (suc a) b k,
        left_after b m,
        reaches_on a b (omega arith),
        reaches_once b,
      )

all_reach_0 : (n : ℕ) → reaches 0 n ≡ 1
unfolding reaches
all_reach_0 n = omega arith

digits_of : (n : ℕ) → length (decimal n) ≡ 1 + reaches 10 n + reaches 100 n
unfolding decimal reaches
digits_of n = go (ltb n 10) refl (ltb n 100) refl
  where
    go : (a : Bool) → ltb n 10 ≡ a → (b : Bool) → ltb n 100 ≡ b → length (decimal n) ≡ 1 + reaches 10 n + reaches 100 n
    go true p b q = rw p (omega (arith, ltb-true))
    go false p true q = rw (p, q) (omega (arith, ltb-true, ltb-false))
    go false p false q = rw (p, q) (omega (arith, ltb-false))

-- the bytes of the numbers from c on, each with its separator
unfoldable most : ℕ → ℕ
most c = 2 * room 0 c + room 10 c + room 100 c

range_length : (a b c : ℕ) → c ≤ a → a ≤ b → b ≤ 255 → length (range_text a b) + most (suc (suc b)) ≤ most c
unfolding most
range_length a b c h k m = go (eqb a b) refl
  where
    go : (e : Bool) → eqb a b ≡ e → length (range_text a b) + most (suc (suc b)) ≤ most c
    go true e =
        let n : c ≤ b = omega arith in
        rw (e, eqb-true a b e)
        (omega (arith, digits_of b, all_reach_0 b, one_number 0 c b n m, one_number 10 c b n m, one_number 100 c b n m))
    go false e =
        let n : a < b = omega (arith, eqb-false) in
        rw (e, length-append)
        (omega (
          arith,
          digits_of a,
          digits_of b,
          all_reach_0 a,
          all_reach_0 b,
          two_numbers 0 c a b h n m,
          two_numbers 10 c a b h n m,
          two_numbers 100 c a b h n m,
        ))

others_length : (l : List Item) (c : ℕ) → Rising c l → length (others_text l) ≤ most c
unfolding others_text
others_length [] c r = omega arith
others_length (i ∷ is) c r =
    omega (
      arith,
      others_length is (suc (suc i.last)) r.3,
      length-append (item_text i) (others_text is),
      range_length i.first i.last c r.0 r.1 r.2,
    )

-- with a comma before the first range too
pub at_most_610 : (s : Codes) → length (ranges_text s) ≤ 610
unfolding most room left
at_most_610 s = others_length (ranges (codes_in s)) 0 (ranges_rise s 256 0 (omega arith))

pub one_comma_less : (l : List Item) → length (text_of l) ≡ length (others_text l) - 1
unfolding text_of others_text
one_comma_less [] = refl
one_comma_less (i ∷ is) = omega arith

pub at_most_609 : (s : Codes) → length (written_text s) ≤ 609
at_most_609 s = omega (arith, at_most_610 s, one_comma_less (ranges (codes_in s)))

-- 0,2-3,5-6 and so on up to 254-255
pub reached_609 : length (written_text (set_of (λ (c : ℕ). not (eqb (c % 3) 1)))) ≡ 609
unfolding is_in among word with_code ranges decimal others_text text_of
reached_609 = refl
