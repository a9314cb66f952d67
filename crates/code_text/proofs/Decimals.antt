-- A number up to 255 is written in one way: its decimal digits are a number as it is read, and no other text is that number.
use Prim.Native.Nat.{ℕ, suc, ◌+◌, ◌-◌, ◌*◌, ◌/◌, ◌%◌, ◌<◌, ◌≤◌}
use mathlib.Core.Path.{◌≡◌, refl, sym, ◌∙◌, ap, ap₂}
use mathlib.Core.Bool.{Bool, true, false, not, ◌||◌}
use mathlib.Core.List.{List, [], ◌∷◌}
use native.Mathlib.Omega.{arith}
use borrow.Author.Tests.{le-leb, lt-leb, lt-ltb, le-ltb, ne_eqb, leb-true, eqb-false, ltb-true, ltb-false, not-true}
use lib.Dec.{eqb, leb, ltb}
use lib.ListN.{length, get_or}
use Rattle.refusals.proofs.Tests.{and_then, and_both}
use Rattle.decimal.specs.Decimal.{digit, is_digit, are_digits, followed_by, value}
use Rattle.code_text.specs.CodeText.{decimal, is_number}
use Rattle.decimal.proofs.Laws.{grows}
use Rattle.code_text.proofs.Numbers.{Numeral}

-- HOW MANY DIGITS

module _ (n : ℕ) where
  one : n < 10 → decimal n ≡ digit n ∷ []
  unfolding decimal
  one h = rw (lt-ltb n 10 h)

  two : 10 ≤ n → n < 100 → decimal n ≡ digit (n / 10) ∷ digit (n % 10) ∷ []
  unfolding decimal
  two l h = rw (le-ltb n 10 l, lt-ltb n 100 h)

  three : 100 ≤ n → decimal n ≡ digit (n / 100) ∷ digit (n / 10 % 10) ∷ digit (n % 10) ∷ []
  unfolding decimal
  three l = rw (le-ltb n 10 (omega arith), le-ltb n 100 l)

-- WRITTEN, AND READ

-- what a written number is read as
pub record Written (n : ℕ) (bs : List ℕ) : Type 0 where
  pub number : is_number bs ≡ true
  pub digits : are_digits bs ≡ true
  pub says : value bs ≡ n

written : (n : ℕ) (bs : List ℕ) → n ≤ 255 → 1 ≤ length bs → are_digits bs ≡ true → (leb (length bs) 1 || not (eqb (get_or bs 0 0) 48)) ≡ true
    → value bs ≡ n → Written n bs
written n bs small some digits leads says = record {
  number = and_both (and_both (le-leb 1 (length bs) some) digits) (and_both leads (le-leb (value bs) 255 (omega (arith, says))));
  digits = digits;
  says = says;
}

also_digit : (d : ℕ) (bs : List ℕ) → d < 10 → are_digits bs ≡ true → are_digits (digit d ∷ bs) ≡ true
unfolding are_digits
also_digit d bs h e = and_both (and_both (le-leb 48 (48 + d) (omega arith)) (le-leb (48 + d) 57 (omega arith))) e

pub decimal_read : (n : ℕ) → n ≤ 255 → Written n (decimal n)
unfolding are_digits followed_by
decimal_read n small = go (ltb n 10) refl (ltb n 100) refl
  where
    leads : (d : ℕ) → 0 < d → not (eqb (48 + d) 48) ≡ true
    leads d h = rw (ne_eqb (48 + d) 48 (λ e. omega (arith, e)))

    last : are_digits (digit (n % 10) ∷ []) ≡ true
    last = also_digit (n % 10) [] (omega arith) refl

    go : (a : Bool) → ltb n 10 ≡ a → (b : Bool) → ltb n 100 ≡ b → Written n (decimal n)
    go true h b k =
        let digits = also_digit n [] (ltb-true n 10 h) refl in
        rw (one n (ltb-true n 10 h)) (written n (digit n ∷ []) small (omega arith) digits refl (omega arith))
    go false h true k =
        let digits = also_digit (n / 10) (digit (n % 10) ∷ []) (omega (arith, ltb-true n 100 k)) last in
        let first = leads (n / 10) (omega (arith, ltb-false n 10 h)) in
        rw (two n (ltb-false n 10 h) (ltb-true n 100 k))
        (written n (digit (n / 10) ∷ digit (n % 10) ∷ []) small (omega arith) digits first (omega arith))
    go false h false k =
        let two_last = also_digit (n / 10 % 10) (digit (n % 10) ∷ []) (omega arith) last in
        let digits = also_digit (n / 100) (digit (n / 10 % 10) ∷ digit (n % 10) ∷ []) (omega arith) two_last in
        let first = leads (n / 100) (omega (arith, ltb-false n 100 k)) in
        rw (three n (ltb-false n 100 k))
        (written n (digit (n / 100) ∷ digit (n / 10 % 10) ∷ digit (n % 10) ∷ []) small (omega arith) digits first (omega arith))

-- READ, AND WRITTEN

-- the range of a digit's character
record Digit (b : ℕ) : Type 0 where
  low : 48 ≤ b
  high : b ≤ 57

digit_then : (b : ℕ) (bs : List ℕ) → are_digits (b ∷ bs) ≡ true → Digit b × (are_digits bs ≡ true)
unfolding are_digits
digit_then b bs e =
    let tests = and_then (is_digit b) (are_digits bs) e in
    let both = and_then (leb 48 b) (leb b 57) tests.0 in
    (record { low = leb-true 48 b both.0; high = leb-true b 57 both.1 }, tests.1)

not_zero : (a : ℕ) (bs : List ℕ) → Numeral (a ∷ bs) → 1 ≤ length bs → a ≡ 48 → ⊥
not_zero a bs w more = eqb-false a 48 (not-true (eqb a 48) (rw (lt-leb (suc (length bs)) 1 (omega arith)) at w.leads))

pub number_written : (bs : List ℕ) → Numeral bs → bs ≡ decimal (value bs)
unfolding followed_by
number_written [] w = absurd (omega (arith, w.some))
number_written (a ∷ []) w =
    let d = (digit_then a [] w.digits).0 in
    let z : 48 + (0 * 10 + (a - 48)) ≡ a = omega (arith, d.low) in
    sym (one (0 * 10 + (a - 48)) (omega (arith, d.high)) ∙ ap (λ (x : ℕ). x ∷ []) z)
number_written (a ∷ b ∷ []) w =
    let x = digit_then a (b ∷ []) w.digits in
    let y = (digit_then b [] x.1).0 in
    let n = (0 * 10 + (a - 48)) * 10 + (b - 48) in
    let more : 10 ≤ n = omega (arith, x.0.low, y.low, not_zero a (b ∷ []) w (omega arith)) in
    let p : 48 + n / 10 ≡ a = omega (arith, x.0.low, y.low, y.high) in
    let q : 48 + n % 10 ≡ b = omega (arith, y.low, y.high) in
    sym (two n more (omega (arith, x.0.high, y.high)) ∙ ap₂ (λ (u v : ℕ). u ∷ v ∷ []) p q)
number_written (a ∷ b ∷ c ∷ []) w =
    let x = digit_then a (b ∷ c ∷ []) w.digits in
    let y = digit_then b (c ∷ []) x.1 in
    let z = (digit_then c [] y.1).0 in
    let n = ((0 * 10 + (a - 48)) * 10 + (b - 48)) * 10 + (c - 48) in
    let more : 100 ≤ n = omega (arith, x.0.low, not_zero a (b ∷ c ∷ []) w (omega arith)) in
    let p : 48 + n / 100 ≡ a = omega (arith, x.0.low, y.0.low, y.0.high, z.low, z.high) in
    let q : 48 + n / 10 % 10 ≡ b = omega (arith, y.0.low, y.0.high, z.low, z.high) in
    let r : 48 + n % 10 ≡ c = omega (arith, z.low, z.high) in
    sym (three n more ∙ (λ i. p i ∷ q i ∷ r i ∷ []))
number_written (a ∷ b ∷ c ∷ d ∷ more) w =
    let x = (digit_then a (b ∷ c ∷ d ∷ more) w.digits).0 in
    let n = (((0 * 10 + (a - 48)) * 10 + (b - 48)) * 10 + (c - 48)) * 10 + (d - 48) in
    absurd (omega (arith, grows n more, w.small, x.low, not_zero a (b ∷ c ∷ d ∷ more) w (omega arith)))
