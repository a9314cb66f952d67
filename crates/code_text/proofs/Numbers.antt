-- The number that a text is: its digits one by one, and no 0 ahead of others.
use Prim.Native.Nat.{ℕ, ◌+◌, ◌-◌, ◌*◌, ◌<◌, ◌≤◌}
use mathlib.Core.Path.{◌≡◌, refl, sym, ◌∙◌, ap}
use mathlib.Core.Bool.{Bool, true, false, not, cond, ◌&&◌, and-false}
use mathlib.Core.List.{List, ◌∷◌}
use native.Mathlib.Numerals.{add-one}
use native.Mathlib.Omega.{arith}
use borrow.Author.Tests.{lt-leb, le-leb, leb-true, eqb-true, eqb-false, not-true, not-false}
use lib.Dec.{eqb, leb}
use lib.ListN.{length, get_or, drop, drop_of_length-le}
use lib.Seq.{drop-cons}
use Rattle.std.specs.Prelude.{Some, None, Result, Ok, Err}
use Rattle.std.specs.Result.{result_ok}
use Rattle.std.proofs.lemmas.Option.{none-some, same_Some, cond_some}
use Rattle.refusals.proofs.Tests.{and_then}
use Rattle.decimal.specs.declared.NumberError.{NumberError}
use Rattle.decimal.specs.declared.NumberError.TheVariants.{NoDigit, TooLarge}
use Rattle.decimal.specs.Decimal.{is_digit, are_digits, followed_by, value, no_zero_ahead, next_number}
use Rattle.decimal.proofs.Laws.{grows, number_then, no_digit_then, too_large_then}
use Rattle.code_text.specs.CodeText.{is_number}
use Rattle.code_text.specs.Steps.{value_after, number_of}

-- WHAT A NUMBER IS

pub record Numeral (bs : List ℕ) : Type 0 where
  pub some : 1 ≤ length bs
  pub digits : are_digits bs ≡ true
  pub leads : no_zero_ahead (get_or bs 0 0) (length bs) ≡ true
  pub small : value bs ≤ 255

module _ (bs : List ℕ) where
  pub numeral : is_number bs ≡ true → Numeral bs
  numeral e =
      let no_zero = no_zero_ahead (get_or bs 0 0) (length bs) in
      let tests = and_then (leb 1 (length bs) && are_digits bs) (no_zero && leb (value bs) 255) e in
      let first = and_then (leb 1 (length bs)) (are_digits bs) tests.0 in
      let last = and_then no_zero (leb (value bs) 255) tests.1 in
      record { some = leb-true 1 (length bs) first.0; digits = first.1; leads = last.0; small = leb-true (value bs) 255 last.1 }

  pub no_number : None ≡ number_of bs → is_number bs ≡ false
  unfolding number_of
  no_number = go (is_number bs)
    where
      go : (b : Bool) → None ≡ cond b (Some (value bs)) None → b ≡ false
      go true e = absurd (none-some (value bs) e)
      go false e = refl

  module _ (n : ℕ) (e : Some n ≡ number_of bs) where
    pub is_number_lem : (is_number bs ≡ true) × (n ≡ value bs)
    unfolding number_of
    is_number_lem = let p = cond_some (is_number bs) (value bs) n (sym e) in (p.0, sym p.1)

    pub small_number : n ≤ 255
    small_number = omega (arith, is_number_lem.1, (numeral is_number_lem.0).small)

-- DIGITS

too_large_after : (n : ℕ) (bs : List ℕ) → 255 < n → None ≡ value_after n bs
unfolding value_after
too_large_after n bs h = rw (lt-leb (followed_by n bs) 255 (omega (arith, grows n bs)), and-false (are_digits bs))

-- there are digits, and no 0 ahead of others
pub record Leads (bs : List ℕ) : Type 0 where
  pub some : leb 1 (length bs) ≡ true
  pub leads : no_zero_ahead (get_or bs 0 0) (length bs) ≡ true

-- what is left of the digits at place i decides, after the number that stands before it
pub record Saying (bs : List ℕ) (i n : ℕ) : Type 0 where
  pub leads : Leads bs
  pub small : n ≤ 255
  pub rest : value_after n (drop i bs) ≡ value_after 0 bs

module _ (bs : List ℕ) where
  digits_tell : Leads bs → value_after 0 bs ≡ number_of bs
  unfolding number_of value_after
  digits_tell w = rw (w.some, w.leads)

  module _ (b : Bool) (e : b ≡ eqb (length bs) 0) where
    pub no_digits : b ≡ true → None ≡ number_of bs
    unfolding number_of
    no_digits h = let z : length bs ≡ 0 = eqb-true (length bs) 0 (sym e ∙ h) in rw (lt-leb 1 (length bs) (omega arith))

    module _ (h : b ≡ false) (zero : Bool) (k : zero ≡ not (no_zero_ahead (get_or bs 0 0) (length bs))) where
      pub leading_zero : zero ≡ true → None ≡ number_of bs
      unfolding number_of
      leading_zero z =
          rw (not-true (no_zero_ahead (get_or bs 0 0) (length bs)) (sym k ∙ z), and-false (leb 1 (length bs) && are_digits bs))

      pub saying_starts : zero ≡ false → Saying bs 0 0
      saying_starts z =
          let n : length bs ≡ 0 → ⊥ = eqb-false (length bs) 0 (sym e ∙ h) in
          let some = le-leb 1 (length bs) (omega (arith, n)) in
          let leads = not-false (no_zero_ahead (get_or bs 0 0) (length bs)) (sym k ∙ z) in
          record { leads = record { some = some; leads = leads }; small = omega arith; rest = refl }

  module _ (i n : ℕ) (w : Saying bs i n) where
    pub all_said : length bs ≤ i → Some n ≡ number_of bs
    unfolding value_after are_digits followed_by
    all_said h = sym (rw (drop_of_length-le bs {i = i} h, le-leb n 255 w.small)) ∙ w.rest ∙ digits_tell w.leads

    module _ (there : i < length bs) (b : ℕ) (is : b ≡ get_or bs i 0) where
      front : drop i bs ≡ b ∷ drop (i + 1) bs
      front = drop-cons bs i 0 there ∙ rw (add-one i, ← is)

      no_digit : is_digit b ≡ false → None ≡ number_of bs
      unfolding value_after are_digits
      no_digit e = sym (rw (front, e)) ∙ w.rest ∙ digits_tell w.leads

      goes : (m : ℕ) → m ≡ n * 10 + (b - 48) → is_digit b ≡ true → value_after m (drop (i + 1) bs) ≡ value_after 0 bs
      unfolding value_after are_digits followed_by
      goes m next e = sym (rw (front, e, next)) ∙ w.rest

      too_large : (is_digit b ≡ true) × (255 < n * 10 + (b - 48)) → None ≡ number_of bs
      too_large t =
          too_large_after (n * 10 + (b - 48)) (drop (i + 1) bs) t.1 ∙ goes (n * 10 + (b - 48)) refl t.0 ∙ digits_tell w.leads

      -- a digit that is read, and one that is not
      pub saying_on : (r : Result ℕ NumberError) → r ≡ next_number n b 255 → (m : ℕ) → Some m ≡ result_ok r → Saying bs (i + 1) m
      saying_on (Ok k) said m e =
          let z : m ≡ k = same_Some m k e in
          let f = number_then n b 255 (Ok k) said m (ap Ok (sym z)) in
          record { leads = w.leads; small = f.small; rest = goes m f.is f.digit }
      saying_on (Err x) said m e = absurd (none-some m (sym e))

      pub said_none : (r : Result ℕ NumberError) → r ≡ next_number n b 255 → None ≡ result_ok r → None ≡ number_of bs
      said_none (Ok k) said e = absurd (none-some k e)
      said_none (Err NoDigit) said e = no_digit (no_digit_then n b 255 (Err NoDigit) said refl)
      said_none (Err TooLarge) said e = too_large (too_large_then n b 255 (Err TooLarge) said refl)
