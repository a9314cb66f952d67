-- Which characters are digits, and what an answer says of one more.
use Prim.Native.Nat.{ℕ, ◌+◌, ◌-◌, ◌*◌, ◌≤◌, ◌<◌}
use mathlib.Core.Path.{◌≡◌, refl, sym, ◌∙◌, subst}
use mathlib.Core.Bool.{Bool, true, false, not, cond, and-false}
use mathlib.Core.List.{List, [], ◌∷◌}
use native.Mathlib.Omega.{arith}
use borrow.Author.Tests.{le-leb, lt-leb, leb-true, leb-false}
use lib.Dec.{leb}
use Rattle.std.specs.Prelude.{Result, Ok, Err}
use Rattle.decimal.specs.declared.NumberError.{NumberError}
use Rattle.decimal.specs.declared.NumberError.TheVariants.{NoDigit, TooLarge}
use Rattle.decimal.specs.Decimal.{is_digit, followed_by, next_number}

module _ (b : ℕ) where
  pub below : b < 48 → is_digit b ≡ false
  below h = rw (lt-leb 48 b h)

  pub above : 57 < b → is_digit b ≡ false
  above h = rw (lt-leb b 57 h, and-false (leb 48 b))

  pub between : 48 ≤ b → b ≤ 57 → is_digit b ≡ true
  between l h = rw (le-leb 48 b l, le-leb b 57 h)

-- more digits make no number smaller
pub grows : (n : ℕ) (ds : List ℕ) → n ≤ followed_by n ds
unfolding followed_by
grows n [] = omega arith
grows n (d ∷ ds) = omega (arith, grows (n * 10 + (d - 48)) ds)

-- WHAT AN ANSWER SAYS

-- a digit was read, and the number is m
pub record Follows (n b limit m : ℕ) : Type 0 where
  pub digit : is_digit b ≡ true
  pub is : m ≡ n * 10 + (b - 48)
  pub small : m ≤ limit

module _ (n b limit : ℕ) where
  abbrev Says : Result ℕ NumberError → Type 0
  Says (Ok m) = Follows n b limit m
  Says (Err NoDigit) = is_digit b ≡ false
  Says (Err TooLarge) = (is_digit b ≡ true) × (limit < n * 10 + (b - 48))

  says : Says (next_number n b limit)
  unfolding next_number
  says = go (is_digit b) refl (leb (n * 10 + (b - 48)) limit) refl
    where
      go : (d : Bool) → is_digit b ≡ d → (s : Bool) → leb (n * 10 + (b - 48)) limit ≡ s
          → Says (cond (not d) (Err NoDigit) (cond (not s) (Err TooLarge) (Ok (n * 10 + (b - 48)))))
      go false e s f = e
      go true e false f = (e, leb-false (n * 10 + (b - 48)) limit f)
      go true e true f = record { digit = e; is = refl; small = leb-true (n * 10 + (b - 48)) limit f }

  module _ (r : Result ℕ NumberError) (is : r ≡ next_number n b limit) where
    pub number_then : (m : ℕ) → r ≡ Ok m → Follows n b limit m
    number_then m e = subst Says (sym is ∙ e) says

    pub no_digit_then : r ≡ Err NoDigit → is_digit b ≡ false
    no_digit_then e = subst Says (sym is ∙ e) says

    pub too_large_then : r ≡ Err TooLarge → (is_digit b ≡ true) × (limit < n * 10 + (b - 48))
    too_large_then e = subst Says (sym is ∙ e) says
