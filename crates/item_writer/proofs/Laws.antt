-- Text put at a place: a number by how many digits it has, and a range as one number or two.
use Prim.Native.Nat.{ℕ, suc, ◌+◌, ◌/◌, ◌%◌, ◌<◌, ◌≤◌}
use mathlib.Core.Path.{◌≡◌, refl, ◌∙◌, ap}
use mathlib.Core.Bool.{Bool, true, false, cond}
use mathlib.Core.List.{List, [], ◌∷◌, ◌++◌, append_assoc}
use native.Mathlib.Omega.{arith}
use borrow.Author.Rules.{rules}
use borrow.Author.Tests.{eq-eqb, ne_eqb, lt-ltb, le-ltb}
use borrow.Rule.Slice.PartMut.{put_mid}
use lib.Dec.{eqb}
use lib.ListN.{length, take, length-append}
use Rattle.std.proofs.lemmas.Slice.{take-put_mid}
use Rattle.decimal.specs.Decimal.{digit}
use Rattle.code_text.specs.CodeText.{comma, dash, decimal}
use Rattle.item_writer.specs.Items.{Puts, number_after, range_text}

-- one text after another
both_put : (p q before between after : List ℕ) (at middle end : ℕ) → Puts p at before middle between → Puts q middle between end after
    → Puts (p ++ q) at before end after
both_put p q before between after at middle end x y = record {
  ends = omega (arith, x.ends, y.ends, length-append p q);
  so_far = y.so_far ∙ ap (λ (l : List ℕ). l ++ q) x.so_far ∙ append_assoc (take at before) p q;
}

-- A TEXT, AND A NUMBER

pub text_put : (p before : List ℕ) (at k : ℕ) → at + length p ≤ length before → Puts p at before (at + length p) (put_mid at k before p)
text_put p before at k room = record {
  ends = refl;
  so_far = take-put_mid at k before p (at + length p) refl (omega arith);
}

module _ (separator n at : ℕ) (before : List ℕ) (end : ℕ) (after : List ℕ) where
  pub one_digit : n < 10 → (d : ℕ) → d ≡ digit n → Puts (separator ∷ d ∷ []) at before end after → Puts (number_after separator n) at before end after
  unfolding decimal
  one_digit h d e p = rw (lt-ltb n 10 h, ← e) p

  pub two_digits : 10 ≤ n → n < 100 → (d₁ d₀ : ℕ) → d₁ ≡ digit (n / 10) → d₀ ≡ digit (n % 10)
      → Puts (separator ∷ d₁ ∷ d₀ ∷ []) at before end after → Puts (number_after separator n) at before end after
  unfolding decimal
  two_digits l h d₁ d₀ e₁ e₀ p = rw (le-ltb n 10 l, lt-ltb n 100 h, ← e₁, ← e₀) p

  pub three_digits : 100 ≤ n → (d₂ d₁ d₀ : ℕ) → d₂ ≡ digit (n / 100) → d₁ ≡ digit (n / 10 % 10) → d₀ ≡ digit (n % 10)
      → Puts (separator ∷ d₂ ∷ d₁ ∷ d₀ ∷ []) at before end after → Puts (number_after separator n) at before end after
  unfolding decimal
  three_digits h d₂ d₁ d₀ e₂ e₁ e₀ p = rw (le-ltb n 10 (omega arith), le-ltb n 100 h, ← e₂, ← e₁, ← e₀) p

module _ (separator n at : ℕ) (before : List ℕ) (room : at + length (number_after separator n) ≤ length before) where
  pub one_digit_fits : n < 10 → at + 2 ≤ length before
  unfolding decimal
  one_digit_fits h = rw (lt-ltb n 10 h) at room

  pub two_digits_fit : 10 ≤ n → n < 100 → at + 3 ≤ length before
  unfolding decimal
  two_digits_fit l h = rw (le-ltb n 10 l, lt-ltb n 100 h) at room

  pub three_digits_fit : 100 ≤ n → at + 4 ≤ length before
  unfolding decimal
  three_digits_fit h = rw (le-ltb n 10 (omega arith), le-ltb n 100 h) at room

-- A RANGE

module _ (first last : ℕ) where
  alone : first ≡ last → range_text first last ≡ number_after comma first
  alone e = rw (eq-eqb first last e)

  not_alone : (first ≡ last → ⊥) → range_text first last ≡ number_after comma first ++ number_after dash last
  not_alone n = rw (ne_eqb first last n)

  module _ (at : ℕ) (before : List ℕ) (room : at + length (range_text first last) ≤ length before) where
    pub first_fits : at + length (number_after comma first) ≤ length before
    first_fits = go (eqb first last) room
      where
        go : (b : Bool) → at + suc (length (cond b (decimal first) (decimal first ++ number_after dash last))) ≤ length before
            → at + suc (length (decimal first)) ≤ length before
        go true h = h
        go false h = omega (arith, simp length-append at h)

    module _ (middle : ℕ) (between : List ℕ) (p : Puts (number_after comma first) at before middle between) where
      pub one_code_put : first ≡ last → Puts (range_text first last) at before middle between
      one_code_put e = rw (alone e) p

      module _ (n : first ≡ last → ⊥) where
        pub last_fits : length between ≡ length before → middle + length (number_after dash last) ≤ length between
        last_fits e =
            omega (arith, p.ends, ap length (not_alone n), length-append (number_after comma first) (number_after dash last))

        pub range_put : (end : ℕ) (after : List ℕ) → Puts (number_after dash last) middle between end after
            → Puts (range_text first last) at before end after
        range_put end after q =
            rw (not_alone n) (both_put (number_after comma first) (number_after dash last) before between after at middle end p q)

pub ruleset writing_items = (
  rules,
  text_put,
  one_digit_fits,
  one_digit,
  two_digits_fit,
  two_digits,
  three_digits_fit,
  three_digits,
  first_fits,
  one_code_put,
  last_fits,
  range_put,
)
