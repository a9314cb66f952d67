-- The codes of keys against a set: one by one, or all at once if they are among the 16 lowest and the set has all of these.
use Rattle.std.proofs.Common.{◌≡◌, ℕ, zero, suc, ◌+◌, ◌/◌, ◌%◌, ◌^◌, ◌<◌, Bool, true, false, not, List, length, get_or, sym, refl, ap, ◌∙◌, true≢false, div-one, arith, eq-eqb}
use borrow.Author.Tests.{not-true, not-false}
use Rattle.model.specs.declared.Codes.{Codes}
use Rattle.model.specs.Codes.{is_in}
use Rattle.theorems.proofs.Bits.{next_bit}
use Rattle.theorems.proofs.Sets.{at_word}
use Rattle.valid.specs.Passes.{AtMost, CodesPass, Tells}
use Rattle.valid.proofs.Gathers.{one_more, told_no}

-- THE 16 LOWEST BITS

-- the n lowest bits of a word are all 1
unfoldable Ones : ℕ → ℕ → Type 0
Ones zero w = Unit {0}
Ones (suc n) w = (w % 2 ≡ 1) × Ones n (w / 2)

one_of : (n w k : ℕ) → Ones n w → k < n → w / 2 ^ k % 2 ≡ 1
unfolding Ones
one_of zero w k o h = absurd (omega arith)
one_of (suc n) w zero o h = ap (λ (x : ℕ). x % 2) (div-one w) ∙ o.0
one_of (suc n) w (suc k) o h = ap (λ (x : ℕ). x % 2) (next_bit w k) ∙ one_of n (w / 2) k o.1 (omega arith)

four_ones : (n w : ℕ) → w % 16 ≡ 15 → Ones n (w / 2 / 2 / 2 / 2) → Ones (suc (suc (suc (suc n)))) w
unfolding Ones
four_ones n w e o = (omega arith, (omega arith, (omega arith, (omega arith, o))))

sixteen_ones : (w : ℕ) → w % 65536 ≡ 65535 → Ones 16 w
unfolding Ones
sixteen_ones w e =
    four_ones 12 w (omega arith)
    (four_ones 8 (w / 2 / 2 / 2 / 2) (omega arith)
    (four_ones 4 (w / 2 / 2 / 2 / 2 / 2 / 2 / 2 / 2) (omega arith)
    (four_ones 0 (w / 2 / 2 / 2 / 2 / 2 / 2 / 2 / 2 / 2 / 2 / 2 / 2) (omega arith) tt)))

has_low_code : (s : Codes) (c : ℕ) → s.from_0 % 65536 ≡ 65535 → c < 16 → is_in s c ≡ true
has_low_code s c e h =
    at_word s c 0 c (omega arith) (omega arith)
    ∙ eq-eqb (s.from_0 / 2 ^ c % 2) 1 (one_of 16 s.from_0 c (sixteen_ones s.from_0 e) h)

-- ALL AT ONCE

pub all_are_low : (s : Codes) (keys : List ℕ) (highest : ℕ) → AtMost keys highest → highest < 16 → s.from_0 % 65536 ≡ 65535
    → Tells true (CodesPass s keys)
all_are_low s keys highest m h e = record {
  then = λ x. record { each = λ i l. has_low_code s (get_or keys i 0 % 256) e (omega (arith, m.each i l)) };
  if = λ p. refl;
}

-- ONE BY ONE

-- the codes of the first i keys are in the set
abbrev pub Found : Codes → List ℕ → ℕ → Type 0
Found s keys i = (j : ℕ) → j < i → is_in s (get_or keys j 0 % 256) ≡ true

module _ (s : Codes) (keys : List ℕ) where
  module _ (i : ℕ) (w : Found s keys i) (more : i < length keys) (b : Bool) (e : b ≡ is_in s (get_or keys i 0 % 256)) where
    pub code_missing : not b ≡ true → Tells false (CodesPass s keys)
    code_missing h = told_no (λ p. true≢false (sym (p.each i more) ∙ sym e ∙ not-true b h))

    pub next_found : not b ≡ false → Found s keys (i + 1)
    next_found h = one_more (λ j. is_in s (get_or keys j 0 % 256) ≡ true) i w (sym e ∙ not-false b h)

  pub all_found : Found s keys (length keys) → Tells true (CodesPass s keys)
  all_found w = record { then = λ x. record { each = w }; if = λ p. refl }
