-- A word whose bits are the answers of a test, code by code: there is one for each test, and only one.
use Prim.Native.Nat.{ℕ, zero, suc, ◌+◌, ◌*◌, ◌/◌, ◌%◌, ◌^◌, ◌<◌, ◌≤◌}
use mathlib.Core.Path.{◌≡◌, refl, sym, ◌∙◌, ap, ap₂, subst}
use mathlib.Core.Bool.{Bool, true, false, cond}
use native.Mathlib.Nat.{add-zero, div-one}
use native.Mathlib.Numerals.{add-one, one-add}
use native.Mathlib.Omega.{arith}
use borrow.Author.Tests.{eq-eqb, ne_eqb, eqb-true, eqb-false}
use lib.Arith.{lt-one}
use lib.Dec.{eqb}
use lib.Pow.{shr-shr, shr_lt}
use Rattle.model.specs.Codes.{word}

-- bit k of w is what the test says of code c + k, for n codes
pub record Tells (f : ℕ → Bool) (w c n : ℕ) : Type 0 where
  pub bit : (k : ℕ) → k < n → eqb (w / 2 ^ k % 2) 1 ≡ f (c + k)

next_code : (c k : ℕ) → suc c + k ≡ c + suc k
next_code c k = omega arith

-- one bit after another is looked at by halving
pub next_bit : (w k : ℕ) → w / 2 ^ suc k ≡ w / 2 / 2 ^ k
next_bit w k = ap (λ (x : ℕ). w / 2 ^ x) (sym (one-add k)) ∙ sym (shr-shr w 1 k)

pub half : (n w : ℕ) → w < 2 ^ suc n → w / 2 < 2 ^ n
half n w h = shr_lt n 1 (subst (λ (x : ℕ). w < 2 ^ x) (sym (add-one n)) h)

-- a bit is 0 or 1
pub bit_is : (w : ℕ) (b : Bool) → eqb (w % 2) 1 ≡ b → cond b 1 0 ≡ w % 2
bit_is w true e = sym (eqb-true (w % 2) 1 e)
bit_is w false e = omega (arith, eqb-false (w % 2) 1 e)

module _ (f : ℕ → Bool) (w c n : ℕ) (t : Tells f w c (suc n)) where
  pub tells_first : eqb (w % 2) 1 ≡ f c
  tells_first = ap (λ (x : ℕ). eqb (x % 2) 1) (sym (div-one w)) ∙ t.bit 0 (omega arith) ∙ ap f (add-zero c)

  pub tells_rest : Tells f (w / 2) (suc c) n
  tells_rest = record {
    bit = λ k h.
        ap (λ (x : ℕ). eqb (x % 2) 1) (sym (next_bit w k)) ∙ t.bit (suc k) (omega arith) ∙ ap f (sym (next_code c k));
  }

pub word_tells : (f : ℕ → Bool) (n c k : ℕ) → k < n → eqb (word f c n / 2 ^ k % 2) 1 ≡ f (c + k)
unfolding word
word_tells f zero c k h = absurd (omega arith)
word_tells f (suc n) c zero h =
    ap (λ (x : ℕ). eqb (x % 2) 1) (div-one (word f c (suc n))) ∙ go (f c) ∙ ap f (sym (add-zero c))
  where
    go : (b : Bool) → eqb ((cond b 1 0 + 2 * word f (suc c) n) % 2) 1 ≡ b
    go true = eq-eqb ((1 + 2 * word f (suc c) n) % 2) 1 (omega arith)
    go false = ne_eqb ((0 + 2 * word f (suc c) n) % 2) 1 (λ e. omega (arith, e))
word_tells f (suc n) c (suc k) h =
    ap (λ (x : ℕ). eqb (x % 2) 1) (next_bit (word f c (suc n)) k ∙ ap (λ (x : ℕ). x / 2 ^ k) (go (f c)))
    ∙ word_tells f n (suc c) k (omega arith)
    ∙ ap f (next_code c k)
  where
    go : (b : Bool) → (cond b 1 0 + 2 * word f (suc c) n) / 2 ≡ word f (suc c) n
    go true = omega arith
    go false = omega arith

pub told_word : (f : ℕ → Bool) (n c w : ℕ) → w < 2 ^ n → Tells f w c n → word f c n ≡ w
unfolding word
told_word f zero c w h t = sym (lt-one h)
told_word f (suc n) c w h t =
    let first : cond (f c) 1 0 ≡ w % 2 = bit_is w (f c) (tells_first f w c n t) in
    let rest : word f (suc c) n ≡ w / 2 = told_word f n (suc c) (w / 2) (half n w h) (tells_rest f w c n t) in
    omega (arith, first, rest)

-- tests with the same answers make the same word
pub same_word : (f g : ℕ → Bool) (n c : ℕ) → ((k : ℕ) → c ≤ k → k < c + n → f k ≡ g k) → word f c n ≡ word g c n
unfolding word
same_word f g zero c e = refl
same_word f g (suc n) c e =
    ap₂ (λ (b : Bool) (x : ℕ). cond b 1 0 + 2 * x)
    (e c (omega arith) (omega arith))
    (same_word f g n (suc c) (λ k l h. e k (omega arith) (omega arith)))
