-- The codes of a range, word by word: those below its end, but for those below its first.
use Prim.Native.Nat.{ℕ, zero, suc, ◌+◌, ◌-◌, ◌*◌, ◌/◌, ◌%◌, ◌^◌, ◌<◌, ◌≤◌, min, max}
use mathlib.Core.Path.{◌≡◌, refl, sym, ◌∙◌, ap, ap₂}
use mathlib.Core.Bool.{Bool, true, false, cond, not, ◌&&◌, ◌||◌}
use native.Mathlib.Nat.{pow-suc}
use native.Mathlib.Omega.{arith}
use borrow.Author.Rules.{rules}
use borrow.Author.Tests.{le-leb, lt-leb, ltb-true, ltb-false}
use lib.Bits.{bit_or, bit_xor, differ, or_step, xor_step, or_zero_l, xor_zero_l}
use lib.Dec.{leb, ltb}
use lib.Pow.{pow_pos, shl_exact}
use Rattle.model.specs.declared.Codes.{Codes}
use Rattle.model.specs.Codes.{is_in, word, set_of}
use Rattle.theorems.proofs.Bits.{same_word}
use Rattle.theorems.proofs.Sets.{set_of_its_codes}
use Rattle.code_ranges.specs.Ranges.{with_range}

-- THE CODES BELOW A NUMBER

-- of k codes the lowest are ones
ones_below : (n k c : ℕ) → word (λ x. ltb x n) c k ≡ 2 ^ min (n - c) k - 1
unfolding word
ones_below n zero c = let z : min (n - c) 0 ≡ 0 = omega arith in rw z
ones_below n (suc k) c = go (ones_below n k (suc c)) (ltb c n) refl
  where
    go : word (λ x. ltb x n) (suc c) k ≡ 2 ^ min (n - suc c) k - 1 → (b : Bool) → ltb c n ≡ b
        → cond b 1 0 + 2 * word (λ x. ltb x n) (suc c) k ≡ 2 ^ min (n - c) (suc k) - 1
    go later true h =
        let more : min (n - c) (suc k) ≡ suc (min (n - suc c) k) = omega (arith, ltb-true c n h) in
        rw (more, later) (omega (arith, pow-suc 2 (min (n - suc c) k), pow_pos (min (n - suc c) k)))
    go later false h =
        let none : min (n - c) (suc k) ≡ 0 = omega (arith, ltb-false c n h) in
        let none' : min (n - suc c) k ≡ 0 = omega (arith, ltb-false c n h) in
        rw (none, later, none')

module _ (n from : ℕ) where
  pub none_below : n ≤ from → 0 ≡ word (λ c. ltb c n) from 64
  none_below h = let z : min (n - from) 64 ≡ 0 = omega arith in sym (ones_below n 64 from ∙ rw z)

  pub all_below : from + 64 ≤ n → 18446744073709551615 ≡ word (λ c. ltb c n) from 64
  all_below h = let z : min (n - from) 64 ≡ 64 = omega arith in sym (ones_below n 64 from ∙ rw z)

  module _ (h : n < from + 64) where
    shifted : 1 * 2 ^ (n - from) % 2 ^ 64 ≡ 1 * 2 ^ (n - from)
    shifted = shl_exact 1 (n - from) 64 (omega arith) (omega arith)

    pub shifted_some : 1 ≤ 1 * 2 ^ (n - from) % 2 ^ 64
    shifted_some = rw shifted (omega (arith, pow_pos (n - from)))

    pub some_below : 1 * 2 ^ (n - from) % 2 ^ 64 - 1 ≡ word (λ c. ltb c n) from 64
    some_below =
        let z : min (n - from) 64 ≡ n - from = omega arith in
        rw shifted (omega (arith, ones_below n 64 from, ap (λ (x : ℕ). 2 ^ x) z))

-- WORDS JOINED BIT BY BIT

module _ (b : Bool) (w : ℕ) where
  half : (cond b 1 0 + 2 * w) / 2 ≡ w
  half = go b
    where
      go : (b : Bool) → (cond b 1 0 + 2 * w) / 2 ≡ w
      go true = omega arith
      go false = omega arith

  lowest : (cond b 1 0 + 2 * w) % 2 ≡ cond b 1 0
  lowest = go b
    where
      go : (b : Bool) → (cond b 1 0 + 2 * w) % 2 ≡ cond b 1 0
      go true = omega arith
      go false = omega arith

module _ (join digit : ℕ → ℕ → ℕ) (test : Bool → Bool → Bool) (none : join 0 0 ≡ 0)
    (step : (a b : ℕ) → join a b ≡ join (a / 2) (b / 2) * 2 + digit (a % 2) (b % 2))
    (bit : (a b : Bool) → digit (cond a 1 0) (cond b 1 0) ≡ cond (test a b) 1 0) where
  joined : (f g : ℕ → Bool) (n c : ℕ) → join (word f c n) (word g c n) ≡ word (λ x. test (f x) (g x)) c n
  unfolding word
  joined f g zero c = none
  joined f g (suc n) c =
      step (cond (f c) 1 0 + 2 * word f (suc c) n) (cond (g c) 1 0 + 2 * word g (suc c) n)
      ∙ rw (
        half (f c) (word f (suc c) n),
        half (g c) (word g (suc c) n),
        lowest (f c) (word f (suc c) n),
        lowest (g c) (word g (suc c) n),
        bit (f c) (g c),
        joined f g n (suc c),
      ) (omega arith)

abbrev differing : Bool → Bool → Bool
differing true b = not b
differing false b = b

either_word : (f g : ℕ → Bool) (n c : ℕ) → bit_or (word f c n) (word g c n) ≡ word (λ x. f x || g x) c n
either_word = joined bit_or max ◌||◌ (or_zero_l 0) or_step bit
  where
    bit : (a b : Bool) → max (cond a 1 0) (cond b 1 0) ≡ cond (a || b) 1 0
    bit true true = refl
    bit true false = refl
    bit false true = refl
    bit false false = refl

differing_word : (f g : ℕ → Bool) (n c : ℕ) → bit_xor (word f c n) (word g c n) ≡ word (λ x. differing (f x) (g x)) c n
differing_word = joined bit_xor differ differing (xor_zero_l 0) xor_step bit
  where
    bit : (a b : Bool) → differ (cond a 1 0) (cond b 1 0) ≡ cond (differing a b) 1 0
    bit true true = refl
    bit true false = refl
    bit false true = refl
    bit false false = refl

-- THE CODES OF A RANGE

module _ (first last : ℕ) (order : first ≤ last) where
  between : (c : ℕ) → differing (ltb c (last + 1)) (ltb c first) ≡ (leb first c && leb c last)
  between c = go (ltb c (last + 1)) refl (ltb c first) refl
    where
      go : (a : Bool) → ltb c (last + 1) ≡ a → (b : Bool) → ltb c first ≡ b → differing a b ≡ (leb first c && leb c last)
      go true p true q = rw (lt-leb first c (ltb-true c first q))
      go true p false q = rw (le-leb first c (ltb-false c first q), le-leb c last (omega (arith, ltb-true c (last + 1) p)))
      go false p true q = absurd (omega (arith, ltb-false c (last + 1) p, ltb-true c first q))
      go false p false q =
          let past : last < c = omega (arith, ltb-false c (last + 1) p) in
          rw (le-leb first c (ltb-false c first q), lt-leb c last past)

  pub range_word : (from upper lower : ℕ) → upper ≡ word (λ c. ltb c (last + 1)) from 64 → lower ≡ word (λ c. ltb c first) from 64
      → bit_xor upper lower ≡ word (λ c. leb first c && leb c last) from 64
  range_word from upper lower e f =
      ap₂ bit_xor e f
      ∙ differing_word (λ x. ltb x (last + 1)) (λ x. ltb x first) 64 from
      ∙ same_word (λ x. differing (ltb x (last + 1)) (ltb x first)) (λ x. leb first x && leb x last) 64 from (λ k l h. between k)

  pub range_before : (from : ℕ) → last < from → 0 ≡ word (λ c. leb first c && leb c last) from 64
  range_before from h =
      sym (xor_zero_l 0) ∙ range_word from 0 0 (none_below (last + 1) from (omega arith)) (none_below first from (omega arith))

-- THE SET WITH A RANGE

module _ (s : Codes) (first last : ℕ) (h₀ : s.from_0 < 2 ^ 64) (h₁ : s.from_64 < 2 ^ 64) (h₂ : s.from_128 < 2 ^ 64) (h₃ : s.from_192 < 2 ^ 64) where
  own : set_of (is_in s) ≡ s
  own = set_of_its_codes s (record { from_0 = h₀; from_64 = h₁; from_128 = h₂; from_192 = h₃ })

  at_word : (w : Codes → ℕ) (c r : ℕ) → ((f : ℕ → Bool) → w (set_of f) ≡ word f c 64) → r ≡ word (λ x. leb first x && leb x last) c 64
      → bit_or (w s) r ≡ word (λ x. is_in s x || (leb first x && leb x last)) c 64
  at_word w c r is e =
      ap₂ bit_or (ap w (sym own) ∙ is (is_in s)) e ∙ either_word (is_in s) (λ x. leb first x && leb x last) 64 c

  pub range_joined : (r₀ r₁ r₂ r₃ : ℕ)
      → r₀ ≡ word (λ c. leb first c && leb c last) 0 64
      → r₁ ≡ word (λ c. leb first c && leb c last) 64 64
      → r₂ ≡ word (λ c. leb first c && leb c last) 128 64
      → r₃ ≡ word (λ c. leb first c && leb c last) 192 64
      → record {
        from_0 = bit_or s.from_0 r₀;
        from_64 = bit_or s.from_64 r₁;
        from_128 = bit_or s.from_128 r₂;
        from_192 = bit_or s.from_192 r₃;
      } ≡ with_range s first last
  unfolding with_range
  range_joined r₀ r₁ r₂ r₃ e₀ e₁ e₂ e₃ i = record {
    from_0 = at_word (λ x. x.from_0) 0 r₀ (λ f. refl) e₀ i;
    from_64 = at_word (λ x. x.from_64) 64 r₁ (λ f. refl) e₁ i;
    from_128 = at_word (λ x. x.from_128) 128 r₂ (λ f. refl) e₂ i;
    from_192 = at_word (λ x. x.from_192) 192 r₃ (λ f. refl) e₃ i;
  }

pub ruleset ranging_codes = (rules, none_below, all_below, shifted_some, some_below, range_word, range_joined)
