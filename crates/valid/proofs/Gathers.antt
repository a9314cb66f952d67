-- The tests of the keys in one pass that decides nothing on its way. `or` gathers the bits that some number has, and it is below a power
-- of two exactly if all numbers are; `and` gathers those that all have.
use Rattle.std.proofs.Common.{◌≡◌, ℕ, ◌+◌, ◌-◌, ◌/◌, ◌%◌, ◌^◌, ◌<◌, ◌≤◌, false, List, length, get_or, Some, None, ◌∙◌, ⊎_elim, eq-or-lt_of_le, arith}
use mathlib.Core.Bool.{false≢true}
use lib.Bits.{bit_and, bit_or, or_lt, or_mod, or_add_and, and_shr, and_self, and_le_l, and_le_r}
use Rattle.valid.specs.Passes.{Tells, Ranks}

-- GATHERED BITS

pub or_above_l : (a b : ℕ) → a ≤ bit_or a b
or_above_l a b = omega (arith, or_add_and a b, and_le_r a b)

pub or_above_r : (a b : ℕ) → b ≤ bit_or a b
or_above_r a b = omega (arith, or_add_and a b, and_le_l a b)

-- two numbers that have a highest bit have it together
pub and_top : (k a b : ℕ) → a / 2 ^ k ≡ 1 → b / 2 ^ k ≡ 1 → bit_and a b / 2 ^ k ≡ 1
and_top k a b p q = and_shr a b k ∙ rw (p, q) (and_self 1)

-- the highest of the codes so far is at most what is gathered of them
codes_under_l : (a b : ℕ) → a % 256 ≤ bit_or a b % 256
codes_under_l a b = rw (or_mod a b 8) (or_above_l (a % 256) (b % 256))

codes_under_r : (a b : ℕ) → b % 256 ≤ bit_or a b % 256
codes_under_r a b = rw (or_mod a b 8) (or_above_r (a % 256) (b % 256))

-- one place more
pub one_more : (P : ℕ → Type 0) (i : ℕ) → ((j : ℕ) → j < i → P j) → P i → (j : ℕ) → j < i + 1 → P j
one_more P i f p j h = ⊎_elim (λ e. rw e p) (λ l. f j l) (eq-or-lt_of_le (upto j h))
  where
    upto : (j : ℕ) → j < i + 1 → j ≤ i
    upto j h = omega arith

abbrev Below : List ℕ → ℕ → ℕ → Type 0
Below column i limit = (j : ℕ) → j < i → get_or column j 0 < limit

abbrev Rises : List ℕ → ℕ → Type 0
Rises keys i = (j : ℕ) → j + 1 < i → get_or keys j 0 < get_or keys (j + 1) 0

-- what holds of no places is told by `true`, and what cannot hold by `false`
pub told_no : {P : Type 0} → (P → ⊥) → Tells false P
told_no n = record { then = λ e. absurd (false≢true e); if = λ p. absurd (n p) }

-- THE KEYS

-- the first i keys are gathered in `bits`, and what each leaves of the one before it in `rises`
pub record Keyed (keys : List ℕ) (i bits rises : ℕ) : Type 0 where
  pub some : 1 ≤ i
  pub upto : i ≤ length keys
  pub near_then : bits < 0x80_0000_0000 → Below keys i 0x80_0000_0000
  pub near_if : Below keys i 0x80_0000_0000 → bits < 0x80_0000_0000
  pub coded : (j : ℕ) → j < i → get_or keys j 0 % 256 ≤ bits % 256
  pub small : rises < 2 ^ 64
  pub rise_then : bits < 0x80_0000_0000 → 0x8000_0000_0000_0000 ≤ rises → Rises keys i
  pub rise_if : Below keys i 0x80_0000_0000 → Rises keys i → 0x8000_0000_0000_0000 ≤ rises

-- what key b leaves of key a before it has bit 63 exactly if b is above a
above : (a b d : ℕ) → (d + b) % 2 ^ 64 ≡ a → d < 2 ^ 64 → a < 0x80_0000_0000 → b < 0x80_0000_0000 → 0x8000_0000_0000_0000 ≤ d → a < b
above a b d p s h k l = omega arith

leaves_63 : (a b d : ℕ) → (d + b) % 2 ^ 64 ≡ a → d < 2 ^ 64 → a < 0x80_0000_0000 → b < 0x80_0000_0000 → a < b → 0x8000_0000_0000_0000 ≤ d
leaves_63 a b d p s h k l = omega arith

both_63 : (a b : ℕ) → a < 2 ^ 64 → b < 2 ^ 64 → 0x8000_0000_0000_0000 ≤ a → 0x8000_0000_0000_0000 ≤ b → 0x8000_0000_0000_0000 ≤ bit_and a b
both_63 a b s t h k = omega (arith, and_top 63 a b (omega arith) (omega arith))

module _ (keys : List ℕ) where
  first_only : (P : ℕ → Type 0) → P (get_or keys 0 0) → (j : ℕ) → j < 1 → P (get_or keys j 0)
  first_only P p j h = let z : j ≡ 0 = omega arith in rw z p

  pub keys_start : (length keys ≡ 0 → ⊥) → Keyed keys 1 (get_or keys 0 0) 0x8000_0000_0000_0000
  keys_start h = record {
    some = omega arith;
    upto = omega arith;
    near_then = first_only (λ k. k < 0x80_0000_0000);
    near_if = λ f. f 0 (omega arith);
    coded = first_only (λ k. k % 256 ≤ get_or keys 0 0 % 256) (omega arith);
    small = omega arith;
    rise_then = λ a b j l. absurd (omega arith);
    rise_if = λ a b. omega arith;
  }

  module _ (i bits rises : ℕ) (w : Keyed keys i bits rises) where
    module _ (more : i < length keys) (d : ℕ) (p : (d + get_or keys i 0) % 2 ^ 64 ≡ get_or keys (i - 1) 0) (s : d < 2 ^ 64) where
      abbrev key : ℕ
      key = get_or keys i 0

      last : i - 1 < i
      last = omega (arith, w.some)

      next : i - 1 + 1 ≡ i
      next = omega (arith, w.some)

      rises_on : Rises keys i → get_or keys (i - 1) 0 < key → Rises keys (i + 1)
      rises_on f g j h = ⊎_elim (λ x. let z : j ≡ i - 1 = omega arith in rw (z, next) g) (λ l. f j (omega arith)) (eq-or-lt_of_le (upto_last j h))
        where
          upto_last : (j : ℕ) → j + 1 < i + 1 → j + 1 ≤ i
          upto_last j h = omega arith

      pub keys_go_on : Keyed keys (i + 1) (bit_or bits key) (bit_and rises d)
      keys_go_on = record {
        some = omega arith;
        upto = omega arith;
        near_then = λ h. one_more (λ j. get_or keys j 0 < 0x80_0000_0000) i (w.near_then (fewer h)) (omega (arith, or_above_r bits key));
        near_if = λ f. or_lt 39 bits key (w.near_if (λ j l. f j (omega arith))) (f i (omega arith));
        coded = one_more (λ j. get_or keys j 0 % 256 ≤ bit_or bits key % 256) i
            (λ j l. omega (arith, w.coded j l, codes_under_l bits key)) (codes_under_r bits key);
        small = omega (arith, and_le_l rises d, w.small);
        rise_then = λ h g. rises_on (w.rise_then (fewer h) (omega (arith, and_le_l rises d)))
            (above (get_or keys (i - 1) 0) key d p s (w.near_then (fewer h) (i - 1) last) (omega (arith, or_above_r bits key))
            (omega (arith, and_le_r rises d)));
        rise_if = λ f g. both_63 rises d w.small s (w.rise_if (λ j l. f j (omega arith)) (λ j l. g j (omega arith)))
            (leaves_63 (get_or keys (i - 1) 0) key d p s (f (i - 1) (omega (arith, last))) (f i (omega arith))
            (rw next at (g (i - 1) (omega (arith, next)))));
      }
        where
          fewer : bit_or bits key < 0x80_0000_0000 → bits < 0x80_0000_0000
          fewer h = omega (arith, or_above_l bits key)

  -- all keys are gathered
  module _ (bits rises : ℕ) (w : Keyed keys (length keys) bits rises) where
    pub key_too_far : 0x80_0000_0000 ≤ bits → Ranks keys None
    key_too_far h k = omega (arith, w.near_if k.near)

    module _ (near : bits < 0x80_0000_0000) where
      pub keys_fall : rises < 0x8000_0000_0000_0000 → Ranks keys None
      keys_fall h k = omega (arith, w.rise_if k.near k.rise)

      pub keys_rise : 0x8000_0000_0000_0000 ≤ rises → Ranks keys (Some (bits % 256))
      keys_rise h = (record { near = w.near_then near; rise = w.rise_then near h }, record { each = w.coded })

pub no_keys : (keys : List ℕ) → length keys ≡ 0 → Ranks keys (Some 0)
no_keys keys e =
    (record { near = λ i h. absurd (omega arith); rise = λ i h. absurd (omega arith) }, record { each = λ i h. absurd (omega arith) })
