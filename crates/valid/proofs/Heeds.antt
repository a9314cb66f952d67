-- The tests of what was heard, in one pass that decides nothing on its way.
use Rattle.std.proofs.Common.{◌≡◌, ℕ, ◌+◌, ◌-◌, ◌*◌, ◌/◌, ◌%◌, ◌<◌, ◌≤◌, eqb, List, length, get_or, refl, ap, ◌∙◌, arith, eq-eqb, eqb-true}
use lib.Bits.{bit_and, and_shr, and_mod, and_self, and_le_l, and_le_r}
use Rattle.valid.specs.Passes.{InRange, HeardPass, Shows, Weighs, Tells}
use Rattle.valid.proofs.Gathers.{and_top, one_more}

-- ONE NUMBER

-- volume v less quietest q and duration u, where q has its place
module _ (v q u d : ℕ) (loud : v ≤ 255) (quiet : q ≤ 63) (short : u ≤ 65535) (s : d < 0x1_0000_0000)
    (p : (d + (q * 0x4_0000 + u)) % 0x1_0000_0000 ≡ v * 0x4_0000) where
  shown : 1 ≤ u → v ≤ q → Shows d
  shown some h =
      let e : d + (q - v) * 0x4_0000 + u ≡ 0x1_0000_0000 = omega arith in
      record { top = omega arith; odd = omega arith }

  told_long : Shows d → 1 ≤ u
  told_long h = omega (arith, h.top, h.odd)

  told_ordered : 0x8000_0000 ≤ d → v ≤ q
  told_ordered top = omega arith

pub weighs : (told d : ℕ) → told < 0x1_0000_0000 → d < 0x1_0000_0000
    → (d + (told / 0x4_0000 % 64 * 0x4_0000 + told % 0x1_0000)) % 0x1_0000_0000 ≡ told / 0x100_0000 * 0x4_0000 → Weighs told d
weighs told d t s p = record {
  then = λ h. record {
    long = told_long (told / 0x100_0000) (told / 0x4_0000 % 64) (told % 0x1_0000) d (omega arith) (omega arith) (omega arith) s p h;
    ordered = told_ordered (told / 0x100_0000) (told / 0x4_0000 % 64) (told % 0x1_0000) d (omega arith) (omega arith) (omega arith) s p h.top;
  };
  if = λ r. shown (told / 0x100_0000) (told / 0x4_0000 % 64) (told % 0x1_0000) d (omega arith) (omega arith) (omega arith) s p r.long r.ordered;
}

-- GATHERED BITS

bit_16 : (a b : ℕ) → bit_and a b / 0x1_0000 % 2 ≡ bit_and (a / 0x1_0000 % 2) (b / 0x1_0000 % 2)
bit_16 a b = ap (λ (x : ℕ). x % 2) (and_shr a b 16) ∙ and_mod (a / 0x1_0000) (b / 0x1_0000) 1

and_shows : (a b : ℕ) → a < 0x1_0000_0000 → b < 0x1_0000_0000 → Shows a → Shows b → Shows (bit_and a b)
and_shows a b s t x y = record {
  top = omega (arith, and_top 31 a b (omega (arith, x.top)) (omega (arith, y.top)));
  odd = bit_16 a b ∙ rw (x.odd, y.odd) (and_self 1);
}

and_shows_l : (a b : ℕ) → Shows (bit_and a b) → Shows a
and_shows_l a b x = record {
  top = omega (arith, and_le_l a b, x.top);
  odd = omega (arith, and_le_l (a / 0x1_0000 % 2) (b / 0x1_0000 % 2), bit_16 a b, x.odd);
}

and_shows_r : (a b : ℕ) → Shows (bit_and a b) → Shows b
and_shows_r a b x = record {
  top = omega (arith, and_le_r a b, x.top);
  odd = omega (arith, and_le_r (a / 0x1_0000 % 2) (b / 0x1_0000 % 2), bit_16 a b, x.odd);
}

-- with no other bits, both are one number
shows_then : (a : ℕ) → a ≤ 0x8001_0000 → Shows a → a ≡ 0x8001_0000
shows_then a h x = omega (arith, x.top, x.odd)

shows_if : (a : ℕ) → a ≡ 0x8001_0000 → Shows a
shows_if a e = rw e (record { top = omega arith; odd = refl })

-- ALL NUMBERS

-- the first i numbers are within their ranges
abbrev Each : List ℕ → ℕ → Type 0
Each heard i = (j : ℕ) → j < i → InRange (get_or heard j 0)

-- what shows it of the first i numbers is gathered in `shown`
pub record Heeded (heard : List ℕ) (i shown : ℕ) : Type 0 where
  pub small : shown ≤ 0x8001_0000
  pub then : Shows shown → Each heard i
  pub if : Each heard i → Shows shown

module _ (heard : List ℕ) where
  pub heard_start : Heeded heard 0 0x8001_0000
  heard_start = record {
    small = omega arith;
    then = λ x j h. absurd (omega arith);
    if = λ f. shows_if 0x8001_0000 refl;
  }

  pub heard_goes_on : (i shown : ℕ) → Heeded heard i shown → (d : ℕ) → d < 0x1_0000_0000 → Weighs (get_or heard i 0) d → Heeded heard (i + 1) (bit_and shown d)
  heard_goes_on i shown w d s p = record {
    small = omega (arith, and_le_l shown d, w.small);
    then = λ x. one_more (λ j. InRange (get_or heard j 0)) i (w.then (and_shows_l shown d x)) (p.then (and_shows_r shown d x));
    if = λ f. and_shows shown d (omega (arith, w.small)) s (w.if (λ j l. f j (omega arith))) (p.if (f i (omega arith)));
  }

  -- all numbers are gathered
  pub heard_by_shown : (shown : ℕ) → Heeded heard (length heard) shown → Tells (eqb shown 0x8001_0000) (HeardPass heard)
  heard_by_shown shown w = record {
    then = λ e. record { each = w.then (shows_if shown (eqb-true shown 0x8001_0000 e)) };
    if = λ k. eq-eqb shown 0x8001_0000 (shows_then shown w.small (w.if k.each));
  }
