-- Boolean tests as facts, and what a chain of tests and a told answer say.
use Prim.Native.Nat.{ℕ, zero, suc}
use mathlib.Core.Path.{◌≡◌, refl, sym, ◌∙◌}
use mathlib.Core.Bool.{Bool, true, false, not, cond, ◌&&◌, false≢true}
use native.Mathlib.Omega.{arith}
use lib.Dec.{eqb}
use borrow.Author.Tests.{ne_eqb, eqb-true, not-false}
use Rattle.refusals.specs.Refusals.{none, ◌or_else◌, answered, refused_by, telling}

pub and_then : (a b : Bool) → (a && b) ≡ true → (a ≡ true) × (b ≡ true)
and_then true b e = (refl, e)
and_then false b e = absurd (false≢true e)

pub and_both : {a b : Bool} → a ≡ true → b ≡ true → (a && b) ≡ true
and_both p q = rw (p, q)

-- in a chain of tests with no refusal each test failed
pub passed : (c : Bool) (n later : ℕ) → cond c (suc n) later ≡ none → (c ≡ false) × (later ≡ none)
passed true n later e = absurd (omega arith)
passed false n later e = (refl, e)

-- one test alone that did not pass gave its number
pub only : (c : Bool) (n k : ℕ) → k ≡ cond c (suc n) none → eqb (cond c (suc n) none) none ≡ false → (k ≡ suc n) × (c ≡ true)
only true n k e t = (e, refl)
only false n k e t = absurd (false≢true (sym t))

-- together the two stages refuse nothing only if neither does
pub both_none : (first second : ℕ) → (first or_else second) ≡ none → (first ≡ none) × (second ≡ none)
both_none zero second e = (refl, e)
both_none (suc n) second e = let k = rw (ne_eqb (suc n) none (omega arith)) at e in absurd (omega arith)

-- TOLD ANSWERS

module _ {A : Type 0} (n : ℕ) (zeros v : A) where
  pub told_refused : (telling n zeros v).refused ≡ not (eqb n none)
  told_refused = go (eqb n none)
    where
      go : (b : Bool) → (cond b (answered v) (refused_by n zeros)).refused ≡ not b
      go true = refl
      go false = refl

  pub not_refused : (telling n zeros v).refused ≡ false → n ≡ none
  not_refused e = eqb-true n none (not-false (eqb n none) (sym told_refused ∙ e))

-- WHAT A TEST CHOSE: if not the one, then the other. "Not the one" is given as 0 ≡ 1 following from it, which `cc` shows of
-- two constructors.

module _ {A : Type 0} (b : Bool) (x y z : A) (e : z ≡ cond b x y) where
  pub chose_second : (z ≡ x → ◌≡◌ {A = ℕ} 0 1) → (b ≡ false) × (z ≡ y)
  chose_second n = go b e
    where
      go : (c : Bool) → z ≡ cond c x y → (c ≡ false) × (z ≡ y)
      go true w = let k = n w in absurd (omega arith)
      go false w = (refl, w)

  pub chose_first : (z ≡ y → ◌≡◌ {A = ℕ} 0 1) → (b ≡ true) × (z ≡ x)
  chose_first n = go b e
    where
      go : (c : Bool) → z ≡ cond c x y → (c ≡ true) × (z ≡ x)
      go true w = (refl, w)
      go false w = let k = n w in absurd (omega arith)
