-- A set is known by its codes: the set of the codes that pass a test has just those, and each set is the set of its codes. No code
-- above 255 is in one.
use Prim.Native.Nat.{ℕ, zero, suc, ◌+◌, ◌*◌, ◌/◌, ◌%◌, ◌^◌, ◌<◌, ◌≤◌}
use mathlib.Core.Path.{◌≡◌, refl, sym, ◌∙◌, ap}
use mathlib.Core.Bool.{Bool, true, false, cond, ◌&&◌, false≢true}
use mathlib.Core.List.{◌∷◌}
use native.Mathlib.Nat.{zero-div}
use native.Mathlib.Omega.{arith}
use borrow.Author.Tests.{eqb-true, eqb-false, ltb-true, ltb-false}
use lib.Dec.{eqb, ltb}
use lib.ListN.{length}
use Rattle.model.specs.declared.Codes.{Codes}
use Rattle.model.specs.Codes.{word_at, is_in, is_empty, empty_set, among, codes_in, word, set_of}
use Rattle.refusals.proofs.Tests.{and_then}
use Rattle.theorems.proofs.Bits.{Tells, word_tells, told_word, same_word}

-- ONE CODE

-- bit k of word i is the code's
pub at_word : (s : Codes) (c i k : ℕ) → c / 64 ≡ i → c % 64 ≡ k → is_in s c ≡ eqb (word_at s i / 2 ^ k % 2) 1
unfolding is_in
at_word s c i k e f = rw (e, f)

no_word : (s : Codes) (i : ℕ) → 4 ≤ i → word_at s i ≡ 0
no_word s zero h = absurd (omega arith)
no_word s (suc zero) h = absurd (omega arith)
no_word s (suc (suc zero)) h = absurd (omega arith)
no_word s (suc (suc (suc zero))) h = absurd (omega arith)
no_word s (suc (suc (suc (suc i)))) h = refl

pub none_above : (s : Codes) (c : ℕ) → 256 ≤ c → is_in s c ≡ false
unfolding is_in
none_above s c h = rw (no_word s (c / 64) (omega arith), zero-div (2 ^ (c % 64)))

pub in_below : (s : Codes) (c : ℕ) → is_in s c ≡ true → c < 256
in_below s c e = go (ltb c 256) refl
  where
    go : (b : Bool) → ltb c 256 ≡ b → c < 256
    go true q = ltb-true c 256 q
    go false q = absurd (false≢true (sym (none_above s c (ltb-false c 256 q)) ∙ e))

-- THE SET OF THE CODES THAT PASS A TEST

-- the code's bit, in the word of number i, which tells of the codes from 64 * i on
at_its_word : (f : ℕ → Bool) (c i : ℕ) → c / 64 ≡ i → word_at (set_of f) i ≡ word f (64 * i) 64 → is_in (set_of f) c ≡ f c
at_its_word f c i e w =
    let z : 64 * i + c % 64 ≡ c = omega arith in
    at_word (set_of f) c i (c % 64) e refl
    ∙ ap (λ (x : ℕ). eqb (x / 2 ^ (c % 64) % 2) 1) w
    ∙ word_tells f 64 (64 * i) (c % 64) (omega arith)
    ∙ ap f z

pub in_set : (f : ℕ → Bool) (c : ℕ) → c < 256 → is_in (set_of f) c ≡ f c
in_set f c h = go (c / 64) refl
  where
    go : (i : ℕ) → c / 64 ≡ i → is_in (set_of f) c ≡ f c
    go zero e = at_its_word f c 0 e refl
    go (suc zero) e = at_its_word f c 1 e refl
    go (suc (suc zero)) e = at_its_word f c 2 e refl
    go (suc (suc (suc zero))) e = at_its_word f c 3 e refl
    go (suc (suc (suc (suc i)))) e = absurd (omega (arith, e))

pub same_set : (f g : ℕ → Bool) → ((c : ℕ) → c < 256 → f c ≡ g c) → set_of f ≡ set_of g
same_set f g e i = record {
  from_0 = same_word f g 64 0 (λ k l h. e k (omega arith)) i;
  from_64 = same_word f g 64 64 (λ k l h. e k (omega arith)) i;
  from_128 = same_word f g 64 128 (λ k l h. e k (omega arith)) i;
  from_192 = same_word f g 64 192 (λ k l h. e k (omega arith)) i;
}

-- THE SET OF A SET'S CODES

pub record Fits (s : Codes) : Type 0 where
  pub from_0 : s.from_0 < 2 ^ 64
  pub from_64 : s.from_64 < 2 ^ 64
  pub from_128 : s.from_128 < 2 ^ 64
  pub from_192 : s.from_192 < 2 ^ 64

-- each word tells of its 64 codes
module _ (s : Codes) where
  told : (i from : ℕ) → ((k : ℕ) → k < 64 → ((from + k) / 64 ≡ i) × ((from + k) % 64 ≡ k)) → Tells (is_in s) (word_at s i) from 64
  told i from place = record { bit = λ k h. sym (at_word s (from + k) i k (place k h).0 (place k h).1) }

  pub told_0 : Tells (is_in s) s.from_0 0 64
  told_0 = told 0 0 (λ k h. (omega arith, omega arith))

  pub told_64 : Tells (is_in s) s.from_64 64 64
  told_64 = told 1 64 (λ k h. (omega arith, omega arith))

  pub told_128 : Tells (is_in s) s.from_128 128 64
  told_128 = told 2 128 (λ k h. (omega arith, omega arith))

  pub told_192 : Tells (is_in s) s.from_192 192 64
  told_192 = told 3 192 (λ k h. (omega arith, omega arith))

  pub set_of_its_codes : Fits s → set_of (is_in s) ≡ s
  set_of_its_codes w i = record {
    from_0 = told_word (is_in s) 64 0 s.from_0 w.from_0 told_0 i;
    from_64 = told_word (is_in s) 64 64 s.from_64 w.from_64 told_64 i;
    from_128 = told_word (is_in s) 64 128 s.from_128 w.from_128 told_128 i;
    from_192 = told_word (is_in s) 64 192 s.from_192 w.from_192 told_192 i;
  }

-- THE EMPTY SET

no_codes : (c n : ℕ) → word (λ k. false) c n ≡ 0
unfolding word
no_codes c zero = refl
no_codes c (suc n) = let z = no_codes (suc c) n in omega (arith, z)

pub empty_set_lem : set_of (λ c. false) ≡ empty_set
empty_set_lem i = record { from_0 = no_codes 0 64 i; from_64 = no_codes 64 64 i; from_128 = no_codes 128 64 i; from_192 = no_codes 192 64 i }

pub is_empty_set : (s : Codes) → is_empty s ≡ true → s ≡ empty_set
is_empty_set s e i = record { from_0 = e₀.0 i; from_64 = e₁.0 i; from_128 = e₂.0 i; from_192 = e₂.1 i }
  where
    test : (w : ℕ) (b : Bool) → (eqb w 0 && b) ≡ true → (w ≡ 0) × (b ≡ true)
    test w b t = (eqb-true w 0 (and_then (eqb w 0) b t).0, (and_then (eqb w 0) b t).1)

    e₀ : (s.from_0 ≡ 0) × ((eqb s.from_64 0 && (eqb s.from_128 0 && eqb s.from_192 0)) ≡ true)
    e₀ = test s.from_0 (eqb s.from_64 0 && (eqb s.from_128 0 && eqb s.from_192 0)) e

    e₁ : (s.from_64 ≡ 0) × ((eqb s.from_128 0 && eqb s.from_192 0) ≡ true)
    e₁ = test s.from_64 (eqb s.from_128 0 && eqb s.from_192 0) e₀.1

    e₂ : (s.from_128 ≡ 0) × (s.from_192 ≡ 0)
    e₂ =
        let t = test s.from_128 (eqb s.from_192 0) e₁.1 in
        (t.0, eqb-true s.from_192 0 t.1)

pub none_in_empty : (s : Codes) → is_empty s ≡ true → (c : ℕ) → is_in s c ≡ false
unfolding is_in
none_in_empty s e c = rw (is_empty_set s e, zeros (c / 64), zero-div (2 ^ (c % 64)))
  where
    zeros : (i : ℕ) → word_at empty_set i ≡ 0
    zeros zero = refl
    zeros (suc zero) = refl
    zeros (suc (suc zero)) = refl
    zeros (suc (suc (suc zero))) = refl
    zeros (suc (suc (suc (suc i)))) = refl

none_among : (s : Codes) (c n : ℕ) → length (among s c n) ≡ 0 → (k : ℕ) → c ≤ k → k < c + n → is_in s k ≡ false
unfolding among
none_among s c zero e k l h = absurd (omega arith)
none_among s c (suc n) e k l h = go (none_among s (suc c) n) (is_in s c) refl e
  where
    go : (length (among s (suc c) n) ≡ 0 → (k : ℕ) → suc c ≤ k → k < suc c + n → is_in s k ≡ false) → (b : Bool) → is_in s c ≡ b
        → length (cond b (c ∷ among s (suc c) n) (among s (suc c) n)) ≡ 0 → is_in s k ≡ false
    go later true q z = absurd (omega (arith, z))
    go later false q z = here (eqb c k) refl
      where
        here : (b : Bool) → eqb c k ≡ b → is_in s k ≡ false
        here true r = ap (is_in s) (sym (eqb-true c k r)) ∙ q
        here false r = later z k (omega (arith, l, eqb-false c k r)) (omega arith)

pub some_in : (s : Codes) → is_empty s ≡ false → Fits s → 1 ≤ length (codes_in s)
some_in s e w = go (length (codes_in s)) refl
  where
    go : (n : ℕ) → length (codes_in s) ≡ n → 1 ≤ n
    go zero z =
        let same = same_set (is_in s) (λ c. false) (λ c h. none_among s 0 256 z c (omega arith) (omega arith)) in
        let empty : s ≡ empty_set = sym (set_of_its_codes s w) ∙ same ∙ empty_set_lem in
        absurd (false≢true (sym e ∙ ap is_empty empty))
    go (suc n) z = omega arith
