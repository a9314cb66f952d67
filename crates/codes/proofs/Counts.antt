-- How many codes a set holds, and which is the lowest, by its words: the ones of a word are its codes, and its trailing zeros stand
-- before the first of them.
use Prim.Native.Nat.{ℕ, zero, suc, ◌+◌, ◌/◌, ◌%◌, ◌^◌, ◌<◌}
use mathlib.Core.Path.{◌≡◌, refl, sym, ◌∙◌, ap, subst}
use mathlib.Core.Bool.{Bool, true, false, cond}
use mathlib.Core.List.{List, [], ◌∷◌, ◌++◌, append-nil}
use native.Mathlib.Nat.{add-zero, zero-add, suc-add}
use native.Mathlib.Omega.{arith}
use borrow.Author.Rules.{rules}
use borrow.Author.Tests.{ne_eqb}
use lib.Arith.{lt-one}
use lib.Count.{ones, ones_step, count_trailing_zeros, under}
use lib.ListN.{length, get_or, length-append}
use Rattle.model.specs.declared.Codes.{Codes}
use Rattle.refusals.specs.Refusals.{answered, refused_by}
use Rattle.model.specs.Codes.{is_in, is_empty, among, codes_in, count_of, lowest_of}
use Rattle.theorems.proofs.Bits.{Tells, half, bit_is, tells_first, tells_rest}
use Rattle.codes.proofs.Laws.{some_from_0, some_from_64, some_from_128, last_tells}
use Rattle.theorems.proofs.Sets.{told_0, told_64, told_128, told_192}

module _ (s : Codes) where
  -- the codes of a word, then those of the next ones
  split : (m n c : ℕ) → among s c (m + n) ≡ among s c m ++ among s (c + m) n
  unfolding among
  split zero n c = rw (zero-add n, add-zero c)
  split (suc m) n c =
      let z : c + suc m ≡ suc c + m = omega arith in
      rw (suc-add m n, z) (go (split m n (suc c)) (is_in s c))
    where
      go : among s (suc c) (m + n) ≡ among s (suc c) m ++ among s (suc c + m) n → (b : Bool)
          → cond b (c ∷ among s (suc c) (m + n)) (among s (suc c) (m + n)) ≡ cond b (c ∷ among s (suc c) m) (among s (suc c) m) ++ among s (suc c + m) n
      go later true = ap (λ (l : List ℕ). c ∷ l) later
      go later false = later

  by_words : codes_in s ≡ among s 0 64 ++ (among s 64 64 ++ (among s 128 64 ++ among s 192 64))
  by_words =
      split 64 192 0
      ∙ ap (λ (l : List ℕ). among s 0 64 ++ l) (split 64 128 64)
      ∙ ap (λ (l : List ℕ). among s 0 64 ++ (among s 64 64 ++ l)) (split 64 64 128)

  -- COUNTED

  count_in : (n c w : ℕ) → w < 2 ^ n → Tells (is_in s) w c n → ones w ≡ length (among s c n)
  unfolding among ones
  count_in zero c w h t = ap ones (lt-one h)
  count_in (suc n) c w h t =
      ones_step w
      ∙ ap (λ (x : ℕ). w % 2 + x) (count_in n (suc c) (w / 2) (half n w h) (tells_rest (is_in s) w c n t))
      ∙ go (is_in s c) (bit_is w (is_in s c) (tells_first (is_in s) w c n t))
    where
      go : (b : Bool) → cond b 1 0 ≡ w % 2
          → w % 2 + length (among s (suc c) n) ≡ length (cond b (c ∷ among s (suc c) n) (among s (suc c) n))
      go true e = omega (arith, e)
      go false e = omega (arith, e)

  module _ (h₀ : s.from_0 < 2 ^ 64) (h₁ : s.from_64 < 2 ^ 64) (h₂ : s.from_128 < 2 ^ 64) (h₃ : s.from_192 < 2 ^ 64) where
    pub all_counted : (r : ℕ) → r ≡ ones s.from_0 + ones s.from_64 + ones s.from_128 + ones s.from_192 → r ≡ count_of s
    all_counted r e =
        omega (
          arith,
          ap length by_words,
          length-append (among s 0 64) (among s 64 64 ++ (among s 128 64 ++ among s 192 64)),
          length-append (among s 64 64) (among s 128 64 ++ among s 192 64),
          length-append (among s 128 64) (among s 192 64),
          count_in 64 0 s.from_0 h₀ (told_0 s),
          count_in 64 64 s.from_64 h₁ (told_64 s),
          count_in 64 128 s.from_128 h₂ (told_128 s),
          count_in 64 192 s.from_192 h₃ (told_192 s),
          e,
        )

  -- THE LOWEST

  none_in : (n c : ℕ) → Tells (is_in s) 0 c n → among s c n ≡ []
  unfolding among
  none_in zero c t = refl
  none_in (suc n) c t = rw (← tells_first (is_in s) 0 c n t) (none_in n (suc c) (tells_rest (is_in s) 0 c n t))

  lowest_in : (n c w : ℕ) (l : List ℕ) → w < 2 ^ n → (w ≡ 0 → ⊥) → Tells (is_in s) w c n → get_or (among s c n ++ l) 0 0 ≡ c + count_trailing_zeros n w
  unfolding among count_trailing_zeros
  lowest_in zero c w l h some t = absurd (some (lt-one h))
  lowest_in (suc n) c w l h some t =
      go (λ more. lowest_in n (suc c) (w / 2) l (half n w h) more (tells_rest (is_in s) w c n t))
      (is_in s c) (bit_is w (is_in s c) (tells_first (is_in s) w c n t))
    where
      go : ((w / 2 ≡ 0 → ⊥) → get_or (among s (suc c) n ++ l) 0 0 ≡ suc c + count_trailing_zeros n (w / 2)) → (b : Bool) → cond b 1 0 ≡ w % 2
          → get_or (cond b (c ∷ among s (suc c) n) (among s (suc c) n) ++ l) 0 0 ≡ c + under (w % 2) (count_trailing_zeros n (w / 2))
      go later true e = rw (← e) (sym (add-zero c))
      go later false e = rw (← e) (later (λ z. some (omega (arith, z, e))) ∙ omega arith)

  lowest_is : (x r : ℕ) → get_or (codes_in s) 0 0 ≡ x → r ≡ x → false ≡ is_empty s → answered r ≡ lowest_of s
  lowest_is x r e f some = rw (← some, e, f)

  -- the words before the first that is not 0 have no codes
  after_0 : s.from_0 ≡ 0 → codes_in s ≡ among s 64 64 ++ (among s 128 64 ++ among s 192 64)
  after_0 z =
      by_words
      ∙ ap (λ (l : List ℕ). l ++ (among s 64 64 ++ (among s 128 64 ++ among s 192 64)))
      (none_in 64 0 (subst (λ (w : ℕ). Tells (is_in s) w 0 64) z (told_0 s)))

  after_64 : s.from_0 ≡ 0 → s.from_64 ≡ 0 → codes_in s ≡ among s 128 64 ++ among s 192 64
  after_64 y z =
      after_0 y
      ∙ ap (λ (l : List ℕ). l ++ (among s 128 64 ++ among s 192 64))
      (none_in 64 64 (subst (λ (w : ℕ). Tells (is_in s) w 64 64) z (told_64 s)))

  after_128 : s.from_0 ≡ 0 → s.from_64 ≡ 0 → s.from_128 ≡ 0 → codes_in s ≡ among s 192 64 ++ []
  after_128 x y z =
      after_64 x y
      ∙ ap (λ (l : List ℕ). l ++ among s 192 64) (none_in 64 128 (subst (λ (w : ℕ). Tells (is_in s) w 128 64) z (told_128 s)))
      ∙ sym (append-nil (among s 192 64))

  module _ (r : ℕ) where
    pub lowest_below_64 : (s.from_0 ≡ 0 → ⊥) → s.from_0 < 2 ^ 64 → r ≡ count_trailing_zeros 64 s.from_0 → answered r ≡ lowest_of s
    lowest_below_64 here fits f =
        lowest_is _ r (ap (λ (l : List ℕ). get_or l 0 0) by_words ∙ lowest_in 64 0 s.from_0 _ fits here (told_0 s)) (omega (arith, f))
        (some_from_0 s here)

    module _ (x : s.from_0 ≡ 0) where
      pub lowest_below_128 : (s.from_64 ≡ 0 → ⊥) → s.from_64 < 2 ^ 64 → r ≡ 64 + count_trailing_zeros 64 s.from_64 → answered r ≡ lowest_of s
      lowest_below_128 here fits f =
          lowest_is _ r (ap (λ (l : List ℕ). get_or l 0 0) (after_0 x) ∙ lowest_in 64 64 s.from_64 _ fits here (told_64 s)) f
          (some_from_64 s x here)

      module _ (y : s.from_64 ≡ 0) where
        pub lowest_below_192 : (s.from_128 ≡ 0 → ⊥) → s.from_128 < 2 ^ 64 → r ≡ 128 + count_trailing_zeros 64 s.from_128 → answered r ≡ lowest_of s
        lowest_below_192 here fits f =
            lowest_is _ r (ap (λ (l : List ℕ). get_or l 0 0) (after_64 x y) ∙ lowest_in 64 128 s.from_128 _ fits here (told_128 s))
            f (some_from_128 s x y here)

        module _ (z : s.from_128 ≡ 0) where
          pub lowest_below_256 : (s.from_192 ≡ 0 → ⊥) → s.from_192 < 2 ^ 64 → r ≡ 192 + count_trailing_zeros 64 s.from_192 → answered r ≡ lowest_of s
          lowest_below_256 here fits f =
              lowest_is _ r (ap (λ (l : List ℕ). get_or l 0 0) (after_128 x y z) ∙ lowest_in 64 192 s.from_192 _ fits here (told_192 s))
              f (sym (ne_eqb s.from_192 0 here) ∙ last_tells s x y z)

  pub no_lowest : s.from_0 ≡ 0 → s.from_64 ≡ 0 → s.from_128 ≡ 0 → s.from_192 ≡ 0 → refused_by 20 0 ≡ lowest_of s
  no_lowest w x y z = rw (w, x, y, z)

pub ruleset counts = (rules, all_counted, lowest_below_64, lowest_below_128, lowest_below_192, lowest_below_256, no_lowest)
