-- Where a code's bit stands: each way through the functions on sets, as a law.
use Prim.Native.Nat.{ℕ, ◌-◌, ◌/◌, ◌%◌, ◌^◌, ◌<◌, ◌≤◌}
use mathlib.Core.Path.{◌≡◌, sym, ◌∙◌}
use mathlib.Core.Bool.{Bool, false}
use native.Mathlib.Omega.{arith}
use borrow.Author.Rules.{rules}
use borrow.Author.Tests.{eq-eqb, ne_eqb}
use lib.Dec.{eqb}
use Rattle.model.specs.declared.Codes.{Codes}
use Rattle.model.specs.Codes.{is_in, is_empty}
use Rattle.theorems.proofs.Sets.{at_word, none_above}

module _ (s : Codes) (c : ℕ) where
  module _ (r : Bool) where
    pub in_0 : c < 64 → r ≡ eqb (s.from_0 / 2 ^ c % 2) 1 → r ≡ is_in s c
    in_0 h e = e ∙ sym (at_word s c 0 c (omega arith) (omega arith))

    pub in_64 : 64 ≤ c → c < 128 → r ≡ eqb (s.from_64 / 2 ^ (c - 64) % 2) 1 → r ≡ is_in s c
    in_64 l h e = e ∙ sym (at_word s c 1 (c - 64) (omega arith) (omega arith))

    pub in_128 : 128 ≤ c → c < 192 → r ≡ eqb (s.from_128 / 2 ^ (c - 128) % 2) 1 → r ≡ is_in s c
    in_128 l h e = e ∙ sym (at_word s c 2 (c - 128) (omega arith) (omega arith))

    pub in_192 : 192 ≤ c → c < 256 → r ≡ eqb (s.from_192 / 2 ^ (c - 192) % 2) 1 → r ≡ is_in s c
    in_192 l h e = e ∙ sym (at_word s c 3 (c - 192) (omega arith) (omega arith))

  pub above_all : 256 ≤ c → false ≡ is_in s c
  above_all h = sym (none_above s c h)

module _ (s : Codes) where
  pub some_from_0 : (s.from_0 ≡ 0 → ⊥) → false ≡ is_empty s
  some_from_0 n = rw (ne_eqb s.from_0 0 n)

  module _ (none : s.from_0 ≡ 0) where
    pub some_from_64 : (s.from_64 ≡ 0 → ⊥) → false ≡ is_empty s
    some_from_64 n = rw (eq-eqb s.from_0 0 none, ne_eqb s.from_64 0 n)

    module _ (none' : s.from_64 ≡ 0) where
      pub some_from_128 : (s.from_128 ≡ 0 → ⊥) → false ≡ is_empty s
      some_from_128 n = rw (eq-eqb s.from_0 0 none, eq-eqb s.from_64 0 none', ne_eqb s.from_128 0 n)

      pub last_tells : s.from_128 ≡ 0 → eqb s.from_192 0 ≡ is_empty s
      last_tells none'' = rw (eq-eqb s.from_0 0 none, eq-eqb s.from_64 0 none', eq-eqb s.from_128 0 none'')

pub ruleset where_bits_stand = (rules, in_0, in_64, in_128, in_192, above_all, some_from_0, some_from_64, some_from_128, last_tells)
