-- Walking a set upward: the ranges from a code on, and what the two searches find.
use Prim.Native.Nat.{ℕ, zero, suc, ◌+◌, ◌-◌, ◌<◌, ◌≤◌}
use mathlib.Core.Path.{◌≡◌, refl, sym, ◌∙◌, ap}
use mathlib.Core.Bool.{Bool, true, false, not}
use mathlib.Core.List.{List, [], ◌∷◌}
use native.Mathlib.Nat.{add-zero}
use native.Mathlib.Numerals.{add-one}
use native.Mathlib.Omega.{arith}
use borrow.Author.Tests.{not-true, not-false, eqb-true, eqb-false}
use lib.Dec.{eqb}
use Rattle.std.specs.Prelude.{Option, Some, None}
use Rattle.std.specs.Bool.{⊤}
use Rattle.std.specs.Fn.{CalledAt}
use Rattle.std.specs.Iterator.{YieldsThen}
use Rattle.std.specs.List.{FoldsTo}
use Rattle.std.specs.Option.{MatchOption, unwrap_or}
use Rattle.std.proofs.iter.Yields.{nat_range_steps}
use Rattle.std.proofs.lemmas.Iterator.{first_from_Range}
use denote.Param.Members.{Mut}
use denote.Ref.{Bor}
use Rattle.model.specs.declared.Codes.{Codes}
use Rattle.model.specs.Codes.{is_in, among}
use Rattle.std.specs.declared.ops.Range.{Range}
use Rattle.code_ranges.specs.declared.Range as code
use Rattle.code_writer.specs.CodesWritten.{with_code, ranges}
use Rattle.item_writer.specs.Items.{range}
use Rattle.code_writer.specs.Steps.{ranges_from, Next}
use Rattle.code_writer.proofs.Rising.{Rising, ranges_rise, stands_alone, joins}

-- THE RANGES FROM A CODE ON

module _ (s : Codes) where
  out_of_set : (c : ℕ) → c < 256 → is_in s c ≡ false → ranges_from s c ≡ ranges_from s (c + 1)
  unfolding ranges_from among
  out_of_set c h e = let n : 256 - c ≡ suc (256 - (c + 1)) = omega arith in rw (n, e, add-one c)

  with_first : (c : ℕ) → c < 256 → is_in s c ≡ true → ranges_from s c ≡ with_code c (ranges_from s (c + 1))
  unfolding ranges_from among ranges
  with_first c h e = let n : 256 - c ≡ suc (256 - (c + 1)) = omega arith in rw (n, e, add-one c)

  pub nothing_left : (c : ℕ) → 256 ≤ c → ranges_from s c ≡ []
  unfolding ranges_from among ranges
  nothing_left c h = let n : 256 - c ≡ 0 = omega arith in rw n

  rises_from : (c : ℕ) → c ≤ 256 → Rising c (ranges_from s c)
  unfolding ranges_from
  rises_from c h = ranges_rise s (256 - c) c (omega arith)

-- WHAT A SEARCH FINDS

-- the first code from a code on that passes the test
abbrev pub First : (ℕ → Bool) → ℕ → Option ℕ → Type 0
First test from found =
    MatchOption found ((k : ℕ) → from ≤ k → k < 256 → test k ≡ false)
    (λ c. (from ≤ c) × (c < 256) × (test c ≡ true) × ((k : ℕ) → from ≤ k → k < c → test k ≡ false))

-- what `find` ensures, where its closure computes the test
pub first_found : {F : Type 0} {g : Mut F (Bor ℕ × Unit {0}) Bool} (test : ℕ → Bool) (from : ℕ) (u : Range ℕ) (f : F) (found : Option ℕ)
    → (xs : List ℕ) × (j : F) × YieldsThen nat_range_steps (record { start = from; end = 256 }) xs found u
    × FoldsTo (λ p x q. CalledAt g p x false q) f xs j × MatchOption found ⊤ (λ x. (h : F) × CalledAt g j x true h)
    → ((x : ℕ) (b : Bool) (q : F) → CalledAt g f x b q → (q ≡ f) × (b ≡ test x)) → First test from found
first_found test from u f found ran computes =
    first_from_Range (record { start = from; end = 256 }) u f found (λ k. test k ≡ true) (λ k. test k ≡ false) ran
    (λ x q k. sym (computes x true q k).1) (λ x q k. ((computes x false q k).0, sym (computes x false q k).1))

module _ (s : Codes) where
  -- codes that are not in the set are passed over
  passed : (n from : ℕ) → from + n ≤ 256 → ((k : ℕ) → from ≤ k → k < from + n → is_in s k ≡ false)
      → ranges_from s from ≡ ranges_from s (from + n)
  passed zero from h none = rw (add-zero from)
  passed (suc n) from h none =
      let z : from + 1 + n ≡ from + suc n = omega arith in
      out_of_set s from (omega arith) (none from (omega arith) (omega arith))
      ∙ passed n (from + 1) (omega arith) (λ k l m. none k (omega arith) (omega arith))
      ∙ ap (ranges_from s) z

  passed_to : (from c : ℕ) → from ≤ c → c ≤ 256 → ((k : ℕ) → from ≤ k → k < c → is_in s k ≡ false) → ranges_from s from ≡ ranges_from s c
  passed_to from c h m none =
      let z : from + (c - from) ≡ c = omega arith in
      passed (c - from) from (omega arith) (λ k l t. none k l (omega arith)) ∙ ap (ranges_from s) z

  -- codes in a row are one range, if none is right after them
  in_a_row : (n first : ℕ) → first + n ≤ 255 → ((k : ℕ) → first ≤ k → k ≤ first + n → is_in s k ≡ true)
      → Rising (suc (suc (first + n))) (ranges_from s (first + n + 1))
      → ranges_from s first ≡ range first (first + n) ∷ ranges_from s (first + n + 1)
  in_a_row zero first h all r =
      let z : first + 0 ≡ first = omega arith in
      let r' = rw z at r in
      rw z (with_first s first (omega arith) (all first (omega arith) (omega arith)) ∙ stands_alone first (ranges_from s (first + 1)) r')
  in_a_row (suc n) first h all r =
      let z : first + suc n ≡ first + 1 + n = omega arith in
      let r' = rw z at r in
      rw z (
      with_first s first (omega arith) (all first (omega arith) (omega arith))
      ∙ ap (with_code first) (in_a_row n (first + 1) (omega arith) (λ k l m. all k (omega arith) (omega arith)) r')
      ∙ joins first (first + 1 + n) (ranges_from s (first + 1 + n + 1))
      )

  module _ (from : ℕ) (h : from ≤ 256) where
    pub none_found : First (is_in s) from None → Next s from None
    none_found none = record { after = tt; left = passed_to from 256 h (omega arith) none ∙ nothing_left s 256 (omega arith) }

    module _ (first : ℕ) (begins : First (is_in s) from (Some first)) where
      -- where the codes in a row end: at one that is not in the set, or at 256
      record Ends (end : ℕ) : Type 0 where
        after : first < end
        within : end ≤ 256
        all : (k : ℕ) → first ≤ k → k < end → is_in s k ≡ true
        alone : Rising (suc end) (ranges_from s end)

      -- the first is in the set, and so are those behind it
      from_first : (end : ℕ) → ((k : ℕ) → first + 1 ≤ k → k < end → not (is_in s k) ≡ false) → (k : ℕ) → first ≤ k → k < end → is_in s k ≡ true
      from_first end behind k l m = go (eqb first k) refl
        where
          go : (b : Bool) → eqb first k ≡ b → is_in s k ≡ true
          go true e = ap (is_in s) (sym (eqb-true first k e)) ∙ begins.2
          go false e = not-false (is_in s k) (behind k (omega (arith, eqb-false first k e)) m)

      ends : (found : Option ℕ) → First (λ k. not (is_in s k)) (first + 1) found → Ends (unwrap_or found 256)
      ends None all = record {
        after = omega (arith, begins.1);
        within = omega arith;
        all = from_first 256 all;
        alone = rw (nothing_left s 256 (omega arith)) tt;
      }
      ends (Some end) found = record {
        after = omega (arith, found.0);
        within = omega (arith, found.1);
        all = from_first end found.3;
        alone = rw (out_of_set s end found.1 (not-true (is_in s end) found.2), add-one end) (rises_from s (suc end) (omega (arith, found.1)));
      }

      module _ (found : Option ℕ) (f : First (λ k. not (is_in s k)) (first + 1) found) (end : ℕ) (e : end ≡ unwrap_or found 256) where
        there : Ends end
        there = rw e (ends found f)

        pub past_first : first < end
        past_first = there.after

        pub within_256 : end ≤ 256
        within_256 = there.within

        pub range_found : (r : code.Range) → r.first ≡ first → r.last ≡ end - 1 → Next s from (Some r)
        range_found r is_first is_last =
            let w = there in
            let last : first + (end - 1 - first) ≡ end - 1 = omega (arith, w.after) in
            let next : end - 1 + 1 ≡ end = omega (arith, w.after) in
            let up : suc (suc (end - 1)) ≡ suc end = omega (arith, w.after) in
            let alone : Rising (suc (suc (first + (end - 1 - first)))) (ranges_from s (first + (end - 1 - first) + 1)) = rw (last, next, up) w.alone in
            let row = in_a_row (end - 1 - first) first (omega (arith, w.after, w.within)) (λ k l m. w.all k l (omega (arith, w.after))) alone in
            record {
              after = omega (arith, is_first, begins.0);
              left = rw (is_first, is_last) (passed_to from first begins.0 (omega (arith, begins.1)) begins.3 ∙ (rw last at row));
            }
