-- Items that rise from a code on and lie apart, said so that an induction follows it. The ranges of a set's codes do, and they
-- cover just its codes.
use Prim.Native.Nat.{ℕ, zero, suc, ◌+◌, ◌<◌, ◌≤◌}
use mathlib.Core.Path.{◌≡◌, refl, sym, ◌∙◌}
use mathlib.Core.Bool.{Bool, true, false}
use mathlib.Core.List.{List, [], ◌∷◌}
use native.Mathlib.Omega.{arith}
use borrow.Author.Tests.{eqb-true, eqb-false, leb-true, lt-leb, le-leb, ltb-true, ltb-false}
use lib.Dec.{eqb, leb}
use Rattle.model.specs.declared.Codes.{Codes}
use Rattle.model.specs.Codes.{is_in, among}
use Rattle.refusals.proofs.Tests.{and_then}
use Rattle.code_text.specs.CodeText.{Item, is_item, are_items, covered}
use Rattle.code_writer.specs.CodesWritten.{lies_apart, apart, adjoins, with_code, ranges}
use Rattle.item_writer.specs.Items.{range}

-- each item begins at c or above and ends two or more below the next
abbrev pub Rising : ℕ → List Item → Type 0
Rising c [] = Unit {0}
Rising c (i ∷ is) = (c ≤ i.first) × (i.first ≤ i.last) × (i.last ≤ 255) × Rising (suc (suc i.last)) is

pub rising_below : (l : List Item) (c d : ℕ) → d ≤ c → Rising c l → Rising d l
rising_below [] c d h r = tt
rising_below (i ∷ is) c d h r = (omega arith, r.1, r.2, r.3)

-- BY THE TESTS

pub rising_items : (l : List Item) (c : ℕ) → Rising c l → are_items l ≡ true
unfolding are_items
rising_items [] c r = refl
rising_items (i ∷ is) c r =
    rw (le-leb i.first i.last r.1, le-leb i.last 255 r.2, rising_items is (suc (suc i.last)) r.3)

pub rising_apart : (l : List Item) (c : ℕ) → Rising c l → apart l ≡ true
unfolding apart
rising_apart [] c r = refl
rising_apart (i ∷ []) c r = refl
rising_apart (i ∷ j ∷ is) c r = go (lies_apart i j) refl (rising_apart (j ∷ is) (suc (suc i.last)) r.3)
  where
    go : (b : Bool) → lies_apart i j ≡ b → apart (j ∷ is) ≡ true → apart (i ∷ j ∷ is) ≡ true
    go true e later = rw (e, later)
    go false e later = absurd (omega (arith, ltb-false))

item_bounds : (i : Item) (is : List Item) → are_items (i ∷ is) ≡ true → (i.first ≤ i.last) × (i.last ≤ 255) × (are_items is ≡ true)
unfolding are_items
item_bounds i is e =
    let t = and_then (is_item i) (are_items is) e in
    let u = and_then (leb i.first i.last) (leb i.last 255) t.0 in
    (leb-true i.first i.last u.0, leb-true i.last 255 u.1, t.1)

rising_from : (i : Item) (is : List Item) (c : ℕ) → c ≤ i.first → are_items (i ∷ is) ≡ true → apart (i ∷ is) ≡ true → Rising c (i ∷ is)
unfolding apart
rising_from i [] c h e a = let t = item_bounds i [] e in (h, t.0, t.1, tt)
rising_from i (j ∷ is) c h e a =
    let t = item_bounds i (j ∷ is) e in
    let u = and_then (lies_apart i j) (apart (j ∷ is)) a in
    let test : lies_apart i j ≡ true = u.0 in
    (h, t.0, t.1, rising_from j is (suc (suc i.last)) (omega (arith, ltb-true)) t.2 u.1)

pub rising : (l : List Item) → are_items l ≡ true → apart l ≡ true → Rising 0 l
rising [] e a = tt
rising (i ∷ is) e a = rising_from i is 0 (omega arith) e a

-- THE RANGES OF A SET

pub stands_alone : (c : ℕ) (l : List Item) → Rising (suc (suc c)) l → with_code c l ≡ range c c ∷ l
unfolding with_code
stands_alone c [] r = refl
stands_alone c (i ∷ is) r = go (adjoins c i) refl
  where
    go : (b : Bool) → adjoins c i ≡ b → with_code c (i ∷ is) ≡ range c c ∷ i ∷ is
    go true e = absurd (omega (arith, eqb-true))
    go false e = rw e

pub joins : (c last : ℕ) (l : List Item) → with_code c (range (c + 1) last ∷ l) ≡ range c last ∷ l
unfolding with_code
joins c last l = go (adjoins c (range (c + 1) last)) refl
  where
    go : (b : Bool) → adjoins c (range (c + 1) last) ≡ b → with_code c (range (c + 1) last ∷ l) ≡ range c last ∷ l
    go true e = rw e
    go false e = absurd (omega (arith, eqb-false))

with_code_rises : (c : ℕ) (l : List Item) → c ≤ 255 → Rising (suc c) l → Rising c (with_code c l)
unfolding with_code
with_code_rises c [] h r = (omega arith, omega arith, h, tt)
with_code_rises c (i ∷ is) h r = go (adjoins c i) refl
  where
    go : (b : Bool) → adjoins c i ≡ b → Rising c (with_code c (i ∷ is))
    go true e = rw e (omega arith, omega arith, r.2, r.3)
    go false e = rw e (omega arith, omega arith, h, (omega (arith, eqb-false), r.1, r.2, r.3))

pub ranges_rise : (s : Codes) (n c : ℕ) → c + n ≤ 256 → Rising c (ranges (among s c n))
unfolding among ranges
ranges_rise s zero c h = tt
ranges_rise s (suc n) c h = go (is_in s c) refl (ranges_rise s n (suc c) (omega arith))
  where
    go : (b : Bool) → is_in s c ≡ b → Rising (suc c) (ranges (among s (suc c) n)) → Rising c (ranges (among s c (suc n)))
    go true e r = rw e (with_code_rises c (ranges (among s (suc c) n)) (omega arith) r)
    go false e r = rw e (rising_below (ranges (among s (suc c) n)) (suc c) c (omega arith) r)

-- WHAT THEY COVER

pub not_below : (l : List Item) (c k : ℕ) → Rising c l → k < c → covered l k ≡ false
unfolding covered
not_below [] c k r h = refl
not_below (i ∷ is) c k r h =
    rw (lt-leb i.first k (omega arith), not_below is (suc (suc i.last)) k r.3 (omega arith))

covers_it : (c : ℕ) (l : List Item) → Rising (suc c) l → covered (with_code c l) c ≡ true
unfolding covered with_code
covers_it c [] r = rw (le-leb c c (omega arith))
covers_it c (i ∷ is) r = go (adjoins c i) refl
  where
    go : (b : Bool) → adjoins c i ≡ b → covered (with_code c (i ∷ is)) c ≡ true
    go true e = rw (e, le-leb c c (omega arith), le-leb c i.last (omega arith))
    go false e = rw (e, le-leb c c (omega arith))

covers_as_before : (c k : ℕ) (l : List Item) → Rising (suc c) l → c < k → covered (with_code c l) k ≡ covered l k
unfolding covered with_code
covers_as_before c k [] r h = rw (le-leb c k (omega arith), lt-leb k c h)
covers_as_before c k (i ∷ is) r h = go (adjoins c i) refl
  where
    go : (b : Bool) → adjoins c i ≡ b → covered (with_code c (i ∷ is)) k ≡ covered (i ∷ is) k
    go true e = rw (e, le-leb c k (omega arith), le-leb i.first k (omega (arith, eqb-true)))
    go false e = rw (e, le-leb c k (omega arith), lt-leb k c h)

pub ranges_cover : (s : Codes) (n c k : ℕ) → c + n ≤ 256 → c ≤ k → k < c + n → covered (ranges (among s c n)) k ≡ is_in s k
unfolding among ranges
ranges_cover s zero c k m l h = absurd (omega arith)
ranges_cover s (suc n) c k m l h =
    go (is_in s c) refl (eqb c k) refl (ranges_rise s n (suc c) (omega arith))
    (λ j. ranges_cover s n (suc c) k (omega arith) j (omega arith))
  where
    go : (b : Bool) → is_in s c ≡ b → (e : Bool) → eqb c k ≡ e → Rising (suc c) (ranges (among s (suc c) n))
        → (suc c ≤ k → covered (ranges (among s (suc c) n)) k ≡ is_in s k) → covered (ranges (among s c (suc n))) k ≡ is_in s k
    go true p true q r later = rw (p, ← eqb-true c k q) (covers_it c (ranges (among s (suc c) n)) r ∙ sym p)
    go true p false q r later =
        let above : c < k = omega (arith, eqb-false) in
        rw p (covers_as_before c k (ranges (among s (suc c) n)) r above ∙ later above)
    go false p true q r later = rw (p, ← eqb-true c k q) (not_below (ranges (among s (suc c) n)) (suc c) c r (omega arith) ∙ sym p)
    go false p false q r later = rw p (later (omega (arith, eqb-false)))
