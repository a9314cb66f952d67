-- The order of segments by offset, then code: what its tests say as facts, and that a list which rises from each segment
-- to the next rises throughout.
use Prim.Native.Nat.{◌<◌}
use mathlib.Core.Path.{◌≡◌, refl, sym, subst, ◌∙◌}
use mathlib.Core.Bool.{Bool, true, false, ◌&&◌, ◌||◌, false≢true}
use mathlib.Core.List.Memᴰ
use mathlib.Core.List.{List, [], ◌∷◌}
use mathlib.Core.Logic.{◌⊎◌, inl, inr}
use native.Mathlib.Omega.{arith}
use lib.Dec.{ltb, eqb}
use borrow.Author.Tests.{ltb-true, ltb-false, eqb-true, eqb-false, lt-ltb, eq-eqb}
use Rattle.model.specs.declared.Segment.{Segment}
use Rattle.model.specs.Segments.{before, same_pair, rising}
use Rattle.refusals.proofs.Tests.{and_then}
use Rattle.theorems.proofs.Basics.{Mem}

-- THE TESTS AS FACTS

infix 40 ◌≺◌
pub data ◌≺◌ (r s : Segment) : Type 0 where
  sooner : r.offset < s.offset → r ≺ s
  lower : r.offset ≡ s.offset → r.code < s.code → r ≺ s

pub record Alike (r s : Segment) : Type 0 where
  pub offset : r.offset ≡ s.offset
  pub code : r.code ≡ s.code

-- what the two tests of an insertion say together
abbrev pub Compared : Bool → Bool → Segment → Segment → Type 0
Compared true same r s = r ≺ s
Compared false true r s = Alike r s
Compared false false r s = s ≺ r

pub compared : (r s : Segment) → Compared (before r s) (same_pair r s) r s
compared r s =
    go (ltb r.offset s.offset) (eqb r.offset s.offset) (ltb r.code s.code) (eqb r.code s.code) refl refl refl refl
  where
    go : (a b c d : Bool) → ltb r.offset s.offset ≡ a → eqb r.offset s.offset ≡ b → ltb r.code s.code ≡ c → eqb r.code s.code ≡ d
        → Compared (a || (b && c)) (b && d) r s
    go true b c d p q u v = sooner (ltb-true _ _ p)
    go false true true d p q u v = lower (eqb-true _ _ q) (ltb-true _ _ u)
    go false true false true p q u v = record { offset = eqb-true _ _ q; code = eqb-true _ _ v }
    go false true false false p q u v = lower (sym (eqb-true _ _ q)) (omega (arith, ltb-false r.code s.code u, eqb-false r.code s.code v))
    go false false c d p q u v = sooner (omega (arith, ltb-false r.offset s.offset p, eqb-false r.offset s.offset q))

pub before_if : {r s : Segment} → r ≺ s → before r s ≡ true
before_if {r} {s} (sooner h) = rw (lt-ltb r.offset s.offset h)
before_if {r} {s} (lower e h) = go (ltb r.offset s.offset)
  where
    go : (a : Bool) → (a || (eqb r.offset s.offset && ltb r.code s.code)) ≡ true
    go true = refl
    go false = rw (eq-eqb r.offset s.offset e, lt-ltb r.code s.code h)

pub before_then : (r s : Segment) → before r s ≡ true → r ≺ s
before_then r s e = go (before r s) (compared r s) e
  where
    go : (a : Bool) → Compared a (same_pair r s) r s → a ≡ true → r ≺ s
    go true c e = c
    go false c e = absurd (false≢true e)

pub same_if : {r s : Segment} → Alike r s → same_pair r s ≡ true
same_if {r} {s} a = rw (eq-eqb r.offset s.offset a.offset, eq-eqb r.code s.code a.code)

pub same_then : (r s : Segment) → same_pair r s ≡ true → Alike r s
same_then r s e =
    let q = and_then (eqb r.offset s.offset) (eqb r.code s.code) e in
    record { offset = eqb-true _ _ q.0; code = eqb-true _ _ q.1 }

-- LAWS OF THE ORDER

pub alike_refl : (r : Segment) → Alike r r
alike_refl r = record { offset = refl; code = refl }

pub alike_sym : {r s : Segment} → Alike r s → Alike s r
alike_sym a = record { offset = sym a.offset; code = sym a.code }

pub alike_trans : {r s t : Segment} → Alike r s → Alike s t → Alike r t
alike_trans a b = record { offset = a.offset ∙ b.offset; code = a.code ∙ b.code }

pub ≺_trans : {r s t : Segment} → r ≺ s → s ≺ t → r ≺ t
≺_trans (sooner p) (sooner q) = sooner (omega arith)
≺_trans (sooner p) (lower q q') = sooner (omega arith)
≺_trans (lower p p') (sooner q) = sooner (omega arith)
≺_trans (lower p p') (lower q q') = lower (omega arith) (omega arith)

pub ≺_alike : {r s t : Segment} → r ≺ s → Alike s t → r ≺ t
≺_alike (sooner p) a = sooner (omega arith)
≺_alike (lower p p') a = lower (omega arith) (omega arith)

pub alike-≺ : {r s t : Segment} → Alike r s → s ≺ t → r ≺ t
alike-≺ a (sooner p) = sooner (omega arith)
alike-≺ a (lower p p') = lower (omega arith) (omega arith)

pub ≺_not_alike : {r s : Segment} → r ≺ s → Alike r s → ⊥
≺_not_alike (sooner p) a = omega arith
≺_not_alike (lower p p') a = omega arith

-- RISING LISTS

abbrev pub Below : Segment → List Segment → Type 0
Below x l = (y : Segment) → Mem y l → x ≺ y

-- each element stands in a relation to all after it
abbrev pub RisingBy : {A : Type 0} → (A → A → Type 0) → List A → Type 0
RisingBy R [] = Unit {0}
RisingBy R (x ∷ l) = ((y : _) → Mem y l → R x y) × RisingBy R l

abbrev pub Rising : List Segment → Type 0
Rising l = RisingBy ◌≺◌ l

pub below_cons : {x s : Segment} {t : List Segment} → x ≺ s → Below s t → Below x (s ∷ t)
below_cons {x} {s} {t} h b y m = go (Memᴰ.cases_cons m)
  where
    go : (y ≡ s) ⊎ Mem y t → x ≺ y
    go (inl e) = rw e h
    go (inr m') = ≺_trans h (b y m')

pub rises : (l : List Segment) → rising l ≡ true → Rising l
unfolding rising
rises [] h = tt
rises (s ∷ []) h = (λ y m. absurd (Memᴰ.not-nil m), tt)
rises (s ∷ t ∷ ts) h =
    let q = and_then (before s t) (rising (t ∷ ts)) h in
    let ih = rises (t ∷ ts) q.1 in
    (below_cons (before_then s t q.0) ih.0, ih)

pub rises_if : (l : List Segment) → Rising l → rising l ≡ true
unfolding rising
rises_if [] h = refl
rises_if (s ∷ []) h = refl
rises_if (s ∷ t ∷ ts) h = rw (before_if (h.0 t (Memᴰ.head refl)), rises_if (t ∷ ts) h.1)

-- one segment to a pair
pub rising_one : (l : List Segment) → Rising l → (x y : Segment) → Mem x l → Mem y l → Alike x y → x ≡ y
rising_one [] h x y m n a = absurd (Memᴰ.not-nil m)
rising_one (s ∷ t) h x y m n a = go (rising_one t h.1 x y) (Memᴰ.cases_cons m) (Memᴰ.cases_cons n)
  where
    go : (Mem x t → Mem y t → Alike x y → x ≡ y) → (x ≡ s) ⊎ Mem x t → (y ≡ s) ⊎ Mem y t → x ≡ y
    go ih (inl p) (inl q) = p ∙ sym q
    go ih (inl p) (inr n') = absurd (≺_not_alike (h.0 y n') (rw p at a))
    go ih (inr m') (inl q) = absurd (≺_not_alike (h.0 x m') (alike_sym (rw q at a)))
    go ih (inr m') (inr n') = ih m' n' a

-- rising lists with the same members are the same
pub same_members : {A : Type 0} (R : A → A → Type 0) → ((x y : A) → R x y → R y x → ⊥) → (a b : List A) → RisingBy R a → RisingBy R b
    → ((x : A) → Mem x a → Mem x b) → ((x : A) → Mem x b → Mem x a) → a ≡ b
same_members R asym [] [] g h f k = refl
same_members R asym [] (y ∷ b) g h f k = absurd (Memᴰ.not-nil (k y (Memᴰ.head refl)))
same_members R asym (x ∷ a) [] g h f k = absurd (Memᴰ.not-nil (f x (Memᴰ.head refl)))
same_members {A} R asym (x ∷ a) (y ∷ b) g h f k =
    let tails : a ≡ b = same_members R asym a b g.1 h.1 (λ z m. rest x y a b g.0 f first z m) (λ z m. rest y x b a h.0 k (sym first) z m) in
    λ i. first i ∷ tails i
  where
    heads : (x ≡ y) ⊎ Mem x b → (y ≡ x) ⊎ Mem y a → x ≡ y
    heads (inl p) q = p
    heads (inr m) (inl q) = sym q
    heads (inr m) (inr n) = absurd (asym x y (g.0 y n) (h.0 x m))

    first : x ≡ y
    first = heads (Memᴰ.cases_cons (f x (Memᴰ.head refl))) (Memᴰ.cases_cons (k y (Memᴰ.head refl)))

    rest : (u v : A) (c d : List A) → ((z : A) → Mem z c → R u z) → ((z : A) → Mem z (u ∷ c) → Mem z (v ∷ d)) → u ≡ v → (z : A) → Mem z c → Mem z d
    rest u v c d below f e z m = go (Memᴰ.cases_cons (f z (Memᴰ.tail m)))
      where
        go : (z ≡ v) ⊎ Mem z d → Mem z d
        go (inl p) = let r : R u u = subst (R u) (p ∙ sym e) (below z m) in absurd (asym u u r r)
        go (inr n) = n

pub rising_ext : (a b : List Segment) → Rising a → Rising b → ((x : Segment) → Mem x a → Mem x b) → ((x : Segment) → Mem x b → Mem x a) → a ≡ b
rising_ext = same_members ◌≺◌ (λ x y p q. ≺_not_alike (≺_trans p q) (alike_refl x))
