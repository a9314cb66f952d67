-- What one report does to a table: the segments held are those with the report put in, a table that passes the tests
-- passes them afterwards.
use Prim.Native.Nat.{ℕ, zero, suc, ◌+◌, ◌<◌, ◌≤◌}
use mathlib.Core.Path.{◌≡◌, refl, sym, ap, ◌∙◌}
use mathlib.Core.Bool.{Bool, true, false, not, cond, ◌&&◌, ◌||◌, false≢true}
use mathlib.Core.List.Memᴰ
use mathlib.Core.List.{List, [], ◌∷◌, map}
use mathlib.Core.Logic.{⊎_elim}
use native.Mathlib.Nat.{eq-or-lt_of_le}
use native.Mathlib.Numerals.{add-one}
use native.Mathlib.Omega.{arith}
use lib.Dec.{eqb}
use lib.ListN.{length, get_or, drop, length-map, get_or-append}
use borrow.Author.Tests.{ltb-true, leb-true, eqb-false, lt-ltb, le-leb}
use Rattle.model.specs.declared.Codes.{Codes}
use Rattle.model.specs.declared.Segment.{Segment}
use Rattle.model.specs.declared.Table.{Table}
use Rattle.model.specs.Codes.{is_in}
use Rattle.model.specs.Segments.{before, same_pair, rising, merge}
use Rattle.model.specs.Table.{
  key_of,
  heard_of,
  segment_at,
  segments_from,
  held,
  place,
  storing,
  valid_segment,
  all_valid,
  valid_types,
  valid,
  holds,
  no_room,
  put,
  taking,
}
use Rattle.theorems.proofs.Order.{Alike, Compared, compared, ≺_not_alike, same_then, below_cons, Rising, rises, rises_if}
use Rattle.theorems.proofs.Segments.{put_rising}
use Rattle.theorems.proofs.Numbers.{segment_back}
use Rattle.model.specs.Search.{no_segment, entry}
use Rattle.refusals.proofs.Tests.{and_then, and_both}
use Rattle.theorems.proofs.Basics.{Mem}
use Rattle.theorems.proofs.Sets.{in_below}

or_false_then : (a b : Bool) → (a || b) ≡ false → (a ≡ false) × (b ≡ false)
or_false_then true b e = absurd (false≢true (sym e))
or_false_then false b e = (refl, e)

-- ONE SEGMENT'S TESTS

pub record ValidSegment (codes : Codes) (s : Segment) : Type 0 where
  pub offset : s.offset < 0x8000_0000
  pub code : is_in codes s.code ≡ true
  pub some : 1 ≤ s.duration
  pub duration : s.duration ≤ 65535
  pub volume : s.volume ≤ s.quietest
  pub quietest : s.quietest ≤ 63

pub valid_then : (codes : Codes) (s : Segment) → valid_segment codes s ≡ true → ValidSegment codes s
valid_then codes s v =
    let a = and_then _ _ v in
    let b = and_then _ _ a.1 in
    let c = and_then _ _ b.1 in
    let d = and_then _ _ c.0 in
    let e = and_then _ _ c.1 in
    record {
      offset = ltb-true _ _ a.0;
      code = b.0;
      some = leb-true _ _ d.0;
      duration = leb-true _ _ d.1;
      volume = leb-true _ _ e.0;
      quietest = leb-true _ _ e.1;
    }

pub valid_if : (codes : Codes) (s : Segment) → ValidSegment codes s → valid_segment codes s ≡ true
valid_if codes s v =
    and_both (lt-ltb _ _ v.offset) (and_both v.code (and_both (and_both (le-leb _ _ v.some) (le-leb _ _ v.duration))
    (and_both (le-leb _ _ v.volume) (le-leb _ _ v.quietest))))

-- WHAT IS HELD

module _ (keys heard : List ℕ) where
  pub length_from : (i n : ℕ) → length (segments_from keys heard i n) ≡ n
  unfolding segments_from
  length_from i zero = refl
  length_from i (suc n) = ap suc (length_from (suc i) n)

  -- segments that stand at places i, i + 1, .. are those from place i on
  from_places : (l : List Segment) (i : ℕ) → ((k j : ℕ) → k ≡ i + j → j < length l → segment_at keys heard k ≡ entry l j)
      → segments_from keys heard i (length l) ≡ l
  unfolding segments_from
  from_places [] i h = refl
  from_places (s ∷ l) i h = λ x. h i zero (omega arith) (omega arith) x ∷ from_places l (suc i) (λ k j e b. h k (suc j) (omega arith) (omega arith)) x

pub entry_from : (keys heard : List ℕ) (i n j k : ℕ) → k ≡ i + j → j < n → entry (segments_from keys heard i n) j ≡ segment_at keys heard k
unfolding segments_from
entry_from keys heard i zero j k e h = absurd (omega arith)
entry_from keys heard i (suc n) zero k e h = let q : k ≡ i = omega arith in rw q
entry_from keys heard i (suc n) (suc j) k e h = entry_from keys heard (suc i) n j k (omega arith) (omega arith)

pub held_length : (t : Table) → length (held t) ≡ t.head.count
held_length t = length_from t.keys t.heard 0 t.head.count

pub held_at : (t : Table) (i : ℕ) → i < t.head.count → entry (held t) i ≡ segment_at t.keys t.heard i
held_at t i h = entry_from t.keys t.heard 0 t.head.count i i (omega arith) h

get_d_mapped : {A B : Type 0} (f : A → B) (l : List A) (i : ℕ) (d : A) → get_or (map f l) i (f d) ≡ f (get_or l i d)
get_d_mapped f [] i d = refl
get_d_mapped f (a ∷ l) zero d = refl
get_d_mapped f (a ∷ l) (suc i) d = get_d_mapped f l i d

-- a column that was stored has the segments' values
in_column : (f : Segment → ℕ) (l : List Segment) (column : List ℕ) (i : ℕ) → i < length l → get_or (place (map f l) column) i (f no_segment) ≡ f (entry l i)
in_column f l column i h =
    get_or-append (map f l) (drop (length (map f l)) column) (f no_segment) i (omega (arith, length-map l f)) ∙ get_d_mapped f l i no_segment

pub holds_then : (r : Segment) (l : List Segment) → holds r l ≡ true → (s : Segment) × Mem s l × Alike r s
unfolding holds
holds_then r [] e = absurd (false≢true e)
holds_then r (s ∷ ts) e = go (same_pair r s) refl e (holds_then r ts)
  where
    go : (b : Bool) → same_pair r s ≡ b → (b || holds r ts) ≡ true → (holds r ts ≡ true → (u : Segment) × Mem u ts × Alike r u) → (u : Segment) × Mem u (s ∷ ts) × Alike r u
    go true q e ih = (s, Memᴰ.head refl, same_then r s q)
    go false q e ih = let k = ih e in (k.0, Memᴰ.tail k.1, k.2)

-- a new pair makes the list longer by one
pub put_new : (r : Segment) (l : List Segment) → holds r l ≡ false → length (put r l) ≡ suc (length l)
unfolding holds put
put_new r [] h = refl
put_new r (s ∷ ts) h = go (before r s) (same_pair r s) (or_false_then (same_pair r s) (holds r ts) h).0 (put_new r ts (or_false_then (same_pair r s) (holds r ts) h).1)
  where
    go : (a b : Bool) → b ≡ false → length (put r ts) ≡ suc (length ts) → length (cond a (r ∷ s ∷ ts) (cond b (merge r s ∷ ts) (s ∷ put r ts))) ≡ suc (suc (length ts))
    go true b q ih = refl
    go false true q ih = absurd (false≢true (sym q))
    go false false q ih = ap suc ih

-- a known one leaves it as long as it was
pub put_known : (r : Segment) (l : List Segment) → Rising l → holds r l ≡ true → length (put r l) ≡ length l
unfolding holds put
put_known r [] g h = absurd (false≢true h)
put_known r (s ∷ ts) g h = go (before r s) (same_pair r s) (compared r s) h (put_known r ts g.1)
  where
    go : (a b : Bool) → Compared a b r s → (b || holds r ts) ≡ true → (holds r ts ≡ true → length (put r ts) ≡ length ts)
        → length (cond a (r ∷ s ∷ ts) (cond b (merge r s ∷ ts) (s ∷ put r ts))) ≡ suc (length ts)
    go true b c e ih = let k = holds_then r (s ∷ ts) h in absurd (≺_not_alike (below_cons c g.0 k.0 k.1) k.2)
    go false true c e ih = refl
    go false false c e ih = ap suc (ih e)

-- THE TESTS STAY PASSED

merge_valid : (codes : Codes) (r s : Segment) → valid_segment codes r ≡ true → valid_segment codes s ≡ true → valid_segment codes (merge r s) ≡ true
merge_valid codes r s p q =
    let a = valid_then codes r p in
    let b = valid_then codes s q in
    valid_if codes (merge r s) (record {
      offset = b.offset;
      code = b.code;
      some = omega arith;
      duration = omega arith;
      volume = omega arith;
      quietest = omega arith;
    })

put_valid : (codes : Codes) (r : Segment) (l : List Segment) → valid_segment codes r ≡ true → all_valid codes l ≡ true → all_valid codes (put r l) ≡ true
unfolding put all_valid
put_valid codes r [] p h = rw p
put_valid codes r (s ∷ ts) p h = go (before r s) (same_pair r s) (put_valid codes r ts p k.1)
  where
    k : (valid_segment codes s ≡ true) × (all_valid codes ts ≡ true)
    k = and_then (valid_segment codes s) (all_valid codes ts) h

    go : (a b : Bool) → all_valid codes (put r ts) ≡ true → all_valid codes (cond a (r ∷ s ∷ ts) (cond b (merge r s ∷ ts) (s ∷ put r ts))) ≡ true
    go true b ih = and_both p h
    go false true ih = and_both (merge_valid codes r s p k.0) k.1
    go false false ih = and_both k.0 ih

valid_at : (codes : Codes) (l : List Segment) → all_valid codes l ≡ true → (i : ℕ) → i < length l → ValidSegment codes (entry l i)
unfolding all_valid
valid_at codes [] v i h = absurd (omega arith)
valid_at codes (s ∷ ts) v zero h = valid_then codes s (and_then (valid_segment codes s) (all_valid codes ts) v).0
valid_at codes (s ∷ ts) v (suc i) h = valid_at codes ts (and_then (valid_segment codes s) (all_valid codes ts) v).1 i (omega arith)

-- the segments at places are within their ranges exactly if each is
module _ (codes : Codes) (keys heard : List ℕ) where
  pub valid_from : (n i : ℕ) → all_valid codes (segments_from keys heard i n) ≡ true → (k : ℕ) → i ≤ k → k < i + n
      → valid_segment codes (segment_at keys heard k) ≡ true
  unfolding segments_from all_valid
  valid_from zero i v k a b = absurd (omega arith)
  valid_from (suc n) i v k a b =
      let q = and_then (valid_segment codes (segment_at keys heard i)) (all_valid codes (segments_from keys heard (suc i) n)) v in
      ⊎_elim (λ e. rw (← e) q.0) (λ l. valid_from n (suc i) q.1 k (omega arith) (omega arith)) (eq-or-lt_of_le a)

  pub all_valid_from : (n i : ℕ) → ((k : ℕ) → i ≤ k → k < i + n → valid_segment codes (segment_at keys heard k) ≡ true)
      → all_valid codes (segments_from keys heard i n) ≡ true
  unfolding segments_from all_valid
  all_valid_from zero i f = refl
  all_valid_from (suc n) i f = and_both (f i (omega arith) (omega arith)) (all_valid_from n (suc i) (λ k a b. f k (omega arith) (omega arith)))

module _ (keys heard : List ℕ) where
  pub rising_from : (n i : ℕ) → ((k : ℕ) → i ≤ k → k + 1 < i + n → before (segment_at keys heard k) (segment_at keys heard (k + 1)) ≡ true)
      → rising (segments_from keys heard i n) ≡ true
  unfolding segments_from rising
  rising_from zero i f = refl
  rising_from (suc zero) i f = refl
  rising_from (suc (suc n)) i f =
      and_both (rw (add-one i) at (f i (omega arith) (omega arith))) (rising_from (suc n) (suc i) (λ k a b. f k (omega arith) (omega arith)))

-- a table that stores segments within their ranges holds them
pub held_storing : (codes : Codes) (l : List Segment) (t : Table) → all_valid codes l ≡ true → held (storing l t) ≡ l
held_storing codes l t v = from_places (storing l t).keys (storing l t).heard l 0 (λ k i e h. let q : k ≡ i = omega arith in rw q (stands i h))
  where
    stands : (i : ℕ) → i < length l → segment_at (storing l t).keys (storing l t).heard i ≡ entry l i
    stands i h =
        let w = valid_at codes l v i h in
        rw (in_column key_of l t.keys i h, in_column heard_of l t.heard i h)
        (segment_back (entry l i) (in_below codes (entry l i).code w.code) (omega (arith, w.duration)) (omega (arith, w.quietest)))

-- the tests, one by one
pub record Passed (t : Table) : Type 0 where
  pub few : t.head.count ≤ 128
  pub rises : Rising (held t)
  pub each : all_valid t.head.codes (held t) ≡ true
  pub types : valid_types t.head ≡ true

pub tests_passed : (t : Table) → valid t ≡ true → Passed t
unfolding valid
tests_passed t v =
    let a = and_then _ _ v in
    let b = and_then _ _ a.1 in
    let c = and_then _ _ b.1 in
    record { few = leb-true _ _ a.0; rises = rises (held t) b.0; each = c.0; types = c.1 }

pub passes_if : (t : Table) → Passed t → valid t ≡ true
unfolding valid
passes_if t p = and_both (le-leb t.head.count 128 p.few) (and_both (rises_if (held t) p.rises) (and_both p.each p.types))

pub held_taking : (t : Table) (r : Segment) → valid t ≡ true → valid_segment t.head.codes r ≡ true → held (taking t r) ≡ put r (held t)
held_taking t r s v = held_storing t.head.codes (put r (held t)) t (put_valid t.head.codes r (held t) v (tests_passed t s).each)

-- room for the report: fewer than 128 are held, or its pair is one of them
pub room : (t : Table) (r : Segment) → valid t ≡ true → no_room t r ≡ false → length (put r (held t)) ≤ 128
room t r s h = go (holds r (held t)) refl (eqb t.head.count 128) refl h
  where
    p : Passed t
    p = tests_passed t s

    long : length (held t) ≡ t.head.count
    long = held_length t

    go : (b : Bool) → holds r (held t) ≡ b → (c : Bool) → eqb t.head.count 128 ≡ c → (c && not b) ≡ false → length (put r (held t)) ≤ 128
    go true e c f h = omega (arith, put_known r (held t) p.rises e, long, p.few)
    go false e true f h = absurd (false≢true (sym h))
    go false e false f h = omega (arith, put_new r (held t) e, long, p.few, eqb-false t.head.count 128 f)

pub taking_valid : (t : Table) (r : Segment) → valid t ≡ true → valid_segment t.head.codes r ≡ true → length (put r (held t)) ≤ 128 → valid (taking t r) ≡ true
taking_valid t r s v h = passes_if (taking t r) (record {
  few = h;
  rises = rw (held_taking t r s v) (put_rising r (held t) p.rises);
  each = rw (held_taking t r s v) (put_valid t.head.codes r (held t) v p.each);
  types = p.types;
})
  where
    p : Passed t
    p = tests_passed t s
