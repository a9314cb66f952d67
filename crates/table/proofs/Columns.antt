-- The columns of a table and the segments held: the keys of what is held, and each column after a segment is changed or put in.
use Prim.Native.Nat.{ℕ, zero, suc, ◌+◌, ◌≤◌, ◌<◌}
use mathlib.Core.Path.{◌≡◌, refl, sym, ◌∙◌, ap}
use mathlib.Core.List.{List, [], ◌∷◌, ◌++◌, map}
use native.Mathlib.Omega.{arith}
use lib.ListN.{length, get_or, set, take, drop, take-append-drop, length-set}
use lib.Seq.{set-append_left, drop-cons, length-take-le}
use Rattle.model.specs.declared.Segment.{Segment}
use Rattle.model.specs.declared.Table.{Table}
use Rattle.model.specs.Search.{entry}
use Rattle.model.specs.Table.{key_of, segment_of, segment_at, segments_from, held, place}
use Rattle.theorems.proofs.Order.{Alike}
use Rattle.theorems.proofs.Numbers.{key_back}
use Rattle.theorems.proofs.Tables.{held_at}
use Rattle.table.specs.Columns.{inserted_at}

-- THE KEYS OF WHAT IS HELD

-- the pair at place i is the one of key k exactly if k is its key
module _ (t : Table) (i : ℕ) (h : i < t.head.count) (k w : ℕ) where
  key_at : key_of (entry (held t) i) ≡ get_or t.keys i 0
  key_at = ap key_of (held_at t i h) ∙ key_back (get_or t.keys i 0) (get_or t.heard i 0)

  code_at : (entry (held t) i).code < 256
  code_at = rw (held_at t i h) (omega arith)

  pub key_alike : get_or t.keys i 0 ≡ k → Alike (segment_of k w) (entry (held t) i)
  key_alike e = record { offset = omega (arith, key_at, code_at); code = omega (arith, key_at, code_at) }

  pub alike_key : Alike (segment_of k w) (entry (held t) i) → get_or t.keys i 0 ≡ k
  alike_key a = omega (arith, key_at, key_back k w)

-- ONE COLUMN

map_set : {A B : Type 0} (f : A → B) (l : List A) (i : ℕ) (x : A) → map f (set l i x) ≡ set (map f l) i (f x)
map_set f [] i x = refl
map_set f (a ∷ l) zero x = refl
map_set f (a ∷ l) (suc i) x = ap (λ (m : List _). f a ∷ m) (map_set f l i x)

map_in : {A B : Type 0} (f : A → B) (l : List A) (i : ℕ) (x : A) → map f (take i l ++ (x ∷ drop i l)) ≡ take i (map f l) ++ (f x ∷ drop i (map f l))
map_in f [] zero x = refl
map_in f [] (suc i) x = refl
map_in f (a ∷ l) zero x = refl
map_in f (a ∷ l) (suc i) x = ap (λ (m : List _). f a ∷ m) (map_in f l i x)

pub length_in : {A : Type 0} (l : List A) (i : ℕ) (x : A) → length (take i l ++ (x ∷ drop i l)) ≡ suc (length l)
length_in [] zero x = refl
length_in [] (suc i) x = refl
length_in (a ∷ l) zero x = refl
length_in (a ∷ l) (suc i) x = ap suc (length_in l i x)

-- a column l has the values f of a table's segments
module _ (f : Segment → ℕ) (t : Table) (l : List ℕ) (is : (i : ℕ) → f (segment_at t.keys t.heard i) ≡ get_or l i 0)
    (long : length l ≡ 128) (few : t.head.count ≤ 128) where
  column_from : (i n : ℕ) → i + n ≤ 128 → map f (segments_from t.keys t.heard i n) ≡ take n (drop i l)
  unfolding segments_from
  column_from i zero h = refl
  column_from i (suc n) h =
      let e : drop i l ≡ get_or l i 0 ∷ drop (suc i) l = drop-cons l i 0 (omega arith) in
      rw (e, is i) (ap (λ (m : List ℕ). get_or l i 0 ∷ m) (column_from (suc i) n (omega arith)))

  column : map f (held t) ≡ take t.head.count l
  column = column_from 0 t.head.count (omega arith)

  abbrev held_here : List ℕ
  held_here = take t.head.count l

  long_here : length held_here ≡ t.head.count
  long_here = length-take-le t.head.count l (omega arith)

  pub column_stored : (i : ℕ) (m : Segment) → i < t.head.count → place (map f (set (held t) i m)) l ≡ set l i (f m)
  column_stored i m h =
      let e : map f (set (held t) i m) ≡ set held_here i (f m) = map_set f (held t) i m ∙ rw column in
      let k : length (set held_here i (f m)) ≡ t.head.count = length-set held_here i (f m) ∙ long_here in
      rw (e, k) (sym (set-append_left held_here (drop t.head.count l) i (f m) (omega (arith, long_here))) ∙ rw (take-append-drop t.head.count l))

  pub column_inserted : (i : ℕ) (r : Segment) → place (map f (take i (held t) ++ (r ∷ drop i (held t)))) l ≡ inserted_at i (f r) t.head.count l
  unfolding inserted_at
  column_inserted i r =
      let e : map f (take i (held t) ++ (r ∷ drop i (held t))) ≡ take i held_here ++ (f r ∷ drop i held_here) = map_in f (held t) i r ∙ rw column in
      let k : length (take i held_here ++ (f r ∷ drop i held_here)) ≡ t.head.count + 1 = length_in held_here i (f r) ∙ omega (arith, long_here) in
      rw (e, k)
