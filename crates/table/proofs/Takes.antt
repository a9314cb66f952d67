-- A report taken into the columns: the place that the search finds is that of the model's `put`, and each column changes there.
use Prim.Native.Nat.{ℕ, ◌+◌, ◌≤◌, ◌<◌}
use mathlib.Core.Path.{◌≡◌, sym, ◌∙◌, ap}
use mathlib.Core.Bool.{Bool, true, false, not, ◌&&◌, and-false, false≢true}
use mathlib.Core.List.{List, ◌∷◌, ◌++◌, map}
use native.Mathlib.Omega.{arith}
use borrow.Author.Tests.{lt-ltb, ltb-true, eqb-true, eq-eqb, ne_eqb}
use lib.Dec.{ltb, eqb}
use lib.ListN.{length, get_or, set, take, drop, length-set}
use lib.Seq.{set-get_or}
use Rattle.model.specs.declared.Segment.{Segment}
use Rattle.model.specs.declared.Table.{Table}
use Rattle.model.specs.declared.Head.{Head}
use Rattle.model.specs.declared.Received.{Received}
use Rattle.model.specs.Segments.{merge}
use Rattle.model.specs.Search.{entry, search}
use Rattle.model.specs.Table.{key_of, heard_of, segment_of, segment_at, held, table_of, holding, place, valid, holds, no_room, put, taking}
use Rattle.std.specs.Prelude.{Ok, Err}
use Rattle.refusals.proofs.Tests.{and_then}
use Rattle.theorems.proofs.Order.{Alike}
use Rattle.theorems.proofs.Numbers.{key_back, heard_back}
use Rattle.theorems.proofs.Places.{Belongs, stands_held, stands_put, belongs_held, belongs_put}
use Rattle.theorems.proofs.Search.{finds}
use Rattle.theorems.proofs.Tables.{Passed, tests_passed, held_length, held_at}
use Rattle.searching.specs.declared.Sought.{Sought}
use Rattle.searching.specs.Seeks.{place_in, is_held, Seeks}
use Rattle.searching.proofs.Windows.{SeeksIn, seeks_in}
use Rattle.table.specs.Columns.{Takes, inserted_at, taken_into}
use Rattle.table.proofs.Columns.{key_alike, alike_key, length_in, column_stored, column_inserted}

pub count_within : (h : Head) (keys heard : List ℕ) → valid (table_of h keys heard) ≡ true → length keys ≡ 128 → h.count ≤ length keys
count_within h keys heard passes long = omega (arith, (tests_passed (table_of h keys heard) passes).few)

module _ (h : Head) (keys heard : List ℕ) (k w : ℕ) where
  abbrev t : Table
  t = table_of h keys heard

  abbrev r : Segment
  r = segment_of k w

  module _ (passes : valid t ≡ true) (long : length keys ≡ 128) (s : Sought) (among : Seeks (take h.count keys) k s) where
    abbrev p : ℕ
    p = place_in s.place

    l : SeeksIn keys 0 h.count k s
    l = seeks_in keys 0 h.count k s (omega (arith, count_within h keys heard passes long)) among

    same_probes : (search r (held t)).probes ≡ s.probes
    same_probes = λ i. (sym (l.found heard w) i).probes

    stands : is_held s.place ≡ (ltb p h.count && eqb (get_or keys p 0) k)
    stands = let here : 0 + p ≡ p = omega arith in rw here at l.there

    tests : Passed t
    tests = tests_passed t passes

    here : Belongs r (held t) p
    here = let e : p ≡ (search r (held t)).place = λ i. (l.found heard w i).place in rw e (finds r (held t) tests.rises)

    within : p ≤ h.count
    within = omega (arith, here.within, held_length t)

    takes : no_room t r ≡ false → (new : Bool) → not (holds r (held t)) ≡ new → (n : ℕ) (keys' heard' : List ℕ)
        → taking t r ≡ table_of (holding n h) keys' heard'
        → (a : Received) → a ≡ record { refusal = 0; is_new = new; count = n; probes = s.probes } → Takes h keys heard k w a keys' heard'
    unfolding taken_into
    takes room new e n keys' heard' q a is =
        let c : length (put r (held t)) ≡ n = λ i. (q i).head.count in
        record { answer = is ∙ rw (room, e, c, same_probes); table = rw (room, q, is) }

    -- the report's pair is held there
    module _ (yes : is_held s.place ≡ true) where
      there : (p < h.count) × (get_or keys p 0 ≡ k)
      there = let q = and_then (ltb p h.count) (eqb (get_or keys p 0) k) (sym (stands) ∙ yes) in (ltb-true _ _ q.0, eqb-true _ _ q.1)

      alike : Alike r (entry (held t) p)
      alike = key_alike t p there.0 k w there.1

      inside : p < length (held t)
      inside = omega (arith, held_length t, there.0)

      abbrev m : Segment
      m = merge r (segment_at keys heard p)

      put_there : put r (held t) ≡ set (held t) p m
      put_there = stands_put r (held t) p here inside alike ∙ ap (λ (s : Segment). set (held t) p (merge r s)) (held_at t p there.0)

      merges : length keys ≡ 128 → length heard ≡ 128 → taking t r ≡ table_of h keys (set heard p (heard_of m))
      merges keys_long heard_long = rw put_there (λ x. record {
        head = holding ((length-set (held t) p m ∙ held_length t) x) h;
        keys = (column_stored key_of t keys (λ i. key_back (get_or keys i 0) (get_or heard i 0)) keys_long tests.few p m there.0 ∙ same_key) x;
        heard = column_stored heard_of t heard (λ i. heard_back (get_or keys i 0) (get_or heard i 0)) heard_long tests.few p m there.0 x;
      })
        where
          same_key : set keys p (key_of m) ≡ keys
          same_key = ap (set keys p) (key_back (get_or keys p 0) (get_or heard p 0)) ∙ set-get_or keys p 0

      known_at : length keys ≡ 128 → length heard ≡ 128 → (heard' : List ℕ) → heard' ≡ set heard p (heard_of m)
          → (a : Received) → a ≡ record { refusal = 0; is_new = false; count = h.count; probes = s.probes } → Takes h keys heard k w a keys heard'
      known_at keys_long heard_long heard' e =
          let q : holds r (held t) ≡ true = stands_held r (held t) p here inside alike in
          takes (rw (q, and-false (eqb h.count 128))) false (rw q) h.count keys heard' (rw e (merges keys_long heard_long))

    -- it is not held
    module _ (no : is_held s.place ≡ false) where
      other : p < length (held t) → Alike r (entry (held t) p) → ⊥
      other u a =
          let v : p < h.count = omega (arith, held_length t) in
          absurd (false≢true (sym no ∙ stands ∙ rw (lt-ltb p h.count v, eq-eqb (get_or keys p 0) k (alike_key t p v k w a))))

      nowhere : holds r (held t) ≡ false
      nowhere = belongs_held r (held t) p here tests.rises other

      full_at : 128 ≤ h.count → (a : Received) → a ≡ record { refusal = 11; is_new = false; count = h.count; probes = s.probes }
          → Takes h keys heard k w a keys heard
      unfolding taken_into
      full_at q a is =
          let e : eqb h.count 128 ≡ true = eq-eqb h.count 128 (omega (arith, tests.few)) in
          record { answer = is ∙ rw (nowhere, e, same_probes); table = rw (nowhere, e, is) }

      inserts : length keys ≡ 128 → length heard ≡ 128 → taking t r ≡ table_of (holding (h.count + 1) h) (inserted_at p k h.count keys) (inserted_at p w h.count heard)
      inserts keys_long heard_long = rw (belongs_put r (held t) p here tests.rises other) (λ x. record {
        head = holding (counted x) h;
        keys = (keys_in ∙ ap (λ (n : ℕ). inserted_at p n h.count keys) (key_back k w)) x;
        heard = (heard_in ∙ ap (λ (n : ℕ). inserted_at p n h.count heard) (heard_back k w)) x;
      })
        where
          counted : length (take p (held t) ++ (r ∷ drop p (held t))) ≡ h.count + 1
          counted = length_in (held t) p r ∙ omega (arith, held_length t)

          keys_in : place (map key_of (take p (held t) ++ (r ∷ drop p (held t)))) keys ≡ inserted_at p (key_of r) h.count keys
          keys_in = column_inserted key_of t keys (λ i. key_back (get_or keys i 0) (get_or heard i 0)) keys_long tests.few p r

          heard_in : place (map heard_of (take p (held t) ++ (r ∷ drop p (held t)))) heard ≡ inserted_at p (heard_of r) h.count heard
          heard_in = column_inserted heard_of t heard (λ i. heard_back (get_or keys i 0) (get_or heard i 0)) heard_long tests.few p r

      new_at : length keys ≡ 128 → length heard ≡ 128 → h.count < 128 → (keys' heard' : List ℕ) → keys' ≡ inserted_at p k h.count keys
          → heard' ≡ inserted_at p w h.count heard
          → (a : Received) → a ≡ record { refusal = 0; is_new = true; count = h.count + 1; probes = s.probes } → Takes h keys heard k w a keys' heard'
      new_at keys_long heard_long q keys' heard' e e' =
          takes (rw (nowhere, ne_eqb h.count 128 (λ e. omega arith))) true (rw nowhere) (h.count + 1) keys' heard' (rw (e, e') (inserts keys_long heard_long))

    -- AT THE PLACE FOUND

    module _ (i : ℕ) (e : s.place ≡ Ok i) where
      pub place_within : length heard ≡ 128 → i < length heard
      place_within heard_long = let x : p ≡ i = ap place_in e in omega (arith, x, (there (ap is_held e)).0, tests.few)

      pub known : length heard ≡ 128 → (heard' : List ℕ) → heard' ≡ set heard i (heard_of (merge r (segment_at keys heard i)))
          → (a : Received) → a ≡ record { refusal = 0; is_new = false; count = h.count; probes = s.probes } → Takes h keys heard k w a keys heard'
      known heard_long heard' q = let x : i ≡ p = sym (ap place_in e) in known_at (ap is_held e) long heard_long heard' (rw x at q)

    module _ (i : ℕ) (e : s.place ≡ Err i) where
      pub full : 128 ≤ h.count → (a : Received) → a ≡ record { refusal = 11; is_new = false; count = h.count; probes = s.probes }
          → Takes h keys heard k w a keys heard
      full = full_at (ap is_held e)

      pub inserts_within : i ≤ h.count
      inserts_within = let x : p ≡ i = ap place_in e in omega (arith, x, within)

      pub new : length heard ≡ 128 → h.count < 128 → (keys' heard' : List ℕ) → keys' ≡ inserted_at i k h.count keys
          → heard' ≡ inserted_at i w h.count heard
          → (a : Received) → a ≡ record { refusal = 0; is_new = true; count = h.count + 1; probes = s.probes } → Takes h keys heard k w a keys' heard'
      new heard_long q keys' heard' y z =
          let x : i ≡ p = sym (ap place_in e) in new_at (ap is_held e) long heard_long q keys' heard' (rw x at y) (rw x at z)
