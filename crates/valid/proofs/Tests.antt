-- The tests of refusal 16: a table passes them exactly if its head and each of its columns does.
use Rattle.std.proofs.Common.{◌≡◌, ℕ, ◌+◌, ◌%◌, ◌<◌, ◌≤◌, Bool, true, false, cond, not, eqb, leb, List, length, get_or, take, Option, Some, None, sym, refl, ◌∙◌, arith, ltb-true, lt-ltb, eq-eqb, ne_eqb, le-leb}
use mathlib.Core.Bool.{and-false, false≢true}
use borrow.Author.Tests.{lt-leb, not-true, not-false}
use Rattle.model.specs.declared.Head.{Head}
use Rattle.model.specs.declared.Table.{Table}
use Rattle.model.specs.Segments.{before, rising}
use Rattle.model.specs.Table.{is_for_both, types_differ, key_of, segment_at, held, table_of, valid_segment, all_valid, valid_types, valid}
use Rattle.refusals.proofs.Tests.{and_both}
use Rattle.theorems.proofs.Order.{◌≺◌, before_if}
use Rattle.theorems.proofs.Numbers.{key_back}
use Rattle.theorems.proofs.Places.{entries_rise}
use Rattle.theorems.proofs.Tables.{ValidSegment, valid_then, valid_if, tests_passed, held_length, held_at, valid_from, all_valid_from, rising_from}
use Rattle.valid.specs.Passes.{CodesPass, HeardPass, Tells, Ranks, AllButCodes, Highest}
use Rattle.valid.proofs.Firsts.{FirstKeys, FirstHeard, FirstCodes, keys_there, keys_alone, heard_there, heard_alone, codes_there, codes_alone}
use Rattle.valid.proofs.Coded.{all_are_low}
use Rattle.segment.proofs.Keys.{before_key}

pub too_many : (t : Table) → 128 < t.head.count → false ≡ valid t
unfolding valid
too_many t h = rw (lt-leb t.head.count 128 h)

-- THE TYPES

module _ (h : Head) where
  -- of a table for one type, and of a table for both
  pub type_high : 127 < h.payload_type → false ≡ valid_types h
  type_high k = go (is_for_both h)
    where
      go : (b : Bool) → false ≡ cond b (types_differ h.payload_type h.redundant_type) (leb h.payload_type 127)
      go true = rw (lt-leb h.payload_type 127 k)
      go false = rw (lt-leb h.payload_type 127 k)

  module _ (low : h.payload_type ≤ 127) where
    pub one_type : h.both_types ≡ 0 → true ≡ valid_types h
    one_type e = rw (eq-eqb h.both_types 0 e, le-leb h.payload_type 127 low)

    module _ (both : h.both_types ≡ 0 → ⊥) where
      pub redundant_high : 127 < h.redundant_type → false ≡ valid_types h
      redundant_high k = rw (ne_eqb h.both_types 0 both, le-leb h.payload_type 127 low, lt-leb h.redundant_type 127 k)

      pub both_tested : h.redundant_type ≤ 127 → not (eqb h.payload_type h.redundant_type) ≡ valid_types h
      both_tested k = rw (ne_eqb h.both_types 0 both, le-leb h.payload_type 127 low, le-leb h.redundant_type 127 k)

pub wrong_types : (t : Table) → t.head.count ≤ 128 → (b : Bool) → b ≡ valid_types t.head → not b ≡ true → false ≡ valid t
unfolding valid
wrong_types t h b is k =
    rw (le-leb t.head.count 128 h, sym is ∙ not-true b k, and-false (all_valid t.head.codes (held t)), and-false (rising (held t)))

-- THE COLUMNS

-- a table passes all tests but that of its codes
module _ (h : Head) (keys heard : List ℕ) where
  abbrev table : Table
  table = table_of h keys heard

  module _ (v : valid table ≡ true) where
    at_place : (i : ℕ) → i < h.count → ValidSegment h.codes (segment_at keys heard i)
    at_place i l =
        valid_then h.codes (segment_at keys heard i)
        (valid_from h.codes keys heard h.count 0 (tests_passed table v).each i (omega arith) (omega arith))

    valid_keys : FirstKeys keys h.count
    valid_keys = record {
      near = λ i l. omega (arith, (at_place i l).offset);
      rise = λ i l. rw (key_back (get_or keys i 0) (get_or heard i 0), key_back (get_or keys (i + 1) 0) (get_or heard (i + 1) 0)) at (keys_rise i l);
    }
      where
        rises_there : (i : ℕ) → i + 1 < h.count → segment_at keys heard i ≺ segment_at keys heard (i + 1)
        rises_there i l =
            rw (held_at table i (omega arith), held_at table (i + 1) l) at
            (entries_rise (held table) (tests_passed table v).rises i (i + 1) (omega arith) (omega (arith, held_length table)))

        keys_rise : (i : ℕ) → i + 1 < h.count → key_of (segment_at keys heard i) < key_of (segment_at keys heard (i + 1))
        keys_rise i l =
            ltb-true _ _ (sym (before_key (segment_at keys heard i) (segment_at keys heard (i + 1)) (omega arith) (omega arith)) ∙ before_if (rises_there i l))

    valid_heard : FirstHeard heard h.count
    valid_heard = record {
      each = λ i l. let s = at_place i l in record { long = s.some; ordered = s.volume };
    }

    valid_codes : FirstCodes h.codes keys h.count
    valid_codes = record { each = λ i l. (at_place i l).code }

  module _ (k : FirstKeys keys h.count) (w : FirstHeard heard h.count) where
    place_valid : FirstCodes h.codes keys h.count → (i : ℕ) → i < h.count → valid_segment h.codes (segment_at keys heard i) ≡ true
    place_valid c i l = valid_if h.codes (segment_at keys heard i) (record {
      offset = omega (arith, k.near i l);
      code = c.each i l;
      some = (w.each i l).long;
      duration = omega arith;
      volume = (w.each i l).ordered;
      quietest = omega arith;
    })

    place_rises : (i : ℕ) → i + 1 < h.count → before (segment_at keys heard i) (segment_at keys heard (i + 1)) ≡ true
    place_rises i l =
        before_key (segment_at keys heard i) (segment_at keys heard (i + 1)) (omega arith) (omega arith)
        ∙ lt-ltb _ _ (rw (← key_back (get_or keys i 0) (get_or heard i 0), ← key_back (get_or keys (i + 1) 0) (get_or heard (i + 1) 0)) at (k.rise i l))

    all_pass : h.count ≤ 128 → valid_types h ≡ true → FirstCodes h.codes keys h.count → valid table ≡ true
    unfolding valid
    all_pass few types c =
        and_both (le-leb h.count 128 few) (and_both (rising_from keys heard h.count 0 (λ i a b. place_rises i (omega arith)))
        (and_both (all_valid_from h.codes keys heard h.count 0 (λ i a b. place_valid c i (omega arith))) types))

  -- 16 if a table fails a test that is asked of it
  fails_unless : (P : Type 0) → (valid table ≡ true → P) → (P → ⊥) → false ≡ valid table
  fails_unless P f n = go (valid table) refl
    where
      go : (v : Bool) → valid table ≡ v → false ≡ v
      go true q = absurd (n (f q))
      go false q = refl

  pub too_many_held : 128 < h.count → Highest table None
  too_many_held l = too_many table l

  module _ (few : h.count ≤ 128) (d : Bool) (is : d ≡ valid_types h) where
    pub types_fail : not d ≡ true → Highest table None
    types_fail x = wrong_types table few d is x

    module _ (x : not d ≡ false) (keys_long : length keys ≡ 128) (heard_long : length heard ≡ 128) where
      keys_within : h.count ≤ length keys
      keys_within = omega arith

      heard_within : h.count ≤ length heard
      heard_within = omega arith

      pub keys_fail : Ranks (take h.count keys) None → Highest table None
      keys_fail r = fails_unless (FirstKeys keys h.count) valid_keys (λ k. r (keys_alone keys h.count keys_within k))

      module _ (m : ℕ) (r : Ranks (take h.count keys) (Some m)) (c : Bool) (u : Tells c (HeardPass (take h.count heard))) where
        pub heard_fail : not c ≡ true → Highest table None
        heard_fail y =
            fails_unless (FirstHeard heard h.count) valid_heard
            (λ w. false≢true (sym (not-true c y) ∙ u.if (heard_alone heard h.count heard_within w)))

        pub codes_left : not c ≡ false → Highest table (Some m)
        codes_left y = record { few = few; most = r.1; decides = decide }
          where
            decide : (b : Bool) → Tells b (CodesPass h.codes (take h.count keys)) → b ≡ valid table
            decide true s =
                sym (all_pass (keys_there keys h.count keys_within r.0) (heard_there heard h.count heard_within (u.then (not-false c y))) few
                (sym is ∙ not-false d x) (codes_there keys h.count keys_within h.codes (s.then refl)))
            decide false s =
                fails_unless (FirstCodes h.codes keys h.count) valid_codes
                (λ p. false≢true (s.if (codes_alone keys h.count keys_within h.codes p)))

-- BY THE HIGHEST CODE

pub few_held : (h : Head) (keys heard : List ℕ) (m : ℕ) → Highest (table_of h keys heard) (Some m) → length keys ≡ 128 → h.count ≤ length keys
few_held h keys heard m w long = omega (arith, w.few)

module _ (t : Table) where
  pub none_passes : Highest t None → false ≡ valid t
  none_passes w = w

  module _ (o : Option ℕ) (w : Highest t o) (m : ℕ) (is : o ≡ Some m) where
    here : AllButCodes t m
    here = rw is at w

    pub all_keys : m < 16 → t.head.codes.from_0 % 65536 ≡ 65535 → true ≡ valid t
    all_keys h e = here.decides true (all_are_low t.head.codes (take t.head.count t.keys) m here.most h e)

    pub by_codes : (b : Bool) → Tells b (CodesPass t.head.codes (take t.head.count t.keys)) → b ≡ valid t
    by_codes = here.decides
