-- Each way through the definitions of Places, as a law over two columns and their places.
use Prim.Native.Nat.{ℕ, suc, ◌+◌, ◌-◌, ◌*◌, ◌≤◌, ◌<◌, ◌%◌, min, max}
use mathlib.Core.Path.{◌≡◌, refl, sym, ◌∙◌, ap, ap₂}
use mathlib.Core.Bool.{Bool, true, false, not, cond, ◌&&◌}
use mathlib.Core.List.{List, [], ◌∷◌}
use native.Mathlib.Numerals.{add-one}
use native.Mathlib.Omega.{arith}
use mir.Val.{bool_byte}
use borrow.Author.Rules.{rules}
use borrow.Author.Tests.{eq-eqb, ne_eqb, not-true, not-false}
use lib.Dec.{eqb}
use lib.ListN.{length, get_or}
use Rattle.model.specs.declared.Segment.{Segment}
use Rattle.model.specs.declared.Head.{Head}
use Rattle.model.specs.declared.Event.{Event}
use Rattle.model.specs.Table.{segment_at, segments_from, table_of, valid}
use Rattle.model.specs.Events.{units, loudest, quietest, last_ended, event_of, continues, continues_nearest, continuing, events_from}
use Rattle.theorems.proofs.Tables.{Passed, tests_passed, valid_then, valid_from}
use Rattle.joining.specs.Joining.{lengthened}
use Rattle.grouping.specs.Places.{InRanges, earlier, begins, later, event_from, events_after, events_in}

-- AN EVENT AND SEGMENTS THAT CONTINUE IT

-- an event that segments continue, one after another
abbrev pub grown : Event → List Segment → Event
grown v [] = v
grown v (s ∷ ts) = grown (lengthened v s) ts

grown_by : (v : Event) (s : Segment) (ts : List Segment)
    → grown v (s ∷ ts)
    ≡ record {
      code = v.code;
      start = v.start;
      length = v.length + units s ts;
      volume = min v.volume (loudest s ts);
      quietest = max v.quietest (quietest s ts);
      began = v.began;
      ended = last_ended s ts;
    }
unfolding units loudest quietest last_ended
grown_by v s [] = refl
grown_by v s (u ∷ us) =
    let l : v.length + s.duration + units u us ≡ v.length + (s.duration + units u us) = omega arith in
    let m : min (min v.volume s.volume) (loudest u us) ≡ min v.volume (min s.volume (loudest u us)) = omega arith in
    let q : max (max v.quietest s.quietest) (quietest u us) ≡ max v.quietest (max s.quietest (quietest u us)) = omega arith in
    grown_by (lengthened v s) u us
    ∙ (λ i. record {
      code = v.code;
      start = v.start;
      length = l i;
      volume = m i;
      quietest = q i;
      began = v.began;
      ended = last_ended u us;
    })

grown_alone : (s : Segment) (ts : List Segment) → grown (event_of s []) ts ≡ event_of s ts
unfolding units loudest quietest last_ended
grown_alone s [] = refl
grown_alone s (t ∷ ts) = grown_by (event_of s []) t ts

cond_same : {A : Type 0} (b : Bool) {x y z : A} → x ≡ z → y ≡ z → cond b x y ≡ z
cond_same true e f = e
cond_same false e f = f

-- a marked segment continues none
marked_none : (l : List Segment) (s : Segment) → s.marked ≡ true → continues_nearest l s ≡ false
unfolding continues_nearest
marked_none [] s h = refl
marked_none (p ∷ ps) s h = cond_same (eqb p.code s.code) (rw h) (marked_none ps s h)

-- nothing continues a segment with E
ended_not : (p s : Segment) → p.ended ≡ true → continues p s ≡ false
ended_not p s h = go (not s.marked)
  where
    go : (b : Bool) → (b && (not p.ended && eqb (p.offset + p.duration) s.offset)) ≡ false
    go true = rw h
    go false = refl

ended_none : (s : Segment) (l : List Segment) → s.ended ≡ true → continuing s l ≡ []
unfolding continuing
ended_none s [] h = refl
ended_none s (t ∷ ts) h = cond_same (eqb s.code t.code) (rw (ended_not s t h)) (ended_none s ts h)

cond_not : {A : Type 0} (b : Bool) (x y : A) → cond b x y ≡ cond (not b) y x
cond_not true x y = refl
cond_not false x y = refl

module _ (keys heard : List ℕ) where
  -- THE PLACES

  pub in_ranges : (head : Head) → valid (table_of head keys heard) ≡ true → InRanges keys heard head.count
  in_ranges head v = record { few = p.few; each = near }
    where
      p : Passed (table_of head keys heard)
      p = tests_passed (table_of head keys heard) v

      near : (i : ℕ) → i < head.count → get_or keys i 0 < 0x100_0000_0000
      near i h =
          let s = valid_then head.codes (segment_at keys heard i)
          (valid_from head.codes keys heard head.count 0 p.each i (omega arith) (omega arith)) in
          omega (arith, s.offset)

  pub fewer : (n i : ℕ) → InRanges keys heard n → i < n → InRanges keys heard (i + 1)
  fewer n i r h = record { few = omega (arith, r.few); each = λ j l. r.each j (omega arith) }

  -- the segments from a place on
  abbrev rest : ℕ → ℕ → List Segment
  rest n i = segments_from keys heard i (n - i)

  first : (n i : ℕ) → i < n → rest n i ≡ segment_at keys heard i ∷ later keys heard n i
  unfolding segments_from
  first n i h = let z : n - i ≡ suc (n - (i + 1)) = omega arith in rw (z, add-one i)

  none_left : (n i : ℕ) → n ≤ i → rest n i ≡ []
  unfolding segments_from
  none_left n i h = let z : n - i ≡ 0 = omega arith in rw z

  -- LOOKING BACK

  -- whether the segment at place i begins an event: those before place j decide, since none from there on has its code
  pub record Looking (i j : ℕ) : Type 0 where
    pub within : j ≤ i
    pub same : not (continues_nearest (earlier keys heard j) (segment_at keys heard i)) ≡ begins keys heard i

  module _ (i : ℕ) where
    pub look_marked : (s : Segment) → s ≡ segment_at keys heard i → s.marked ≡ true → true ≡ begins keys heard i
    unfolding begins
    look_marked s e h = sym (ap not (marked_none (earlier keys heard i) (segment_at keys heard i) (rw e at h)))

    pub look_starts : Looking i i
    unfolding begins
    look_starts = record { within = omega arith; same = refl }

    module _ (j : ℕ) (w : Looking i j) where
      pub look_ends : j ≤ 0 → true ≡ begins keys heard i
      unfolding continues_nearest earlier
      look_ends h = let z : j ≡ 0 = omega arith in rw z at w.same

      module _ (some : 0 < j) where
        back : not (continues_nearest (segment_at keys heard (j - 1) ∷ earlier keys heard (j - 1)) (segment_at keys heard i))
            ≡ begins keys heard i
        unfolding earlier
        back =
            let z : j ≡ suc (j - 1) = omega arith in
            ap (λ (n : ℕ). not (continues_nearest (earlier keys heard n) (segment_at keys heard i))) (sym z) ∙ w.same

        pub look_passes : (get_or keys (j - 1) 0 % 256 ≡ get_or keys i 0 % 256 → ⊥) → Looking i (j - 1)
        unfolding continues_nearest
        look_passes e = record {
          within = omega (arith, w.within);
          same = rw (ne_eqb (get_or keys (j - 1) 0 % 256) (get_or keys i 0 % 256) e) at back;
        }

        pub look_met : get_or keys (j - 1) 0 % 256 ≡ get_or keys i 0 % 256 → (p s : Segment) → p ≡ segment_at keys heard (j - 1)
            → s ≡ segment_at keys heard i → (r : Bool) → r ≡ continues p s → not r ≡ begins keys heard i
        unfolding continues_nearest
        look_met e p s f g r h =
            ap not (h ∙ ap₂ continues f g)
            ∙ (rw (eq-eqb (get_or keys (j - 1) 0 % 256) (get_or keys i 0 % 256) e) at back)

  -- ONE EVENT

  -- the event of place i, so far: what continues its last segment from place j on makes it whole
  pub record Growing (n i j : ℕ) (v : Event) (last : Segment) : Type 0 where
    pub reach : j ≤ n
    pub code : last.code ≡ get_or keys i 0 % 256
    pub long : v.length ≤ j * 65535
    pub event : grown v (continuing last (rest n j)) ≡ event_from keys heard n i

  module _ (n i : ℕ) where
    pub event_starts : i < n → (s : Segment) → s ≡ segment_at keys heard i → (v : Event) → v ≡ event_of s [] → v.length ≤ 65535
        → Growing n i (i + 1) v s
    unfolding event_from
    event_starts h s e v f l = record {
      reach = omega arith;
      code = ap (λ (x : Segment). x.code) e;
      long = omega arith;
      event = rw (f, e) (grown_alone (segment_at keys heard i) (continuing (segment_at keys heard i) (later keys heard n i)));
    }

    pub event_ended : (s : Segment) → s ≡ segment_at keys heard i → s.ended ≡ true → (v : Event) → v ≡ event_of s []
        → v ≡ event_from keys heard n i
    unfolding event_from
    event_ended s e h v f =
        f ∙ ap (λ (x : Segment). event_of x []) e
        ∙ ap (event_of (segment_at keys heard i)) (sym (ended_none (segment_at keys heard i) (later keys heard n i) (rw e at h)))

    module _ (j : ℕ) (v : Event) (last : Segment) (w : Growing n i j v last) where
      pub event_ends : n ≤ j → v ≡ event_from keys heard n i
      unfolding continuing
      event_ends h = rw (none_left n j h) at w.event

      module _ (less : j < n) where
        here : grown v (continuing last (segment_at keys heard j ∷ later keys heard n j)) ≡ event_from keys heard n i
        here = rw (first n j less) at w.event

        pub event_passes : (v' : Event) (last' : Segment) → v' ≡ v → last' ≡ last → (get_or keys j 0 % 256 ≡ get_or keys i 0 % 256 → ⊥)
            → Growing n i (j + 1) v' last'
        unfolding continuing
        event_passes v' last' f g e = rw (f, g) (record {
          reach = omega arith;
          code = w.code;
          long = omega (arith, w.long);
          event = rw (ne_eqb last.code (get_or keys j 0 % 256) (λ x. e (sym x ∙ w.code))) at here;
        })

        module _ (e : get_or keys j 0 % 256 ≡ get_or keys i 0 % 256) (s : Segment) (at_j : s ≡ segment_at keys heard j)
            (r : Bool) (test : r ≡ continues last s) where
          same : eqb last.code (get_or keys j 0 % 256) ≡ true
          same = eq-eqb last.code (get_or keys j 0 % 256) (w.code ∙ sym e)

          tested : r ≡ continues last (segment_at keys heard j)
          tested = test ∙ ap (continues last) at_j

          pub event_stops : not r ≡ true → v ≡ event_from keys heard n i
          unfolding continuing
          event_stops x = rw (same, sym tested ∙ not-true r x) at here

          pub event_grows : not r ≡ false → (u : Event) → u ≡ lengthened v s → u.length ≤ v.length + 65535
              → (u' : Event) (s' : Segment) → u' ≡ u → s' ≡ s → Growing n i (j + 1) u' s'
          unfolding continuing
          event_grows x u f l u' s' g h = rw (g, h) (record {
            reach = omega arith;
            code = ap (λ (y : Segment). y.code) at_j ∙ e;
            long = omega (arith, w.long);
            event = rw (f, at_j) (rw (same, sym tested ∙ not-false r x) at here);
          })

  -- THE EVENTS BY NUMBER

  pub all_after : (n : ℕ) → events_after keys heard n 0 ≡ events_in keys heard n
  unfolding earlier events_after
  all_after n = let z : n - 0 ≡ n = omega arith in rw z

  pub none_after : (n i : ℕ) → n ≤ i → events_after keys heard n i ≡ []
  unfolding events_from events_after
  none_after n i h = rw (none_left n i h)

  by_test : (n i : ℕ) → i < n
      → events_after keys heard n i
      ≡ cond (begins keys heard i) (event_from keys heard n i ∷ events_after keys heard n (i + 1)) (events_after keys heard n (i + 1))
  unfolding earlier begins event_from events_from events_after
  by_test n i h =
      rw (add-one i, first n i h, add-one i)
      (cond_not (continues_nearest (earlier keys heard i) (segment_at keys heard i)) _ _)

  module _ (n i : ℕ) (h : i < n) (b : Bool) (is : b ≡ begins keys heard i) where
    pub begun : b ≡ true → events_after keys heard n i ≡ event_from keys heard n i ∷ events_after keys heard n (i + 1)
    begun e = rw (sym is ∙ e) at (by_test n i h)

    pub passed : b ≡ false → events_after keys heard n i ≡ events_after keys heard n (i + 1)
    passed e = rw (sym is ∙ e) at (by_test n i h)

  -- `count` events begin before place i
  pub record Counting (n i count : ℕ) : Type 0 where
    pub few : count ≤ i
    pub sum : count + length (events_after keys heard n i) ≡ length (events_in keys heard n)

  pub count_starts : (n : ℕ) → Counting n 0 0
  count_starts n = record { few = omega arith; sum = omega (arith, ap length (all_after n)) }

  module _ (n i count : ℕ) (w : Counting n i count) where
    pub count_ends : n ≤ i → count ≡ length (events_in keys heard n)
    count_ends h = omega (arith, w.sum, ap length (none_after n i h))

    pub count_goes_on : i < n → (b : Bool) → b ≡ begins keys heard i → (m : ℕ) → m ≡ bool_byte b → Counting n (i + 1) (count + m)
    count_goes_on less true is m e =
        record { few = omega (arith, e, w.few); sum = omega (arith, e, w.sum, ap length (begun n i less true is refl)) }
    count_goes_on less false is m e =
        record { few = omega (arith, e, w.few); sum = omega (arith, e, w.sum, ap length (passed n i less false is refl)) }

pub ruleset grouping = (
  rules,
  look_marked,
  look_starts,
  look_ends,
  look_passes,
  look_met,
  event_starts,
  event_ended,
  event_ends,
  event_stops,
  count_starts,
  count_ends,
  count_goes_on,
)
