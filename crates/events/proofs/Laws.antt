-- Where the event at a number begins, and each way through the two calls, as laws over what a table holds.
use Prim.Native.Nat.{ℕ, suc, ◌+◌, ◌-◌, ◌≤◌, ◌<◌}
use mathlib.Core.Path.{◌≡◌, refl, ◌∙◌, ap}
use mathlib.Core.Bool.{Bool, true, false}
use mathlib.Core.List.{List}
use native.Mathlib.Omega.{arith}
use borrow.Author.Rules.{rules}
use borrow.Author.Tests.{le-ltb, ltb-true, ltb-false, ne_eqb}
use lib.Dec.{ltb}
use lib.ListN.{length, get_or, drop}
use Rattle.model.specs.declared.Table.{Table}
use Rattle.model.specs.declared.Event.{Event}
use Rattle.refusals.specs.Refusals.{answered}
use Rattle.model.specs.Answers.{no_event}
use Rattle.model.specs.Table.{valid}
use Rattle.model.specs.List.{events, event_at}
use Rattle.grouping.specs.declared.held.Held.{Held}
use Rattle.grouping.specs.Events.{events_of, events_from}
use Rattle.grouping.specs.Places.{begins, event_from, events_after}
use Rattle.grouping.proofs.Laws.{all_after, none_after, begun, passed}
use Rattle.events.specs.Numbers.{Finds}

-- THE WALK TO AN EVENT

module _ (keys heard : List ℕ) where
  -- event k of those from a place on begins at place i or later, and has the number `left` among those that do
  pub record OnTheWay (n from k i left : ℕ) : Type 0 where
    pub less : i < n
    pub some : left < length (events_after keys heard n i)
    pub event : get_or (events_after keys heard n i) left no_event ≡ get_or (events_after keys heard n from) k no_event
    pub rest : drop (suc left) (events_after keys heard n i) ≡ drop (suc k) (events_after keys heard n from)

  module _ (n from k : ℕ) where
    -- an event still to come begins at some place
    walking : (i left : ℕ) → left < length (events_after keys heard n i)
        → get_or (events_after keys heard n i) left no_event ≡ get_or (events_after keys heard n from) k no_event
        → drop (suc left) (events_after keys heard n i) ≡ drop (suc k) (events_after keys heard n from) → OnTheWay n from k i left
    walking i left h e d = record { less = go (ltb i n) refl; some = h; event = e; rest = d }
      where
        go : (b : Bool) → ltb i n ≡ b → i < n
        go true f = ltb-true i n f
        go false f = absurd (omega (arith, ap length (none_after keys heard n i (ltb-false i n f))))

    pub walk_starts : k < length (events_after keys heard n from) → OnTheWay n from k from k
    walk_starts h = walking from k h refl refl

    module _ (i left : ℕ) (w : OnTheWay n from k i left) (b : Bool) (is : b ≡ begins keys heard i) where
      pub walk_passes : b ≡ false → OnTheWay n from k (i + 1) left
      walk_passes e =
          let same = passed keys heard n i w.less b is e in
          walking (i + 1) left (rw same at w.some) (rw same at w.event) (rw same at w.rest)

      module _ (e : b ≡ true) where
        pub walk_on : (left ≡ 0 → ⊥) → OnTheWay n from k (i + 1) (left - 1)
        walk_on z =
            let one : left ≡ suc (left - 1) = omega arith in
            let first = begun keys heard n i w.less b is e in
            walking (i + 1) (left - 1) (omega (arith, w.some, ap length first))
            (rw (one, first) at w.event) (rw (one, first) at w.rest)

        pub walk_found : left ≡ 0 → Finds keys heard n from k i
        walk_found z =
            let first = begun keys heard n i w.less b is e in
            record { less = w.less; event = rw (z, first) at w.event; rest = rw (z, first) at w.rest }

-- THE EVENT AT A NUMBER

module _ (h : Held) (k : ℕ) where
  pub all_from_0 : k < length (events_of h) → k < length (events_from h 0)
  all_from_0 l = omega (arith, ap length (all_after h.keys.now h.heard.now (length h.keys.now)))

  pub number_found : (t : Table) → (valid t ≡ true) × (events_of h ≡ events t) → (k ≡ 0 → ⊥) → k ≤ length (events_of h)
      → (i : ℕ) → Finds h.keys.now h.heard.now (length h.keys.now) 0 (k - 1) i
      → (v : Event) → v ≡ event_from h.keys.now h.heard.now (length h.keys.now) i → answered v ≡ event_at t k
  number_found t holds some few i found v is =
      let all : events_from h 0 ≡ events t = all_after h.keys.now h.heard.now (length h.keys.now) ∙ holds.1 in
      let e : v ≡ get_or (events t) (k - 1) no_event = is ∙ found.event ∙ ap (λ (l : List Event). get_or l (k - 1) no_event) all in
      ap answered e ∙ rw (holds.0, ne_eqb k 0 some, le-ltb (length (events t)) k (rw holds.1 at few))

pub ruleset table_events = (rules, walk_starts, walk_passes, walk_on, walk_found, all_from_0, number_found)
