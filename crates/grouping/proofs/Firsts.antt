-- What is said of two columns up to a place goes by the places below it alone.
use Prim.Native.Nat.{ℕ, zero, suc, ◌+◌, ◌-◌, ◌≤◌, ◌<◌}
use mathlib.Core.Path.{◌≡◌, refl, ap, ap₂}
use mathlib.Core.Bool.{not}
use mathlib.Core.List.{List, ◌∷◌}
use native.Mathlib.Omega.{arith}
use lib.ListN.{take}
use Rattle.std.proofs.lemmas.List.{get_or-take}
use Rattle.model.specs.Table.{segment_at, segments_from}
use Rattle.model.specs.Events.{event_of, continues_nearest, continuing, events_from, events_of}
use Rattle.grouping.specs.Places.{earlier, begins, event_from, events_after, events_in}

module _ (keys heard : List ℕ) (n : ℕ) where
  same_segment : (i : ℕ) → i < n → segment_at (take n keys) (take n heard) i ≡ segment_at keys heard i
  same_segment i h = rw (get_or-take n keys i 0 h, get_or-take n heard i 0 h)

  same_segments : (i m : ℕ) → i + m ≤ n → segments_from (take n keys) (take n heard) i m ≡ segments_from keys heard i m
  unfolding segments_from
  same_segments i zero h = refl
  same_segments i (suc m) h = ap₂ ◌∷◌ (same_segment i (omega arith)) (same_segments (suc i) m (omega arith))

  same_earlier : (i : ℕ) → i ≤ n → earlier (take n keys) (take n heard) i ≡ earlier keys heard i
  unfolding earlier
  same_earlier zero h = refl
  same_earlier (suc i) h = ap₂ ◌∷◌ (same_segment i (omega arith)) (same_earlier i (omega arith))

  pub same_begins : (i : ℕ) → i < n → begins (take n keys) (take n heard) i ≡ begins keys heard i
  unfolding begins
  same_begins i h = ap not (ap₂ continues_nearest (same_earlier i (omega arith)) (same_segment i h))

  pub same_event : (i : ℕ) → i < n → event_from (take n keys) (take n heard) n i ≡ event_from keys heard n i
  unfolding event_from
  same_event i h = ap₂ event_of (same_segment i h) (ap₂ continuing (same_segment i h) (same_segments (i + 1) (n - (i + 1)) (omega arith)))

  pub same_after : (i : ℕ) → i ≤ n → events_after (take n keys) (take n heard) n i ≡ events_after keys heard n i
  unfolding events_after
  same_after i h = ap₂ events_from (same_earlier i h) (same_segments i (n - i) (omega arith))

  pub same_events : (m : ℕ) → m ≡ n → events_in (take n keys) (take n heard) m ≡ events_in keys heard n
  same_events m e = rw e (ap events_of (same_segments 0 n (omega arith)))
