-- The events of a list of segments, said without computing: the sentences of 01 ("From segments to events"), and that of 02, request 3, each
-- as a type. They ask which segments l has, never where in l they stand. If l rises, exactly one list of events meets `Grouped`: the one
-- that `events_of` computes (proofs/Grouping.antt).
use Rattle.std.specs.Prelude.{◌+◌, ◌<◌, ◌≤◌, ◌≡◌, false}
use mathlib.Core.List.{List, [], ◌∷◌, Memᴰ}
use Rattle.model.specs.declared.Segment.{Segment}
use Rattle.model.specs.declared.Event.{Event}
use Rattle.model.specs.Events.{event_of}

-- "take the nearest earlier one of the same code, by offset": for s this is p
pub record Nearest (l : List Segment) (p s : Segment) : Type 0 where
  pub among : Memᴰ p l
  pub code : p.code ≡ s.code
  pub earlier : p.offset < s.offset
  pub closest : (q : Segment) → Memᴰ q l → q.code ≡ s.code → q.offset < s.offset → q.offset ≤ p.offset

module _ (l : List Segment) where
  -- "An unmarked segment continues the nearest earlier one of its code if that one has no E and ends exactly where it starts,
  -- at any duration": p is continued by s
  pub record ContinuedBy (p s : Segment) : Type 0 where
    pub among : Memᴰ s l
    pub unmarked : s.marked ≡ false
    pub nearest : Nearest l p s
    pub no_end : p.ended ≡ false
    pub meets : p.offset + p.duration ≡ s.offset

  -- "Every other segment begins an event"
  pub record Beginning (s : Segment) : Type 0 where
    pub among : Memᴰ s l
    pub other : (p : Segment) → ContinuedBy p s → ⊥

  -- "all that continue it, one after another": each continues the one before it, and nothing continues the last
  unfoldable pub Chain : Segment → List Segment → Type 0
  Chain s [] = (t : Segment) → ContinuedBy s t → ⊥
  Chain s (t ∷ ts) = ContinuedBy s t × Chain t ts

  -- "An event is a beginning segment and all that continue it"; length, both volumes, began and ended are as `event_of` says
  pub record Group (s : Segment) (ts : List Segment) : Type 0 where
    pub begins : Beginning s
    pub rest : Chain s ts

-- "Events are listed by start offset, then code": v before w, and in a list each before all after it
pub data Prior (v w : Event) : Type 0 where
  by_start : v.start < w.start → Prior v w
  by_code : v.start ≡ w.start → v.code < w.code → Prior v w

unfoldable pub InOrder : List Event → Type 0
InOrder [] = Unit {0}
InOrder (v ∷ vs) = ((w : Event) → Memᴰ w vs → Prior v w) × InOrder vs

-- vs are the events of l: they are in order, each is that of a group, every beginning segment has its event among them, and
-- every segment of l is in exactly one
pub record Grouped (l : List Segment) (vs : List Event) : Type 0 where
  pub rises : InOrder vs
  pub made : (v : Event) → Memᴰ v vs → (s : Segment) × (ts : List Segment) × Group l s ts × (v ≡ event_of s ts)
  pub begun : (s : Segment) → Beginning l s → (ts : List Segment) × Group l s ts × Memᴰ (event_of s ts) vs
  pub in_one : (t : Segment) → Memᴰ t l
      → (s : Segment) × (ts : List Segment) × Group l s ts × Memᴰ t (s ∷ ts) × Memᴰ (event_of s ts) vs
  pub in_no_other : (t s u : Segment) (ts us : List Segment)
      → Group l s ts → Memᴰ t (s ∷ ts) → Group l u us → Memᴰ t (u ∷ us) → (s ≡ u) × (ts ≡ us)
