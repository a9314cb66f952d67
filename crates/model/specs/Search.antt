-- How a report's pair is looked up among the segments held, and how many of them are looked at (02, request 4): "a halving
-- search over the range 0 to n of entries held, looking at the middle rounded down, keeping what is right of it if that is
-- smaller, else what is left".
use Rattle.std.specs.Prelude.{ℕ, zero, suc, ◌+◌, ◌-◌, ◌/◌, Bool, false, cond, List, ltb, length, get_or}
use Rattle.model.specs.declared.Segment.{Segment}
use Rattle.model.specs.declared.Lookup.{Lookup}
use Rattle.model.specs.Segments.{before}

-- RANGES

-- the places from `low` up to the one before `high`
pub record Range : Type 0 where
  pub low : ℕ
  pub high : ℕ

-- how many they are
abbrev pub size : Range → ℕ
size g = g.high - g.low

-- the middle, rounded down
unfoldable pub middle : Range → ℕ
middle g = (g.low + g.high) / 2

abbrev pub right_of : ℕ → Range → Range
right_of m g = record { low = m + 1; high = g.high }

abbrev pub left_of : ℕ → Range → Range
left_of m g = record { low = g.low; high = m }

-- THE SEARCH

-- what stands past the end of a list
abbrev pub no_segment : Segment
no_segment = record { offset = 0; code = 0; duration = 0; volume = 0; quietest = 0; ended = false; marked = false }

-- the entry at a place; the search looks at none past the end
abbrev pub entry : List Segment → ℕ → Segment
entry l i = get_or l i no_segment

-- by offset, then code
unfoldable pub is_smaller : Segment → Segment → Bool
is_smaller s r = before s r

-- the middle is looked at: what is right of it is kept if that entry is smaller, else what is left of it, also if its pair is
-- the one looked for
unfoldable pub kept : Segment → List Segment → Range → Range
kept r l g = cond (is_smaller (entry l (middle g)) r) (right_of (middle g) g) (left_of (middle g) g)

-- nothing is left to look at: here the pair stands or belongs
abbrev pub ends : Range → Lookup
ends g = record { place = g.low; probes = 0 }

-- one entry more is looked at, before the rest of a search
abbrev pub one_more : Lookup → Lookup
one_more rest = record { place = rest.place; probes = rest.probes + 1 }

-- the search in a range of at most n places: each look leaves fewer, so n looks are enough
unfoldable pub searching : ℕ → Segment → List Segment → Range → Lookup
searching zero r l g = ends g
searching (suc n) r l g = cond (ltb g.low g.high) (one_more (searching n r l (kept r l g))) (ends g)

abbrev pub search_in : Segment → List Segment → Range → Lookup
search_in r l g = searching (size g) r l g

-- over all entries held
abbrev pub search : Segment → List Segment → Lookup
search r l = search_in r l (record { low = 0; high = length l })
