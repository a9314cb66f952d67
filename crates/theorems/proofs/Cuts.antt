-- The segments that an event is cut into: where they lie and how long they are, that one is first and one is last, that none
-- overlaps another, that they hold all units of the event, and that they move with its start.
use Prim.Native.Nat.{ℕ, zero, suc, ◌+◌, ◌-◌, ◌*◌, ◌<◌, ◌≤◌}
use mathlib.Core.Path.{◌≡◌, refl, sym, ap, ◌∙◌}
use mathlib.Core.Bool.{Bool, true, false, false≢true}
use mathlib.Core.List.Memᴰ
use mathlib.Core.List.{List, ◌∷◌, map, Memᴰ}
use mathlib.Core.Logic.{◌⊎◌, inl, inr}
use native.Mathlib.Omega.{arith}
use native.Mathlib.Nat.{div-add-mod, mod-lt, le-div_iff_mul-le, div-lt_iff_lt-mul}
use Rattle.model.specs.declared.Plan.{Plan}
use Rattle.model.specs.declared.Segment.{Segment}
use Rattle.model.specs.Plan.{segment, full_segments, rest_units, next_start, cut_from, longest}

-- g has the event's code and its one volume, at least one unit, and lies between two offsets
pub record InCut (p : Plan) (low high : ℕ) (g : Segment) : Type 0 where
  pub code : g.code ≡ p.code
  pub volume : g.volume ≡ p.volume
  pub quietest : g.quietest ≡ p.volume
  pub from : low ≤ g.offset
  pub to : g.offset + g.duration ≤ high
  pub long : 1 ≤ g.duration

module _ (p : Plan) where
  -- a full cut, and those from its end on
  abbrev pub whole : ℕ → Bool → Segment
  whole o m = segment o p.code p.segment_size p.volume false m

  abbrev pub after : ℕ → ℕ → List Segment
  after n o = cut_from p n (next_start p o) false

  -- all that is known of one cut
  record Known (low high : ℕ) (m : Bool) (g : Segment) : Type 0 where
    place : 1 ≤ p.segment_size → InCut p low high g
    within : 1 ≤ p.segment_size → g.duration ≤ p.segment_size
    unmarked : m ≡ false → g.marked ≡ false

  known : (n o : ℕ) (m : Bool) (g : Segment) → Memᴰ g (cut_from p n o m) → Known o (o + (n * p.segment_size + rest_units p)) m g
  unfolding cut_from
  known zero o m g i =
      rw (Memᴰ.eq_of_singleton i)
      (record {
        place = λ h. record { code = refl; volume = refl; quietest = refl; from = omega arith; to = omega arith; long = omega arith };
        within = λ h. omega (arith, mod-lt (p.length - 1) h);
        unmarked = λ h. h;
      })
  known (suc n) o m g i = go (known n (next_start p o) false g) (Memᴰ.cases_cons i)
    where
      Goal : Segment → Type 0
      Goal = Known o (o + (suc n * p.segment_size + rest_units p)) m

      go : (Memᴰ g (after n o) → Known (next_start p o) (next_start p o + (n * p.segment_size + rest_units p)) false g)
          → (g ≡ whole o m) ⊎ Memᴰ g (after n o) → Goal g
      go ih (inl e) =
          rw e
          (record {
            place = λ h. record { code = refl; volume = refl; quietest = refl; from = omega arith; to = omega arith; long = h };
            within = λ h. omega arith;
            unmarked = λ h. h;
          })
      go ih (inr i') =
          let k = ih i' in
          record {
            place = λ h.
                let a = k.place h in
                record { code = a.code; volume = a.volume; quietest = a.quietest; from = omega arith; to = omega arith; long = a.long };
            within = k.within;
            unmarked = λ h. k.unmarked refl;
          }

  pub cut_place : 1 ≤ p.segment_size → (n o : ℕ) (m : Bool) (g : Segment) → Memᴰ g (cut_from p n o m)
      → InCut p o (o + (n * p.segment_size + rest_units p)) g
  cut_place h n o m g i = (known n o m g i).place h

  pub cut_within : 1 ≤ p.segment_size → (n o : ℕ) (m : Bool) (g : Segment) → Memᴰ g (cut_from p n o m) → g.duration ≤ p.segment_size
  cut_within h n o m g i = (known n o m g i).within h

  -- one cut at most is marked
  pub one_first : (n o : ℕ) (m : Bool) (g h : Segment) → Memᴰ g (cut_from p n o m) → Memᴰ h (cut_from p n o m)
      → g.marked ≡ true → h.marked ≡ true → g ≡ h
  unfolding cut_from
  one_first zero o m g h i j x y = Memᴰ.eq_of_singleton i ∙ sym (Memᴰ.eq_of_singleton j)
  one_first (suc n) o m g h i j x y = go (Memᴰ.cases_cons i) (Memᴰ.cases_cons j)
    where
      never : (k : Segment) → Memᴰ k (after n o) → k.marked ≡ true → g ≡ h
      never k i z = absurd (false≢true (sym ((known n (next_start p o) false k i).unmarked refl) ∙ z))

      go : (g ≡ whole o m) ⊎ Memᴰ g (after n o) → (h ≡ whole o m) ⊎ Memᴰ h (after n o) → g ≡ h
      go (inl e) (inl f) = e ∙ sym f
      go (inl e) (inr j) = never h j y
      go (inr i) (inl f) = never g i x
      go (inr i) (inr j) = never g i x

  -- one cut at most ends the event
  pub one_last : (n o : ℕ) (m : Bool) (g h : Segment) → Memᴰ g (cut_from p n o m) → Memᴰ h (cut_from p n o m)
      → g.ended ≡ true → h.ended ≡ true → g ≡ h
  unfolding cut_from
  one_last zero o m g h i j x y = Memᴰ.eq_of_singleton i ∙ sym (Memᴰ.eq_of_singleton j)
  one_last (suc n) o m g h i j x y = go (one_last n (next_start p o) false g h) (Memᴰ.cases_cons i) (Memᴰ.cases_cons j)
    where
      never : (k : Segment) → k ≡ whole o m → k.ended ≡ true → g ≡ h
      never k e z = absurd (false≢true (sym (ap (λ (s : Segment). s.ended) e) ∙ z))

      go : (Memᴰ g (after n o) → Memᴰ h (after n o) → g.ended ≡ true → h.ended ≡ true → g ≡ h)
          → (g ≡ whole o m) ⊎ Memᴰ g (after n o) → (h ≡ whole o m) ⊎ Memᴰ h (after n o) → g ≡ h
      go ih (inl e) j = never g e x
      go ih (inr i) (inl f) = never h f y
      go ih (inr i) (inr j) = ih i j x y

  -- no cut overlaps another
  pub cut_apart : 1 ≤ p.segment_size → (n o : ℕ) (m : Bool) (g h : Segment) → Memᴰ g (cut_from p n o m) → Memᴰ h (cut_from p n o m)
      → g.offset < h.offset → g.offset + g.duration ≤ h.offset
  unfolding cut_from
  cut_apart wide zero o m g h i j l =
      let e : g.offset ≡ h.offset = ap (λ (s : Segment). s.offset) (Memᴰ.eq_of_singleton i ∙ sym (Memᴰ.eq_of_singleton j)) in
      absurd (omega arith)
  cut_apart wide (suc n) o m g h i j l = go (cut_apart wide n (next_start p o) false g h) (Memᴰ.cases_cons i) (Memᴰ.cases_cons j)
    where
      from : (k : Segment) → Memᴰ k (after n o) → o + p.segment_size ≤ k.offset
      from k i = ((known n (next_start p o) false k i).place wide).from

      go : (Memᴰ g (after n o) → Memᴰ h (after n o) → g.offset < h.offset → g.offset + g.duration ≤ h.offset)
          → (g ≡ whole o m) ⊎ Memᴰ g (after n o) → (h ≡ whole o m) ⊎ Memᴰ h (after n o) → g.offset + g.duration ≤ h.offset
      go ih (inl e) (inl f) = let d : g.offset ≡ h.offset = ap (λ (s : Segment). s.offset) (e ∙ sym f) in absurd (omega arith)
      go ih (inl e) (inr j) = rw e (from h j)
      go ih (inr i) (inl f) = let d : h.offset ≡ o = ap (λ (s : Segment). s.offset) f in absurd (omega (arith, from g i))
      go ih (inr i) (inr j) = ih i j l

  -- the cuts hold as many units as the event
  pub cut_units : 1 ≤ p.length → full_segments p * p.segment_size + rest_units p ≡ p.length
  cut_units h = omega (arith, div-add-mod (p.length - 1) p.segment_size)

  -- at most 15 come before the last, ...
  pub full_few : 1 ≤ p.segment_size → p.length ≤ longest p → full_segments p ≤ 15
  full_few h l = omega (arith, (div-lt_iff_lt-mul {k = p.segment_size} {x = p.length - 1} {y = 16} h).1 (omega arith))

  -- ... and the longest event of a size has 16 full ones
  pub longest_full : 1 ≤ p.segment_size → p.length ≡ longest p → (full_segments p ≡ 15) × (rest_units p ≡ p.segment_size)
  longest_full h l =
      let low : 15 ≤ full_segments p = (le-div_iff_mul-le h).1 (omega arith) in
      let n : full_segments p ≡ 15 = omega (arith, full_few h (omega arith)) in
      (n, omega (arith, cut_units (omega arith), ap (λ (k : ℕ). k * p.segment_size) n))

-- the same segment, so many units later
abbrev pub later : ℕ → Segment → Segment
later n s = record {
  offset = n + s.offset;
  code = s.code;
  duration = s.duration;
  volume = s.volume;
  quietest = s.quietest;
  ended = s.ended;
  marked = s.marked;
}

pub cut_later : (p : Plan) (s n o : ℕ) (m : Bool) → map (later s) (cut_from p n o m) ≡ cut_from p n (s + o) m
unfolding cut_from
cut_later p s zero o m = refl
cut_later p s (suc n) o m =
    let e : s + next_start p o ≡ next_start p (s + o) = omega arith in
    ap (λ (l : List Segment). whole p (s + o) m ∷ l)
    (cut_later p s n (next_start p o) false ∙ ap (λ (k : ℕ). cut_from p n k false) e)
