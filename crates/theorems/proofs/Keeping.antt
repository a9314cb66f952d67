-- What a segment keeps of its reports, what of it is attained by them, and that merging a report in keeps both.
use Prim.Native.Nat.{◌≤◌, min, max}
use mathlib.Core.Path.{◌≡◌, refl, sym, ◌∙◌}
use mathlib.Core.Bool.{Bool, true, false, ◌||◌, false≢true}
use mathlib.Core.List.Memᴰ
use mathlib.Core.List.{List, ◌∷◌}
use native.Mathlib.Omega.{arith}
use native.Mathlib.Decide.{dec_le}
use Rattle.model.specs.declared.Segment.{Segment}
use Rattle.model.specs.Segments.{Within, merge, Keeps, Heard, Attained}
use Rattle.theorems.proofs.Basics.{Mem}
use Rattle.theorems.proofs.Order.{Alike}

-- KEEPING

pub keeps_refl : (s : Segment) → Keeps s s
keeps_refl s = record {
  offset = refl;
  code = refl;
  duration = omega arith;
  volume = omega arith;
  quietest = omega arith;
  ended = λ e. e;
  marked = λ e. e;
}

pub keeps_trans : {t s r : Segment} → Keeps t s → Keeps s r → Keeps t r
keeps_trans p q = record {
  offset = q.offset ∙ p.offset;
  code = q.code ∙ p.code;
  duration = omega arith;
  volume = omega arith;
  quietest = omega arith;
  ended = λ e. p.ended (q.ended e);
  marked = λ e. p.marked (q.marked e);
}

pub keeps_alike : {s r : Segment} → Keeps s r → Alike r s
keeps_alike k = record { offset = k.offset; code = k.code }

either_true : (a b : Bool) → a ≡ true → (a || b) ≡ true
either_true true b e = refl
either_true false b e = absurd (false≢true e)

other_true : (a b : Bool) → b ≡ true → (a || b) ≡ true
other_true true b e = refl
other_true false b e = e

pub merge_keeps_left : (r s : Segment) → Alike r s → Keeps (merge r s) r
merge_keeps_left r s a = record {
  offset = a.offset;
  code = a.code;
  duration = omega arith;
  volume = omega arith;
  quietest = omega arith;
  ended = either_true r.ended s.ended;
  marked = either_true r.marked s.marked;
}

pub merge_keeps_right : (r s : Segment) → Keeps (merge r s) s
merge_keeps_right r s = record {
  offset = refl;
  code = refl;
  duration = omega arith;
  volume = omega arith;
  quietest = omega arith;
  ended = other_true r.ended s.ended;
  marked = other_true r.marked s.marked;
}

same_true : (a b : Bool) → (a ≡ true → b ≡ true) → (b ≡ true → a ≡ true) → a ≡ b
same_true true b f g = sym (f refl)
same_true false true f g = g refl
same_true false false f g = refl

-- each keeps the other: the same
pub keeps_antisym : {r s : Segment} → Keeps s r → Keeps r s → r ≡ s
keeps_antisym {r} {s} k l =
    let d : r.duration ≡ s.duration = omega arith in
    let v : r.volume ≡ s.volume = omega arith in
    let q : r.quietest ≡ s.quietest = omega arith in
    let e = same_true r.ended s.ended k.ended l.ended in
    let m = same_true r.marked s.marked k.marked l.marked in
    λ i. record { offset = k.offset i; code = k.code i; duration = d i; volume = v i; quietest = q i; ended = e i; marked = m i }

-- ATTAINING

heard_more : {rs qs : List Segment} {t s : Segment} (P : Segment → Type 0) → Within rs qs → Keeps t s → Heard rs s P → Heard qs t P
heard_more P w k h = (h.0, w h.0 h.1, keeps_trans k h.2, h.3)

pub attained_more : {rs qs : List Segment} {s : Segment} → Within rs qs → Attained rs s → Attained qs s
attained_more {s} w a = record {
  longest = heard_more _ w (keeps_refl s) a.longest;
  loudest = heard_more _ w (keeps_refl s) a.loudest;
  quietest = heard_more _ w (keeps_refl s) a.quietest;
  ended = λ e. heard_more _ w (keeps_refl s) (a.ended e);
  marked = λ e. heard_more _ w (keeps_refl s) (a.marked e);
}

pub attained_self : (rs : List Segment) (s : Segment) → Mem s rs → Attained rs s
attained_self rs s m = record { longest = self refl; loudest = self refl; quietest = self refl; ended = λ e. self e; marked = λ e. self e }
  where
    self : {P : Segment → Type 0} → P s → Heard rs s P
    self p = (s, m, keeps_refl s, p)

pub attained_merge : (r s : Segment) (rs : List Segment) → Alike r s → Attained rs s → Attained (r ∷ rs) (merge r s)
attained_merge r s rs a t = record {
  longest = longest (dec_le r.duration s.duration);
  loudest = loudest (dec_le s.volume r.volume);
  quietest = quietest (dec_le r.quietest s.quietest);
  ended = ended r.ended refl;
  marked = marked r.marked refl;
}
  where
    own : {P : Segment → Type 0} → P r → Heard (r ∷ rs) (merge r s) P
    own p = (r, Memᴰ.head refl, merge_keeps_left r s a, p)

    up : (P : Segment → Type 0) → Heard rs s P → Heard (r ∷ rs) (merge r s) P
    up P = heard_more P (λ q m. Memᴰ.tail m) (merge_keeps_right r s)

    longest : Dec (r.duration ≤ s.duration) → Heard (r ∷ rs) (merge r s) (λ q. q.duration ≡ max r.duration s.duration)
    longest (yes h) = let q = up _ t.longest in (q.0, q.1, q.2, omega (arith, q.3))
    longest (no h) = own (omega arith)

    loudest : Dec (s.volume ≤ r.volume) → Heard (r ∷ rs) (merge r s) (λ q. q.volume ≡ min r.volume s.volume)
    loudest (yes h) = let q = up _ t.loudest in (q.0, q.1, q.2, omega (arith, q.3))
    loudest (no h) = own (omega arith)

    quietest : Dec (r.quietest ≤ s.quietest) → Heard (r ∷ rs) (merge r s) (λ q. q.quietest ≡ max r.quietest s.quietest)
    quietest (yes h) = let q = up _ t.quietest in (q.0, q.1, q.2, omega (arith, q.3))
    quietest (no h) = own (omega arith)

    ended : (b : Bool) → r.ended ≡ b → (b || s.ended) ≡ true → Heard (r ∷ rs) (merge r s) (λ q. q.ended ≡ true)
    ended true q e = own q
    ended false q e = up _ (t.ended e)

    marked : (b : Bool) → r.marked ≡ b → (b || s.marked) ≡ true → Heard (r ∷ rs) (merge r s) (λ q. q.marked ≡ true)
    marked true q e = own q
    marked false q e = up _ (t.marked e)
