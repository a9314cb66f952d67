-- A report inserted in the order: what then stands in the list, and that it still rises. `f` says what becomes of the
-- segment that has the report's pair.
use mathlib.Core.Path.{◌≡◌, refl, ap}
use mathlib.Core.Bool.{Bool, true, false, cond}
use mathlib.Core.List.Memᴰ
use mathlib.Core.List.{List, [], ◌∷◌}
use mathlib.Core.Logic.{◌⊎◌, inl, inr, ⊎_elim}
use Rattle.model.specs.declared.Segment.{Segment}
use Rattle.model.specs.Segments.{before, same_pair}
use Rattle.theorems.proofs.Basics.{Mem}
use Rattle.theorems.proofs.Order.{◌≺◌, Alike, Compared, compared, alike_sym, ≺_alike, alike-≺, Below, Rising, below_cons}

module _ (f : Segment → Segment → Segment) (same : (r s : Segment) → Alike (f r s) s) (r : Segment) where
  unfoldable pub insert : List Segment → List Segment
  insert [] = r ∷ []
  insert (s ∷ ts) = cond (before r s) (r ∷ s ∷ ts) (cond (same_pair r s) (f r s ∷ ts) (s ∷ insert ts))

  -- where a member comes from
  pub data Source (l : List Segment) (x : Segment) : Type 0 where
    fresh : x ≡ r → Source l x
    old : Mem x l → Source l x
    mixed : (s : Segment) → Mem s l → Alike r s → x ≡ f r s → Source l x

  pub comes_from : (l : List Segment) (x : Segment) → Mem x (insert l) → Source l x
  unfolding insert
  comes_from [] x m = ⊎_elim (λ e. fresh e) (λ m'. absurd (Memᴰ.not-nil m')) (Memᴰ.cases_cons m)
  comes_from (s ∷ ts) x m = go (before r s) (same_pair r s) (compared r s) (comes_from ts x) m
    where
      up : Source ts x → Source (s ∷ ts) x
      up (fresh e) = fresh e
      up (old h) = old (Memᴰ.tail h)
      up (mixed u h a e) = mixed u (Memᴰ.tail h) a e

      go : (a b : Bool) → Compared a b r s → (Mem x (insert ts) → Source ts x) → Mem x (cond a (r ∷ s ∷ ts) (cond b (f r s ∷ ts) (s ∷ insert ts))) → Source (s ∷ ts) x
      go true b h ih m = ⊎_elim (λ e. fresh e) (λ m'. old m') (Memᴰ.cases_cons m)
      go false true h ih m = ⊎_elim (λ e. mixed s (Memᴰ.head refl) h e) (λ m'. old (Memᴰ.tail m')) (Memᴰ.cases_cons m)
      go false false h ih m = ⊎_elim (λ e. old (Memᴰ.head e)) (λ m'. up (ih m')) (Memᴰ.cases_cons m)

  -- where the report goes: it stands there itself, or in the segment of its pair
  pub goes_to : (l : List Segment) → Mem r (insert l) ⊎ ((s : Segment) × Mem s l × Alike r s × Mem (f r s) (insert l))
  unfolding insert
  goes_to [] = inl (Memᴰ.head refl)
  goes_to (s ∷ ts) = go (before r s) (same_pair r s) (compared r s) (goes_to ts)
    where
      there : List Segment → Type 0
      there l = Mem r l ⊎ ((u : Segment) × Mem u (s ∷ ts) × Alike r u × Mem (f r u) l)

      go : (a b : Bool) → Compared a b r s → Mem r (insert ts) ⊎ ((u : Segment) × Mem u ts × Alike r u × Mem (f r u) (insert ts))
          → there (cond a (r ∷ s ∷ ts) (cond b (f r s ∷ ts) (s ∷ insert ts)))
      go true b h ih = inl (Memᴰ.head refl)
      go false true h ih = inr (s, Memᴰ.head refl, h, Memᴰ.head refl)
      go false false h (inl m) = inl (Memᴰ.tail m)
      go false false h (inr q) = inr (q.0, Memᴰ.tail q.1, q.2, Memᴰ.tail q.3)

  -- a segment that was there stays, or has the report's pair
  pub stays : (l : List Segment) (y : Segment) → Mem y l → Mem y (insert l) ⊎ (Alike r y × Mem (f r y) (insert l))
  unfolding insert
  stays [] y m = absurd (Memᴰ.not-nil m)
  stays (s ∷ ts) y m = go (before r s) (same_pair r s) (compared r s) (Memᴰ.cases_cons m) (stays ts y)
    where
      go : (a b : Bool) → Compared a b r s → (y ≡ s) ⊎ Mem y ts → (Mem y ts → Mem y (insert ts) ⊎ (Alike r y × Mem (f r y) (insert ts)))
          → Mem y (cond a (r ∷ s ∷ ts) (cond b (f r s ∷ ts) (s ∷ insert ts))) ⊎ (Alike r y × Mem (f r y) (cond a (r ∷ s ∷ ts) (cond b (f r s ∷ ts) (s ∷ insert ts))))
      go true b h c ih = inl (Memᴰ.tail m)
      go false true h (inl e) ih = inr (rw e h, Memᴰ.head (ap (f r) e))
      go false true h (inr n) ih = inl (Memᴰ.tail n)
      go false false h (inl e) ih = inl (Memᴰ.head e)
      go false false h (inr n) ih = ⊎_elim (λ k. inl (Memᴰ.tail k)) (λ k. inr (k.0, Memᴰ.tail k.1)) (ih n)

  pub insert_rising : (l : List Segment) → Rising l → Rising (insert l)
  unfolding insert
  insert_rising [] h = (λ y m. absurd (Memᴰ.not-nil m), tt)
  insert_rising (s ∷ ts) h = go (before r s) (same_pair r s) (compared r s) (insert_rising ts h.1)
    where
      below : s ≺ r → Below s (insert ts)
      below p y m = from (comes_from ts y m)
        where
          from : Source ts y → s ≺ y
          from (fresh e) = rw e p
          from (old n) = h.0 y n
          from (mixed u n a e) = rw e (≺_alike (h.0 u n) (alike_sym (same r u)))

      go : (a b : Bool) → Compared a b r s → Rising (insert ts) → Rising (cond a (r ∷ s ∷ ts) (cond b (f r s ∷ ts) (s ∷ insert ts)))
      go true b p ih = (below_cons p h.0, h)
      go false true p ih = (λ y m. alike-≺ (same r s) (h.0 y m), h.1)
      go false false p ih = (below p, ih)
