-- The segments of a set of reports: `segments_of rs` is derived from rs, nothing else is, and one report more put into a
-- derived list gives the derived list. So neither order nor repeats of the reports play a part.
use mathlib.Core.Path.{◌≡◌, refl, sym, ◌∙◌}
use mathlib.Core.Bool.{Bool, true, false, cond, false≢true}
use mathlib.Core.List.Memᴰ
use mathlib.Core.List.{List, [], ◌∷◌, map}
use mathlib.Core.Logic.{◌⊎◌, inl, inr, ⊎_elim}
use native.Mathlib.Omega.{arith}
use Rattle.model.specs.declared.Segment.{Segment}
use Rattle.model.specs.Segments.{Within, same_pair, merge, merge_all, insert_pair, pairs_of, segments_of, Keeps, Attained, Derived}
use Rattle.model.specs.Table.{put}
use Rattle.theorems.proofs.Basics.{Mem, mem_map, map_mem}
use Rattle.theorems.proofs.Order.{
  Alike,
  alike_refl,
  alike_sym,
  alike_trans,
  ≺_alike,
  alike-≺,
  Below,
  Rising,
  rises,
  rises_if,
  rising_one,
  rising_ext,
  same_then,
  same_if,
}
use Rattle.theorems.proofs.Insertion.{insert, Source, fresh, old, mixed, comes_from, goes_to, stays, insert_rising}
use Rattle.theorems.proofs.Keeping.{
  keeps_refl,
  keeps_trans,
  keeps_alike,
  merge_keeps_left,
  merge_keeps_right,
  keeps_antisym,
  attained_more,
  attained_self,
  attained_merge,
}

-- ONE REPORT MORE

merge_alike : (q s : Segment) → Alike (merge q s) s
merge_alike q s = record { offset = refl; code = refl }

put_is_insert : (r : Segment) (l : List Segment) → put r l ≡ insert merge merge_alike r l
unfolding put insert
put_is_insert r [] = refl
put_is_insert r (s ∷ ts) = rw (put_is_insert r ts)

pub put_rising : (r : Segment) (l : List Segment) → Rising l → Rising (put r l)
put_rising r l h = rw (put_is_insert r l) (insert_rising merge merge_alike r l h)

pub derived_put : (r : Segment) (rs l : List Segment) → Derived rs l → Derived (r ∷ rs) (put r l)
derived_put r rs l d = rw (put_is_insert r l) (record {
  rises = rises_if _ (insert_rising merge merge_alike r l (rises l d.rises));
  kept = λ q m. kept q (Memᴰ.cases_cons m);
  attained = λ s m. attained s (comes_from merge merge_alike r l s m);
})
  where
    new : List Segment
    new = insert merge merge_alike r l

    Kept : Segment → Type 0
    Kept q = (s : Segment) × Mem s new × Keeps s q

    own : Mem r new ⊎ ((s : Segment) × Mem s l × Alike r s × Mem (merge r s) new) → Kept r
    own (inl m) = (r, m, keeps_refl r)
    own (inr k) = (merge r k.0, k.3, merge_keeps_left r k.0 k.2)

    old_kept : (s : Segment) → Mem s new ⊎ (Alike r s × Mem (merge r s) new) → Kept s
    old_kept s (inl m) = (s, m, keeps_refl s)
    old_kept s (inr k) = (merge r s, k.1, merge_keeps_right r s)

    kept : (q : Segment) → (q ≡ r) ⊎ Mem q rs → Kept q
    kept q (inl e) = rw e (own (goes_to merge merge_alike r l))
    kept q (inr m) =
        let k = d.kept q m in
        let n = old_kept k.0 (stays merge merge_alike r l k.0 k.1) in
        (n.0, n.1, keeps_trans n.2 k.2)

    attained : (s : Segment) → Source merge merge_alike r l s → Attained (r ∷ rs) s
    attained s (fresh e) = attained_self (r ∷ rs) s (Memᴰ.head e)
    attained s (old m) = attained_more (λ q n. Memᴰ.tail n) (d.attained s m)
    attained s (mixed u m a e) = rw e (attained_merge r u rs a (d.attained u m))

-- THE SEGMENTS, COMPUTED

pairs_are_inserted : (r : Segment) (l : List Segment) → insert_pair r l ≡ insert (λ q s. s) (λ q s. alike_refl s) r l
unfolding insert_pair insert
pairs_are_inserted r [] = refl
pairs_are_inserted r (s ∷ ts) = rw (pairs_are_inserted r ts)

-- the pairs are those of the reports, in order
record Pairs (rs l : List Segment) : Type 0 where
  rises : Rising l
  heard : (s : Segment) → Mem s l → Mem s rs
  all : (r : Segment) → Mem r rs → (s : Segment) × Mem s l × Alike r s

insert_pairs : (r : Segment) (rs l : List Segment) → Pairs rs l → Pairs (r ∷ rs) (insert_pair r l)
insert_pairs r rs l p = rw (pairs_are_inserted r l) (record {
  rises = insert_rising second same r l p.rises;
  heard = λ s m. heard s (comes_from second same r l s m);
  all = λ q m. all q (Memᴰ.cases_cons m);
})
  where
    second : Segment → Segment → Segment
    second q s = s

    same : (q s : Segment) → Alike s s
    same q s = alike_refl s

    new : List Segment
    new = insert second same r l

    heard : (s : Segment) → Source second same r l s → Mem s (r ∷ rs)
    heard s (fresh e) = Memᴰ.head e
    heard s (old m) = Memᴰ.tail (p.heard s m)
    heard s (mixed u m a e) = Memᴰ.tail (Memᴰ.cast e (p.heard u m))

    own : Mem r new ⊎ ((s : Segment) × Mem s l × Alike r s × Mem s new) → (s : Segment) × Mem s new × Alike r s
    own (inl m) = (r, m, alike_refl r)
    own (inr k) = (k.0, k.3, k.2)

    all : (q : Segment) → (q ≡ r) ⊎ Mem q rs → (s : Segment) × Mem s new × Alike q s
    all q (inl e) = rw e (own (goes_to second same r l))
    all q (inr m) =
        let k = p.all q m in
        (k.0, ⊎_elim (λ n. n) (λ n. n.1) (stays second same r l k.0 k.1), k.2)

pairs : (rs : List Segment) → Pairs rs (pairs_of rs)
unfolding pairs_of
pairs [] = record { rises = tt; heard = λ s m. m; all = λ r m. absurd (Memᴰ.not-nil m) }
pairs (r ∷ rs) = insert_pairs r rs (pairs_of rs) (pairs rs)

-- MERGED: it keeps the segment that it started from and all reports of its pair, and has nothing but theirs

module _ (s : Segment) where
  merged_alike : (rs : List Segment) → Alike (merge_all rs s) s
  unfolding merge_all
  merged_alike [] = alike_refl s
  merged_alike (r ∷ rs) = go (same_pair r s) (merged_alike rs)
    where
      go : (b : Bool) → Alike (merge_all rs s) s → Alike (cond b (merge r (merge_all rs s)) (merge_all rs s)) s
      go true ih = record { offset = ih.offset; code = ih.code }
      go false ih = ih

  merged_keeps : (rs : List Segment) (q : Segment) → Mem q rs → Alike q s → Keeps (merge_all rs s) q
  unfolding merge_all
  merged_keeps [] q m a = absurd (Memᴰ.not-nil m)
  merged_keeps (r ∷ rs) q m a = go (same_pair r s) refl (Memᴰ.cases_cons m) (λ n. merged_keeps rs q n a)
    where
      go : (b : Bool) → same_pair r s ≡ b → (q ≡ r) ⊎ Mem q rs → (Mem q rs → Keeps (merge_all rs s) q) → Keeps (cond b (merge r (merge_all rs s)) (merge_all rs s)) q
      go true e (inl p) ih = rw p (merge_keeps_left r (merge_all rs s) (alike_trans (same_then r s e) (alike_sym (merged_alike rs))))
      go true e (inr n) ih = keeps_trans (merge_keeps_right r (merge_all rs s)) (ih n)
      go false e (inl p) ih = absurd (false≢true (sym e ∙ same_if (rw p at a)))
      go false e (inr n) ih = ih n

  merged_attained : (rs : List Segment) → Attained (s ∷ rs) (merge_all rs s)
  unfolding merge_all
  merged_attained [] = attained_self (s ∷ []) s (Memᴰ.head refl)
  merged_attained (r ∷ rs) = go (same_pair r s) refl (merged_attained rs)
    where
      swap : Within (r ∷ s ∷ rs) (s ∷ r ∷ rs)
      swap q (Memᴰ.head e) = Memᴰ.tail (Memᴰ.head e)
      swap q (Memᴰ.tail (Memᴰ.head e)) = Memᴰ.head e
      swap q (Memᴰ.tail (Memᴰ.tail n)) = Memᴰ.tail (Memᴰ.tail n)

      go : (b : Bool) → same_pair r s ≡ b → Attained (s ∷ rs) (merge_all rs s) → Attained (s ∷ r ∷ rs) (cond b (merge r (merge_all rs s)) (merge_all rs s))
      go true e ih = attained_more swap (attained_merge r (merge_all rs s) (s ∷ rs) (alike_trans (same_then r s e) (alike_sym (merged_alike rs))) ih)
      go false e ih = attained_more (λ q n. swap q (Memᴰ.tail n)) ih

rising_map : (f : Segment → Segment) → ((s : Segment) → Alike (f s) s) → (l : List Segment) → Rising l → Rising (map f l)
rising_map f same [] h = tt
rising_map f same (s ∷ l) h = (below, rising_map f same l h.1)
  where
    below : Below (f s) (map f l)
    below y m = let k = map_mem f l y m in rw k.2 (≺_alike (alike-≺ (same s) (h.0 k.0 k.1)) (alike_sym (same k.0)))

pub segments_of_derived : (rs : List Segment) → Derived rs (segments_of rs)
segments_of_derived rs = record {
  rises = rises_if _ (rising_map (merge_all rs) (λ s. merged_alike s rs) (pairs_of rs) p.rises);
  kept = λ r m. let k = p.all r m in (merge_all rs k.0, mem_map (merge_all rs) (pairs_of rs) k.0 k.1, merged_keeps k.0 rs r m k.2);
  attained = λ s m. attained s (map_mem (merge_all rs) (pairs_of rs) s m);
}
  where
    p : Pairs rs (pairs_of rs)
    p = pairs rs

    attained : (s : Segment) → (x : Segment) × Mem x (pairs_of rs) × (s ≡ merge_all rs x) → Attained rs s
    attained s k = rw k.2 (attained_more (λ q m. ⊎_elim (λ e. Memᴰ.cast e (p.heard k.0 k.1)) (λ n. n) (Memᴰ.cases_cons m)) (merged_attained k.0 rs))

-- THERE IS NO OTHER

-- a segment keeps every report of its pair
pub keeps_all : {rs l : List Segment} {s r : Segment} → Derived rs l → Mem s l → Mem r rs → Alike r s → Keeps s r
keeps_all {l} {s} {r} d m n a =
    let k = d.kept r n in
    let e : k.0 ≡ s = rising_one l (rises l d.rises) k.0 s k.1 m (alike_trans (alike_sym (keeps_alike k.2)) a) in
    rw e at k.2

-- so it keeps all that is attained by such reports
keeps_attained : {rs qs l : List Segment} {s u : Segment} → Within rs qs → Attained rs s → Derived qs l → Mem u l → Alike s u → Keeps u s
keeps_attained {rs} {s} {u} w t d m a = record {
  offset = a.offset;
  code = a.code;
  duration = let h = t.longest in omega (arith, (keep h.0 h.1 h.2).duration, h.3);
  volume = let h = t.loudest in omega (arith, (keep h.0 h.1 h.2).volume, h.3);
  quietest = let h = t.quietest in omega (arith, (keep h.0 h.1 h.2).quietest, h.3);
  ended = λ e. let h = t.ended e in (keep h.0 h.1 h.2).ended h.3;
  marked = λ e. let h = t.marked e in (keep h.0 h.1 h.2).marked h.3;
}
  where
    keep : (r : Segment) → Mem r rs → Keeps s r → Keeps u r
    keep r n k = keeps_all d m (w r n) (alike_trans (keeps_alike k) a)

half : {rs qs a b : List Segment} → Within rs qs → Within qs rs → Derived rs a → Derived qs b → (s : Segment) → Mem s a → Mem s b
half f k d e s m =
    let h = (d.attained s m).longest in
    let u = e.kept h.0 (f h.0 h.1) in
    let al : Alike s u.0 = alike_trans (alike_sym (keeps_alike h.2)) (keeps_alike u.2) in
    let up : Keeps u.0 s = keeps_attained f (d.attained s m) e u.1 al in
    let down : Keeps s u.0 = keeps_attained k (e.attained u.0 u.1) d m (alike_sym al) in
    Memᴰ.cast (keeps_antisym up down) u.1

pub derived_unique : {rs qs a b : List Segment} → Within rs qs → Within qs rs → Derived rs a → Derived qs b → a ≡ b
derived_unique {a} {b} f k d e = rising_ext a b (rises a d.rises) (rises b e.rises) (half f k d e) (half k f e d)

pub is_segments_of : {rs l : List Segment} → Derived rs l → l ≡ segments_of rs
is_segments_of {rs} d = derived_unique (λ r m. m) (λ r m. m) d (segments_of_derived rs)

pub order_plays_no_part : (rs qs : List Segment) → Within rs qs → Within qs rs → segments_of rs ≡ segments_of qs
order_plays_no_part rs qs f k = derived_unique f k (segments_of_derived rs) (segments_of_derived qs)
