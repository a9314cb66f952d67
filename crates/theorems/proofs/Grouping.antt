-- The events of segments in order, computed and described: `events_of l` meets `Grouped`, and no other list does. Every segment
-- is in exactly one event, since it continues at most one and at most one continues it.
use mathlib.Core.Path.{◌≡◌, refl, sym, ap, subst, ◌∙◌}
use mathlib.Core.Bool.{Bool, true, false, cond}
use mathlib.Core.List.Memᴰ
use mathlib.Core.List.{List, [], ◌∷◌}
use mathlib.Core.Logic.{◌⊎◌, inl, inr, ⊎_elim}
use native.Mathlib.Omega.{arith}
use Rattle.model.specs.declared.Segment.{Segment}
use Rattle.model.specs.declared.Event.{Event}
use Rattle.model.specs.Segments.{rising}
use Rattle.model.specs.Events.{event_of, continues_nearest, continuing, events_from, events_of}
use Rattle.theorems.specs.Grouped.{Prior, InOrder, ContinuedBy, Beginning, Chain, Group, Grouped, by_start, by_code}
use Rattle.theorems.proofs.Basics.{Mem}
use Rattle.theorems.proofs.Order.{◌≺◌, sooner, lower, RisingBy, Rising, rises, same_members}
use Rattle.theorems.proofs.Looking.{nearest_one, next_one, chain_one, Answers, Parts, whole, in_list, onward, earlier_past, told, chained}

-- ORDER

prior_of : {s t : Segment} (ts us : List Segment) → s ≺ t → Prior (event_of s ts) (event_of t us)
prior_of ts us (sooner h) = by_start h
prior_of ts us (lower e h) = by_code e h

prior_one_way : (v w : Event) → Prior v w → Prior w v → ⊥
prior_one_way v w (by_start h) (by_start k) = omega arith
prior_one_way v w (by_start h) (by_code e k) = omega arith
prior_one_way v w (by_code d h) (by_start k) = omega arith
prior_one_way v w (by_code d h) (by_code e k) = omega arith

in_order : (vs : List Event) → InOrder vs → RisingBy Prior vs
unfolding InOrder
in_order [] h = tt
in_order (v ∷ vs) h = (h.0, in_order vs h.1)

module _ (l : List Segment) (ordered : Rising l) where
  abbrev Continued : Segment → Segment → Type 0
  Continued p s = ContinuedBy l p s

  -- IN ONE GROUP

  chain_next : (ts : List Segment) (s p t : Segment) → Chain l s ts → Mem p (s ∷ ts) → Continued p t → Mem t ts
  unfolding Chain
  chain_next [] s p t c m k = ⊎_elim (λ e. absurd (c t (subst (λ x. Continued x t) e k))) (λ n. absurd (Memᴰ.not-nil n)) (Memᴰ.cases_cons m)
  chain_next (u ∷ us) s p t c m k = go (chain_next us u p t c.1) (Memᴰ.cases_cons m)
    where
      go : (Mem p (u ∷ us) → Continued p t → Mem t us) → (p ≡ s) ⊎ Mem p (u ∷ us) → Mem t (u ∷ us)
      go ih (inl e) = Memᴰ.head (next_one l ordered s t u (subst (λ x. Continued x t) e k) c.0)
      go ih (inr n) = Memᴰ.tail (ih n k)

  chain_before : (ts : List Segment) (s u : Segment) → Chain l s ts → Mem u ts → (p : Segment) × Mem p (s ∷ ts) × Continued p u
  unfolding Chain
  chain_before [] s u c m = absurd (Memᴰ.not-nil m)
  chain_before (t ∷ ts) s u c m = go (chain_before ts t u c.1) (Memᴰ.cases_cons m)
    where
      go : (Mem u ts → (p : Segment) × Mem p (t ∷ ts) × Continued p u) → (u ≡ t) ⊎ Mem u ts → (p : Segment) × Mem p (s ∷ t ∷ ts) × Continued p u
      go ih (inl e) = (s, Memᴰ.head refl, subst (λ x. Continued s x) (sym e) c.0)
      go ih (inr n) = let k = ih n in (k.0, Memᴰ.tail k.1, k.2)

  -- what begins and is in a group is its first
  first_of : (s u : Segment) (us : List Segment) → Beginning l s → Group l u us → Mem s (u ∷ us) → s ≡ u
  first_of s u us b g m = go (Memᴰ.cases_cons m)
    where
      go : (s ≡ u) ⊎ Mem s us → s ≡ u
      go (inl e) = e
      go (inr n) = let q = chain_before us u s g.rest n in absurd (b.other q.0 q.2)

  -- a chain that has a segment of a group begins in that group
  chain_within : (ts us : List Segment) (s u t : Segment) → Chain l s ts → Mem t (s ∷ ts) → Group l u us → Mem t (u ∷ us) → Mem s (u ∷ us)
  unfolding Chain
  chain_within [] us s u t c m g k = ⊎_elim (λ e. Memᴰ.cast (sym e) k) (λ n. absurd (Memᴰ.not-nil n)) (Memᴰ.cases_cons m)
  chain_within (v ∷ vs) us s u t c m g k =
      ⊎_elim (λ e. Memᴰ.cast (sym e) k) (λ n. back (Memᴰ.cases_cons (chain_within vs us v u t c.1 n g k))) (Memᴰ.cases_cons m)
    where
      back : (v ≡ u) ⊎ Mem v us → Mem s (u ∷ us)
      back (inl e) = absurd (g.begins.other s (subst (λ x. Continued s x) e c.0))
      back (inr n) = let q = chain_before us u v g.rest n in Memᴰ.cast (nearest_one l ordered s q.0 v c.0.nearest q.2.nearest) q.1

  in_no_other_lem : (t s u : Segment) (ts us : List Segment) → Group l s ts → Mem t (s ∷ ts) → Group l u us → Mem t (u ∷ us) → (s ≡ u) × (ts ≡ us)
  in_no_other_lem t s u ts us g m f n =
      let e = first_of s u us g.begins f (chain_within ts us s u t g.rest m f n) in
      (e, chain_one l ordered ts us u (subst (λ x. Chain l x ts) e g.rest) f.rest)

  -- ALONG THE LIST

  -- vs are the events that begin in rest
  record BegunIn (rest : List Segment) (vs : List Event) : Type 0 where
    rises : InOrder vs
    made : (v : Event) → Mem v vs → (s : Segment) × Mem s rest × (ts : List Segment) × Group l s ts × (v ≡ event_of s ts)
    begun : (s : Segment) → Mem s rest → Beginning l s → (ts : List Segment) × Group l s ts × Mem (event_of s ts) vs

  -- s continues one, or it begins
  from_continued : (s p : Segment) (rest : List Segment) (vs : List Event) → Continued p s → BegunIn rest vs → BegunIn (s ∷ rest) vs
  from_continued s p rest vs c f = record {
    rises = f.rises;
    made = λ v m. let q = f.made v m in (q.0, Memᴰ.tail q.1, q.2, q.3, q.4);
    begun = λ t m b. ⊎_elim (λ e. absurd (b.other p (subst (λ x. Continued p x) (sym e) c))) (λ n. f.begun t n b) (Memᴰ.cases_cons m);
  }

  from_group : (s : Segment) (ts rest : List Segment) (vs : List Event) → Group l s ts → ((t : Segment) → Mem t rest → s ≺ t) → BegunIn rest vs
      → BegunIn (s ∷ rest) (event_of s ts ∷ vs)
  unfolding InOrder
  from_group s ts rest vs g below f = record {
    rises = (prior, f.rises);
    made = λ v m. made v (Memᴰ.cases_cons m);
    begun = λ t m b. begun t b (Memᴰ.cases_cons m);
  }
    where
      prior : (w : Event) → Mem w vs → Prior (event_of s ts) w
      prior w m = let q = f.made w m in subst (Prior (event_of s ts)) (sym q.4) (prior_of ts q.2 (below q.0 q.1))

      made : (v : Event) → (v ≡ event_of s ts) ⊎ Mem v vs → (u : Segment) × Mem u (s ∷ rest) × (us : List Segment) × Group l u us × (v ≡ event_of u us)
      made v (inl e) = (s, Memᴰ.head refl, ts, g, e)
      made v (inr m) = let q = f.made v m in (q.0, Memᴰ.tail q.1, q.2, q.3, q.4)

      begun : (t : Segment) → Beginning l t → (t ≡ s) ⊎ Mem t rest → (us : List Segment) × Group l t us × Mem (event_of t us) (event_of s ts ∷ vs)
      begun t b (inl e) = (ts, subst (λ x. Group l x ts) (sym e) g, Memᴰ.head (λ i. event_of (e i) ts))
      begun t b (inr m) = let q = f.begun t m b in (q.0, q.1, Memᴰ.tail q.2)

  from : (rest past : List Segment) → Parts l ordered past rest → BegunIn rest (events_from past rest)
  unfolding events_from InOrder
  from [] past k = record { rises = tt; made = λ v m. absurd (Memᴰ.not-nil m); begun = λ s m. absurd (Memᴰ.not-nil m) }
  from (s ∷ rest) past k =
      go (continues_nearest past s) (told l ordered past rest s k) (from rest (s ∷ past) (onward l ordered past rest s k))
    where
      more : List Event
      more = events_from (s ∷ past) rest

      go : (b : Bool) → Answers l ordered b s → BegunIn rest more → BegunIn (s ∷ rest) (cond b more (event_of s (continuing s rest) ∷ more))
      go true c f = from_continued s c.0 rest more c.1 f
      go false none f =
          let b : Beginning l s = record { among = in_list l ordered past rest s k; other = none } in
          from_group s _ rest more (record { begins = b; rest = chained l ordered past rest s k }) k.climbs.0 f

  -- every segment is in a group: one that begins in its own, one that continues in that of the one before
  module _ (vs : List Event) (begun : (s : Segment) → Beginning l s → (ts : List Segment) × Group l s ts × Mem (event_of s ts) vs) where
    abbrev InOne : Segment → Type 0
    InOne t = (s : Segment) × (ts : List Segment) × Group l s ts × Mem t (s ∷ ts) × Mem (event_of s ts) vs

    in_one_lem : (rest past : List Segment) → Parts l ordered past rest → ((t : Segment) → Mem t past → InOne t) → (t : Segment) → Mem t l → InOne t
    in_one_lem [] past k done t m = ⊎_elim (done t) (λ n. absurd (Memᴰ.not-nil n)) (k.all t m)
    in_one_lem (s ∷ rest) past k done t m =
        in_one_lem rest (s ∷ past) (onward l ordered past rest s k) (λ u n. ⊎_elim (λ e. subst InOne (sym e) own) (done u) (Memᴰ.cases_cons n)) t m
      where
        one : (b : Bool) → Answers l ordered b s → InOne s
        one true c =
            let n = c.1.nearest in
            let q = done c.0 (earlier_past l ordered past rest s k c.0 n.among n.earlier) in
            (q.0, q.1, q.2, Memᴰ.tail (chain_next q.1 q.0 c.0 s q.2.rest q.3 c.1), q.4)
        one false none =
            let q = begun s (record { among = in_list l ordered past rest s k; other = none }) in
            (s, q.0, q.1, Memᴰ.head refl, q.2)

        own : InOne s
        own = one (continues_nearest past s) (told l ordered past rest s k)

  -- THE EVENTS, COMPUTED
  grouped : Grouped l (events_from [] l)
  grouped = record {
    rises = f.rises;
    made = λ v m. let q = f.made v m in (q.0, q.2, q.3, q.4);
    begun = begun;
    in_one = in_one_lem (events_from [] l) begun l [] (whole l ordered) (λ t m. absurd (Memᴰ.not-nil m));
    in_no_other = in_no_other_lem;
  }
    where
      f : BegunIn l (events_from [] l)
      f = from l [] (whole l ordered)

      begun : (s : Segment) → Beginning l s → (ts : List Segment) × Group l s ts × Mem (event_of s ts) (events_from [] l)
      begun s b = f.begun s b.among b

  -- THERE IS NO OTHER

  half : (vs ws : List Event) → Grouped l vs → Grouped l ws → (v : Event) → Mem v vs → Mem v ws
  half vs ws a b v m =
      let q = a.made v m in
      let n = b.begun q.0 q.2.begins in
      let e : q.1 ≡ n.0 = chain_one l ordered q.1 n.0 q.0 q.2.rest n.1.rest in
      Memᴰ.cast (q.3 ∙ ap (event_of q.0) e) n.2

  grouped_unique : (vs ws : List Event) → Grouped l vs → Grouped l ws → vs ≡ ws
  grouped_unique vs ws a b =
      same_members Prior prior_one_way vs ws (in_order vs a.rises) (in_order ws b.rises) (half vs ws a b) (half ws vs b a)

pub events_of_grouped : (l : List Segment) → rising l ≡ true → Grouped l (events_of l)
events_of_grouped l h = grouped l (rises l h)

pub is_events_of : (l : List Segment) (vs : List Event) → rising l ≡ true → Grouped l vs → vs ≡ events_of l
is_events_of l vs h g = grouped_unique l (rises l h) vs (events_of l) g (events_of_grouped l h)
