-- Looking through segments in order, as `events_from` does: back it meets the nearest earlier one of the code, by offset, and
-- forward all that continue a segment. So its tests answer what the types of specs/Events.antt say.
use Prim.Native.Nat.{◌<◌, ◌≤◌}
use mathlib.Core.Path.{◌≡◌, refl, sym, ap, subst, ◌∙◌}
use mathlib.Core.Bool.{Bool, true, false, cond, false≢true}
use mathlib.Core.List.Memᴰ
use mathlib.Core.List.{List, [], ◌∷◌}
use mathlib.Core.Logic.{◌⊎◌, inl, inr, ⊎_elim}
use native.Mathlib.Omega.{arith}
use native.Mathlib.Decide.{dec_le}
use lib.Dec.{eqb}
use borrow.Author.Tests.{eqb-true, eqb-false}
use Rattle.model.specs.declared.Segment.{Segment}
use Rattle.model.specs.Events.{continues, continues_nearest, continuing}
use Rattle.theorems.specs.Grouped.{Nearest, ContinuedBy, Chain}
use Rattle.theorems.proofs.Basics.{Mem}
use Rattle.theorems.proofs.Order.{◌≺◌, sooner, lower, RisingBy, Rising, rising_one}
use Rattle.theorems.proofs.Events.{continues_if, continues_then}

-- PLACES AND ORDER

not_first : {A : Type 0} {x y : A} {l : List A} → (x ≡ y → ⊥) → Mem x (y ∷ l) → Mem x l
not_first h m = ⊎_elim (λ e. absurd (h e)) (λ n. n) (Memᴰ.cases_cons m)

not_later : {r s : Segment} → r ≺ s → r.offset ≤ s.offset
not_later (sooner h) = omega arith
not_later (lower e h) = omega arith

earlier_of_code : {r s : Segment} → r ≺ s → r.code ≡ s.code → r.offset < s.offset
earlier_of_code (sooner h) e = h
earlier_of_code (lower o h) e = absurd (omega arith)

earlier_other : {q s : Segment} → q.offset < s.offset → q ≡ s → ⊥
earlier_other {q} {s} o e = let d : q.offset ≡ s.offset = ap (λ (x : Segment). x.offset) e in omega arith

module _ (l : List Segment) (ordered : Rising l) where
  -- ONE BEFORE, ONE AFTER

  pub nearest_one : (p q s : Segment) → Nearest l p s → Nearest l q s → p ≡ q
  nearest_one p q s a b =
      let le : p.offset ≤ q.offset = b.closest p a.among a.code a.earlier in
      let ge : q.offset ≤ p.offset = a.closest q b.among b.code b.earlier in
      rising_one l ordered p q a.among b.among (record { offset = omega arith; code = a.code ∙ sym b.code })

  pub next_one : (p s t : Segment) → ContinuedBy l p s → ContinuedBy l p t → s ≡ t
  next_one p s t a b =
      rising_one l ordered s t a.among b.among
      (record { offset = sym a.meets ∙ b.meets; code = sym a.nearest.code ∙ b.nearest.code })

  pub chain_one : (ts us : List Segment) (s : Segment) → Chain l s ts → Chain l s us → ts ≡ us
  unfolding Chain
  chain_one [] [] s a b = refl
  chain_one [] (u ∷ us) s a b = absurd (a u b.0)
  chain_one (t ∷ ts) [] s a b = absurd (b t a.0)
  chain_one (t ∷ ts) (u ∷ us) s a b =
      let e : t ≡ u = next_one s t u a.0 b.0 in
      let r : ts ≡ us = chain_one ts us u (subst (λ x. Chain l x ts) e a.1) b.1 in
      λ i. e i ∷ r i

  -- THE TEST AND THE TYPE

  test_if : (p s : Segment) → ContinuedBy l p s → continues p s ≡ true
  test_if p s c = continues_if p s c.unmarked c.no_end c.meets

  test_then : (p s : Segment) → Mem s l → Nearest l p s → continues p s ≡ true → ContinuedBy l p s
  test_then p s m n e =
      let k = continues_then p s e in
      record { among = m; unmarked = k.0; nearest = n; no_end = k.1; meets = k.2 }

  -- s continues one, or none
  abbrev pub Answers : Bool → Segment → Type 0
  Answers true s = (p : Segment) × ContinuedBy l p s
  Answers false s = (p : Segment) → ContinuedBy l p s → ⊥

  -- BACK: ps are earlier segments, nearest first, with all of the code of s among them
  abbrev AllEarlier : Segment → List Segment → Type 0
  AllEarlier s ps = (q : Segment) → Mem q l → q.code ≡ s.code → q.offset < s.offset → Mem q ps

  looks_back : (s : Segment) → Mem s l → (ps : List Segment) → RisingBy (λ x y. y ≺ x) ps → ((q : Segment) → Mem q ps → Mem q l × (q ≺ s))
      → AllEarlier s ps → Answers (continues_nearest ps s) s
  unfolding continues_nearest
  looks_back s m [] falls early all = λ p c. Memᴰ.not-nil (all p c.nearest.among c.nearest.code c.nearest.earlier)
  looks_back s m (p ∷ ps) falls early all =
      go (eqb p.code s.code) refl (looks_back s m ps falls.1 (λ q n. early q (Memᴰ.tail n)))
    where
      near : p.code ≡ s.code → Nearest l p s
      near e = record {
        among = (early p (Memᴰ.head refl)).0;
        code = e;
        earlier = earlier_of_code (early p (Memᴰ.head refl)).1 e;
        closest = λ q n c o. ⊎_elim (λ d. rw d (omega arith)) (λ k. not_later (falls.0 q k)) (Memᴰ.cases_cons (all q n c o));
      }

      found : (b : Bool) → continues p s ≡ b → Nearest l p s → Answers b s
      found true e n = (p, test_then p s m n e)
      found false e n = λ q c. false≢true (sym e ∙ test_if p s (subst (λ x. ContinuedBy l x s) (nearest_one q p s c.nearest n) c))

      go : (b : Bool) → eqb p.code s.code ≡ b → (AllEarlier s ps → Answers (continues_nearest ps s) s)
          → Answers (cond b (continues p s) (continues_nearest ps s)) s
      go true e ih = found (continues p s) refl (near (eqb-true _ _ e))
      go false e ih = ih (λ q n c o. not_first (λ d. eqb-false _ _ e (sym (ap (λ (x : Segment). x.code) d) ∙ c)) (all q n c o))

  -- FORWARD: ts are later segments, in order, with all of the code of s among them
  abbrev AllLater : Segment → List Segment → Type 0
  AllLater s ts = (u : Segment) → Mem u l → u.code ≡ s.code → s.offset < u.offset → Mem u ts

  -- the next one of the code of s is t
  module _ (s t : Segment) (ts : List Segment) (m : Mem s l) (n : Mem t l) (o : s ≺ t) (rise : Rising (t ∷ ts)) (all : AllLater s (t ∷ ts))
      (e : s.code ≡ t.code) where
    apart : s.offset < t.offset
    apart = earlier_of_code o e

    later : AllLater t ts
    later u k c h = not_first (λ d. earlier_other h (sym d)) (all u k (c ∙ sym e) (omega (arith, apart)))

    near : Nearest l s t
    near = record { among = m; code = e; earlier = apart; closest = λ q k c h. closest q k c h (dec_le q.offset s.offset) }
      where
        closest : (q : Segment) → Mem q l → q.code ≡ t.code → q.offset < t.offset → Dec (q.offset ≤ s.offset) → q.offset ≤ s.offset
        closest q k c h (yes d) = d
        closest q k c h (no d) =
            let f = not_later (rise.0 q (not_first (earlier_other h) (all q k (c ∙ sym e) (omega arith)))) in
            absurd (omega arith)

    -- what is later than t has t nearer than s
    nearer : (u : Segment) → ContinuedBy l s u → Mem u ts → ⊥
    nearer u c k =
        let d : t.code ≡ u.code = sym e ∙ c.nearest.code in
        let f = c.nearest.closest t n d (earlier_of_code (rise.0 u k) d) in
        omega (arith, f, apart)

    next : (b : Bool) → continues s t ≡ b → Chain l t (continuing t ts) → Chain l s (cond b (t ∷ continuing t ts) [])
    unfolding Chain
    next true f k = (test_then s t n near f, k)
    next false f k = λ u c.
        ⊎_elim (λ d. false≢true (sym f ∙ test_if s t (subst (λ x. ContinuedBy l s x) d c))) (nearer u c)
        (Memᴰ.cases_cons (all u c.among (sym c.nearest.code) c.nearest.earlier))

  looks_forward : (ts : List Segment) (s : Segment) → Mem s l → Rising ts → ((u : Segment) → Mem u ts → Mem u l × (s ≺ u))
      → AllLater s ts → Chain l s (continuing s ts)
  unfolding continuing Chain
  looks_forward [] s m rise late all = λ u c. Memᴰ.not-nil (all u c.among (sym c.nearest.code) c.nearest.earlier)
  looks_forward (t ∷ ts) s m rise late all =
      go (eqb s.code t.code) refl (looks_forward ts t first.0 rise.1 (λ u n. ((late u (Memᴰ.tail n)).0, rise.0 u n)))
      (looks_forward ts s m rise.1 (λ u n. late u (Memᴰ.tail n)))
    where
      first : Mem t l × (s ≺ t)
      first = late t (Memᴰ.head refl)

      go : (b : Bool) → eqb s.code t.code ≡ b → (AllLater t ts → Chain l t (continuing t ts))
          → (AllLater s ts → Chain l s (continuing s ts))
          → Chain l s (cond b (cond (continues s t) (t ∷ continuing t ts) []) (continuing s ts))
      go true q ih jh =
          let e = eqb-true _ _ q in
          next s t ts m first.0 first.1 rise all e (continues s t) refl (ih (later s t ts m first.0 first.1 rise all e))
      go false q ih jh = jh (λ u n c o. not_first (λ d. eqb-false _ _ q (sym c ∙ ap (λ (x : Segment). x.code) d)) (all u n c o))

  -- ALONG THE LIST

  -- l in two parts, the earlier one from its last segment on
  pub record Parts (past rest : List Segment) : Type 0 where
    pub falls : RisingBy (λ x y. y ≺ x) past
    pub climbs : Rising rest
    pub apart : (p q : Segment) → Mem p past → Mem q rest → p ≺ q
    pub past_in : (q : Segment) → Mem q past → Mem q l
    pub rest_in : (q : Segment) → Mem q rest → Mem q l
    pub all : (q : Segment) → Mem q l → Mem q past ⊎ Mem q rest

  pub whole : Parts [] l
  whole = record {
    falls = tt;
    climbs = ordered;
    apart = λ p q m n. absurd (Memᴰ.not-nil m);
    past_in = λ q m. absurd (Memᴰ.not-nil m);
    rest_in = λ q m. m;
    all = λ q m. inr m;
  }

  module _ (past rest : List Segment) (s : Segment) (k : Parts past (s ∷ rest)) where
    pub in_list : Mem s l
    in_list = k.rest_in s (Memᴰ.head refl)

    -- one segment on
    pub onward : Parts (s ∷ past) rest
    onward = record {
      falls = (λ p m. k.apart p s m (Memᴰ.head refl), k.falls);
      climbs = k.climbs.1;
      apart = λ p q m n. ⊎_elim (λ e. rw e (k.climbs.0 q n)) (λ m'. k.apart p q m' (Memᴰ.tail n)) (Memᴰ.cases_cons m);
      past_in = λ q m. ⊎_elim (λ e. Memᴰ.cast e in_list) (λ n. k.past_in q n) (Memᴰ.cases_cons m);
      rest_in = λ q m. k.rest_in q (Memᴰ.tail m);
      all = λ q m. ⊎_elim (λ n. inl (Memᴰ.tail n)) (λ n. ⊎_elim (λ e. inl (Memᴰ.head e)) (λ n'. inr n') (Memᴰ.cases_cons n)) (k.all q m);
    }

    -- what is earlier than s by offset stands before it, what is later after it
    pub earlier_past : (q : Segment) → Mem q l → q.offset < s.offset → Mem q past
    earlier_past q m o = go (onward.all q m)
      where
        go : Mem q (s ∷ past) ⊎ Mem q rest → Mem q past
        go (inl n) = not_first (earlier_other o) n
        go (inr n) = let h = not_later (k.climbs.0 q n) in absurd (omega arith)

    later_rest : (u : Segment) → Mem u l → s.offset < u.offset → Mem u rest
    later_rest u m o = go (k.all u m)
      where
        go : Mem u past ⊎ Mem u (s ∷ rest) → Mem u rest
        go (inl n) = let h = not_later (k.apart u s n (Memᴰ.head refl)) in absurd (omega arith)
        go (inr n) = not_first (λ e. earlier_other o (sym e)) n

    pub told : Answers (continues_nearest past s) s
    told = looks_back s in_list past k.falls (λ q m. (k.past_in q m, k.apart q s m (Memᴰ.head refl))) (λ q m c o. earlier_past q m o)

    pub chained : Chain l s (continuing s rest)
    chained = looks_forward rest s in_list k.climbs.1 (λ u m. (k.rest_in u (Memᴰ.tail m), k.climbs.0 u m)) (λ u m c o. later_rest u m o)
