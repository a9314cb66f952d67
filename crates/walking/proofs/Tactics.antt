-- What walks by hand share: where a local stands, a local that is read or given back, and a call of a covered function.
-- `gave j val φ v`: a call gave back v, which is the machine value of some r with φ r, and the caller has j r.
use mathlib.Core.Path.{◌≡◌, refl, sym, ap, subst}
use Prim.Native.Nat.{ℕ, zero, ◌+◌, ◌-◌, ◌*◌}
use mathlib.Core.List.{[], ◌∷◌, ◌++◌, List}
use mathlib.Core.Option.{Option, none, some}
use lib.Dec.{T as Holds}
use seplogic.Ra.Ura.{Ura}
use base.Fraction.{full_share}
use mir.Syntax.{Callee as Function, Sym, Ty, Tys, ty_struct, Place, place, field, Opd as Operand, Rv as RValue, copy, Body, seq, assign, call}
use mir.Val.{Val, Vals, vstruct, WT, has_ty}
use mir.Fields.{get_v}
use base.Logic.{SProp, ent, sep, emp, guard, via, assoc∗, comm∗, emp∗, mono_l, mono_r, fst∗, snd∗, id⊢, ex_e}
use base.Fml.{Fml, Share, fat, froom, fdies}
use prog.Memory.{field_at}
use prog.Wp.{Env, Calls, Loops, Spot, spot_of, release}
use types.Logic.{Logic, sem}
use contract.Monad.{fact}
use types.Kit.{
  Item,
  ‵,
  raw,
  ◌⊛◌,
  some as any,
  given,
  later,
  mean,
  ⋆,
  nth,
  put,
  ⊢++,
  Post,
  prop,
  runs,
  lands,
  frees,
  Seq,
  Step,
  step,
  ◌$◌,
  ◌∵◌,
  !,
  qed,
  by,
  move,
  use1,
  split,
  join,
  frame,
  pick,
  learn,
  rewrite,
  show,
  check,
  updating,
  now,
  await,
  done,
}
use types.Run.{Opd, Opds, Rv, Walks, look, init, stop, fld, from, load, assigns}
use types.Part.{Part, whole, sub, look_in}
use sound.WpLaws.{FmC}
use denote.RattleType.{RattleType}
use denote.Laws.{Is, Tells, shows}
use denote.Signature.{type_at}
use denote.Steps.{only, peeks, heard}
use denote.Triple.Statement.{Contract, Triple}
use denote.Triple.Call.{calls_from}
use denote.Triple.Entry.{alive}
use denote.Triple.Spec.{triple_of}
use denote.Triple.Clauses.{Clauses, Ended, Lasts, at_exit, lasts, ensured, closing}

-- THE LOCALS

-- the place of local i of n right after the allocations; what frees the local stands after it
abbrev pub cell : ℕ → ℕ → ℕ
cell n i = 2 * (n - 1 - i)

-- a local of a walk: its type, its block, and what it holds, if anything
abbrev pub Var : Type 0
Var = Ty × ℕ × Option Val

abbrev stands : Ty → ℕ → Option Val → Fml
stands τ b none = froom τ b zero
stands τ b (some v) = fat full_share τ b zero v

module _ {M : Type 1} {𝓤 : Ura M} (𝓛 : Logic 𝓤) where
  open 𝓛 use {H}

  abbrev pub env : List Var → Env 𝓤 H
  env [] = []
  env (x ∷ xs) = (x.0, x.1) ∷ env xs

  -- their entries, from the last to the first, before Γ
  abbrev pub cells : List Var → List (Item 𝓤) → List (Item 𝓤)
  cells [] Γ = Γ
  cells (x ∷ xs) Γ = cells xs (‵ (stands x.0 x.1 x.2) ∷ ‵ (fdies x.0 x.1) ∷ Γ)

  -- what is freed of one, and of all
  abbrev one : Var → SProp 𝓤
  one x = sep 𝓤 (H.room x.0 x.1 zero) (H.dies x.0 x.1)

  abbrev all : List Var → SProp 𝓤
  all [] = emp 𝓤
  all (x ∷ xs) = sep 𝓤 (one x) (all xs)

  released : (xs : List Var) (P : SProp 𝓤) → ent 𝓤 (sep 𝓤 (all xs) P) (release 𝓤 H (env xs) P)
  released [] P = snd∗ 𝓤 (emp 𝓤) P
  released (x ∷ xs) P = via 𝓤 (sep 𝓤 (one x) (sep 𝓤 (all xs) P)) (assoc∗ 𝓤 (one x) (all xs) P) (mono_r 𝓤 (one x) (released xs P))

  module _ where
    as_room : (τ : Ty) (b : ℕ) (v : Option Val) → ent 𝓤 (sem 𝓛 (stands τ b v)) (H.room τ b zero)
    as_room τ b none = id⊢ 𝓤 _
    as_room τ b (some v) = 𝓛.laws.at_room τ b zero v

    apart : (xs : List Var) (Γ : List (Item 𝓤)) → ent 𝓤 (⋆ 𝓛 (cells xs Γ)) (sep 𝓤 (all xs) (⋆ 𝓛 Γ))
    apart [] Γ = emp∗ 𝓤 (⋆ 𝓛 Γ)
    apart (x ∷ xs) Γ =
        let here : List (Item 𝓤) = ‵ (stands x.0 x.1 x.2) ∷ ‵ (fdies x.0 x.1) ∷ Γ in
        via 𝓤 (sep 𝓤 (all xs) (⋆ 𝓛 here)) (apart xs here)
        (qed 𝓛 (raw (all xs) ∷ here) ∵ move ! (1 ∷ 2 ∷ []) $ use1 𝓛 (‵ (froom x.0 x.1 zero)) (as_room x.0 x.1 x.2) $
        join ! $ join ! $ frame ! $ done !)

    freed : (xs : List Var) → ent 𝓤 (⋆ 𝓛 (cells xs [])) (all xs)
    freed xs = via 𝓤 (sep 𝓤 (all xs) (emp 𝓤)) (apart xs []) (fst∗ 𝓤 (all xs) (emp 𝓤))

module _ {M : Type 1} {𝓤 : Ura M} {𝓛 : Logic 𝓤} {K : Type 0} where
  -- a whole local is read: entry p is its cell
  open 𝓛 use {H}

  pub reads : K → {Γ : List (Item 𝓤)} (p : ℕ) {E : Env 𝓤 H} {i : ℕ} {q : Share} {v : Val}
      → nth 𝓛 p Γ ≡ ‵ (fat q (spot_of 𝓤 H E i).0 (spot_of 𝓤 H E i).1 (spot_of 𝓤 H E i).2 v) → Opd K 𝓛 Γ E (copy (place i [])) v
  reads t p e = load t (from t (stop t)) (look t p e)

  -- field k of a local is read: entry p is the local's cell
  pub reads_field : K → {Γ : List (Item 𝓤)} (p k : ℕ) {E : Env 𝓤 H} {i : ℕ} {q : Share} {ν : Sym} {τs : Tys} {b o : ℕ} {vs : Vals} {τ : Ty} {d : ℕ}
      → spot_of 𝓤 H E i ≡ (ty_struct ν τs, b, o) → nth 𝓛 p Γ ≡ ‵ (fat q (ty_struct ν τs) b o (vstruct vs)) → field_at zero τs k ≡ some (τ, d)
      → Opd K 𝓛 Γ E (copy (place i (field k ∷ []))) (get_v vs k)
  reads_field t {Γ} p k {E} {i} {q} {ν} {τs} {b} {o} {vs} {τ} {d} spot e f =
      load t (from t (subst (λ (sp : Spot 𝓤 H). Walks K 𝓛 Γ E sp (field k ∷ []) (τ, b, o + d)) (sym spot) (fld t f (stop t))))
      (look_in t p (sub t k f (subst (λ (j : Item 𝓤). Part K 𝓛 j q (ty_struct ν τs) b o (vstruct vs) (λ u. ‵ (fat q (ty_struct ν τs) b o u)))
      (sym e) (whole t))))

  -- a whole local that holds nothing is given a value: entry p is its room
  pub sets : K → {Γ : List (Item 𝓤)} {E : Env 𝓤 H} {C : Calls 𝓤 H} {Λ : Loops 𝓤 H} {z : Post 𝓤 H} {i : ℕ} {rv : RValue} {rest : Body} {v : Val}
      → Rv K 𝓛 Γ E rv v → (p : ℕ) → nth 𝓛 p Γ ≡ ‵ (froom (spot_of 𝓤 H E i).0 (spot_of 𝓤 H E i).1 (spot_of 𝓤 H E i).2)
      → Holds (has_ty (spot_of 𝓤 H E i).0 v) × WT v
      → Step K 𝓛 (put 𝓛 p (‵ (fat full_share (spot_of 𝓤 H E i).0 (spot_of 𝓤 H E i).1 (spot_of 𝓤 H E i).2 v)) Γ) (runs C Λ E rest z)
      Γ (runs C Λ E (seq (assign (place i []) rv) rest) z)
  sets t value p e typed = assigns t value (from t (stop t)) (init t p e typed)

  -- all locals are freed, and what stands before them is left
  pub frees_all : K → (Γ : List (Item 𝓤)) (xs : List Var) {P : SProp 𝓤} → Step K 𝓛 Γ (prop P) (Γ ++ cells 𝓛 xs []) (frees (env 𝓛 xs) (prop P))
  frees_all t Γ xs {P} = step (λ s. record {
    prf = via 𝓤 (sep 𝓤 (⋆ 𝓛 Γ) (⋆ 𝓛 (cells 𝓛 xs []))) (⊢++ 𝓛 Γ (cells 𝓛 xs []))
        (via 𝓤 (sep 𝓤 P (⋆ 𝓛 (cells 𝓛 xs []))) (mono_l 𝓤 (⋆ 𝓛 (cells 𝓛 xs [])) s.prf)
        (via 𝓤 (sep 𝓤 P (all 𝓛 xs)) (mono_r 𝓤 P (freed 𝓛 xs))
        (via 𝓤 (sep 𝓤 (all 𝓛 xs) P) (comm∗ 𝓤 P (all 𝓛 xs)) (released 𝓛 xs P))));
  })

-- A CALL OF A COVERED FUNCTION

abbrev pub gave : {M : Type 1} {𝓤 : Ura M} {X : Type 0} → (X → Item 𝓤) → (X → Val) → (X → Type 0) → Val → Item 𝓤
gave j val φ v = later (any (λ r. given ((v ≡ val r) × φ r) (j r)))

-- The caller has i, which is what the callee asks, beside some rest. What the result r owns, the callee's lifetimes and that rest
-- are j r. The callee's clause says φ of its result.
module _ {M : Type 1} {𝓤 : Ura M} (𝓛 : Logic 𝓤) (T : Ended) (c : Clauses 𝓤 T)
    (y : (triple_of 𝓛 T.signature (closing 𝓛 T c)).Ghost) (i : Item 𝓤) (rest : SProp 𝓤) where
  open 𝓛 use {H}

  abbrev Callee : Contract 𝓤
  Callee = triple_of 𝓛 T.signature (closing 𝓛 T c)

  abbrev R : RattleType
  R = type_at T.signature.result y.0.0

  abbrev tokens : SProp 𝓤
  tokens = alive 𝓛 T.signature y.0.0 y.0.1

  module _ (vals : R.Denot → List Val) (tells : Tells R (Is R) vals) (φ : R.Denot → Type 0) (j : R.Denot → Item 𝓤) where
    abbrev Knows : R.Denot → Type 0
    Knows r = φ r × Is R r (vals r)

    pub covered : {C : Calls 𝓤 H} {f : Function} → FmC 𝓤 H 𝓛.laws C → Triple 𝓤 (C f) Callee
        → ent 𝓤 (mean 𝓛 i) (sep 𝓤 (Callee.pre y) rest)
        → ((r : R.Denot) → ent 𝓤 (sep 𝓤 (sem 𝓛 (R.own_val r (vals r))) (sep 𝓤 tokens rest)) (mean 𝓛 (j r)))
        → ((r : R.Denot) (ws : Lasts T y.0.0 y.0.3)
        → ent 𝓤 ((c y.0.0 y.0.3).ensures y.1 r (at_exit T y.0.0 y.0.3 ws)) (fact 𝓤 (φ r)))
        → ent 𝓤 (mean 𝓛 i) (C f (Callee.args y) (λ v. mean 𝓛 (gave j (λ r. only (vals r)) Knows v)))
    covered {C} {f} fm known goes back says =
        via 𝓤 (sep 𝓤 (Callee.pre y) rest) goes
        (via 𝓤 (sep 𝓤 (C f (Callee.args y) (Callee.post y)) rest) (mono_l 𝓤 rest (known y))
        (fm f (Callee.args y) (Callee.post y) (λ v. mean 𝓛 (gave j (λ r. only (vals r)) Knows v)) rest hears))
      where
        said : (r : R.Denot) → ent 𝓤 (ensured 𝓛 T c y.0.0 y.0.3 y.1 r) (fact 𝓤 (φ r))
        said r = ex_e 𝓤 _ (λ ws. via 𝓤 _ (snd∗ 𝓤 (sem 𝓛 (lasts T y.0.0 y.0.3 ws)) _) (says r ws))

        hears : (v : Val) → ent 𝓤 (sep 𝓤 (Callee.post y v) rest) (mean 𝓛 (gave j (λ r. only (vals r)) Knows v))
        hears v =
            qed 𝓛 (later (any (λ r. (raw tokens ⊛ ‵ (R.own_val r (v ∷ []))) ⊛ raw (ensured 𝓛 T c y.0.0 y.0.3 y.1 r))) ∷ raw rest ∷ []) ∵
            updating ! $ await ! tt $ pick ! (λ r. split ! $ move ! (1 ∷ []) $ use1 𝓛 (raw (fact 𝓤 (φ r))) (said r) $ heard ! (φ r) (λ e.
            split ! $ move ! (1 ∷ []) $ peeks ! R (Is R) (shows 𝓛 R) r (v ∷ []) (λ is.
            rewrite ! 0 (λ (vs : List Val). ‵ (R.own_val r vs)) (tells r _ is) refl $
            now ! $ show ! (λ (x : R.Denot). guard 𝓤 ((v ≡ only (vals x)) × Knows x) (mean 𝓛 (j x))) r $
            check ! (ap only (tells r _ is), (e, subst (Is R r) (tells r _ is) is)) $ by ! (back r))))

-- the call's step: before it the caller has i first, and after it j r
module _ {M : Type 1} {𝓤 : Ura M} {𝓛 : Logic 𝓤} {K : Type 0}
    {Γ : List (Item 𝓤)} {E : Env 𝓤 𝓛.H} {C : Calls 𝓤 𝓛.H} {f : Function} where
  open 𝓛 use {H}

  pub calls_gave : K → FmC 𝓤 H 𝓛.laws C → {Λ : Loops 𝓤 H} {z : Post 𝓤 H} {xs : List Operand} {d : Place} {rest : Body}
      {i : Item 𝓤} {vs : List Val} {X : Type 0} {val : X → Val} {φ : X → Type 0} (j : X → Item 𝓤)
      → ent 𝓤 (mean 𝓛 i) (C f vs (λ v. mean 𝓛 (gave j val φ v))) → Opds K 𝓛 (i ∷ Γ) E xs vs
      → ((r : X) → φ r → Seq K 𝓛 (j r ∷ Γ) (lands C Λ E d (val r) rest z)) → Seq K 𝓛 (i ∷ Γ) (runs C Λ E (seq (call f xs d) rest) z)
  calls_gave t fm {Λ} {z} {xs} {d} {rest} {i} {vs} {X} {val} {φ} j met os k =
      calls_from t fm i vs (λ v. mean 𝓛 (gave j val φ v)) met os (λ v. use1 𝓛 (gave j val φ v) (id⊢ 𝓤 _) $ await t tt $ pick t (λ r. learn t (λ p.
      subst (λ (u : Val). Seq K 𝓛 (j r ∷ Γ) (lands C Λ E d u rest z)) (sym p.0) (k r p.1))))
