-- A slice of bytes in a walk by hand: lent to a callee, which gives it back.
use Prim.Native.Nat.{ℕ}
use mathlib.Core.List.{[], ◌∷◌, List}
use seplogic.Ra.Ura.{Ura}
use package.mir.Syntax.{named, Ty, Lifetime, imm, w8, ty_int, ty_ref}
use package.mir.Val.{Val, WT, has_ty}
use lib.Dec.{T as Holds}
use lib.ListN.{length}
use base.Logic.{SProp, ent, sep, emp}
use base.Fml.{Lft, Share, Fml, ftrue, fsep, flft}
use types.Logic.{Logic, sem}
use types.Kit.{‵, ◌⊛◌, ◌$◌, ◌∵◌, !, qed, move, keep, use0, use1, split, join, fsplit, fjoin, frame, done}
use denote.RattleType.{RattleType, Denots, Valss, owns}
use denote.Laws.{Is}
use denote.Builtin.{u8}
use denote.Plain.{uint_row_laws}
use denote.Ref.{Bor}
use denote.Slice.{slice_ty, slice_val, ShrSlice, shr_slice_vals, shr_slice_Lawful, shr_slice_copy}
use denote.Steps.{nothing}

-- the type of a local that is a slice of bytes, and its machine value
abbrev pub bytes : Lifetime → Ty
bytes l = slice_ty (ty_ref l imm (ty_int w8))

abbrev pub slice_of : Bor (List ℕ) → Val
slice_of p = slice_val p.ref_ptr (length p.now)

-- what the slice owns
abbrev pub own_slice : Lft → Bor (List ℕ) → Fml
own_slice κ p = (ShrSlice (named 0) κ u8).own_val p (shr_slice_vals p)

-- with the token of its lifetime
abbrev pub lent : Lft → Share → Bor (List ℕ) → Fml
lent κ q p = fsep (flft κ q) (own_slice κ p)

module _ {M : Type 1} {𝓤 : Ura M} (𝓛 : Logic 𝓤) (κ : Lft) (p : Bor (List ℕ)) where
  open 𝓛 use {A}

  pub typed_slice : (l : Lifetime) → Is (ShrSlice l κ u8) p (shr_slice_vals p) → Holds (has_ty (bytes l) (slice_of p)) × WT (slice_of p)
  typed_slice l is = ((shr_slice_Lawful 𝓛 l κ u8).typed p (shr_slice_vals p) is).0

  pub slice_twice : ent 𝓤 (sem 𝓛 (own_slice κ p)) (sep 𝓤 (sem 𝓛 (own_slice κ p)) (sem 𝓛 (own_slice κ p)))
  slice_twice = (shr_slice_copy 𝓛 (named 0) κ u8 (uint_row_laws w8)).twice p (shr_slice_vals p)

  module _ (q : Share) where
    abbrev token : SProp 𝓤
    token = sep 𝓤 (A.lft κ q) (emp 𝓤)

    -- A callee takes the slice and values xs that own nothing: the slice is copied for it.
    pub goes : (Rs : List RattleType) (xs : Denots Rs) (vs : Valss Rs) → ent 𝓤 (emp 𝓤) (sem 𝓛 (owns Rs xs vs))
        → ent 𝓤 (sem 𝓛 (lent κ q p))
        (sep 𝓤 (sep 𝓤 (sep 𝓤 token (sem 𝓛 (owns (ShrSlice (named 0) κ u8 ∷ Rs) (p, xs) (shr_slice_vals p, vs)))) (emp 𝓤))
        (sem 𝓛 (own_slice κ p)))
    goes Rs xs vs free =
        qed 𝓛 (‵ (lent κ q p) ∷ []) ∵ fsplit ! $
        move ! (1 ∷ []) $ use1 𝓛 (‵ (own_slice κ p) ⊛ ‵ (own_slice κ p)) slice_twice $ split ! $
        -- slice, slice, token
        use0 𝓛 (‵ (owns Rs xs vs)) free $ move ! (1 ∷ 0 ∷ []) $ fjoin ! $
        nothing ! $ move ! (3 ∷ 0 ∷ []) $ join ! $ join ! $ nothing ! $ move ! (1 ∷ 0 ∷ []) $ join ! $ frame ! $ done !

    -- it gives back the token, and its result owns f
    pub back : (f : Fml)
        → ent 𝓤 (sep 𝓤 (sem 𝓛 f) (sep 𝓤 token (sem 𝓛 (own_slice κ p)))) (sep 𝓤 (sem 𝓛 f) (sem 𝓛 (lent κ q p)))
    back f =
        qed 𝓛 (‵ f ∷ (‵ (flft κ q) ⊛ ‵ ftrue) ∷ ‵ (own_slice κ p) ∷ []) ∵
        move ! (1 ∷ []) $ split ! $ move ! (0 ∷ 3 ∷ []) $ fjoin ! $ keep ! (2 ∷ 0 ∷ []) $ done !
