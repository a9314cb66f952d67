-- A text split at a separator: its first piece, and what is left.
use Prim.Native.Nat.{ℕ, ◌+◌, ◌<◌, ◌≤◌}
use mathlib.Core.Path.{◌≡◌, refl}
use mathlib.Core.Bool.{Bool, true, false, cond}
use mathlib.Core.List.{List, [], ◌∷◌}
use native.Mathlib.Omega.{arith}
use lib.Dec.{eqb}
use lib.ListN.{length, take, drop}
use Rattle.std.specs.List.{All, position_or_len, slice_split, onto_first}
use Rattle.std.proofs.lemmas.List.Splits.{slice_split_none, slice_split_first}
use Rattle.std.proofs.lemmas.List.Sums.{fails_before_first}
use Rattle.code_text.specs.CodeText.{split}

module _ (separator : ℕ) where
  -- no separator is in it
  abbrev pub Free : List ℕ → Type 0
  Free bs = All (λ b. eqb b separator ≡ false) bs

  -- where the first separator stands; the text's end if there is none
  abbrev pub length_up_to : List ℕ → ℕ
  length_up_to bs = position_or_len (λ b. eqb b separator) bs

  module _ (bs : List ℕ) where
    pub one_piece : Free bs → split separator bs ≡ bs ∷ []
    one_piece = slice_split_none (λ b. eqb b separator) bs

    pub free_if : length bs ≤ length_up_to bs → Free bs
    free_if h k d l = fails_before_first (λ b. eqb b separator) bs k d (omega arith)

    pub first_piece : length_up_to bs < length bs → split separator bs ≡ take (length_up_to bs) bs ∷ split separator (drop (length_up_to bs + 1) bs)
    first_piece h = slice_split_first (λ b. eqb b separator) bs 0 h

  pub some_pieces : (bs : List ℕ) → (p : List ℕ) × (ps : List (List ℕ)) × (split separator bs ≡ p ∷ ps)
  some_pieces [] = ([], [], refl)
  some_pieces (b ∷ bs) = go (eqb b separator) (slice_split (λ c. eqb c separator) bs)
    where
      go : (c : Bool) (rest : List (List ℕ)) → (p : List ℕ) × (ps : List (List ℕ)) × (cond c ([] ∷ rest) (onto_first b rest) ≡ p ∷ ps)
      go true rest = ([], rest, refl)
      go false [] = (b ∷ [], [], refl)
      go false (p ∷ ps) = (b ∷ p, ps, refl)
