-- What is stored at a place of a column, from which on the others moved up by one, is put in there.
use Prim.Native.Nat.{ℕ, suc, ◌+◌, ◌-◌, ◌≤◌, ◌<◌}
use mathlib.Core.Path.{◌≡◌, sym, ◌∙◌, ap}
use mathlib.Core.List.{List, [], ◌∷◌, ◌++◌}
use native.Mathlib.Numerals.{add-one}
use native.Mathlib.Omega.{arith}
use lib.ListN.{length, get_or, set, take, drop, length-append}
use lib.Seq.{length-take-le, take-take, take-suc, append_snoc, set-append_left, set_at}
use Rattle.std.specs.List.{copy_within}
use Rattle.std.proofs.lemmas.List.{drop-take}
use Rattle.table.specs.Columns.{inserted_at}

module _ {A : Type 0} (l : List A) (n i : ℕ) (x : A) (within : i ≤ n) (fits : n < length l) where
  -- those that move
  abbrev later : List A
  later = take (n - i) (drop i l)

  first : take (suc i) l ≡ take i l ++ (get_or l i x ∷ [])
  first = take-suc l i x (omega arith)

  moved : copy_within l i n (i + 1) ≡ (take i l ++ (get_or l i x ∷ later)) ++ drop (n + 1) l
  moved =
      let e : i + 1 + (n - i) ≡ n + 1 = omega arith in
      rw (e, add-one, first, append_snoc (take i l) (get_or l i x) later)

  pub put_in : set (copy_within l i n (i + 1)) i x ≡ inserted_at i x n l
  unfolding inserted_at
  put_in =
      let long : length (take i l) ≡ i = length-take-le i l (omega arith) in
      let room : i < length (take i l ++ (get_or l i x ∷ later)) = omega (arith, length-append (take i l) (get_or l i x ∷ later)) in
      let all : i + (n - i) ≡ n = omega arith in
      let behind : drop i (take n l) ≡ later = ap (λ (k : ℕ). drop i (take k l)) (sym all) ∙ drop-take i (n - i) l in
      rw (
        moved,
        take-take i n l within,
        behind,
        set-append_left (take i l ++ (get_or l i x ∷ later)) (drop (n + 1) l) i x room,
        set_at (take i l) (get_or l i x) later x i long,
      )
