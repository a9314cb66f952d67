-- What stands between two commas: each way through what it is found to be.
use Prim.Native.Nat.{ℕ, ◌+◌, ◌-◌, ◌<◌, ◌≤◌}
use mathlib.Core.Path.{◌≡◌, refl, sym, ◌∙◌}
use mathlib.Core.Bool.{Bool, true, false, cond, ◌&&◌, and-false, false≢true}
use mathlib.Core.List.{List, [], ◌∷◌}
use native.Mathlib.Omega.{arith}
use borrow.Author.Tests.{le-leb, lt-ltb, le-ltb, ne_eqb, leb-true, ltb-true, ltb-false}
use lib.Dec.{eqb, leb, ltb}
use lib.ListN.{length, take, drop, length-drop}
use lib.Seq.{take_all}
use Rattle.std.specs.Prelude.{Option, Some, None}
use Rattle.std.specs.List.{position}
use Rattle.std.proofs.lemmas.List.Elements.{All-nil, All-cons}
use Rattle.std.proofs.lemmas.Option.{none-some, cond_some}
use Rattle.refusals.proofs.Tests.{and_then, and_both}
use Rattle.decimal.specs.Decimal.{is_digit, are_digits, value}
use Rattle.code_text.specs.CodeText.{is_item, is_number, dash, split, rises, piece_of}
use Rattle.code_text.specs.Steps.{number_of, told, item_in}
use Rattle.code_text.proofs.Numbers.{numeral, no_number, is_number_lem}
use Rattle.code_text.proofs.Splits.{Free, length_up_to, one_piece, free_if, first_piece, some_pieces}

-- NO SEPARATOR IS A DIGIT

pub no_separator : (separator : ℕ) → separator < 48 → (bs : List ℕ) → are_digits bs ≡ true → Free separator bs
unfolding are_digits
no_separator separator h [] e = All-nil (λ b. eqb b separator ≡ false)
no_separator separator h (b ∷ bs) e =
    let tests = and_then (is_digit b) (are_digits bs) e in
    let low : 48 ≤ b = leb-true 48 b (and_then (leb 48 b) (leb b 57) tests.0).0 in
    All-cons (λ b. eqb b separator ≡ false) b bs (ne_eqb b separator (λ z. omega (arith, z))) (no_separator separator h bs tests.1)

pub number_whole : (bs : List ℕ) → is_number bs ≡ true → split dash bs ≡ bs ∷ []
number_whole bs e = one_piece dash bs (no_separator dash (omega arith) bs (numeral bs e).digits)

-- A PIECE AT ITS DASHES

module _ (a b : ℕ) where
  pub below : rises a b ≡ true → a < b
  below = ltb-true a b

  pub rises_if : a < b → rises a b ≡ true
  rises_if = lt-ltb a b

  falls_if : b ≤ a → rises a b ≡ false
  falls_if = le-ltb a b

bad_first : (x : List ℕ) (rest : List (List ℕ)) → is_number x ≡ false → None ≡ told (piece_of (x ∷ rest))
unfolding piece_of
bad_first x [] e = rw e
bad_first x (y ∷ []) e = rw e
bad_first x (y ∷ z ∷ more) e = refl

-- a second dash stands in what is no number
bad_second : (x y : List ℕ) → is_number y ≡ false → None ≡ told (piece_of (x ∷ split dash y))
unfolding piece_of
bad_second x y e = go (ltb (length_up_to dash y) (length y)) refl
  where
    go : (b : Bool) → ltb (length_up_to dash y) (length y) ≡ b → None ≡ told (piece_of (x ∷ split dash y))
    go true h =
        let cut = first_piece dash y (ltb-true (length_up_to dash y) (length y) h) in
        rw (cut, (some_pieces dash (drop (length_up_to dash y + 1) y)).2)
    go false h = rw (one_piece dash y (free_if dash y (ltb-false (length_up_to dash y) (length y) h)), e, and-false (is_number x))

module _ (bs : List ℕ) (r : Option ℕ) (at : r ≡ position (λ b. eqb b dash) bs) where
  module _ (none : r ≡ None) where
    whole : split dash bs ≡ bs ∷ []
    whole = go (ltb (length_up_to dash bs) (length bs)) refl (sym at ∙ none)
      where
        go : (b : Bool) → ltb (length_up_to dash bs) (length bs) ≡ b → cond b (Some (length_up_to dash bs)) None ≡ None → split dash bs ≡ bs ∷ []
        go true h e = absurd (none-some (length_up_to dash bs) (sym e))
        go false h e = one_piece dash bs (free_if dash bs (ltb-false (length_up_to dash bs) (length bs) h))

    pub no_number_alone : None ≡ number_of bs → None ≡ item_in bs
    unfolding item_in
    no_number_alone e = rw whole (bad_first bs [] (no_number bs e))

    pub one_number : (n : ℕ) → Some n ≡ number_of bs → Some (record { first = n; last = n }) ≡ item_in bs
    unfolding item_in piece_of
    one_number n e = let p = is_number_lem bs n e in rw (whole, p.0, p.1)

  module _ (mid : ℕ) (some : r ≡ Some mid) where
    there : (length_up_to dash bs < length bs) × (length_up_to dash bs ≡ mid)
    there =
        let p = cond_some (ltb (length_up_to dash bs) (length bs)) (length_up_to dash bs) mid (sym at ∙ some) in
        (ltb-true (length_up_to dash bs) (length bs) p.0, p.1)

    x : List ℕ
    x = take mid bs

    y : List ℕ
    y = take (length bs - (mid + 1)) (drop (mid + 1) bs)

    cut : split dash bs ≡ x ∷ split dash y
    unfolding x y
    cut =
        let all = take_all (length bs - (mid + 1)) (drop (mid + 1) bs) (omega (arith, length-drop (mid + 1) bs)) in
        rw (all, ← there.1) (first_piece dash bs there.0)

    pub no_first_number : None ≡ number_of (take mid bs) → None ≡ item_in bs
    unfolding item_in x
    no_first_number e = rw cut (bad_first x (split dash y) (no_number x e))

    pub no_last_number : None ≡ number_of (take (length bs - (mid + 1)) (drop (mid + 1) bs)) → None ≡ item_in bs
    unfolding item_in y
    no_last_number e = rw cut (bad_second x y (no_number y e))

    module _ (first : ℕ) (f : Some first ≡ number_of (take mid bs))
        (last : ℕ) (l : Some last ≡ number_of (take (length bs - (mid + 1)) (drop (mid + 1) bs))) where
      read : (is_number x ≡ true) × (first ≡ value x) × (is_number y ≡ true) × (last ≡ value y)
      unfolding x y
      read =
          let p = is_number_lem x first f in
          let q = is_number_lem y last l in
          (p.0, p.1, q.0, q.1)

      pub rising : first < last → Some (record { first = first; last = last }) ≡ item_in bs
      unfolding item_in piece_of
      rising h =
          let t = read in
          rw (cut, number_whole y t.2, t.0, t.2, ← t.1, ← t.3, rises_if first last h)

      pub not_rising : last ≤ first → None ≡ item_in bs
      unfolding item_in piece_of
      not_rising h =
          let t = read in
          rw (cut, number_whole y t.2, t.0, t.2, ← t.1, ← t.3, falls_if first last h)

-- WHAT A PIECE SAYS

pub good_is_item : (ps : List (List ℕ)) → (piece_of ps).good ≡ true → is_item (piece_of ps).item ≡ true
unfolding piece_of
good_is_item [] e = absurd (false≢true e)
good_is_item (x ∷ []) e =
    and_both (le-leb (value x) (value x) (omega arith)) (le-leb (value x) 255 (numeral x e).small)
good_is_item (x ∷ y ∷ []) e =
    let tests = and_then (is_number x) (is_number y && rises (value x) (value y)) e in
    let later = and_then (is_number y) (rises (value x) (value y)) tests.1 in
    let order : value x < value y = below (value x) (value y) later.1 in
    and_both (le-leb (value x) (value y) (omega (arith, order))) (le-leb (value y) 255 (numeral y later.0).small)
good_is_item (x ∷ y ∷ z ∷ more) e = absurd (false≢true e)
