-- A text is read as a set exactly if the grammar gives it: what is written as items is read as their codes, and what is read is
-- written as items.
use Prim.Native.Nat.{ℕ, ◌<◌, ◌≤◌}
use mathlib.Core.Path.{◌≡◌, refl, sym, ◌∙◌, ap, ap₂}
use mathlib.Core.Bool.{Bool, true, false, cond, ◌&&◌, false≢true}
use mathlib.Core.List.{List, [], ◌∷◌, ◌++◌, map, append-nil}
use native.Mathlib.Omega.{arith}
use borrow.Author.Tests.{eq-eqb, ne_eqb, leb-true, eqb-true, eqb-false}
use lib.Dec.{eqb, leb}
use lib.ListN.{length}
use Rattle.std.specs.List.{join_with_byte}
use Rattle.std.proofs.lemmas.List.Elements.{All-cons, All-append}
use Rattle.std.proofs.lemmas.List.Splits.{slice_split_at, join_with_byte-slice_split}
use Rattle.model.specs.declared.Codes.{Codes}
use Rattle.model.specs.Codes.{empty_set, set_of}
use Rattle.refusals.specs.Refusals.{Told, answered, refused_by}
use Rattle.refusals.proofs.Tests.{and_then, and_both}
use Rattle.decimal.specs.Decimal.{value}
use Rattle.code_text.specs.CodeText.{
  comma,
  dash,
  Item,
  is_item,
  are_items,
  covered,
  decimal,
  item_text,
  others_text,
  text_of,
  Gives,
  split,
  is_number,
  rises,
  Piece,
  piece_of,
  pieces,
  all_good,
  items_of,
  read_codes,
}
use Rattle.code_text.proofs.Decimals.{decimal_read, number_written}
use Rattle.code_text.proofs.Numbers.{numeral}
use Rattle.code_text.proofs.Pieces.{no_separator, number_whole, below, rises_if, good_is_item}
use Rattle.code_text.proofs.Reading.{read_if_good, refused_if_not}
use Rattle.code_text.proofs.Splits.{Free, one_piece, some_pieces}

-- WRITTEN, AND READ

-- an item as a piece that is read
abbrev as_piece : Item → Piece
as_piece i = record { good = true; item = i }

abbrev read : List ℕ → Piece
read p = piece_of (split dash p)

module _ (i : Item) (ok : is_item i ≡ true) where
  ordered : i.first ≤ i.last
  ordered = leb-true i.first i.last (and_then (leb i.first i.last) (leb i.last 255) ok).0

  small : i.last ≤ 255
  small = leb-true i.last 255 (and_then (leb i.first i.last) (leb i.last 255) ok).1

  item_free : Free comma (item_text i)
  item_free = go (eqb i.first i.last)
    where
      free : ℕ → Type 0
      free b = eqb b comma ≡ false

      digits : (n : ℕ) → n ≤ 255 → Free comma (decimal n)
      digits n h = no_separator comma (omega arith) (decimal n) (decimal_read n h).digits

      go : (b : Bool) → Free comma (cond b (decimal i.first) (decimal i.first ++ (dash ∷ decimal i.last)))
      go true = digits i.first (omega (arith, ordered, small))
      go false =
          All-append free (decimal i.first) (dash ∷ decimal i.last) (digits i.first (omega (arith, ordered, small)))
          (All-cons free dash (decimal i.last) refl (digits i.last small))

  item_read : read (item_text i) ≡ as_piece i
  unfolding piece_of
  item_read = go (eqb i.first i.last) refl
    where
      go : (b : Bool) → eqb i.first i.last ≡ b
          → read (cond b (decimal i.first) (decimal i.first ++ (dash ∷ decimal i.last))) ≡ as_piece i
      go true e =
          let w = decimal_read i.first (omega (arith, ordered, small)) in
          let same : i.first ≡ i.last = eqb-true i.first i.last e in
          rw (number_whole (decimal i.first) w.number, w.number, w.says)
          (λ j. record { good = true; item = record { first = i.first; last = same j } })
      go false e =
          let w = decimal_read i.first (omega (arith, ordered, small)) in
          let v = decimal_read i.last small in
          let up : i.first < i.last = omega (arith, ordered, eqb-false i.first i.last e) in
          rw (
            slice_split_at (λ b. eqb b dash) (decimal i.first) dash (decimal i.last)
                (no_separator dash (omega arith) (decimal i.first) w.digits) refl,
            number_whole (decimal i.last) v.number,
            w.number,
            v.number,
            w.says,
            v.says,
            rises_if i.first i.last up,
          )

pieces_read : (i : Item) (is : List Item) → is_item i ≡ true → are_items is ≡ true
    → map read (split comma (item_text i ++ others_text is)) ≡ map as_piece (i ∷ is)
unfolding others_text are_items
pieces_read i [] h k =
    rw (append-nil (item_text i), one_piece comma (item_text i) (item_free i h), item_read i h)
pieces_read i (j ∷ js) h k =
    let tests = and_then (is_item j) (are_items js) k in
    rw (slice_split_at (λ b. eqb b comma) (item_text i) comma (item_text j ++ others_text js) (item_free i h) refl, item_read i h)
    (ap (λ (l : List Piece). as_piece i ∷ l) (pieces_read j js tests.0 tests.1))

all_good_lem : (is : List Item) → all_good (map as_piece is) ≡ true
unfolding all_good
all_good_lem [] = refl
all_good_lem (i ∷ is) = all_good_lem is

items_back : (is : List Item) → items_of (map as_piece is) ≡ is
unfolding items_of
items_back [] = refl
items_back (i ∷ is) = ap (λ (l : List Item). i ∷ l) (items_back is)

-- what the grammar gives is read as its set
pub given_is_read : (text : List ℕ) (s : Codes) → Gives text s → read_codes text ≡ answered s
unfolding text_of are_items
given_is_read text s g = go g.items g.one_or_more g.each g.written g.union
  where
    go : (is : List Item) → 1 ≤ length is → are_items is ≡ true → text ≡ text_of is → s ≡ set_of (covered is) → read_codes text ≡ answered s
    go [] some each e u = absurd (omega arith)
    go (i ∷ is) some each e u =
        let tests = and_then (is_item i) (are_items is) each in
        let p : pieces text ≡ map as_piece (i ∷ is) = rw e (pieces_read i is tests.0 tests.1) in
        read_if_good text (rw p (all_good_lem (i ∷ is))) ∙ rw (p, items_back (i ∷ is), u)

-- READ, AND WRITTEN

piece_written : (ps : List (List ℕ)) → (piece_of ps).good ≡ true → join_with_byte dash ps ≡ item_text (piece_of ps).item
unfolding piece_of
piece_written [] e = absurd (false≢true e)
piece_written (x ∷ []) e = rw (eq-eqb (value x) (value x) refl) (number_written x (numeral x e))
piece_written (x ∷ y ∷ []) e =
    let tests = and_then (is_number x) (is_number y && rises (value x) (value y)) e in
    let later = and_then (is_number y) (rises (value x) (value y)) tests.1 in
    let differ : value x ≡ value y → ⊥ = λ z. omega (arith, z, below (value x) (value y) later.1) in
    rw (ne_eqb (value x) (value y) differ)
    (ap₂ (λ (u v : List ℕ). u ++ (dash ∷ v)) (number_written x (numeral x tests.0)) (number_written y (numeral y later.0)))
piece_written (x ∷ y ∷ z ∷ more) e = absurd (false≢true e)

-- a piece that is read as an item is written as that item
item_written : (p : List ℕ) → (read p).good ≡ true → p ≡ item_text (read p).item
item_written p e = sym (join_with_byte-slice_split dash p) ∙ piece_written (split dash p) e

all_written : (ps : List (List ℕ)) → all_good (map read ps) ≡ true → join_with_byte comma ps ≡ text_of (items_of (map read ps))
unfolding all_good items_of others_text text_of
all_written [] e = refl
all_written (p ∷ []) e =
    let tests = and_then (read p).good true e in
    item_written p tests.0 ∙ sym (append-nil (item_text (read p).item))
all_written (p ∷ q ∷ ps) e =
    let tests = and_then (read p).good (all_good (map read (q ∷ ps))) e in
    ap₂ (λ (x l : List ℕ). x ++ (comma ∷ l)) (item_written p tests.0) (all_written (q ∷ ps) tests.1)

items_read : (ps : List (List ℕ)) → all_good (map read ps) ≡ true → are_items (items_of (map read ps)) ≡ true
unfolding all_good items_of are_items
items_read [] e = refl
items_read (p ∷ ps) e =
    let tests = and_then (read p).good (all_good (map read ps)) e in
    and_both (good_is_item (split dash p) tests.0) (items_read ps tests.1)

good_is_given : (text : List ℕ) → all_good (pieces text) ≡ true → Gives text (set_of (covered (items_of (pieces text))))
unfolding items_of
good_is_given text e = record {
  items = items_of (pieces text);
  one_or_more = rw (some_pieces comma text).2 (omega arith);
  each = items_read (split comma text) e;
  written = sym (join_with_byte-slice_split comma text) ∙ all_written (split comma text) e;
  union = refl;
}

-- what is read as a set the grammar gives
pub read_is_given : (text : List ℕ) (s : Codes) → read_codes text ≡ answered s → Gives text s
read_is_given text s e = go (all_good (pieces text)) refl
  where
    go : (b : Bool) → all_good (pieces text) ≡ b → Gives text s
    go true h =
        let same : set_of (covered (items_of (pieces text))) ≡ s = ap (λ (t : Told Codes). t.values) (sym (read_if_good text h) ∙ e) in
        rw same at (good_is_given text h)
    go false h = absurd (false≢true (ap (λ (t : Told Codes). t.refused) (sym e ∙ refused_if_not text h)))

-- and any other text is refused with 20
pub not_given_is_refused : (text : List ℕ) → ((s : Codes) → Gives text s → ⊥) → read_codes text ≡ refused_by 20 empty_set
not_given_is_refused text none = go (all_good (pieces text)) refl
  where
    go : (b : Bool) → all_good (pieces text) ≡ b → read_codes text ≡ refused_by 20 empty_set
    go true h = absurd (none (set_of (covered (items_of (pieces text)))) (good_is_given text h))
    go false h = refused_if_not text h
