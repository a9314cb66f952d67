-- A text read from piece to piece: what is left of it, with the codes that were passed, says what all of it says.
use Prim.Native.Nat.{ℕ, ◌+◌, ◌<◌, ◌≤◌}
use mathlib.Core.Path.{◌≡◌, refl, sym, ◌∙◌, ap}
use mathlib.Core.Bool.{Bool, true, false, cond, ◌&&◌, ◌||◌, or-false, or_assoc}
use mathlib.Core.List.{List, [], ◌∷◌, map}
use native.Mathlib.Numerals.{add-one}
use native.Mathlib.Omega.{arith}
use lib.Dec.{leb}
use lib.ListN.{length, get_or, drop, drop_of_length-le}
use lib.Seq.{drop-cons}
use Rattle.std.specs.Prelude.{Option, Some, None, Ok, Err}
use Rattle.std.specs.Option.{option_map, ok_or}
use Rattle.std.proofs.lemmas.Option.{none-some, cond_some}
use Rattle.model.specs.declared.Codes.{Codes}
use Rattle.model.specs.Codes.{is_in, empty_set, set_of}
use Rattle.refusals.specs.declared.Refusal.{Refusal}
use Rattle.refusals.specs.declared.Refusal.TheVariants as refusal
use Rattle.refusals.specs.Refusals.{answered, refused_by, number_of}
use Rattle.theorems.proofs.Sets.{in_set, same_set, empty_set_lem, none_in_empty}
use Rattle.code_ranges.specs.declared.Range.{Range}
use Rattle.code_ranges.specs.Ranges.{with_range}
use Rattle.code_text.specs.CodeText.{comma, dash, split, Piece, piece_of, pieces, all_good, items_of, covered, read_codes}
use Rattle.code_text.specs.Steps.{item_in, item_of}

-- THE ANSWER

module _ (text : List ℕ) where
  pub read_if_good : all_good (pieces text) ≡ true → read_codes text ≡ answered (set_of (covered (items_of (pieces text))))
  unfolding read_codes
  read_if_good e = rw e

  pub refused_if_not : all_good (pieces text) ≡ false → read_codes text ≡ refused_by 20 empty_set
  unfolding read_codes
  refused_if_not e = rw e

-- PIECE BY PIECE

abbrev read : List ℕ → Piece
read p = piece_of (split dash p)

-- the pieces after the first k
abbrev from : List ℕ → ℕ → List Piece
from text k = map read (drop k (split comma text))

-- piece k is p
abbrev pub Turn : List ℕ → ℕ → List ℕ → Type 0
Turn text k p = (k < length (split comma text)) × (p ≡ get_or (split comma text) k p)

pub record Reading (text : List ℕ) (k : ℕ) (codes : Codes) : Type 0 where
  pub good : all_good (from text k) ≡ all_good (pieces text)
  pub set : set_of (λ c. is_in codes c || covered (items_of (from text k)) c) ≡ set_of (covered (items_of (pieces text)))
  pub own : set_of (is_in codes) ≡ codes

module _ (text : List ℕ) where
  pub reading_starts : (s : Codes) → s ≡ empty_set → Reading text 0 s
  reading_starts s e = rw e (
      let none : (c : ℕ) → is_in empty_set c ≡ false = none_in_empty empty_set refl in
      record {
        good = refl;
        set = same_set _ _ (λ c h. rw (none c));
        own = same_set (is_in empty_set) (λ c. false) (λ c h. none c) ∙ empty_set_lem;
      })

  module _ (k : ℕ) (codes : Codes) (w : Reading text k codes) where
    pub all_read : length (split comma text) ≤ k → answered codes ≡ read_codes text
    unfolding all_good items_of covered
    all_read h =
        let none : from text k ≡ [] = rw (drop_of_length-le (split comma text) {i = k} h) in
        let same : codes ≡ set_of (λ c. is_in codes c || false) = sym w.own ∙ same_set _ _ (λ c l. sym (or-false (is_in codes c))) in
        ap answered (same ∙ (rw none at w.set)) ∙ sym (read_if_good text (sym (rw none at w.good)))

    module _ (p : List ℕ) (turn : Turn text k p) where
      next : from text k ≡ read p ∷ from text (k + 1)
      next =
          let front : drop k (split comma text) ≡ p ∷ drop (k + 1) (split comma text) =
          drop-cons (split comma text) k p turn.0 ∙ rw (add-one k, ← turn.1) in
          ap (map read) front

      outside : None ≡ item_in p → refused_by 20 empty_set ≡ read_codes text
      unfolding item_in all_good
      outside = go (read p).good refl
        where
          go : (b : Bool) → (read p).good ≡ b → None ≡ cond b (Some (read p).item) None → refused_by 20 empty_set ≡ read_codes text
          go true e n = absurd (none-some (read p).item n)
          go false e n = sym (refused_if_not text (sym w.good ∙ rw (next, e)))

      inside : (first last : ℕ) → Some (record { first = first; last = last }) ≡ item_in p → (s : Codes) → s ≡ with_range codes first last
          → Reading text (k + 1) s
      unfolding item_in all_good items_of covered with_range
      inside first last item s joined =
          let f = cond_some (read p).good (read p).item (record { first = first; last = last }) (sym item) in
          let here : (c : ℕ) → c < 256 → is_in s c ≡ (is_in codes c || (leb first c && leb c last)) =
          λ c h. ap (λ (x : Codes). is_in x c) joined ∙ in_set (λ x. is_in codes x || (leb first x && leb x last)) c h in
          let later : ℕ → Bool = covered (items_of (from text (k + 1))) in
          let set' = rw (next, f.1) at w.set in
          record {
            good = sym (rw (next, f.0)) ∙ w.good;
            set = same_set _ _ (λ c h. rw (here c h) (or_assoc (is_in codes c) (leb first c && leb c last) (later c))) ∙ set';
            own = same_set _ _ here ∙ sym joined;
          }

      -- what the piece was found to be, or the refusal in its place
      pub piece_refused : (o : Option Range) → option_map item_of o ≡ item_in p → (e : Refusal) → Err e ≡ ok_or o refusal.NoCodes
          → refused_by (number_of e) empty_set ≡ read_codes text
      piece_refused None is e w' = let z : e ≡ refusal.NoCodes = cc in rw z (outside is)
      piece_refused (Some r) is e w' = let z : ◌≡◌ {A = ℕ} 0 1 = cc in absurd (omega (arith, z))

      pub reading_on : (o : Option Range) → option_map item_of o ≡ item_in p → (r : Range) → Ok r ≡ ok_or o refusal.NoCodes
          → (s : Codes) → s ≡ with_range codes r.first r.last → (m : ℕ) → m ≡ k + 1 → Reading text m s
      reading_on None is r w' s joined m after = let z : ◌≡◌ {A = ℕ} 0 1 = cc in absurd (omega (arith, z))
      reading_on (Some q) is r w' s joined m after = let z : r ≡ q = cc in rw after (inside r.first r.last (rw z is) s joined)
