-- The written text is the one text of its kind for its set: items that rise and lie apart are the ranges of the codes that they cover.
use Prim.Native.Nat.{ℕ, suc, ◌<◌, ◌≤◌}
use mathlib.Core.Path.{◌≡◌, refl, sym, ◌∙◌, ap}
use mathlib.Core.Bool.{Bool, true, false, false≢true}
use mathlib.Core.List.{List, [], ◌∷◌}
use native.Mathlib.Omega.{arith}
use borrow.Author.Tests.{ltb-true, ltb-false, lt-leb, le-leb}
use lib.Dec.{ltb}
use lib.ListN.{length}
use Rattle.model.specs.declared.Codes.{Codes}
use Rattle.model.specs.Codes.{is_in, is_empty, codes_in}
use Rattle.theorems.proofs.Sets.{Fits, in_set, same_set, set_of_its_codes, some_in}
use Rattle.code_text.specs.CodeText.{Item, covered, text_of, Gives}
use Rattle.code_writer.specs.CodesWritten.{WrittenFor, adjoins, with_code, ranges, written_text}
use Rattle.item_writer.specs.Items.{range}
use Rattle.code_writer.proofs.Rising.{
  Rising,
  rising_below,
  rising_items,
  rising_apart,
  rising,
  ranges_rise,
  not_below,
  ranges_cover,
}

-- THE WRITTEN TEXT IS OF THAT KIND

with_code_some : (c : ℕ) (l : List Item) → 1 ≤ length (with_code c l)
unfolding with_code
with_code_some c [] = omega arith
with_code_some c (i ∷ is) = go (adjoins c i) refl
  where
    go : (b : Bool) → adjoins c i ≡ b → 1 ≤ length (with_code c (i ∷ is))
    go true e = rw e (omega arith)
    go false e = rw e (omega arith)

range_of_some : (cs : List ℕ) → 1 ≤ length cs → 1 ≤ length (ranges cs)
unfolding ranges
range_of_some [] h = h
range_of_some (c ∷ cs) h = with_code_some c (ranges cs)

pub some_range : (s : Codes) → is_empty s ≡ false → Fits s → 1 ≤ length (ranges (codes_in s))
some_range s e f = range_of_some (codes_in s) (some_in s e f)

cover : (s : Codes) (c : ℕ) → c < 256 → covered (ranges (codes_in s)) c ≡ is_in s c
cover s c h = ranges_cover s 256 0 c (omega arith) (omega arith) (omega arith)

pub written_for : (s : Codes) → is_empty s ≡ false → Fits s → WrittenFor s (written_text s)
written_for s e f =
    let r = ranges_rise s 256 0 (omega arith) in
    record {
      items = ranges (codes_in s);
      one_or_more = some_range s e f;
      each = rising_items (ranges (codes_in s)) 0 r;
      rising = rising_apart (ranges (codes_in s)) 0 r;
      written = refl;
      union = sym (set_of_its_codes s f) ∙ same_set (is_in s) (covered (ranges (codes_in s))) (λ c h. sym (cover s c h));
    }

-- NO OTHER TEXT IS

covers : (i : Item) (is : List Item) (k : ℕ) → i.first ≤ k → k ≤ i.last → covered (i ∷ is) k ≡ true
unfolding covered
covers i is k h m = rw (le-leb i.first k h, le-leb k i.last m)

past : (i : Item) (is : List Item) (k : ℕ) → i.first ≤ i.last → i.last < k → covered (i ∷ is) k ≡ covered is k
unfolding covered
past i is k h m = rw (le-leb i.first k (omega arith), lt-leb k i.last m)

-- two lists cover the same codes from c on
abbrev Agree : ℕ → List Item → List Item → Type 0
Agree c l m = (k : ℕ) → c ≤ k → k < 256 → covered l k ≡ covered m k

module _ (i j : Item) (is js : List Item) (c : ℕ) (r : Rising c (i ∷ is)) (q : Rising c (j ∷ js)) (e : Agree c (i ∷ is) (j ∷ js)) where
  begins_no_later : j.first ≤ i.first
  begins_no_later = go (ltb i.first j.first) refl
    where
      go : (b : Bool) → ltb i.first j.first ≡ b → j.first ≤ i.first
      go true p =
          let h : i.first < j.first = ltb-true i.first j.first p in
          let there : covered (i ∷ is) i.first ≡ true = covers i is i.first (omega arith) r.1 in
          let above : Rising j.first (j ∷ js) = (omega arith, q.1, q.2, q.3) in
          let not_there : covered (j ∷ js) i.first ≡ false = not_below (j ∷ js) j.first i.first above h in
          absurd (false≢true (sym not_there ∙ sym (e i.first r.0 (omega arith)) ∙ there))
      go false p = ltb-false i.first j.first p

  ends_no_later : i.first ≡ j.first → j.last ≤ i.last
  ends_no_later same = go (ltb i.last j.last) refl
    where
      go : (b : Bool) → ltb i.last j.last ≡ b → j.last ≤ i.last
      go true p =
          let h : i.last < j.last = ltb-true i.last j.last p in
          let k = suc i.last in
          let not_there : covered (i ∷ is) k ≡ false = past i is k r.1 (omega arith) ∙ not_below is (suc k) k r.3 (omega arith) in
          absurd (false≢true (sym not_there ∙ e k (omega arith) (omega arith) ∙ covers j js k (omega arith) h))
      go false p = ltb-false i.last j.last p

same_items : (l m : List Item) (c : ℕ) → Rising c l → Rising c m → Agree c l m → l ≡ m
unfolding covered
same_items [] [] c r q e = refl
same_items [] (j ∷ js) c r q e = absurd (false≢true (e j.first q.0 (omega arith) ∙ covers j js j.first (omega arith) q.1))
same_items (i ∷ is) [] c r q e = absurd (false≢true (sym (e i.first r.0 (omega arith)) ∙ covers i is i.first (omega arith) r.1))
same_items (i ∷ is) (j ∷ js) c r q e =
    let back : Agree c (j ∷ js) (i ∷ is) = λ k h n. sym (e k h n) in
    let first : i.first ≡ j.first = omega (arith, begins_no_later i j is js c r q e, begins_no_later j i js is c q r back) in
    let last : i.last ≡ j.last = omega (arith, ends_no_later i j is js c r q e first, ends_no_later j i js is c q r back (sym first)) in
    let c' = suc (suc i.last) in
    let rest : Rising c' js = rising_below js (suc (suc j.last)) c' (omega arith) q.3 in
    let agree : Agree c' is js = λ k h n. sym (past i is k r.1 (omega arith)) ∙ e k (omega arith) n ∙ past j js k q.1 (omega arith) in
    let later : is ≡ js = same_items is js c' r.3 rest agree in
    λ t. range (first t) (last t) ∷ later t

module _ (s : Codes) (text : List ℕ) (w : WrittenFor s text) where
  its_codes : Agree 0 w.items (ranges (codes_in s))
  its_codes k h n = sym (in_set (covered w.items) k n) ∙ ap (λ (u : Codes). is_in u k) (sym w.union) ∙ sym (cover s k n)

  pub only_written : text ≡ written_text s
  only_written =
      let r : Rising 0 w.items = rising w.items w.each w.rising in
      w.written ∙ ap text_of (same_items w.items (ranges (codes_in s)) 0 r (ranges_rise s 256 0 (omega arith)) its_codes)

pub only_one : (s : Codes) (a b : List ℕ) → WrittenFor s a → WrittenFor s b → a ≡ b
only_one s a b v w = only_written s a v ∙ sym (only_written s b w)

-- AND THE GRAMMAR GIVES IT

pub written_given : (s : Codes) (text : List ℕ) → WrittenFor s text → Gives text s
written_given s text w = record {
  items = w.items;
  one_or_more = w.one_or_more;
  each = w.each;
  written = w.written;
  union = w.union;
}
