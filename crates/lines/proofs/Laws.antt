-- Each way through the definition of a line, as a law over its text and its places.
use Prim.Native.Nat.{ℕ, ◌+◌, ◌-◌, ◌*◌, ◌≤◌, ◌<◌}
use mathlib.Core.Path.{◌≡◌, refl, sym, ◌∙◌, ap}
use mathlib.Core.Bool.{Bool, true, false, not, cond}
use mathlib.Core.List.{List, [], ◌∷◌}
use native.Mathlib.Numerals.{add-one}
use native.Mathlib.Omega.{arith}
use borrow.Author.Rules.{rules}
use borrow.Author.Tests.{lt-leb, le-leb, lt-ltb, le-ltb, eq-eqb, ne_eqb, leb-true, ltb-true, eqb-true, eqb-false, not-true, not-false}
use lib.Dec.{eqb, leb, ltb}
use lib.ListN.{length, get_or, drop, length-drop, drop_of_length-le}
use lib.Seq.{drop-cons, get_or-drop}
use Rattle.std.proofs.lemmas.List.{take_rest}
use Rattle.lines.specs.declared.Fault.{Fault}
use Rattle.lines.specs.declared.Fault.TheVariants.{Name, NoNumber, LeadingZero, NoDigit, TooLarge, NoNewline}
use Rattle.lines.specs.declared.Line.{Line}
use Rattle.std.specs.Prelude.{Result, Ok, Err}
use Rattle.std.specs.List.{starts_with}
use Rattle.decimal.specs.declared.NumberError.{NumberError}
use Rattle.decimal.specs.declared.NumberError.TheVariants.{NoDigit as Other, TooLarge as Larger}
use Rattle.decimal.specs.Decimal.{is_digit, digits_of, followed_by, value, no_zero_ahead, next_number}
use Rattle.decimal.proofs.Laws.{below, grows, number_then, no_digit_then, too_large_then}
use Rattle.lines.specs.Lines.{fault_of, read, largest, line_of, number_at, line_at}

-- A NUMBER UP TO A NEWLINE

-- the digits that l starts with are read up to place i, and say `number`
pub record Reading (l : List ℕ) (i number : ℕ) : Type 0 where
  pub small : number ≤ largest
  pub count : length (digits_of l) ≡ i + length (digits_of (drop i l))
  pub says : followed_by number (digits_of (drop i l)) ≡ value (digits_of l)

pub reading_starts : (l : List ℕ) → Reading l 0 0
reading_starts l = record { small = omega arith; count = omega arith; says = refl }

module _ (l : List ℕ) (i number : ℕ) (w : Reading l i number) where
  -- no digit at place i: all are read
  module _ (none : digits_of (drop i l) ≡ []) where
    all_read : length (digits_of l) ≡ i
    all_read = omega (arith, w.count, ap length none)

    all_said : number ≡ value (digits_of l)
    unfolding followed_by
    all_said = rw none at w.says

    in_range : leb (value (digits_of l)) largest ≡ true
    in_range = le-leb (value (digits_of l)) largest (omega (arith, w.small, all_said))

  module _ (some : i < length l) (b : ℕ) (is : b ≡ get_or l i 0) where
    front : drop i l ≡ get_or l i 0 ∷ drop (i + 1) l
    front = drop-cons l i 0 some ∙ rw (add-one i)

    stops : is_digit b ≡ false → digits_of (drop i l) ≡ []
    unfolding digits_of
    stops e = rw (front, ← is, e)

    goes : is_digit b ≡ true → digits_of (drop i l) ≡ b ∷ digits_of (drop (i + 1) l)
    unfolding digits_of
    goes e = rw (front, ← is, e)

    said : (m : ℕ) → m ≡ number * 10 + (b - 48) → is_digit b ≡ true → followed_by m (digits_of (drop (i + 1) l)) ≡ value (digits_of l)
    unfolding followed_by
    said m next e = rw next (rw (goes e) at w.says)

    pub reading_on : (r : Result ℕ NumberError) → r ≡ next_number number b largest → (m : ℕ) → r ≡ Ok m → Reading l (i + 1) m
    reading_on r is' m e =
        let f = number_then number b largest r is' m e in
        record {
          small = f.small;
          count = omega (arith, w.count, ap length (goes f.digit));
          says = said m f.is f.digit;
        }

  module _ (bs : List ℕ) (at : ℕ) (within : at ≤ length bs) (part : l ≡ drop at bs) where
    long : length l ≡ length bs - at
    long = ap length part ∙ length-drop at bs

    pub text_ends : length l ≤ i → Err NoNewline ≡ number_at bs at
    unfolding digits_of number_at
    text_ends h =
        let none : digits_of (drop i l) ≡ [] = rw (drop_of_length-le l {i = i} h) in
        rw (← part, in_range none, all_read none, le-ltb (at + i) (length bs) (omega (arith, h, within, long)))

    module _ (some : i < length l) (b : ℕ) (is : b ≡ get_or l i 0) where
      there : ltb (at + i) (length bs) ≡ true
      there = lt-ltb (at + i) (length bs) (omega (arith, some, long))

      here : b ≡ get_or bs (at + i) 0
      here = is ∙ rw part (get_or-drop at bs i 0)

      pub number_ends : b ≡ 10 → (first : ℕ) → first ≡ get_or bs at 0 → (r : Result Line Fault) → r ≡ line_of first i number (at + i + 1) → r ≡ number_at bs at
      unfolding number_at
      number_ends e first f r g =
          let z = stops some b is (below b (omega arith)) in
          g ∙ rw (f, ← part, in_range z, all_read z, there, ← here, eq-eqb b 10 e, ← all_said z)

      pub wrong_number : (b ≡ 10 → ⊥) → (r : Result ℕ NumberError) → r ≡ next_number number b largest → (why : NumberError) → r ≡ Err why
          → (fault : Fault) → fault ≡ fault_of why → Err fault ≡ number_at bs at
      unfolding number_at
      wrong_number more r is' Other e fault f =
          let z = stops some b is (no_digit_then number b largest r is' e) in
          rw (f, ← part, in_range z, all_read z, there, ← here, ne_eqb b 10 more)
      wrong_number more r is' Larger e fault f =
          let t = too_large_then number b largest r is' e in
          let m = number * 10 + (b - 48) in
          rw (
            f,
            ← part,
            lt-leb (value (digits_of l)) largest
                (omega (arith, t.1, grows m (digits_of (drop (i + 1) l)), said some b is m refl t.0)),
          )

-- NAMES

module _ (name bs : List ℕ) (at : ℕ) (l : List ℕ) (part : l ≡ drop at bs) (has : Bool) (test : has ≡ starts_with eqb l name) where
  pub not_named : not has ≡ true → Err Name ≡ line_at name bs at
  unfolding line_at
  not_named n = rw (← part, sym test ∙ not-true has n)

  pub named : not has ≡ false → (r : Result Line Fault) → r ≡ number_at bs (at + length name) → r ≡ line_at name bs at
  unfolding line_at
  named n r e = e ∙ rw (← part, sym test ∙ not-false has n)

-- LINES

ok_value : {a b : Line} → ◌≡◌ {A = Result Line Fault} (Ok a) (Ok b) → a ≡ b
ok_value x = cc

pub no_line : {f : Fault} {n e : ℕ} → Err f ≡ read n e → ⊥
no_line x = cc

-- what is read as a number passes each test
pub record Passed (bs : List ℕ) (at n e : ℕ) : Type 0 where
  pub small : value (digits_of (drop at bs)) ≤ largest
  pub there : at + length (digits_of (drop at bs)) < length bs
  pub ended : get_or bs (at + length (digits_of (drop at bs))) 0 ≡ 10
  pub some : 0 < length (digits_of (drop at bs))
  pub leads : no_zero_ahead (get_or bs at 0) (length (digits_of (drop at bs))) ≡ true
  pub number : value (digits_of (drop at bs)) ≡ n
  pub next : at + length (digits_of (drop at bs)) + 1 ≡ e

module _ (bs : List ℕ) (at n e : ℕ) where
  pub number_passed : number_at bs at ≡ read n e → Passed bs at n e
  unfolding number_at
  number_passed =
      go (leb (value digits) largest) refl (ltb end (length bs)) refl (eqb (get_or bs end 0) 10) refl
      (eqb (length digits) 0) refl (no_zero_ahead (get_or bs at 0) (length digits)) refl
    where
      digits : List ℕ
      digits = digits_of (drop at bs)

      end : ℕ
      end = at + length digits

      go : (a : Bool) → leb (value digits) largest ≡ a → (b : Bool) → ltb end (length bs) ≡ b → (c : Bool) → eqb (get_or bs end 0) 10 ≡ c
          → (d : Bool) → eqb (length digits) 0 ≡ d → (f : Bool) → no_zero_ahead (get_or bs at 0) (length digits) ≡ f
          → cond (not a) (Err TooLarge)
          (cond (not b) (Err NoNewline)
          (cond c (cond d (Err NoNumber) (cond f (read (value digits) (end + 1)) (Err LeadingZero)))
          (Err NoDigit)))
          ≡ read n e
          → Passed bs at n e
      go true small true there true ended false some true leads x =
          record {
            small = leb-true (value digits) largest small;
            there = ltb-true end (length bs) there;
            ended = eqb-true (get_or bs end 0) 10 ended;
            some = omega (arith, eqb-false (length digits) 0 some);
            leads = leads;
            number = λ i. (ok_value x i).number;
            next = λ i. (ok_value x i).end;
          }
      go true small true there true ended false some false leads x = absurd (no_line x)
      go true small true there true ended true some f leads x = absurd (no_line x)
      go true small true there false ended d some f leads x = absurd (no_line x)
      go true small false there c ended d some f leads x = absurd (no_line x)
      go false small b there c ended d some f leads x = absurd (no_line x)

module _ (bs : List ℕ) (at n e : ℕ) where
  pub line_within : (name : List ℕ) (l : Result Line Fault) → l ≡ line_at name bs at → l ≡ read n e → e ≤ length bs
  unfolding line_at
  line_within name l f r = go (starts_with eqb (drop at bs) name) (sym f ∙ r)
    where
      go : (b : Bool) → cond b (number_at bs (at + length name)) (Err Name) ≡ read n e → e ≤ length bs
      go true x = let p = number_passed bs (at + length name) n e x in omega (arith, p.there, p.next)
      go false x = absurd (no_line x)

pub ruleset line_text = (rules, take_rest, reading_starts, text_ends, number_ends, wrong_number, reading_on, not_named, named)
