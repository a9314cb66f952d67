-- A session's text is exactly its three lines, each number written in its fewest decimal digits: what is written so is read as
-- these numbers, and what is read as numbers is written so.
use Prim.Native.Nat.{ℕ, zero, suc, ◌+◌, ◌-◌, ◌*◌, ◌/◌, ◌%◌, ◌^◌, ◌≤◌, ◌<◌}
use mathlib.Core.Path.{◌≡◌, refl, sym, ◌∙◌, ap}
use mathlib.Core.Bool.{Bool, true, false, cond, false≢true}
use mathlib.Core.List.{List, [], ◌∷◌, ◌++◌, append_assoc, append-nil}
use native.Mathlib.Nat.{add-mul, mul_assoc, mul_comm, mul-le-mul_right, pow-zero, pow-suc, div-one, div-div-eq-div-mul, mul-add-div_right, div-eq_of_lt}
use native.Mathlib.Numerals.{add-one}
use native.Mathlib.Omega.{arith}
use borrow.Author.Tests.{le-leb, lt-leb, lt-ltb, eq-eqb, ne_eqb, eqb-true, leb-false}
use lib.Dec.{eqb, leb}
use lib.ListN.{length, get_or, drop, length-append, length-drop}
use lib.Seq.{drop-cons, drop-length, drop-append_seam, get_or-append_seam, get_or-drop, drop-drop}
use Rattle.lines.proofs.Laws.{no_line, Passed, number_passed, line_within}
use Rattle.lines.specs.declared.Fault.{Fault}
use Rattle.lines.specs.declared.Fault.TheVariants.{Name, MoreText}
use Rattle.session.specs.declared.Session.{Session}
use Rattle.session.specs.declared.bad_line.BadLine.{BadLine}
use Rattle.lines.specs.declared.Line.{Line}
use Rattle.std.specs.Prelude.{Result, Ok, Err}
use Rattle.std.specs.List.{starts_with}
use Rattle.std.proofs.lemmas.Bool.Decides.{Decides-eqb, nat_tests}
use Rattle.std.proofs.lemmas.Slice.Eq.{starts_is}
use Rattle.lines.specs.declared.Line.{Line}
use Rattle.decimal.specs.Decimal.{is_digit, digits_of, followed_by, value, no_zero_ahead}
use Rattle.lines.specs.Lines.{read, largest, number_at, line_at}
use Rattle.session.specs.Session.{decimals, type_name, source_name, origin_name, given, bad, after, session_of, Decimal, StartsWithLine, SessionText}

-- DIGITS OF A NUMBER

module _ (d : ℕ) (small : d < 10) where
  digit_is : is_digit (48 + d) ≡ true
  digit_is = rw (le-leb 48 (48 + d) (omega arith), le-leb (48 + d) 57 (omega arith))

-- all of them are digits
digits_of_lem : (k n : ℕ) (l : List ℕ) → digits_of (decimals k n ++ l) ≡ decimals k n ++ digits_of l
unfolding digits_of decimals
digits_of_lem zero n l = refl
digits_of_lem (suc k) n l =
    let e : is_digit (48 + n % 10) ≡ true = digit_is (n % 10) (omega arith) in
    ap digits_of (append_assoc (decimals k (n / 10)) ((48 + n % 10) ∷ []) l)
    ∙ digits_of_lem k (n / 10) ((48 + n % 10) ∷ l)
    ∙ rw (e, append_assoc (decimals k (n / 10)) ((48 + n % 10) ∷ []) (digits_of l))

length_decimals : (k n : ℕ) → length (decimals k n) ≡ k
unfolding decimals
length_decimals zero n = refl
length_decimals (suc k) n = length-append (decimals k (n / 10)) ((48 + n % 10) ∷ []) ∙ rw (length_decimals k (n / 10)) (add-one k)

followed_append : (m : ℕ) (xs ys : List ℕ) → followed_by m (xs ++ ys) ≡ followed_by (followed_by m xs) ys
unfolding followed_by
followed_append m [] ys = refl
followed_append m (x ∷ xs) ys = followed_append (m * 10 + (x - 48)) xs ys

tenth : (k n : ℕ) → n < 10 ^ suc k → n / 10 < 10 ^ k
tenth k n h = let x : 10 ^ suc k ≡ 10 ^ k * 10 = pow-suc 10 k in omega (arith, x)

value_decimals : (k n : ℕ) → n < 10 ^ k → value (decimals k n) ≡ n
unfolding decimals followed_by
value_decimals zero n h = omega (arith, pow-zero 10)
value_decimals (suc k) n h =
    followed_append 0 (decimals k (n / 10)) ((48 + n % 10) ∷ [])
    ∙ rw (value_decimals k (n / 10) (tenth k n h)) (omega arith)

-- the first of so many digits as are needed is not 0
first_digit : (k n : ℕ) (l : List ℕ) → 10 ^ k ≤ n → n < 10 ^ suc k → get_or (decimals (suc k) n ++ l) 0 0 ≡ 48 → ⊥
unfolding decimals
first_digit zero n l low high e = omega (arith, e, low, high, pow-zero 10, pow-suc 10 0)
first_digit (suc k) n l low high e =
    first_digit k (n / 10) ((48 + n % 10) ∷ l) (omega (arith, pow-suc 10 k)) (tenth (suc k) n high)
    (ap (λ (x : List ℕ). get_or x 0 0) (sym (append_assoc (decimals (suc k) (n / 10)) ((48 + n % 10) ∷ []) l)) ∙ e)

-- one digit more in front
decimals_cons : (k n : ℕ) → decimals (suc k) n ≡ (48 + n / 10 ^ k % 10) ∷ decimals k n
unfolding decimals
decimals_cons zero n = rw (pow-zero 10, div-one n)
decimals_cons (suc k) n =
    let e : n / 10 / 10 ^ k ≡ n / 10 ^ suc k = div-div-eq-div-mul n 10 (10 ^ k) ∙ (let z : 10 * 10 ^ k ≡ 10 ^ suc k = omega (arith, pow-suc 10 k) in ap (λ (x : ℕ). n / x) z) in
    rw (decimals_cons k (n / 10), e)

-- digits that follow a number move it up by their places
shape : (m e p v : ℕ) → (m * 10 + e) * p + v ≡ m * (p * 10) + (e * p + v)
shape m e p v =
    let x : (m * 10 + e) * p ≡ m * 10 * p + e * p = add-mul (m * 10) e p in
    let y : m * 10 * p ≡ m * (p * 10) = mul_assoc m 10 p ∙ ap (λ (z : ℕ). m * z) (mul_comm 10 p) in
    omega (arith, x, y)

followed_value : (m : ℕ) (ds : List ℕ) → followed_by m ds ≡ m * 10 ^ length ds + value ds
unfolding followed_by
followed_value m [] = omega (arith, pow-zero 10)
followed_value m (d ∷ ds) =
    let z : 0 * 10 + (d - 48) ≡ d - 48 = omega arith in
    let v : value (d ∷ ds) ≡ (d - 48) * 10 ^ length ds + value ds = ap (λ (x : ℕ). followed_by x ds) z ∙ followed_value (d - 48) ds in
    followed_value (m * 10 + (d - 48)) ds
    ∙ shape m (d - 48) (10 ^ length ds) (value ds)
    ∙ rw (pow-suc 10 (length ds), v)

value_cons : (d : ℕ) (ds : List ℕ) → value (d ∷ ds) ≡ (d - 48) * 10 ^ length ds + value ds
unfolding followed_by
value_cons d ds = let z : 0 * 10 + (d - 48) ≡ d - 48 = omega arith in ap (λ (x : ℕ). followed_by x ds) z ∙ followed_value (d - 48) ds

-- DIGITS OF A TEXT

module _ (b : ℕ) (h : is_digit b ≡ true) where
  at_least : 48 ≤ b
  at_least = grind (arith, nat_tests)

  at_most : b ≤ 57
  at_most = grind (arith, nat_tests)

-- they say less than their places hold
below_places : (l : List ℕ) → value (digits_of l) < 10 ^ length (digits_of l)
unfolding digits_of followed_by
below_places [] = omega (arith, pow-zero 10)
below_places (b ∷ l) = go (below_places l) (is_digit b) refl
  where
    go : value (digits_of l) < 10 ^ length (digits_of l) → (c : Bool) → is_digit b ≡ c → value (cond c (b ∷ digits_of l) []) < 10 ^ length (cond c (b ∷ digits_of l) [])
    go small true h =
        let p : (b - 48) * 10 ^ length (digits_of l) ≤ 9 * 10 ^ length (digits_of l) = mul-le-mul_right (10 ^ length (digits_of l)) (omega (arith, at_most b h)) in
        omega (arith, value_cons b (digits_of l), p, small, pow-suc 10 (length (digits_of l)))
    go small false h = omega (arith, pow-zero 10)

-- they are the digits of the number that they say
digits_back : (l : List ℕ) (m : ℕ) → decimals (length (digits_of l)) (followed_by m (digits_of l)) ≡ digits_of l
unfolding digits_of followed_by decimals
digits_back [] m = refl
digits_back (b ∷ l) m = go (digits_back l (m * 10 + (b - 48))) (is_digit b) refl
  where
    go : decimals (length (digits_of l)) (followed_by (m * 10 + (b - 48)) (digits_of l)) ≡ digits_of l → (c : Bool) → is_digit b ≡ c
        → decimals (length (cond c (b ∷ digits_of l) [])) (followed_by m (cond c (b ∷ digits_of l) [])) ≡ cond c (b ∷ digits_of l) []
    go later true h =
        let some : 0 < 10 ^ length (digits_of l) = omega (arith, below_places l) in
        let above : followed_by (m * 10 + (b - 48)) (digits_of l) / 10 ^ length (digits_of l) ≡ m * 10 + (b - 48) =
        ap (λ (x : ℕ). x / 10 ^ length (digits_of l)) (followed_value (m * 10 + (b - 48)) (digits_of l))
        ∙ mul-add-div_right some (m * 10 + (b - 48)) (value (digits_of l))
        ∙ omega (arith, div-eq_of_lt (below_places l)) in
        let first : 48 + (m * 10 + (b - 48)) % 10 ≡ b = omega (arith, at_least b h, at_most b h) in
        decimals_cons (length (digits_of l)) (followed_by (m * 10 + (b - 48)) (digits_of l))
        ∙ rw (above, first, later)
    go later false h = refl

-- a text is the digits that it starts with, and the rest
split_digits : (l : List ℕ) → l ≡ digits_of l ++ drop (length (digits_of l)) l
unfolding digits_of
split_digits [] = refl
split_digits (b ∷ l) = go (split_digits l) (is_digit b)
  where
    go : l ≡ digits_of l ++ drop (length (digits_of l)) l → (c : Bool) → b ∷ l ≡ cond c (b ∷ digits_of l) [] ++ drop (length (cond c (b ∷ digits_of l) [])) (b ∷ l)
    go e true = ap (λ (x : List ℕ). b ∷ x) e
    go e false = refl

-- with no 0 in front they say at least as much as their places ask
leading : (l : List ℕ) → 0 < length (digits_of l) → (get_or l 0 0 ≡ 48 → ⊥) → 10 ^ (length (digits_of l) - 1) ≤ value (digits_of l)
unfolding digits_of
leading [] some n = absurd (omega (arith, some))
leading (b ∷ l) some n = go (is_digit b) refl some n
  where
    go : (c : Bool) → is_digit b ≡ c → 0 < length (cond c (b ∷ digits_of l) []) → (b ≡ 48 → ⊥)
        → 10 ^ (length (cond c (b ∷ digits_of l) []) - 1) ≤ value (cond c (b ∷ digits_of l) [])
    go true h some n =
        let k : suc (length (digits_of l)) - 1 ≡ length (digits_of l) = omega arith in
        let p : 1 * 10 ^ length (digits_of l) ≤ (b - 48) * 10 ^ length (digits_of l) = mul-le-mul_right (10 ^ length (digits_of l)) (omega (arith, at_least b h, n)) in
        rw k (omega (arith, p, value_cons b (digits_of l)))
    go false h some n = absurd (omega (arith, some))

-- ONE NUMBER

-- a first digit that is not 0 where there are more makes a decimal number
decimal_first : (first k : ℕ) → (0 < k → first ≡ 48 → ⊥) → no_zero_ahead first (suc k) ≡ true
decimal_first first k h = go (leb (suc k) 1) refl
  where
    go : (b : Bool) → leb (suc k) 1 ≡ b → no_zero_ahead first (suc k) ≡ true
    go true e = rw e
    go false e = rw (e, ne_eqb first 48 (h (omega (arith, leb-false (suc k) 1 e))))

no_zero : (first k : ℕ) → no_zero_ahead first k ≡ true → 1 < k → first ≡ 48 → ⊥
no_zero first k t more z = false≢true (rw (lt-leb k 1 more, eq-eqb first 48 z) at t)

module _ (bs : List ℕ) (at : ℕ) where
  at_front : (i : ℕ) → get_or bs (at + i) 0 ≡ get_or (drop at bs) i 0
  at_front i = sym (get_or-drop at bs i 0)

  number_read : (n : ℕ) (ds rest : List ℕ) → drop at bs ≡ ds ++ (10 ∷ rest) → Decimal n ds → n ≤ largest → number_at bs at ≡ read n (at + length ds + 1)
  unfolding number_at digits_of
  number_read n ds rest e d small =
      let t : ds ≡ decimals (suc d.more) n = d.text ∙ ap (λ (x : ℕ). decimals x n) (add-one d.more) in
      let all : digits_of (drop at bs) ≡ ds = rw (e, t) (digits_of_lem (suc d.more) n (10 ∷ rest) ∙ append-nil (decimals (suc d.more) n)) in
      let said : value ds ≡ n = rw t (value_decimals (suc d.more) n (rw (add-one d.more) at d.fits)) in
      let long : length ds ≡ suc d.more = ap length t ∙ length_decimals (suc d.more) n in
      let end : get_or bs (at + length ds) 0 ≡ 10 = at_front (length ds) ∙ rw e (get_or-append_seam ds 10 rest 0) in
      let head : get_or bs at 0 ≡ get_or (decimals (suc d.more) n ++ (10 ∷ rest)) 0 0 =
      (let z : at ≡ at + 0 = omega arith in ap (λ (x : ℕ). get_or bs x 0) z) ∙ at_front 0 ∙ rw (e, t) in
      let some : eqb (length ds) 0 ≡ false = ne_eqb (length ds) 0 (λ z. omega (arith, z, long)) in
      let there : at + length ds < length bs =
      omega (arith, length-drop at bs, ap length e, length-append ds (10 ∷ rest)) in
      let decimal : no_zero_ahead (get_or bs at 0) (length ds) ≡ true =
      rw long (decimal_first (get_or bs at 0) d.more
      (λ s f. first_digit d.more n (10 ∷ rest) (d.fewest s) (rw (add-one d.more) at d.fits) (sym head ∙ f))) in
      let in_range = le-leb (value ds) largest (omega (arith, said, small)) in
      rw (all, in_range, lt-ltb (at + length ds) (length bs) there, eq-eqb (get_or bs (at + length ds) 0) 10 end, some, decimal, said)

  number_then : (n e : ℕ) → number_at bs at ≡ read n e
      → (ds : List ℕ) × (drop at bs ≡ ds ++ (10 ∷ drop e bs)) × Decimal n ds × (n ≤ largest)
  number_then n e x =
      let next : suc (at + length ds) ≡ e = sym (add-one (at + length ds)) ∙ p.next in
      let rest : drop (length ds) (drop at bs) ≡ 10 ∷ drop e bs =
      drop-drop (length ds) at bs ∙ drop-cons bs (at + length ds) 0 p.there ∙ rw (p.ended, next) in
      (ds, split_digits (drop at bs) ∙ rw rest, rw p.number at decimal, omega (arith, p.number, p.small))
    where
      p : Passed bs at n e
      p = number_passed bs at n e x

      ds : List ℕ
      ds = digits_of (drop at bs)

      decimal : Decimal (value ds) ds
      decimal =
          let k : length ds - 1 + 1 ≡ length ds = omega (arith, p.some) in
          record {
            more = length ds - 1;
            text = rw k (sym (digits_back (drop at bs) 0));
            fits = rw k (below_places (drop at bs));
            fewest = λ s. leading (drop at bs) p.some (λ z. no_zero (get_or bs at 0) (length ds) p.leads (omega (arith, s))
                ((let y : at ≡ at + 0 = omega arith in ap (λ (x : ℕ). get_or bs x 0) y) ∙ at_front 0 ∙ z));
          }

-- ONE LINE

starts : (name l : List ℕ) → (starts_with eqb l name ≡ true → l ≡ name ++ drop (length name) l) × ((rest : List ℕ) → l ≡ name ++ rest → starts_with eqb l name ≡ true)
starts name l = starts_is Decides-eqb l name (starts_with eqb l name) refl

module _ (bs : List ℕ) (at : ℕ) (name : List ℕ) (n : ℕ) where
  line_read : (rest : List ℕ) → StartsWithLine name n (drop at bs) rest → (e : ℕ) × (line_at name bs at ≡ read n e) × (drop e bs ≡ rest)
  unfolding line_at
  line_read rest w =
      let here : drop (at + length name) bs ≡ w.digits ++ (10 ∷ rest) =
      sym (drop-drop (length name) at bs) ∙ ap (drop (length name)) w.text ∙ drop-append_seam name (w.digits ++ (10 ∷ rest)) in
      let after : drop (at + length name + length w.digits) bs ≡ 10 ∷ rest =
      sym (drop-drop (length w.digits) (at + length name) bs) ∙ ap (drop (length w.digits)) here ∙ drop-append_seam w.digits (10 ∷ rest) in (
        at + length name + length w.digits + 1,
        rw (w.text, (starts name (name ++ (w.digits ++ (10 ∷ rest)))).1 (w.digits ++ (10 ∷ rest)) refl) (number_read bs (at + length name) n w.digits rest here w.decimal w.small),
        sym (drop-drop 1 (at + length name + length w.digits) bs) ∙ ap (drop 1) after,
      )

  line_then : (e : ℕ) → line_at name bs at ≡ read n e → StartsWithLine name n (drop at bs) (drop e bs)
  unfolding line_at
  line_then e = go (starts_with eqb (drop at bs) name) refl
    where
      go : (b : Bool) → starts_with eqb (drop at bs) name ≡ b → cond b (number_at bs (at + length name)) (Err Name) ≡ read n e → StartsWithLine name n (drop at bs) (drop e bs)
      go true h x =
          let w = number_then bs (at + length name) n e x in
          record {
            digits = w.0;
            text = (starts name (drop at bs)).0 h ∙ ap (λ (l : List ℕ). name ++ l) (drop-drop (length name) at bs ∙ w.1);
            decimal = w.2;
            small = w.3;
          }
      go false h x = absurd (no_line x)

-- THE THREE LINES

session_value : {a b : Session} → ◌≡◌ {A = Result Session BadLine} (Ok a) (Ok b) → a ≡ b
session_value x = cc

no_session : {k : ℕ} {f : Fault} {a b c : ℕ} → bad k f ≡ given a b c → ⊥
no_session x = cc

module _ (type source origin : ℕ) (bs : List ℕ) where
  -- what is written as a session is read as its numbers
  pub session_read : SessionText type source origin bs → session_of bs ≡ given type source origin
  unfolding session_of
  session_read w =
      let x = line_read bs 0 type_name type w.after_type w.first in
      let y = line_read bs x.0 source_name source w.after_source (rw x.2 w.second) in
      let z = line_read bs y.0 origin_name origin [] (rw y.2 w.third) in
      let within : z.0 ≤ length bs = line_within bs y.0 origin z.0 origin_name (line_at origin_name bs y.0) refl z.1 in
      let all : z.0 ≡ length bs = omega (arith, within, length-drop z.0 bs, ap length z.2) in
      rw (x.1, y.1, z.1, eq-eqb z.0 (length bs) all)

  -- what is read as numbers is written as their session
  pub session_then : session_of bs ≡ given type source origin → SessionText type source origin bs
  unfolding session_of
  session_then = go₁ (line_at type_name bs 0) refl
    where
      go₃ : (a b : Line) → line_at type_name bs 0 ≡ Ok a → line_at source_name bs a.end ≡ Ok b → (l : Result Line Fault) → line_at origin_name bs b.end ≡ l
          → after 3 l (λ o k. cond (eqb k (length bs)) (given a.number b.number o) (bad 4 MoreText)) ≡ given type source origin → SessionText type source origin bs
      go₃ a b f g (Err z) h x = absurd (no_session x)
      go₃ a b f g (Ok c) h x = go (eqb c.end (length bs)) refl x
        where
          go : (y : Bool) → eqb c.end (length bs) ≡ y → cond y (given a.number b.number c.number) (bad 4 MoreText) ≡ given type source origin → SessionText type source origin bs
          go true e y =
              let same = session_value y in
              let none : drop c.end bs ≡ [] = rw (eqb-true c.end (length bs) e) (drop-length bs) in
              record {
                after_type = drop a.end bs;
                after_source = drop b.end bs;
                first = line_then bs 0 type_name type a.end (f ∙ (λ i. read (same i).payload_type a.end));
                second = line_then bs a.end source_name source b.end (g ∙ (λ i. read (same i).ssrc b.end));
                third = rw none at (line_then bs b.end origin_name origin c.end (h ∙ (λ i. read (same i).origin c.end)));
              }
          go false e y = absurd (no_session y)

      go₂ : (a : Line) → line_at type_name bs 0 ≡ Ok a → (l : Result Line Fault) → line_at source_name bs a.end ≡ l
          → after 2 l (λ s j. after 3 (line_at origin_name bs j) (λ o k. cond (eqb k (length bs)) (given a.number s o) (bad 4 MoreText))) ≡ given type source origin
          → SessionText type source origin bs
      go₂ a f (Err z) h x = absurd (no_session x)
      go₂ a f (Ok b) h x = go₃ a b f h (line_at origin_name bs b.end) refl x

      go₁ : (l : Result Line Fault) → line_at type_name bs 0 ≡ l
          → after 1 l (λ t i. after 2 (line_at source_name bs i) (λ s j. after 3 (line_at origin_name bs j) (λ o k. cond (eqb k (length bs)) (given t s o) (bad 4 MoreText)))) ≡ given type source origin
          → SessionText type source origin bs
      go₁ (Err z) h x = absurd (no_session x)
      go₁ (Ok a) h x = go₂ a h (line_at source_name bs a.end) refl x
