-- The input in pieces: each piece received on the table of those before it, and all of them together as one call.
use Rattle.std.proofs.Common.{◌≡◌, ℕ, ◌+◌, ◌-◌, ◌%◌, ◌^◌, ◌<◌, ◌≤◌, true, List, [], ◌∷◌, ◌++◌, length, get_or, take, drop, refl, sym, ap, ◌∙◌, ⊎_elim, append_assoc, append-nil, arith, length-take-le, drop-drop, take-add, w8, Fits, rules}
use mathlib.Core.List.Memᴰ
use lib.Seq.{drop-append-le}
use Rattle.model.specs.declared.Table.{Table}
use Rattle.model.specs.declared.Captured.{Captured}
use Rattle.model.specs.Table.{table_of, holding, valid}
use Rattle.model.specs.Fits.{BytesFit}
use Rattle.model.specs.Capture.{Capturing, receive_capture, together, unused}
use Rattle.theorems.proofs.Packets.{bytes_fit, fits_parts}
use Rattle.theorems.proofs.Captures.{captured_valid, captured_within, unused_short, of_empty, in_pieces}
use Rattle.receive.specs.declared.Tested.{Tested}
use Rattle.receive.specs.Receives.{in_table, SameColumns}
use Rattle.pieces.specs.declared.counts.Counts.{Counts}
use Rattle.pieces.specs.declared.SoFar.{SoFar}
use Rattle.pieces.specs.Input.{counted, added, GoesOn, joined}
use Rattle.input.specs.Buffer.{Refills, Keeps}

-- COUNTING

pub all_added : (c : Counts) (a : Captured) (t r p : ℕ)
    → t ≡ (c.taken + a.taken) % 2 ^ 64 → r ≡ (c.refused + a.refused) % 2 ^ 64 → p ≡ (c.packed + a.packed) % 2 ^ 64
    → record { taken = t; refused = r; packed = p } ≡ added c a
all_added c a t r p x y z = rw (x, y, z)

pub ruleset counting = (rules, all_added)

-- ONE PIECE

fit_first : (n : ℕ) (b : List ℕ) → ((i : ℕ) → Fits w8 (get_or b i 0)) → BytesFit (take n b)
fit_first n b f = (fits_parts n b (bytes_fit b f)).0

module _ (t : Tested) (s : SoFar) (b : List ℕ) (n : ℕ) (inside : n ≤ length b) (a : Captured)
    (answer : a ≡ (receive_capture (in_table t) (take n b)).answer) where
  pub used_inside : a.used ≤ n
  used_inside =
      omega (arith, ap (λ (x : Captured). x.used) answer, captured_within (in_table t) (take n b), length-take-le n b inside)

  module _ (f : (i : ℕ) → Fits w8 (get_or b i 0)) (keys' heard' : List ℕ)
      (table : table_of (holding a.count t.head) keys' heard' ≡ (receive_capture (in_table t) (take n b)).table) where
    -- the call leaves a table that passes the tests
    pub passes_again : valid (table_of (holding a.count t.head) keys' heard') ≡ true
    passes_again = rw table (captured_valid (in_table t) (take n b) t.passes (fit_first n b f))

    pub went_on : (t' : Tested) → in_table t' ≡ table_of (holding a.count t.head) keys' heard' → SameColumns t t'
        → (c : Counts) → c ≡ added s.counts a → (many : ℕ) (b' : List ℕ) → Keeps a.used n b many b'
        → GoesOn t s b n (record { counts = c; left = many }) t' b'
    went_on t' is lent c e many b' k =
        record {
          same = k.same;
          bytes = fit_first n b f;
          table = is ∙ table;
          lent = lent;
          counts = e ∙ ap (added s.counts) answer;
          within = k.within;
          left = k.front ∙ ap (λ (y : Captured). unused y (take n b)) answer;
        }

pub ruleset GoingOn = (rules, used_inside, passes_again, went_on)

-- ALL PIECES

fit_both : (a b : List ℕ) → BytesFit a → BytesFit b → BytesFit (a ++ b)
fit_both a b f g x m = ⊎_elim (f x) (g x) (Memᴰ.append_cases a m)

joined_one_more : (ps : List (List ℕ)) (p : List ℕ) → joined (ps ++ (p ∷ [])) ≡ joined ps ++ p
unfolding joined
joined_one_more [] p = append-nil p
joined_one_more (q ∷ ps) p = rw (joined_one_more ps p) (sym (append_assoc q (joined ps) p))

-- the counts modulo 2^64 of the pieces so far and of one more are those of all of them
modulo : (x y : ℕ) → (x % 2 ^ 64 + y) % 2 ^ 64 ≡ (x + y) % 2 ^ 64
modulo x y = omega arith

counted_added : (a b : Captured) → added (counted a) b ≡ record { taken = (a.taken + b.taken) % 2 ^ 64; refused = (a.refused + b.refused) % 2 ^ 64; packed = (a.packed + b.packed) % 2 ^ 64 }
counted_added a b = λ i. record {
  taken = modulo a.taken b.taken i;
  refused = modulo a.refused b.refused i;
  packed = modulo a.packed b.packed i;
}

-- what has been received of an input, with the table and the buffer as they are
pub record Stands (t : Table) (input : List ℕ) (s : SoFar) (u : Table) (b : List ℕ) : Type 0 where
  pub bytes : BytesFit input
  pub table : u ≡ (receive_capture t input).table
  pub counts : s.counts ≡ counted (receive_capture t input).answer
  pub within : s.left ≤ length b
  pub left : take s.left b ≡ unused (receive_capture t input).answer input

module _ (t : Table) (input : List ℕ) (s : SoFar) (u : Tested) (b : List ℕ) (w : Stands t input s (in_table u) b) where
  many_left : s.left ≡ length (unused (receive_capture t input).answer input)
  many_left = sym (length-take-le s.left b w.within) ∙ ap length w.left

  module _ (n : ℕ) (b' : List ℕ) (r : Refills s.left b n b') where
    abbrev piece : List ℕ
    piece = take n (drop s.left b')

    abbrev first : Capturing
    first = receive_capture t input

    abbrev second : Capturing
    second = receive_capture first.table (unused first.answer input ++ piece)

    handed : take (s.left + n) b' ≡ unused first.answer input ++ piece
    handed = take-add s.left n b' ∙ ap (λ (l : List ℕ). l ++ piece) (r.stays ∙ w.left)

    unused_both : unused (together first.answer second).answer (input ++ piece) ≡ unused second.answer (unused first.answer input ++ piece)
    unused_both =
        sym (drop-drop second.answer.used first.answer.used (input ++ piece))
        ∙ ap (drop second.answer.used) (drop-append-le first.answer.used input piece (captured_within t input))

    one_more : (s' : SoFar) (u' : Tested) (b'' : List ℕ) → GoesOn u s b' (s.left + n) s' u' b'' → Stands t (input ++ piece) s' (in_table u') b''
    one_more s' u' b'' g =
        let called : receive_capture (in_table u) (take (s.left + n) b') ≡ second = λ i. receive_capture (w.table i) (handed i) in
        let at_once : together first.answer second ≡ receive_capture t (input ++ piece) = sym (in_pieces t input piece w.bytes) in
        record {
          bytes = fit_both input piece w.bytes (λ x m. rw handed at g.bytes x (Memᴰ.append_right (unused first.answer input) m));
          table = g.table ∙ (λ i. (called i).table) ∙ (λ i. (at_once i).table);
          counts = g.counts ∙ (λ i. added (w.counts i) (called i).answer) ∙ counted_added first.answer second.answer ∙ (λ i. counted (at_once i).answer);
          within = g.within;
          left = g.left ∙ (λ i. unused (called i).answer (handed i)) ∙ sym unused_both ∙ (λ i. unused (at_once i).answer (input ++ piece));
        }

-- what has been received of the pieces that were handed out so far
pub record Listens (t : Tested) (s : SoFar) (t' : Tested) (b : List ℕ) : Type 0 where
  pub long : length b ≡ 131072
  pub pieces : List (List ℕ)
  pub lent : SameColumns t t'
  pub stands : Stands (in_table t) (joined pieces) s (in_table t') b

pub begins : (t : Tested) (b : List ℕ) (none : Counts) → (none.taken ≡ 0) × ((none.refused ≡ 0) × (none.packed ≡ 0))
    → 131072 ≡ length b → Listens t (record { counts = none; left = 0 }) t b
unfolding joined
begins t b none zero long =
    let nothing = sym (of_empty (in_table t) t.passes) in
    record {
      long = sym long;
      pieces = [];
      lent = record { keys = refl; heard = refl };
      stands = record {
        bytes = λ x m. absurd (Memᴰ.not-nil m);
        table = λ i. (nothing i).table;
        counts = (λ i. record { taken = zero.0 i; refused = zero.1.0 i; packed = zero.1.1 i }) ∙ (λ i. counted (nothing i).answer);
        within = omega arith;
        left = λ i. unused (nothing i).answer [];
      };
    }

module _ (t : Tested) (s : SoFar) (t' : Tested) (b : List ℕ) (w : Listens t s t' b) where
  -- a part of one frame is left, so there is room to read more
  pub room_left : s.left < length b
  room_left = omega (arith, many_left (in_table t) (joined w.pieces) s t' b w.stands, w.long, unused_short (in_table t) (joined w.pieces) t.passes w.stands.bytes)

  module _ (n : ℕ) (b' : List ℕ) (r : Refills s.left b n b') where
    pub one_came : (s' : SoFar) (t'' : Tested) (b'' : List ℕ) → GoesOn t' s b' (s.left + n) s' t'' b'' → Listens t s' t'' b''
    one_came s' t'' b'' g =
        let input = joined w.pieces in
        let p = piece (in_table t) input s t' b w.stands n b' r in
        record {
          long = g.same ∙ r.same ∙ w.long;
          pieces = w.pieces ++ (p ∷ []);
          lent = record { keys = g.lent.keys ∙ w.lent.keys; heard = g.lent.heard ∙ w.lent.heard };
          stands = rw (joined_one_more w.pieces p) (one_more (in_table t) input s t' b w.stands n b' r s' t'' b'' g);
        }
