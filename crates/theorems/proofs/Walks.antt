-- The walker hands out exactly the blocks of a packet.
use Prim.Native.Nat.{ℕ, zero, suc, ◌+◌, ◌-◌, ◌≤◌, ◌<◌}
use mathlib.Core.Path.{◌≡◌, refl, sym, ◌∙◌, ap}
use mathlib.Core.Bool.{Bool, true, false, cond, ◌&&◌, false≢true}
use mathlib.Core.List.{List, [], ◌∷◌}
use native.Mathlib.Omega.{arith}
use borrow.Author.Tests.{le-leb, lt-ltb, le-ltb, leb-true, ltb-true, eqb-true}
use lib.Dec.{eqb, leb}
use lib.ListN.{length, take, drop, length-take, length-drop, take-append-drop}
use lib.Seq.{take-append_seam, take-take, drop-drop, get_or-take, take-nil}
use Rattle.model.specs.declared.Cursor.{Cursor}
use Rattle.model.specs.declared.WalkStart.{WalkStart}
use Rattle.model.specs.declared.BlockStep.{BlockStep}
use Rattle.model.specs.declared.HeaderStep.{HeaderStep}
use Rattle.refusals.specs.Refusals.{none}
use Rattle.model.specs.Packet.{byte, after_header, bytes_left, padded, pad_count, payload, header_refusal}
use Rattle.model.specs.Blocks.{
  BlockHeader,
  another,
  block_header,
  older,
  last_header,
  primary_type,
  block_data,
  lengths,
  blocks_refusal,
  cut_data,
  blocks,
}
use Rattle.model.specs.Walk.{
  cursor,
  payload_ends,
  at_first,
  walk_refusal,
  walk_start,
  no_block,
  primary_step,
  older_step,
  stands_in,
  is_whole,
  from_header,
  block_step,
  header_step,
  step_again,
  SaysTheStep,
  part_of,
  HandsOut,
  Walks,
}
use Rattle.refusals.proofs.Tests.{and_then, both_none}
use Rattle.theorems.proofs.Blocks.{older_none, older_more, last_more, primary_more, header_by_header, unrefused_then}

-- PARTS OF A PACKET

pub drop_take : (n m : ℕ) (l : List ℕ) → drop n (take m l) ≡ take (m - n) (drop n l)
drop_take zero m l = let z : m - 0 ≡ m = omega arith in rw z
drop_take (suc n) zero l = let z : 0 - suc n ≡ 0 = omega arith in rw z
drop_take (suc n) (suc m) [] = sym (take-nil (suc m - suc n))
drop_take (suc n) (suc m) (x ∷ l) = let z : suc m - suc n ≡ m - n = omega arith in rw z (drop_take n m l)

pub drop_part : (n : ℕ) (bs : List ℕ) (start end : ℕ) → drop n (part_of bs start end) ≡ part_of bs (start + n) end
drop_part n bs start end =
    let same : end - start - n ≡ end - (start + n) = omega arith in
    drop_take n (end - start) (drop start bs) ∙ rw (same, drop-drop n start bs)

pub length_part : (bs : List ℕ) (start end : ℕ) → end ≤ length bs → length (part_of bs start end) ≡ end - start
length_part bs start end h = omega (arith, length-take (end - start) (drop start bs), length-drop start bs)

-- a byte of the part is the packet's
pub byte_part : (bs : List ℕ) (start end i : ℕ) → i < end - start → byte (drop start bs) i ≡ byte (part_of bs start end) i
byte_part bs start end i h = sym (get_or-take (end - start) (drop start bs) i 0 h)

-- a list cut is cut again at the length that it has then
take_again : (n : ℕ) (l : List ℕ) → take (length (take n l)) l ≡ take n l
take_again n l =
    ap (λ (k : List ℕ). take (length (take n l)) k) (sym (take-append-drop n l)) ∙ take-append_seam (take n l) (drop n l)

-- ONE STEP

pub no_header : (bs : List ℕ) (c : Cursor) → c.end ≤ c.header → block_step bs c ≡ no_block c
unfolding block_step
no_header bs c h = rw (le-ltb c.header c.end h) (go (leb c.end (length bs)) _)
  where
    go : (b : Bool) (x : BlockStep) → cond (b && false) x (no_block c) ≡ no_block c
    go false x = refl
    go true x = refl

module _ (bs : List ℕ) (c : Cursor) (end : c.end ≤ length bs) (header : c.header < c.end) (body : c.body ≤ c.end) where
  pub last_step : another (from_header bs c) ≡ false → block_step bs c ≡ primary_step c (byte (from_header bs c) 0)
  unfolding block_step
  last_step e = rw (le-leb c.end (length bs) end, lt-ltb c.header c.end header, le-leb c.body c.end body, e)

  pub older_step_lem : another (from_header bs c) ≡ true → 4 ≤ c.end - c.header → (block_header (from_header bs c)).length ≤ c.end - c.body
      → block_step bs c ≡ older_step c (block_header (from_header bs c))
  unfolding block_step
  older_step_lem e four long =
      rw (
        le-leb c.end (length bs) end,
        lt-ltb c.header c.end header,
        le-leb c.body c.end body,
        e,
        le-leb 4 (c.end - c.header) four,
        le-leb (block_header (from_header bs c)).length (c.end - c.body) long,
      )

-- THE STEP IN FEWER NUMBERS

module _ (bs : List ℕ) (c : Cursor) where
  abbrev here : BlockHeader
  here = block_header (from_header bs c)

  -- each way of the step, by its three tests
  abbrev way : Bool → Bool → Bool → BlockStep
  way a b w = cond a (cond b (cond w (older_step c here) (no_block c)) (primary_step c (byte (from_header bs c) 0))) (no_block c)

  abbrev shorter : BlockStep → HeaderStep
  shorter s = record {
    next = s.after.header;
    length = cond s.primary 0 (s.end - s.start);
    offset = s.offset;
    payload_type = s.payload_type;
    primary = s.primary;
    found = s.found;
  }

  again : step_again c (header_step bs c) ≡ block_step bs c
  unfolding block_step
  again = go (stands_in bs c) (another (from_header bs c)) (is_whole c here)
    where
      rest : c.body + here.length - c.body ≡ here.length
      rest = omega arith

      go : (a b w : Bool) → step_again c (shorter (way a b w)) ≡ way a b w
      go false b w = refl
      go true false w = refl
      go true true false = refl
      go true true true = rw rest

  -- an older block's data are less than 1024 bytes, and no block's are none
  pub length_said : (block_step bs c).primary ≡ false → ((block_step bs c).start ≤ (block_step bs c).end) × ((block_step bs c).end - (block_step bs c).start < 1024)
  unfolding block_step
  length_said = go (stands_in bs c) (another (from_header bs c)) (is_whole c here)
    where
      go : (a b w : Bool) → (way a b w).primary ≡ false → ((way a b w).start ≤ (way a b w).end) × ((way a b w).end - (way a b w).start < 1024)
      go false b w e = (omega arith, omega arith)
      go true false w e = absurd (false≢true (sym e))
      go true true false e = (omega arith, omega arith)
      go true true true e = (omega arith, omega arith)

pub says_the_step : SaysTheStep
says_the_step = again

-- THE REST OF A WALK

module _ (bs : List ℕ) (e : ℕ) (end : e ≤ length bs) where
  -- from a header at h and data at d on, the blocks of the headers are handed out
  abbrev RestFrom : List ℕ → Type 0
  RestFrom p = (h d : ℕ) → part_of bs h e ≡ p → last_header p < length p → d + lengths (older p) ≤ e
      → HandsOut bs (cursor h d e) (cut_data (primary_type p) (older p) (part_of bs d e))

  rest_last : (p : List ℕ) → another p ≡ false → RestFrom p
  unfolding HandsOut cut_data lengths
  rest_last p f h d is ends enough =
      let c = cursor h d e in
      let long : length p ≡ e - h = ap length (sym is) ∙ length_part bs h e end in
      let first : byte (drop h bs) 0 ≡ byte p 0 = byte_part bs h e 0 (omega arith) ∙ ap (λ (q : List ℕ). byte q 0) is in
      let f' : another (drop h bs) ≡ false = rw first f in
      rw (older_none p f, last_step bs c end (omega arith) (omega arith) f', first, no_header bs (cursor e e e) (omega arith))
      (refl, refl, refl)

  rest_more : (p : List ℕ) → another p ≡ true → RestFrom (drop 4 p) → RestFrom p
  unfolding HandsOut cut_data lengths
  rest_more p f ih h d is ends enough =
      let c = cursor h d e in
      let q = drop 4 p in
      let hd = block_header p in
      let n = hd.length in
      let long : length p ≡ e - h = ap length (sym is) ∙ length_part bs h e end in
      let past : 4 + last_header q < length p = omega (arith, last_more p f) in
      let all : d + (n + lengths (older q)) ≤ e = rw (older_more p f) at enough in
      let at : (i : ℕ) → i < 4 → byte (drop h bs) i ≡ byte p i =
      (λ i k. byte_part bs h e i (omega arith) ∙ ap (λ (l : List ℕ). byte l i) is) in
      let same : block_header (drop h bs) ≡ hd = rw (at 0 (omega arith), at 1 (omega arith), at 2 (omega arith), at 3 (omega arith)) in
      let told : (block_header (drop h bs)).length ≡ n = ap (λ (x : BlockHeader). x.length) same in
      let f' : another (drop h bs) ≡ true = rw (at 0 (omega arith)) f in
      let step : block_step bs c ≡ older_step c hd =
      older_step_lem bs c end (omega arith) (omega arith) f' (omega arith) (omega (arith, told))
      ∙ ap (older_step c) same in
      let next = ih (h + 4) (d + n) (sym (drop_part 4 bs h e) ∙ ap (drop 4) is) (omega (arith, length-drop 4 p)) (omega arith) in
      let size : d + n - d ≡ n = omega arith in
      let cut : part_of bs d (d + n) ≡ take n (part_of bs d e) = rw size (sym (take-take n (e - d) (drop d bs) (omega arith))) in
      rw (primary_more p f, older_more p f, step, drop_part n bs d e)
      (refl, (λ i. record { type = hd.type; offset = hd.offset; primary = false; bytes = cut i }), next)

  rest_from : (p : List ℕ) → RestFrom p
  rest_from = header_by_header RestFrom rest_last rest_more

  pub hands_out : (h d : ℕ) → last_header (part_of bs h e) < length (part_of bs h e) → d + lengths (older (part_of bs h e)) ≤ e
      → HandsOut bs (cursor h d e) (cut_data (primary_type (part_of bs h e)) (older (part_of bs h e)) (part_of bs d e))
  hands_out h d = rest_from (part_of bs h e) h d refl

  -- from the first header on, all blocks of a payload that is not refused
  pub hands_out_all : (h : ℕ) → blocks_refusal (part_of bs h e) ≡ none
      → HandsOut bs (cursor h (h + last_header (part_of bs h e) + 1) e) (blocks (part_of bs h e))
  unfolding blocks
  hands_out_all h r =
      let p = part_of bs h e in
      let u = unrefused_then p r in
      let d = h + last_header p + 1 in
      let long = length_part bs h e end in
      let place : h + (last_header p + 1) ≡ d = omega arith in
      let body : block_data p ≡ part_of bs d e = drop_part (last_header p + 1) bs h e ∙ ap (λ (m : ℕ). part_of bs m e) place in
      rw body (hands_out h d u.ends (omega (arith, u.enough, u.ends, length-drop (last_header p + 1) p)))

-- FROM THE START

start_unrefused : (bs : List ℕ) → (walk_start bs).refusal ≡ none → walk_refusal bs ≡ none
unfolding walk_start
start_unrefused bs e = go (eqb (walk_refusal bs) none) refl e
  where
    go : (b : Bool) → eqb (walk_refusal bs) none ≡ b
        → (cond {A = WalkStart} b (record { cursor = at_first bs; refusal = none })
        (record { cursor = cursor 0 0 0; refusal = walk_refusal bs })).refusal ≡ none
        → walk_refusal bs ≡ none
    go true q r = eqb-true (walk_refusal bs) none q
    go false q r = r

starts_first : (bs : List ℕ) → walk_refusal bs ≡ none → (walk_start bs).cursor ≡ at_first bs
unfolding walk_start
starts_first bs e = rw e

-- the payload is the packet's part from behind the header to the payload's end
pub payload_part : (bs : List ℕ) → part_of bs (after_header bs) (payload_ends bs) ≡ payload bs
unfolding payload
payload_part bs =
    let size : payload_ends bs - after_header bs ≡ length (payload bs) = omega arith in
    rw size (take_again (bytes_left bs - cond (padded bs) (pad_count bs) 0) (drop (after_header bs) bs))

pub payload_within : (bs : List ℕ) → length (payload bs) ≤ length bs - after_header bs
unfolding payload
payload_within bs =
    omega (arith, length-take (bytes_left bs - cond (padded bs) (pad_count bs) 0) (drop (after_header bs) bs), length-drop (after_header bs) bs)

pub walks : Walks
unfolding walk_refusal
walks bs e =
    let n = start_unrefused bs e in
    let r = (both_none (header_refusal bs) (blocks_refusal (payload bs)) n).1 in
    let u = unrefused_then (payload bs) r in
    let is = payload_part bs in
    let out = hands_out_all bs (payload_ends bs) (omega (arith, payload_within bs, u.ends)) (after_header bs) (rw is r) in
    rw (starts_first bs n) (rw is at out)

-- WHAT A STEP FOUND

-- the block stands inside the packet, and the walk goes on behind its header, up to the same end
pub record Inside (bs : List ℕ) (c : Cursor) (s : BlockStep) : Type 0 where
  pub before : c.header < c.end
  pub on : c.header < s.after.header
  pub same_end : s.after.end ≡ c.end
  pub ordered : s.start ≤ s.end
  pub within : s.end ≤ length bs

pub found_inside : (bs : List ℕ) (c : Cursor) (s : BlockStep) → s ≡ block_step bs c → s.found ≡ true → Inside bs c s
unfolding block_step
found_inside bs c s is f = rw is (go (stands_in bs c) refl (another (from_header bs c)) (is_whole c h) refl (sym (ap (λ (x : BlockStep). x.found) is) ∙ f))
  where
    h : BlockHeader
    h = block_header (from_header bs c)

    step : Bool → Bool → Bool → BlockStep
    step a b w = cond a (cond b (cond w (older_step c h) (no_block c)) (primary_step c (byte (from_header bs c) 0))) (no_block c)

    go : (a : Bool) → stands_in bs c ≡ a → (b w : Bool) → is_whole c h ≡ w → (step a b w).found ≡ true → Inside bs c (step a b w)
    go false p b w q e = absurd (false≢true e)
    go true p false w q e =
        let end = and_then _ _ p in
        let places = and_then _ _ end.1 in
        record {
          before = ltb-true _ _ places.0;
          on = ltb-true _ _ places.0;
          same_end = refl;
          ordered = leb-true _ _ places.1;
          within = leb-true _ _ end.0;
        }
    go true p true false q e = absurd (false≢true e)
    go true p true true q e =
        let end = and_then _ _ p in
        let places = and_then _ _ end.1 in
        let long = leb-true h.length (c.end - c.body) (and_then (leb 4 (c.end - c.header)) _ q).1 in
        let body = leb-true c.body c.end places.1 in
        let whole = leb-true c.end (length bs) end.0 in
        record {
          before = ltb-true _ _ places.0;
          on = omega arith;
          same_end = refl;
          ordered = omega arith;
          within = omega (arith, long, body, whole);
        }
