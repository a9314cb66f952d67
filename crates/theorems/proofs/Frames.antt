-- What a buffer of frames holds: its packets one by one, their frames cut again, and a buffer that comes in pieces.
use Prim.Native.Nat.{ℕ, zero, suc, ◌+◌, ◌-◌, ◌≤◌, ◌<◌}
use mathlib.Core.Path.{◌≡◌, refl, sym, ◌∙◌, ap}
use mathlib.Core.Bool.{Bool, true, false}
use mathlib.Core.List.Memᴰ
use mathlib.Core.List.{List, [], ◌∷◌, ◌++◌, append_assoc, append-nil}
use mathlib.Core.Logic.{⊎_elim}
use native.Mathlib.Omega.{arith}
use lib.ListN.{length, take, drop, length-append, take-append-drop, length-drop, get_or-append}
use lib.Seq.{length-take-le, take-append-le, take-append_seam, drop-append-le, drop-append_seam, drop-drop}
use borrow.Author.Tests.{leb-true, leb-false, le-leb, lt-leb}
use Rattle.model.specs.Packet.{byte, number16, bytes16}
use Rattle.model.specs.Fits.{BytesFit}
use Rattle.model.specs.Frames.{frame, frames, frame_size, starts_whole, first_packet, after_first, packets_within, packets_in, used, rest, Holds}
use Rattle.theorems.proofs.Basics.{Mem}
use Rattle.theorems.proofs.Packets.{number16_back, number16_fits, fits_parts, each, first_bytes, number16_written}

-- ONE FRAME AT THE START

pub whole_if : (bs : List ℕ) → frame_size bs ≤ length bs → starts_whole bs ≡ true
unfolding starts_whole
whole_if bs h = le-leb (frame_size bs) (length bs) h

pub whole_then : (bs : List ℕ) → starts_whole bs ≡ true → frame_size bs ≤ length bs
unfolding starts_whole
whole_then bs h = leb-true (frame_size bs) (length bs) h

pub cut_if : (bs : List ℕ) → length bs < frame_size bs → starts_whole bs ≡ false
unfolding starts_whole
cut_if bs h = lt-leb (frame_size bs) (length bs) h

pub cut_then : (bs : List ℕ) → starts_whole bs ≡ false → length bs < frame_size bs
unfolding starts_whole
cut_then bs h = leb-false (frame_size bs) (length bs) h

pub at_least_2 : (bs : List ℕ) → 2 ≤ frame_size bs
unfolding frame_size
at_least_2 bs = omega arith

length_after : (bs : List ℕ) → length (after_first bs) ≡ length bs - frame_size bs
unfolding after_first
length_after bs = length-drop (frame_size bs) bs

length_frame : (p : List ℕ) → length (frame p) ≡ 2 + length p
length_frame p = omega arith

pub length_first : (bs : List ℕ) → starts_whole bs ≡ true → 2 + length (first_packet bs) ≡ frame_size bs
unfolding frame_size first_packet
length_first bs h =
    let w : 2 + number16 bs 0 ≤ length bs = whole_then bs h in
    let d = length-drop 2 bs in
    ap (λ (n : ℕ). 2 + n) (length-take-le (number16 bs 0) (drop 2 bs) (omega (arith, d)))

-- THE PACKETS ONE BY ONE

within : (n : ℕ) (bs : List ℕ) → starts_whole bs ≡ true → packets_within (suc n) bs ≡ first_packet bs ∷ packets_within n (after_first bs)
unfolding packets_within
within n bs e = rw e

within_none : (n : ℕ) (bs : List ℕ) → starts_whole bs ≡ false → packets_within n bs ≡ []
unfolding packets_within
within_none zero bs e = refl
within_none (suc n) bs e = rw e

-- a frame leaves fewer bytes
fewer : (n : ℕ) (bs : List ℕ) → starts_whole bs ≡ true → length bs ≤ suc n → length (after_first bs) ≤ n
fewer n bs e h = omega (arith, length_after bs, at_least_2 bs, whole_then bs e)

pub too_few : (bs : List ℕ) → length bs ≤ 0 → starts_whole bs ≡ false
too_few bs h = cut_if bs (omega (arith, at_least_2 bs))

-- more turns than bytes change nothing
turns : (n m : ℕ) (bs : List ℕ) → length bs ≤ n → length bs ≤ m → packets_within n bs ≡ packets_within m bs
turns zero m bs h k = within_none 0 bs (too_few bs h) ∙ sym (within_none m bs (too_few bs h))
turns (suc n) zero bs h k = within_none (suc n) bs (too_few bs k) ∙ sym (within_none 0 bs (too_few bs k))
turns (suc n) (suc m) bs h k = go (starts_whole bs) refl (turns n m (after_first bs))
  where
    go : (b : Bool) → starts_whole bs ≡ b
        → (length (after_first bs) ≤ n → length (after_first bs) ≤ m → packets_within n (after_first bs) ≡ packets_within m (after_first bs))
        → packets_within (suc n) bs ≡ packets_within (suc m) bs
    go false e ih = within_none (suc n) bs e ∙ sym (within_none (suc m) bs e)
    go true e ih = within n bs e ∙ ap (λ (ps : List (List ℕ)). first_packet bs ∷ ps) (ih (fewer n bs e h) (fewer m bs e k)) ∙ sym (within m bs e)

pub none_first : (bs : List ℕ) → starts_whole bs ≡ false → packets_in bs ≡ []
unfolding packets_in
none_first bs e = within_none (length bs) bs e

pub one_first : (bs : List ℕ) → starts_whole bs ≡ true → packets_in bs ≡ first_packet bs ∷ packets_in (after_first bs)
unfolding packets_in
one_first bs e =
    turns (length bs) (suc (length bs)) bs (omega arith) (omega arith)
    ∙ within (length bs) bs e
    ∙ ap (λ (ps : List (List ℕ)). first_packet bs ∷ ps)
    (turns (length bs) (length (after_first bs)) (after_first bs) (fewer (length bs) bs e (omega arith)) (omega arith))

-- WHAT THEY USE, AND WHAT IS LEFT

pub used_none : (bs : List ℕ) → starts_whole bs ≡ false → used bs ≡ 0
unfolding used frames
used_none bs e = rw (none_first bs e)

pub used_first : (bs : List ℕ) → starts_whole bs ≡ true → used bs ≡ frame_size bs + used (after_first bs)
unfolding used frames
used_first bs e =
    let p = first_packet bs in
    let more = frames (packets_in (after_first bs)) in
    rw (one_first bs e) (omega (arith, length-append (frame p) more, length_frame p, length_first bs e))

rest_none : (bs : List ℕ) → starts_whole bs ≡ false → rest bs ≡ bs
unfolding rest
rest_none bs e = rw (used_none bs e)

rest_first : (bs : List ℕ) → starts_whole bs ≡ true → rest bs ≡ rest (after_first bs)
unfolding rest after_first
rest_first bs e = ap (λ (n : ℕ). drop n bs) (used_first bs e) ∙ sym (drop-drop (used (after_first bs)) (frame_size bs) bs)

-- a claim about every buffer is shown by cutting off its first frame
module _ (P : List ℕ → Type 0) (none : (bs : List ℕ) → starts_whole bs ≡ false → P bs) (first : (bs : List ℕ) → starts_whole bs ≡ true → P (after_first bs) → P bs) where
  frame_by_frame_within : (n : ℕ) (bs : List ℕ) → length bs ≤ n → P bs
  frame_by_frame_within zero bs h = none bs (too_few bs h)
  frame_by_frame_within (suc n) bs h = go (starts_whole bs) refl (frame_by_frame_within n (after_first bs))
    where
      go : (b : Bool) → starts_whole bs ≡ b → (length (after_first bs) ≤ n → P (after_first bs)) → P bs
      go false e ih = none bs e
      go true e ih = first bs e (ih (fewer n bs e h))

  pub frame_by_frame : (bs : List ℕ) → P bs
  frame_by_frame bs = frame_by_frame_within (length bs) bs (omega arith)

pub used_within : (bs : List ℕ) → used bs ≤ length bs
used_within = frame_by_frame (λ bs. used bs ≤ length bs) (λ bs e. omega (arith, used_none bs e))
    (λ bs e ih. omega (arith, used_first bs e, length_after bs, whole_then bs e))

-- what is left begins with no whole frame
pub rest_cut : (bs : List ℕ) → starts_whole (rest bs) ≡ false
rest_cut = frame_by_frame (λ bs. starts_whole (rest bs) ≡ false) (λ bs e. ap starts_whole (rest_none bs e) ∙ e) (λ bs e ih. ap starts_whole (rest_first bs e) ∙ ih)

pub length_rest : (bs : List ℕ) → length (rest bs) ≡ length bs - used bs
unfolding rest
length_rest bs = length-drop (used bs) bs

-- MORE BEHIND IT
-- A whole frame at the start stands there too if more bytes come behind the buffer.

module _ (bs more : List ℕ) (whole : starts_whole bs ≡ true) where
  two : 2 ≤ length bs
  two = omega (arith, at_least_2 bs, whole_then bs whole)

  same_length : number16 (bs ++ more) 0 ≡ number16 bs 0
  same_length = rw (get_or-append bs more 0 0 (omega (arith, two)), get_or-append bs more 0 1 (omega (arith, two)))

  same_size : frame_size (bs ++ more) ≡ frame_size bs
  unfolding frame_size
  same_size = ap (λ (n : ℕ). 2 + n) same_length

  still_whole : starts_whole (bs ++ more) ≡ true
  still_whole = whole_if (bs ++ more) (omega (arith, same_size, length-append bs more, whole_then bs whole))

  same_first : first_packet (bs ++ more) ≡ first_packet bs
  unfolding first_packet frame_size
  same_first =
      let w : 2 + number16 bs 0 ≤ length bs = whole_then bs whole in
      rw (same_length, drop-append-le 2 bs more two) (take-append-le (number16 bs 0) (drop 2 bs) more (omega (arith, length-drop 2 bs)))

  more_after : after_first (bs ++ more) ≡ after_first bs ++ more
  unfolding after_first
  more_after = rw same_size (drop-append-le (frame_size bs) bs more (whole_then bs whole))

-- A BUFFER IN PIECES
-- The packets of a buffer are those of its first piece, then those of what that leaves with the rest behind it.

pub packets_in_pieces : (bs more : List ℕ) → packets_in (bs ++ more) ≡ packets_in bs ++ packets_in (rest bs ++ more)
packets_in_pieces bs more = frame_by_frame (λ bs. packets_in (bs ++ more) ≡ packets_in bs ++ packets_in (rest bs ++ more))
    (λ bs e. rw (none_first bs e, rest_none bs e))
    (λ bs e ih. one_first (bs ++ more) (still_whole bs more e) ∙ rw (same_first bs more e, more_after bs more e, one_first bs e, rest_first bs e) (ap (λ (ps : List (List ℕ)). first_packet bs ∷ ps) ih)) bs

pub used_in_pieces : (bs more : List ℕ) → used (bs ++ more) ≡ used bs + used (rest bs ++ more)
used_in_pieces bs more = frame_by_frame (λ bs. used (bs ++ more) ≡ used bs + used (rest bs ++ more))
    (λ bs e. rw (used_none bs e, rest_none bs e) (omega arith))
    (λ bs e ih. used_first (bs ++ more) (still_whole bs more e) ∙ rw (same_size bs more e, more_after bs more e, used_first bs e, rest_first bs e) (omega (arith, ih))) bs

pub rest_in_pieces : (bs more : List ℕ) → rest (bs ++ more) ≡ rest (rest bs ++ more)
rest_in_pieces bs more = frame_by_frame (λ bs. rest (bs ++ more) ≡ rest (rest bs ++ more))
    (λ bs e. rw (rest_none bs e))
    (λ bs e ih. rest_first (bs ++ more) (still_whole bs more e) ∙ rw (more_after bs more e, rest_first bs e) ih) bs

-- FRAMED AND CUT AGAIN

module _ (p more : List ℕ) (short : length p < 65536) where
  told : number16 (frame p ++ more) 0 ≡ length p
  told = number16_back (length p) short

  size_told : frame_size (frame p ++ more) ≡ length (frame p)
  unfolding frame_size
  size_told = omega (arith, told, length_frame p)

  frame_whole : starts_whole (frame p ++ more) ≡ true
  frame_whole = whole_if (frame p ++ more) (omega (arith, size_told, length-append (frame p) more))

  frame_first : first_packet (frame p ++ more) ≡ p
  unfolding first_packet
  frame_first = rw told (take-append_seam p more)

  frame_after : after_first (frame p ++ more) ≡ more
  unfolding after_first
  frame_after = rw size_told (drop-append_seam (frame p) more)

  frame_cut : packets_in (frame p ++ more) ≡ p ∷ packets_in more
  frame_cut = one_first (frame p ++ more) frame_whole ∙ rw (frame_first, frame_after)

  frame_rest : rest (frame p ++ more) ≡ rest more
  frame_rest = rest_first (frame p ++ more) frame_whole ∙ rw frame_after

  frame_used : used (frame p ++ more) ≡ length (frame p) + used more
  frame_used = used_first (frame p ++ more) frame_whole ∙ rw (frame_after, size_told)

abbrev Short : List (List ℕ) → Type 0
Short ps = (p : List ℕ) → Mem p ps → length p < 65536

-- whatever comes behind the frames of any packets
pub packets_again : (ps : List (List ℕ)) (more : List ℕ) → Short ps → packets_in (frames ps ++ more) ≡ ps ++ packets_in more
unfolding frames
packets_again [] more f = refl
packets_again (p ∷ ps) more f =
    rw (append_assoc (frame p) (frames ps) more, frame_cut p (frames ps ++ more) (f p (Memᴰ.head refl)), packets_again ps more (λ q m. f q (Memᴰ.tail m)))

pub used_again : (ps : List (List ℕ)) (more : List ℕ) → Short ps → used (frames ps ++ more) ≡ length (frames ps) + used more
unfolding frames
used_again [] more f = omega arith
used_again (p ∷ ps) more f =
    rw (append_assoc (frame p) (frames ps) more, frame_used p (frames ps ++ more) (f p (Memᴰ.head refl)), used_again ps more (λ q m. f q (Memᴰ.tail m)))
    (omega (arith, length-append (frame p) (frames ps)))

pub rest_again : (ps : List (List ℕ)) (more : List ℕ) → Short ps → rest (frames ps ++ more) ≡ rest more
unfolding frames
rest_again [] more f = refl
rest_again (p ∷ ps) more f =
    rw (append_assoc (frame p) (frames ps) more, frame_rest p (frames ps ++ more) (f p (Memᴰ.head refl)), rest_again ps more (λ q m. f q (Memᴰ.tail m)))

-- WITHOUT COMPUTING

pub fit_after : (bs : List ℕ) → BytesFit bs → BytesFit (after_first bs)
unfolding after_first
fit_after bs f = (fits_parts (frame_size bs) bs f).1

pub fit_rest : (bs : List ℕ) → BytesFit bs → BytesFit (rest bs)
unfolding rest
fit_rest bs f = (fits_parts (used bs) bs f).1

-- a whole frame at the start is the frame of its packet
framed_first : (bs : List ℕ) → BytesFit bs → starts_whole bs ≡ true → frame (first_packet bs) ++ after_first bs ≡ bs
unfolding first_packet after_first frame_size
framed_first bs f e =
    let n = number16 bs 0 in
    let w : 2 + n ≤ length bs = whole_then bs e in
    let l : length (take n (drop 2 bs)) ≡ n = length-take-le n (drop 2 bs) (omega (arith, length-drop 2 bs)) in
    let joined : take n (drop 2 bs) ++ drop (2 + n) bs ≡ drop 2 bs = rw (← (drop-drop n 2 bs)) (take-append-drop n (drop 2 bs)) in
    ap (λ (m : ℕ). (bytes16 m ++ take n (drop 2 bs)) ++ drop (2 + n) bs) l
    ∙ ap (λ (told : List ℕ). (told ++ take n (drop 2 bs)) ++ drop (2 + n) bs) (number16_written bs f 0)
    ∙ ap (λ (left : List ℕ). each 2 (byte bs) ++ left) joined
    ∙ first_bytes 2 bs (omega arith)

short_first : (bs : List ℕ) → BytesFit bs → starts_whole bs ≡ true → length (first_packet bs) < 65536
unfolding frame_size
short_first bs f e =
    let l : 2 + length (first_packet bs) ≡ 2 + number16 bs 0 = length_first bs e in
    omega (arith, number16_fits bs 0 f)

holds_none : (bs : List ℕ) → starts_whole bs ≡ false → bs ≡ frames (packets_in bs) ++ rest bs
unfolding frames
holds_none bs e = rw (none_first bs e, rest_none bs e)

holds_first : (bs : List ℕ) → starts_whole bs ≡ true → frame (first_packet bs) ++ (frames (packets_in (after_first bs)) ++ rest (after_first bs)) ≡ frames (packets_in bs) ++ rest bs
unfolding frames
holds_first bs e = rw (one_first bs e, rest_first bs e) (sym (append_assoc (frame (first_packet bs)) (frames (packets_in (after_first bs))) (rest (after_first bs))))

holds_framed : (bs : List ℕ) → BytesFit bs → bs ≡ frames (packets_in bs) ++ rest bs
holds_framed = frame_by_frame (λ bs. BytesFit bs → bs ≡ frames (packets_in bs) ++ rest bs)
    (λ bs e f. holds_none bs e)
    (λ bs e ih f. sym (framed_first bs f e) ∙ ap (λ (l : List ℕ). frame (first_packet bs) ++ l) (ih (fit_after bs f)) ∙ holds_first bs e)

holds_short : (bs : List ℕ) → BytesFit bs → Short (packets_in bs)
holds_short = frame_by_frame (λ bs. BytesFit bs → Short (packets_in bs))
    (λ bs e f. rw (none_first bs e) (λ p m. absurd (Memᴰ.not-nil m)))
    (λ bs e ih f. rw (one_first bs e) (λ p m. ⊎_elim (λ q. rw q (short_first bs f e)) (λ k. ih (fit_after bs f) p k) (Memᴰ.cases_cons m)))

-- the packets of a buffer of bytes and what they leave are held by it, and nothing else is
pub holds : (bs : List ℕ) → BytesFit bs → Holds bs (packets_in bs) (rest bs)
holds bs f = record { framed = holds_framed bs f; short = holds_short bs f; cut = rest_cut bs }

pub nothing_else : (bs : List ℕ) (ps : List (List ℕ)) (left : List ℕ) → Holds bs ps left → (ps ≡ packets_in bs) × (left ≡ rest bs)
nothing_else bs ps left h = (
  sym (ap packets_in h.framed ∙ packets_again ps left h.short ∙ ap (λ (qs : List (List ℕ)). ps ++ qs) (none_first left h.cut) ∙ append-nil ps),
  sym (ap rest h.framed ∙ rest_again ps left h.short ∙ rest_none left h.cut),
)

-- less than the longest frame is left
pub rest_short : (bs : List ℕ) → BytesFit bs → length (rest bs) < 65537
unfolding frame_size
rest_short bs f =
    let c : length (rest bs) < 2 + number16 (rest bs) 0 = cut_then (rest bs) (rest_cut bs) in
    omega (arith, number16_fits (rest bs) 0 (fit_rest bs f))
