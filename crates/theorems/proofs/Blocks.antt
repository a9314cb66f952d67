-- The blocks of a payload: their data together are its bytes after the headers; and the two descriptions, computed and not, agree.
use Prim.Native.Nat.{ℕ, zero, suc, ◌+◌, ◌*◌, ◌/◌, ◌%◌, ◌≤◌, ◌<◌}
use mathlib.Core.Path.{◌≡◌, refl, sym, ◌∙◌, ap}
use mathlib.Core.Bool.{Bool, true, false}
use mathlib.Core.Logic.{⊎_elim}
use mathlib.Core.List.Memᴰ
use mathlib.Core.List.{
  List,
  [],
  ◌∷◌,
  ◌++◌,
  map,
  append_assoc,
  append-nil,
  Memᴰ,
}
use native.Mathlib.Omega.{arith}
use borrow.Author.Tests.{leb-true, leb-false, le-leb, lt-leb, ltb-false, le-ltb}
use lib.Dec.{leb, ltb}
use lib.ListN.{length, take, drop, length-append, length-drop, length-take, length-map, take-append-drop}
use lib.Seq.{take-append_seam, drop-append_seam, drop-append-add, drop-cons, drop-drop, get_or-drop, get_or_at}
use Rattle.refusals.specs.Refusals.{none}
use Rattle.model.specs.Packet.{byte, number16, bytes16}
use Rattle.model.specs.Blocks.{
  BlockHeader,
  another,
  block_header,
  older_within,
  older,
  last_header,
  primary_type,
  block_data,
  lengths,
  blocks_refusal,
  Block,
  older_block,
  primary_block,
  cut_data,
  blocks,
  header_of,
  headers_of,
  data_of,
  laid_out,
  OlderFits,
  Carries,
}
use Rattle.model.specs.Fits.{BytesFit}
use Rattle.refusals.proofs.Tests.{passed}
use Rattle.theorems.proofs.Basics.{Mem}
use Rattle.theorems.proofs.Packets.{byte_fits, number16_fits, number16_written, fits_parts, first_bytes}

-- HEADER BY HEADER

within_more : (n : ℕ) (p : List ℕ) → another p ≡ true → older_within (suc n) p ≡ block_header p ∷ older_within n (drop 4 p)
unfolding older_within
within_more n p e = rw e

within_none : (n : ℕ) (p : List ℕ) → another p ≡ false → older_within n p ≡ []
unfolding older_within
within_none zero p e = refl
within_none (suc n) p e = rw e

-- no header starts where there is no byte
empty_last : (p : List ℕ) → length p ≤ 0 → another p ≡ false
empty_last [] h = refl
empty_last (x ∷ p) h = absurd (omega arith)

fewer : (n : ℕ) (p : List ℕ) → length p ≤ suc n → length (drop 4 p) ≤ n
fewer n p h = omega (arith, length-drop 4 p)

-- more turns than bytes change nothing
turns : (n m : ℕ) (p : List ℕ) → length p ≤ n → length p ≤ m → older_within n p ≡ older_within m p
turns zero m p h k = within_none 0 p (empty_last p h) ∙ sym (within_none m p (empty_last p h))
turns (suc n) zero p h k = within_none (suc n) p (empty_last p k) ∙ sym (within_none 0 p (empty_last p k))
turns (suc n) (suc m) p h k = go (another p) refl (turns n m (drop 4 p) (fewer n p h) (fewer m p k))
  where
    go : (b : Bool) → another p ≡ b → older_within n (drop 4 p) ≡ older_within m (drop 4 p) → older_within (suc n) p ≡ older_within (suc m) p
    go false e ih = within_none (suc n) p e ∙ sym (within_none (suc m) p e)
    go true e ih = within_more n p e ∙ ap (λ (hs : List BlockHeader). block_header p ∷ hs) ih ∙ sym (within_more m p e)

pub older_none : (p : List ℕ) → another p ≡ false → older p ≡ []
unfolding older
older_none p e = within_none (length p) p e

pub older_more : (p : List ℕ) → another p ≡ true → older p ≡ block_header p ∷ older (drop 4 p)
unfolding older
older_more p e =
    turns (length p) (suc (length p)) p (omega arith) (omega arith)
    ∙ within_more (length p) p e
    ∙ ap (λ (hs : List BlockHeader). block_header p ∷ hs)
    (turns (length p) (length (drop 4 p)) (drop 4 p) (fewer (length p) p (omega arith)) (omega arith))

-- the last header stands four bytes on for each before it
pub last_none : (p : List ℕ) → another p ≡ false → last_header p ≡ 0
last_none p e = rw (older_none p e)

pub last_more : (p : List ℕ) → another p ≡ true → last_header p ≡ 4 + last_header (drop 4 p)
last_more p e = rw (older_more p e) (omega arith)

-- a claim about every payload is shown by cutting off its first header
module _ (P : List ℕ → Type 0) (last : (p : List ℕ) → another p ≡ false → P p)
    (more : (p : List ℕ) → another p ≡ true → P (drop 4 p) → P p) where
  header_by_header_within : (n : ℕ) (p : List ℕ) → length p ≤ n → P p
  header_by_header_within zero p h = last p (empty_last p h)
  header_by_header_within (suc n) p h = go (another p) refl (header_by_header_within n (drop 4 p) (fewer n p h))
    where
      go : (b : Bool) → another p ≡ b → P (drop 4 p) → P p
      go false e ih = last p e
      go true e ih = more p e ih

  pub header_by_header : (p : List ℕ) → P p
  header_by_header p = header_by_header_within (length p) p (omega arith)

pub primary_more : (p : List ℕ) → another p ≡ true → primary_type p ≡ primary_type (drop 4 p)
primary_more p e = rw (last_more p e) (sym (get_or-drop 4 p (last_header (drop 4 p)) 0))

-- F of the last header is 0
pub primary_type_fits : (p : List ℕ) → primary_type p < 128
primary_type_fits = header_by_header (λ p. primary_type p < 128)
    (λ p e. rw (last_none p e) (leb-false 128 (byte p 0) e))
    (λ p e ih. rw (primary_more p e) ih)

-- WHAT NO REFUSAL SAYS

pub record Unrefused (p : List ℕ) : Type 0 where
  pub ends : last_header p < length p
  pub enough : lengths (older p) ≤ length (block_data p)

pub unrefused_then : (p : List ℕ) → blocks_refusal p ≡ none → Unrefused p
unfolding blocks_refusal
unrefused_then p e =
    let a = passed (leb (length p) (last_header p)) 17 _ e in
    let b = passed (ltb (length (block_data p)) (lengths (older p))) 18 _ a.1 in
    record { ends = leb-false (length p) (last_header p) a.0; enough = ltb-false (length (block_data p)) (lengths (older p)) b.0 }

pub unrefused_if : (p : List ℕ) → Unrefused p → blocks_refusal p ≡ none
unfolding blocks_refusal
unrefused_if p u =
    rw (lt-leb (length p) (last_header p) u.ends, le-ltb (length (block_data p)) (lengths (older p)) u.enough) refl

-- DATA CUT AND PUT TOGETHER

cut_together : (type : ℕ) (hs : List BlockHeader) (d : List ℕ) → data_of (cut_data type hs d) ≡ d
unfolding cut_data data_of
cut_together type [] d = append-nil d
cut_together type (h ∷ hs) d = rw (cut_together type hs (drop h.length d)) (take-append-drop h.length d)

-- the blocks' data put together are the bytes after the headers
pub together : (p : List ℕ) → data_of (blocks p) ≡ block_data p
unfolding blocks
together p = cut_together (primary_type p) (older p) (block_data p)

cut_fits : (type : ℕ) (hs : List BlockHeader) (d : List ℕ) → BytesFit d → (b : Block) → Mem b (cut_data type hs d) → BytesFit b.bytes
unfolding cut_data
cut_fits type [] d f b m = ⊎_elim (λ q. rw q f) (λ k. absurd (Memᴰ.not-nil k)) (Memᴰ.cases_cons m)
cut_fits type (h ∷ hs) d f b m = ⊎_elim (λ q. rw q (fits_parts h.length d f).0)
    (cut_fits type hs (drop h.length d) (fits_parts h.length d f).1 b) (Memᴰ.cases_cons m)

-- each block's bytes are among the payload's
pub block_fits : (p : List ℕ) → BytesFit p → (b : Block) → Memᴰ b (blocks p) → BytesFit b.bytes
unfolding blocks
block_fits p f = cut_fits (primary_type p) (older p) (block_data p) (fits_parts (last_header p + 1) p f).1

-- BLOCKS LAID OUT ARE READ AGAIN

-- what an older block's header says
abbrev said_of : Block → BlockHeader
said_of b = record { type = b.type; offset = b.offset; length = length b.bytes }

header_read : (b : Block) (more : List ℕ) → OlderFits b → block_header (header_of b ++ more) ≡ said_of b
header_read b more f =
    let t = f.type in
    let o = f.offset in
    let l = f.length in
    let n = b.offset * 1024 + length b.bytes in
    let type : (128 + b.type) % 128 ≡ b.type = omega arith in
    let offset : (n / 65536 * 256 + n % 65536 / 256 % 256) / 4 ≡ b.offset = omega arith in
    let long : (n % 65536 / 256 % 256 * 256 + n % 65536 % 256) % 1024 ≡ length b.bytes = omega arith in
    λ i. record { type = type i; offset = offset i; length = long i }

abbrev AllFit : List Block → Type 0
AllFit bs = (b : Block) → Mem b bs → OlderFits b

length_headers : (bs : List Block) → length (headers_of bs) ≡ 4 * length bs
unfolding headers_of
length_headers [] = refl
length_headers (b ∷ bs) = omega (arith, length_headers bs)

module _ (type : ℕ) (d : List ℕ) (low : type < 128) where
  older_read : (bs : List Block) → AllFit bs → older (headers_of bs ++ (type ∷ d)) ≡ map said_of bs
  unfolding headers_of
  older_read [] f = older_none (type ∷ d) (lt-leb 128 type low)
  older_read (b ∷ bs) f =
      let more = headers_of bs ++ (type ∷ d) in
      older_more (header_of b ++ more) (le-leb 128 (128 + b.type) (omega arith))
      ∙ (λ i. header_read b more (f b (Memᴰ.head refl)) i ∷ older_read bs (λ c m. f c (Memᴰ.tail m)) i)

  module _ (bs : List Block) (f : AllFit bs) where
    last_read : last_header (headers_of bs ++ (type ∷ d)) ≡ length (headers_of bs)
    last_read = rw (older_read bs f) (omega (arith, length_headers bs, length-map bs said_of))

    type_read : primary_type (headers_of bs ++ (type ∷ d)) ≡ type
    type_read = rw last_read (get_or_at (headers_of bs) type d 0 (length (headers_of bs)) refl)

    data_read : block_data (headers_of bs ++ (type ∷ d)) ≡ d
    data_read = rw last_read (drop-append-add (headers_of bs) (type ∷ d) 1)

lengths_read : (bs : List Block) → lengths (map said_of bs) ≡ length (data_of bs)
unfolding lengths data_of
lengths_read [] = refl
lengths_read (b ∷ bs) = omega (arith, lengths_read bs, length-append b.bytes (data_of bs))

cut_read : (type : ℕ) (rest : List ℕ) (bs : List Block) → AllFit bs
    → cut_data type (map said_of bs) (data_of bs ++ rest) ≡ bs ++ (primary_block type rest ∷ [])
unfolding cut_data data_of
cut_read type rest [] f = refl
cut_read type rest (b ∷ bs) f =
    let d = data_of bs ++ rest in
    let whole : older_block (said_of b) (b.bytes ++ d) ≡ b =
    (λ i. record {
      type = b.type;
      offset = b.offset;
      primary = sym (f b (Memᴰ.head refl)).older i;
      bytes = take-append_seam b.bytes d i;
    }) in
    rw (append_assoc b.bytes (data_of bs) rest, drop-append_seam b.bytes d, cut_read type rest bs (λ c m. f c (Memᴰ.tail m)))
    (ap (λ (x : Block). x ∷ (bs ++ (primary_block type rest ∷ []))) whole)

module _ (p : List ℕ) (bs : List Block) (last : Block) (c : Carries p bs last) where
  abbrev behind : List ℕ
  behind = data_of bs ++ last.bytes

  laid_unrefused : Unrefused (laid_out bs last)
  laid_unrefused = record {
    ends = rw (last_read last.type behind c.type bs c.fit) (omega (arith, length-append (headers_of bs) (last.type ∷ behind)));
    enough = rw (data_read last.type behind c.type bs c.fit, older_read last.type behind c.type bs c.fit, lengths_read bs)
        (omega (arith, length-append (data_of bs) last.bytes));
  }

  blocks_read : blocks (laid_out bs last) ≡ bs ++ (last ∷ [])
  unfolding blocks
  blocks_read =
      rw (
        type_read last.type behind c.type bs c.fit,
        data_read last.type behind c.type bs c.fit,
        older_read last.type behind c.type bs c.fit,
        cut_read last.type last.bytes bs c.fit,
      )
      (ap (λ (b : Block). bs ++ (b ∷ [])) (sym c.primary))

  -- what a payload carries is not refused, and is its blocks
  pub carries_then : (blocks_refusal p ≡ none) × (blocks p ≡ bs ++ (last ∷ []))
  carries_then = (ap blocks_refusal c.laid ∙ unrefused_if (laid_out bs last) laid_unrefused, ap blocks c.laid ∙ blocks_read)

-- so it carries nothing else
pub carries_one : (p : List ℕ) (bs cs : List Block) (last l2 : Block) → Carries p bs last → Carries p cs l2
    → bs ++ (last ∷ []) ≡ cs ++ (l2 ∷ [])
carries_one p bs cs last l2 c e = sym (carries_then p bs last c).1 ∙ (carries_then p cs l2 e).1

-- BLOCKS READ ARE LAID OUT AGAIN

-- the older blocks of data cut, and the primary behind them
older_of : List BlockHeader → List ℕ → List Block
older_of [] d = []
older_of (h ∷ hs) d = older_block h d ∷ older_of hs (drop h.length d)

data_split : (hs : List BlockHeader) (d : List ℕ) → data_of (older_of hs d) ++ drop (lengths hs) d ≡ d
unfolding lengths data_of older_of
data_split [] d = refl
data_split (h ∷ hs) d =
    let n = h.length in
    append_assoc (take n d) (data_of (older_of hs (drop n d))) (drop (n + lengths hs) d)
    ∙ ap (λ (l : List ℕ). take n d ++ (data_of (older_of hs (drop n d)) ++ l)) (sym (drop-drop (lengths hs) n d))
    ∙ ap (λ (l : List ℕ). take n d ++ l) (data_split hs (drop n d))
    ∙ take-append-drop n d

-- a header of four bytes is written again
header_written : (p d : List ℕ) → BytesFit p → another p ≡ true → 4 ≤ length p → (block_header p).length ≤ length d
    → header_of (older_block (block_header p) d) ++ drop 4 p ≡ p
header_written p d f e four h =
    let a = byte_fits p 0 f in
    let b = byte_fits p 1 f in
    let c = byte_fits p 2 f in
    let g = byte_fits p 3 f in
    let F = leb-true 128 (byte p 0) e in
    let l : length (take (number16 p 2 % 1024) d) ≡ number16 p 2 % 1024 = omega (arith, length-take (number16 p 2 % 1024) d) in
    let both : ℕ → ℕ = (λ k. number16 p 1 / 4 * 1024 + k) in
    let n = number16 p 1 / 4 * 1024 + number16 p 2 % 1024 in
    let first : 128 + byte p 0 % 128 ≡ byte p 0 = omega arith in
    let second : n / 65536 ≡ byte p 1 = omega arith in
    let low : n % 65536 ≡ number16 p 2 = omega arith in
    ap (λ (k : ℕ). (128 + byte p 0 % 128) ∷ (both k / 65536) ∷ (bytes16 (both k % 65536) ++ drop 4 p)) l
    ∙ (λ i. first i ∷ second i ∷ (bytes16 (low i) ++ drop 4 p))
    ∙ (λ i. byte p 0 ∷ byte p 1 ∷ (number16_written p f 2 i ++ drop 4 p))
    ∙ first_bytes 4 p four

abbrev HeadersWritten : List ℕ → Type 0
HeadersWritten p = (d : List ℕ) → BytesFit p → last_header p < length p → lengths (older p) ≤ length d
    → headers_of (older_of (older p) d) ++ drop (last_header p) p ≡ p

headers_none : (p : List ℕ) → another p ≡ false → HeadersWritten p
unfolding older_of headers_of
headers_none p e d f h k = rw (older_none p e)

headers_more : (p : List ℕ) → another p ≡ true → HeadersWritten (drop 4 p) → HeadersWritten p
unfolding older_of headers_of lengths
headers_more p e ih d f h k =
    let hd = block_header p in
    let q = drop 4 p in
    let n = hd.length in
    let more = headers_of (older_of (older q) (drop n d)) in
    let long : n + lengths (older q) ≤ length d = rw (older_more p e) at k in
    let below : 4 + last_header q < length p = omega (arith, last_more p e) in
    let rest = ih (drop n d) (fits_parts 4 p f).1 (omega (arith, length-drop 4 p)) (omega (arith, length-drop n d)) in
    rw (last_more p e, older_more p e)
    (append_assoc (header_of (older_block hd d)) more (drop (4 + last_header q) p)
    ∙ ap (λ (l : List ℕ). header_of (older_block hd d) ++ (more ++ l)) (sym (drop-drop (last_header q) 4 p))
    ∙ ap (λ (l : List ℕ). header_of (older_block hd d) ++ l) rest
    ∙ header_written p d f e (omega arith) (omega arith))

headers_written : (p : List ℕ) → HeadersWritten p
headers_written = header_by_header HeadersWritten headers_none headers_more

abbrev OlderFit : List ℕ → Type 0
OlderFit p = (d : List ℕ) → BytesFit p → AllFit (older_of (older p) d)

header_fits : (p d : List ℕ) → BytesFit p → OlderFits (older_block (block_header p) d)
header_fits p d f = record {
  type = omega arith;
  offset = omega (arith, number16_fits p 1 f);
  length = omega (arith, length-take (number16 p 2 % 1024) d);
  older = refl;
}

fit_none : (p : List ℕ) → another p ≡ false → OlderFit p
unfolding older_of
fit_none p e d f = rw (older_none p e) (λ b m. absurd (Memᴰ.not-nil m))

fit_more : (p : List ℕ) → another p ≡ true → OlderFit (drop 4 p) → OlderFit p
unfolding older_of
fit_more p e ih d f = rw (older_more p e)
    (λ b m. ⊎_elim (λ q. rw q (header_fits p d f)) (ih (drop (block_header p).length d) (fits_parts 4 p f).1 b) (Memᴰ.cases_cons m))

older_fit : (p : List ℕ) → OlderFit p
older_fit = header_by_header OlderFit fit_none fit_more

-- a payload of bytes that is not refused carries its blocks
pub carries_if : (p : List ℕ) → BytesFit p → blocks_refusal p ≡ none → (bs : List Block) × (last : Block) × Carries p bs last
carries_if p f e =
    let u = unrefused_then p e in
    let d = block_data p in
    let bs = older_of (older p) d in
    let last = primary_block (primary_type p) (drop (lengths (older p)) d) in
    let next : suc (last_header p) ≡ last_header p + 1 = omega arith in
    let tail : drop (last_header p) p ≡ primary_type p ∷ d =
    drop-cons p (last_header p) 0 u.ends ∙ ap (λ (n : ℕ). primary_type p ∷ drop n p) next in
    let laid : headers_of bs ++ (primary_type p ∷ (data_of bs ++ drop (lengths (older p)) d)) ≡ p =
    ap (λ (l : List ℕ). headers_of bs ++ (primary_type p ∷ l)) (data_split (older p) d)
    ∙ ap (λ (l : List ℕ). headers_of bs ++ l) (sym tail)
    ∙ headers_written p d f u.ends u.enough in
    (bs, last, record { laid = sym laid; fit = older_fit p d f; type = primary_type_fits p; primary = refl })
