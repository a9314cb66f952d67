-- Packets there and back: a written packet is refused nowhere and reads as its report; what is read is in range; and a
-- packet that is read with P, X, CSRC count and R all 0 is written again byte by byte.
use Prim.Native.Nat.{ℕ, zero, suc, ◌+◌, ◌-◌, ◌*◌, ◌/◌, ◌%◌, ◌≤◌, ◌<◌}
use mathlib.Core.Path.{◌≡◌, refl, sym, ◌∙◌, ap, subst}
use mathlib.Core.Logic.{⊎_elim}
use mathlib.Core.Bool.{Bool, true, false, not, cond}
use mathlib.Core.List.Memᴰ
use mathlib.Core.List.{
  List,
  [],
  ◌∷◌,
  ◌++◌,
}
use native.Mathlib.Omega.{arith}
use mir.Val.{Fits}
use mir.Syntax.{w8}
use borrow.Author.Tests.{ltb-false, leb-true, eqb-true, eqb-false, not-false, le-ltb, le-leb, eq-eqb, ne_eqb}
use lib.Dec.{ltb, eqb}
use lib.ListN.{length, take, drop, length-drop, take-append-drop, drop_of_length-le}
use lib.Seq.{take_all}
use Rattle.model.specs.declared.Codes.{Codes}
use Rattle.model.specs.declared.Report.{Report}
use Rattle.model.specs.Codes.{is_in}
use Rattle.refusals.specs.Refusals.{none, Told, answered}
use Rattle.model.specs.Answers.{no_report}
use Rattle.model.specs.Packet.{
  byte,
  number16,
  number32,
  bytes16,
  bytes32,
  bit,
  version,
  padded,
  extended,
  csrc_count,
  payload_type,
  after_header,
  bytes_left,
  pad_count,
  payload,
  code,
  ended,
  reserved,
  volume,
  duration,
  header_refusal,
  is_packed,
  payload_refusal,
  read_refusal,
  report_in,
  read,
  payload_bytes,
  packet_of,
  report_in_range,
  write_refusal,
  Writing,
  write,
}
use Rattle.model.specs.Receive.{arrival_in}
use Rattle.model.specs.Fits.{BytesFit, ReportFits}
use Rattle.theorems.specs.Demands.{ReadOfWritten, WrittenOfRead}
use Rattle.refusals.proofs.Tests.{passed, both_none, not_refused, and_then}
use Rattle.theorems.proofs.Sets.{in_below}

-- A WRITTEN PACKET

pub number16_back : (n : ℕ) → n < 65536 → n / 256 % 256 * 256 + n % 256 ≡ n
number16_back n h = omega arith

pub number32_back : (n : ℕ) → n < 0x1_0000_0000 → number32 (bytes32 n) 0 ≡ n
number32_back n h = rw (number16_back (n / 65536) (omega arith), number16_back (n % 65536) (omega arith)) (omega arith)

-- the flag above seven bits
pub flag_back : (m : Bool) (low : ℕ) → low < 128 → eqb ((bit m * 128 + low) / 128) 1 ≡ m
flag_back false low h = ne_eqb ((0 * 128 + low) / 128) 1 (omega arith)
flag_back true low h = eq-eqb ((1 * 128 + low) / 128) 1 (omega arith)

-- what the test of a report's ranges says
pub record Ranges (codes : Codes) (r : Report) : Type 0 where
  pub type : r.payload_type ≤ 127
  pub code : is_in codes r.code ≡ true
  pub byte : r.code < 256
  pub volume : r.volume ≤ 63
  pub some : 1 ≤ r.duration
  pub most : r.duration ≤ 65535

pub ranges : (codes : Codes) (r : Report) → report_in_range codes r ≡ true → Ranges codes r
unfolding report_in_range
ranges codes r h =
    let a = and_then _ _ h in
    let b = and_then _ _ a.1 in
    let c = and_then _ _ b.1 in
    let d = and_then _ _ c.1 in
    record {
      type = leb-true _ _ a.0;
      code = b.0;
      byte = in_below codes r.code b.0;
      volume = leb-true _ _ c.0;
      some = leb-true _ _ d.0;
      most = leb-true _ _ d.1;
    }

-- version, P, X and CSRC count are written as constants, so nothing depends on the report
pub packet_header : (r : Report) → header_refusal (packet_of r) ≡ none
unfolding header_refusal after_header packet_of
packet_header r = refl

-- the four bytes of a payload give its numbers back, and are refused nowhere
pub record PayloadBack (c : ℕ) (e : Bool) (v d : ℕ) : Type 0 where
  pub end_is : ended (payload_bytes c e v d) ≡ e
  pub volume_is : volume (payload_bytes c e v d) ≡ v
  pub duration_is : duration (payload_bytes c e v d) ≡ d

pub payload_back : (c : ℕ) (e : Bool) (v d : ℕ) → v ≤ 63 → d ≤ 65535 → PayloadBack c e v d
payload_back c e v d quiet long = record {
  end_is = flag_back e v (omega arith);
  volume_is = omega arith;
  duration_is = number16_back d (omega arith);
}

pub payload_passes : (codes : Codes) (c : ℕ) (e : Bool) (v d : ℕ) → is_in codes c ≡ true → 1 ≤ d → d ≤ 65535
    → payload_refusal codes (payload_bytes c e v d) ≡ none
unfolding payload_refusal
payload_passes codes c e v d known some long = rw (known, number16_back d (omega arith), ne_eqb d 0 (omega arith)) refl

pub packet_payload : (codes : Codes) (r : Report) → report_in_range codes r ≡ true → payload_refusal codes (payload (packet_of r)) ≡ none
unfolding payload after_header packet_of
packet_payload codes r h = let k = ranges codes r h in payload_passes codes r.code r.ended r.volume r.duration k.code k.some k.most

-- its report arrives as it was written
pub packet_arrival : (codes : Codes) (r : Report) → ReportFits r → report_in_range codes r ≡ true
    → arrival_in (packet_of r) ≡ record { timestamp = r.timestamp; marked = r.marker; payload = payload_bytes r.code r.ended r.volume r.duration }
unfolding arrival_in payload after_header packet_of
packet_arrival codes r f h = λ i. record {
  timestamp = number32_back r.timestamp f.timestamp i;
  marked = flag_back r.marker r.payload_type (omega (arith, (ranges codes r h).type)) i;
  payload = payload_bytes r.code r.ended r.volume r.duration;
}

pub packet_report : (codes : Codes) (r : Report) → ReportFits r → report_in_range codes r ≡ true → report_in (packet_of r) ≡ r
unfolding payload after_header packet_of
packet_report codes r f h =
    let k = ranges codes r h in
    let type : (bit r.marker * 128 + r.payload_type) % 128 ≡ r.payload_type = omega arith in
    let loud : (bit r.ended * 128 + r.volume) % 64 ≡ r.volume = omega arith in
    λ i. record {
      marker = flag_back r.marker r.payload_type (omega arith) i;
      payload_type = type i;
      sequence = number16_back r.sequence f.sequence i;
      timestamp = number32_back r.timestamp f.timestamp i;
      ssrc = number32_back r.ssrc f.ssrc i;
      code = r.code;
      ended = flag_back r.ended r.volume (omega arith) i;
      volume = loud i;
      duration = number16_back r.duration (omega arith) i;
    }

-- BYTES BELOW 256

fits_cons : {b : ℕ} {bs : List ℕ} → b < 256 → BytesFit bs → BytesFit (b ∷ bs)
fits_cons {b} h f x m = ⊎_elim (λ (e : x ≡ b). omega arith) (f x) (Memᴰ.cases_cons m)

fits_bytes16 : (n : ℕ) {bs : List ℕ} → BytesFit bs → BytesFit (bytes16 n ++ bs)
fits_bytes16 n f = fits_cons (omega arith) (fits_cons (omega arith) f)

fits_bytes32 : (n : ℕ) {bs : List ℕ} → BytesFit bs → BytesFit (bytes32 n ++ bs)
fits_bytes32 n f = fits_bytes16 (n / 65536) (fits_bytes16 (n % 65536) f)

fits_flag : (m : Bool) (low : ℕ) → low < 128 → bit m * 128 + low < 256
fits_flag false low h = omega arith
fits_flag true low h = omega arith

pub packet_fits : (codes : Codes) (r : Report) → report_in_range codes r ≡ true → BytesFit (packet_of r)
unfolding packet_of
packet_fits codes r h =
    let k = ranges codes r h in
    fits_cons (omega arith) (fits_cons (fits_flag r.marker r.payload_type (omega arith))
    (fits_bytes16 r.sequence (fits_bytes32 r.timestamp (fits_bytes32 r.ssrc
    (fits_cons (omega arith) (fits_cons (fits_flag r.ended r.volume (omega arith))
    (fits_bytes16 r.duration (λ b m. absurd (Memᴰ.not-nil m)))))))))

pub payload_bytes_fit : (c : ℕ) (e : Bool) (v d : ℕ) → c < 256 → v < 128 → BytesFit (payload_bytes c e v d)
payload_bytes_fit c e v d key quiet = fits_cons key (fits_cons (fits_flag e v quiet) (fits_bytes16 d (λ b m. absurd (Memᴰ.not-nil m))))

-- every element of a slice of bytes fits into one
pub bytes_fit : (bs : List ℕ) → ((i : ℕ) → Fits w8 (byte bs i)) → BytesFit bs
bytes_fit [] f x m = absurd (Memᴰ.not-nil m)
bytes_fit (y ∷ bs) f x m = ⊎_elim (λ q. rw q (omega (arith, f 0))) (λ k. bytes_fit bs (λ i. f (suc i)) x k) (Memᴰ.cases_cons m)

pub byte_fits : (bs : List ℕ) (i : ℕ) → BytesFit bs → byte bs i < 256
byte_fits [] i f = omega arith
byte_fits (b ∷ bs) zero f = f b (Memᴰ.head refl)
byte_fits (b ∷ bs) (suc i) f = byte_fits bs i (λ x m. f x (Memᴰ.tail m))

pub number16_fits : (bs : List ℕ) (i : ℕ) → BytesFit bs → number16 bs i < 65536
number16_fits bs i f = omega (arith, byte_fits bs i f, byte_fits bs (i + 1) f)

pub number32_fits : (bs : List ℕ) (i : ℕ) → BytesFit bs → number32 bs i < 0x1_0000_0000
number32_fits bs i f = omega (arith, number16_fits bs i f, number16_fits bs (i + 2) f)

pub fits_parts : (n : ℕ) (bs : List ℕ) → BytesFit bs → BytesFit (take n bs) × BytesFit (drop n bs)
fits_parts n bs f =
    let g : BytesFit (take n bs ++ drop n bs) = subst BytesFit (sym (take-append-drop n bs)) f in
    (λ b m. g b (Memᴰ.append_left (drop n bs) m), λ b m. g b (Memᴰ.append_right (take n bs) m))

pub payload_fits : (bs : List ℕ) → BytesFit bs → BytesFit (payload bs)
unfolding payload
payload_fits bs f =
    let dropped = (fits_parts (after_header bs) bs f).1 in
    (fits_parts (bytes_left bs - cond (padded bs) (pad_count bs) 0) (drop (after_header bs) bs) dropped).0

-- A PACKET THAT IS READ

pub header_passed : (bs : List ℕ) → header_refusal bs ≡ none → (12 ≤ length bs) × (version bs ≡ 2) × (after_header bs ≤ length bs)
unfolding header_refusal
header_passed bs e =
    let a = passed (ltb (length bs) 12) 0 _ e in
    let b = passed (not (eqb (version bs) 2)) 1 _ a.1 in
    let c = passed (ltb (length bs) (after_header bs)) 2 _ b.1 in
    (ltb-false (length bs) 12 a.0, eqb-true (version bs) 2 (not-false (eqb (version bs) 2) b.0), ltb-false (length bs) (after_header bs) c.0)

pub payload_passed : (codes : Codes) (p : List ℕ) → payload_refusal codes p ≡ none → (length p ≡ 4) × (is_in codes (code p) ≡ true) × (1 ≤ duration p)
unfolding payload_refusal
payload_passed codes p e =
    let q = passed (is_packed p) 16 _ e in
    let a = passed (not (eqb (length p) 4)) 6 _ q.1 in
    let b = passed (not (is_in codes (code p))) 7 _ a.1 in
    let d = passed (eqb (duration p) 0) 8 _ b.1 in
    let four = eqb-true (length p) 4 (not-false (eqb (length p) 4) a.0) in
    (four, not-false (is_in codes (code p)) b.0, omega (arith, eqb-false))

pub payload_in_range : (codes : Codes) (p : List ℕ) → BytesFit p → payload_refusal codes p ≡ none
    → (is_in codes (code p) ≡ true) × (1 ≤ duration p) × (duration p ≤ 65535) × (volume p ≤ 63)
payload_in_range codes p f e = let g = payload_passed codes p e in (g.1, g.2, omega (arith, number16_fits p 2 f), omega arith)

pub read_answered : (codes : Codes) (bs : List ℕ) → header_refusal bs ≡ none → payload_refusal codes (payload bs) ≡ none
    → read codes bs ≡ answered (report_in bs)
unfolding read
read_answered codes bs h p = rw (h, p) refl

pub write_answered : (codes : Codes) (r : Report) (output : List ℕ) → report_in_range codes r ≡ true → 16 ≤ length output
    → write codes r output ≡ record { answer = answered tt; output = packet_of r ++ drop 16 output }
unfolding write
write_answered codes r output h room = rw (h, le-ltb (length output) 16 room) refl

-- THERE AND BACK

pub read_of_written : ReadOfWritten
unfolding write packet_of
read_of_written codes r output f e =
    let n = not_refused (write_refusal codes r output) tt tt e in
    let a = passed (not (report_in_range codes r)) 11 _ n in
    let b = passed (ltb (length output) 16) 13 _ a.1 in
    let h : report_in_range codes r ≡ true = not-false (report_in_range codes r) a.0 in
    ap (λ (w : Writing). read codes (take 16 w.output)) (write_answered codes r output h (omega (arith, ltb-false)))
    ∙ read_answered codes (packet_of r) (packet_header r) (packet_payload codes r h)
    ∙ ap answered (packet_report codes r f h)

-- f 0, f 1, .. of n numbers: the bytes that a packet begins with, named one by one
abbrev pub each : ℕ → (ℕ → ℕ) → List ℕ
each zero f = []
each (suc n) f = f 0 ∷ each n (λ i. f (suc i))

pub first_bytes : (n : ℕ) (bs : List ℕ) → n ≤ length bs → each n (byte bs) ++ drop n bs ≡ bs
first_bytes zero bs h = refl
first_bytes (suc n) [] h = absurd (omega arith)
first_bytes (suc n) (b ∷ bs) h = ap (λ (l : List ℕ). b ∷ l) (first_bytes n bs (omega arith))

-- a byte is its top bit and the seven bits below
top_written : (b : ℕ) → b < 256 → bit (eqb (b / 128) 1) * 128 + b % 128 ≡ b
top_written b h = go (eqb (b / 128) 1) refl
  where
    go : (m : Bool) → eqb (b / 128) 1 ≡ m → bit m * 128 + b % 128 ≡ b
    go false q = omega (arith, eqb-false)
    go true q = omega (arith, eqb-true)

module _ (bs : List ℕ) (f : BytesFit bs) where
  pub number16_written : (i : ℕ) → bytes16 (number16 bs i) ≡ byte bs i ∷ byte bs (i + 1) ∷ []
  number16_written i =
      let low = byte_fits bs (i + 1) f in
      let first : number16 bs i / 256 % 256 ≡ byte bs i = omega (arith, byte_fits bs i f) in
      let second : number16 bs i % 256 ≡ byte bs (i + 1) = omega arith in
      λ j. first j ∷ second j ∷ []

  number32_written : (i : ℕ) → bytes32 (number32 bs i) ≡ byte bs i ∷ byte bs (i + 1) ∷ byte bs (i + 2) ∷ byte bs (i + 2 + 1) ∷ []
  number32_written i =
      let low = number16_fits bs (i + 2) f in
      let first : number32 bs i / 65536 ≡ number16 bs i = omega arith in
      let second : number32 bs i % 65536 ≡ number16 bs (i + 2) = omega arith in
      (λ j. bytes16 (first j) ++ bytes16 (second j)) ∙ (λ j. number16_written i j ++ number16_written (i + 2) j)

-- with R 0 the volume is all seven bits below E, so the payload's four bytes are written again
payload_written : (p : List ℕ) → BytesFit p → length p ≡ 4 → reserved p ≡ false
    → (code p ∷ (bit (ended p) * 128 + volume p) ∷ []) ++ bytes16 (duration p) ≡ p
payload_written p f four r =
    let no_r : byte p 1 % 64 ≡ byte p 1 % 128 = omega (arith, eqb-false) in
    (λ i. byte p 0 ∷ (bit (ended p) * 128 + no_r i) ∷ bytes16 (duration p))
    ∙ (λ i. byte p 0 ∷ top_written (byte p 1) (byte_fits p 1 f) i ∷ number16_written p f 2 i)
    ∙ subst (λ (l : List ℕ). each 4 (byte p) ++ l ≡ p) (drop_of_length-le p {i = 4} (omega arith)) (first_bytes 4 p (omega arith))

-- without padding, extension and CSRC list the payload is all that comes after 12 bytes
pub plain_payload : (bs : List ℕ) → padded bs ≡ false → extended bs ≡ false → csrc_count bs ≡ 0 → payload bs ≡ drop 12 bs
unfolding payload after_header
plain_payload bs p x c = rw (p, x, c) (take_all (length bs - 12 - 0) (drop 12 bs) (omega (arith, length-drop 12 bs)))

-- version 2 and zeros: the first byte is the one that is written
plain_byte : (b : ℕ) → b / 64 ≡ 2 → eqb (b / 32 % 2) 1 ≡ false → eqb (b / 16 % 2) 1 ≡ false → b % 16 ≡ 0 → 128 ≡ b
plain_byte b v p x c =
    let half : b / 32 / 2 ≡ 2 = omega arith in
    omega (arith, eqb-false)

packet_again : (bs : List ℕ) → BytesFit bs → header_refusal bs ≡ none → length (payload bs) ≡ 4
    → padded bs ≡ false → extended bs ≡ false → csrc_count bs ≡ 0 → reserved (payload bs) ≡ false → packet_of (report_in bs) ≡ bs
unfolding packet_of
packet_again bs f h four p x c r =
    let k = header_passed bs h in
    let tail = payload_written (payload bs) (payload_fits bs f) four r ∙ plain_payload bs p x c in
    (λ i. (plain_byte (byte bs 0) k.1 p x c i ∷ top_written (byte bs 1) (byte_fits bs 1 f) i ∷ [])
    ++ (number16_written bs f 2 i ++ (number32_written bs f 4 i ++ (number32_written bs f 8 i ++ tail i))))
    ∙ first_bytes 12 bs k.0

pub written_of_read : WrittenOfRead
unfolding read report_in_range
written_of_read codes bs output f e p x c r room =
    let none_read = not_refused (read_refusal codes bs) no_report (report_in bs) e in
    let n = both_none (header_refusal bs) (payload_refusal codes (payload bs)) none_read in
    let k = payload_in_range codes (payload bs) (payload_fits bs f) n.1 in
    let type : payload_type bs ≤ 127 = omega arith in
    let h : report_in_range codes (report_in bs) ≡ true = simp (le-leb, k.0, k.1, k.2, k.3, type) in
    ap (λ (t : Told Report). write codes t.values output) (read_answered codes bs n.0 n.1)
    ∙ write_answered codes (report_in bs) output h room
    ∙ ap (λ (l : List ℕ). record { answer = answered tt; output = l ++ drop 16 output })
    (packet_again bs f n.0 (payload_passed codes (payload bs) n.1).0 p x c r)
