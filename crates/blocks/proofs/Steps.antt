-- Each way through the definition of a step and of a walk's start.
use Prim.Native.Nat.{ℕ, ◌+◌, ◌-◌, ◌%◌, ◌≤◌, ◌<◌}
use mathlib.Core.Path.{◌≡◌, sym, ◌∙◌, ap}
use mathlib.Core.Bool.{Bool, true, false, cond}
use mathlib.Core.List.{List}
use native.Mathlib.Omega.{arith}
use borrow.Author.Rules.{rules}
use borrow.Author.Tests.{le-leb, lt-leb, lt-ltb}
use lib.ListN.{length}
use lib.Seq.{get_or-drop}
use Rattle.model.specs.declared.Cursor.{Cursor}
use Rattle.model.specs.declared.BlockStep.{BlockStep}
use Rattle.model.specs.Packet.{byte, after_header, header_refusal, payload}
use Rattle.model.specs.Blocks.{another, block_header, last_header, blocks_refusal}
use Rattle.model.specs.Walk.{cursor, payload_ends, walk_refusal, walk_start, no_block, from_header, primary_step, block_step, header_step, part_of}
use Rattle.theorems.proofs.Walks.{no_header, last_step, older_step_lem, length_said, length_part}
use Rattle.std.specs.Prelude.{Some}
use Rattle.refusals.specs.Refusals.{none, answered, refused_by}
use Rattle.model.specs.Answers.{no_cursor}
use Rattle.header.specs.Reads.{Refuses}
use Rattle.header.specs.Stage.{payload_end}
use Rattle.header.proofs.Laws.{starts_before_end, ends_within, payload_there}
use Rattle.block_headers.specs.declared.Scanned.{Scanned}
use Rattle.block_fields.specs.Fields.{offset_at, length_at}
use Rattle.block_headers.specs.Headers.{nothing_scanned, scan_in, scan_of}
use Rattle.blocks.specs.declared.step.Block.{Block}
use Rattle.blocks.specs.Step.{step_of, Short}
use Rattle.block_headers.proofs.Scanning.{says_refusal, says_none, says_body}

-- A STEP

module _ (bs : List ℕ) (c : Cursor) where
  pub end_outside : length bs < c.end → no_block c ≡ block_step bs c
  unfolding block_step
  end_outside h = rw (lt-leb c.end (length bs) h)

  pub header_outside : c.end ≤ c.header → no_block c ≡ block_step bs c
  header_outside h = sym (no_header bs c h)

  pub body_outside : c.end ≤ length bs → c.header < c.end → c.end < c.body → no_block c ≡ block_step bs c
  unfolding block_step
  body_outside h k l = rw (le-leb c.end (length bs) h, lt-ltb c.header c.end k, lt-leb c.body c.end l)

module _ (bs : List ℕ) (c : Cursor) (end : c.end ≤ length bs) (start : c.header < c.end) (body : c.body ≤ c.end) where
  first : byte (from_header bs c) 0 ≡ byte bs c.header
  first = let none : c.header + 0 ≡ c.header = omega arith in get_or-drop c.header bs 0 0 ∙ ap (byte bs) none

  pub primary_there : byte bs c.header < 128 → (b : Block) → step_of c (Some b) ≡ primary_step c (byte bs c.header)
      → step_of c (Some b) ≡ block_step bs c
  primary_there low b is =
      is ∙ sym (last_step bs c end start body (lt-leb 128 (byte (from_header bs c) 0) (omega (arith, first))) ∙ rw first)

  module _ (high : 128 ≤ byte bs c.header) where
    more : another (from_header bs c) ≡ true
    more = le-leb 128 (byte (from_header bs c) 0) (omega (arith, first))

    pub header_cut : c.end - c.header < 4 → no_block c ≡ block_step bs c
    unfolding block_step
    header_cut h = rw (
      le-leb c.end (length bs) end,
      lt-ltb c.header c.end start,
      le-leb c.body c.end body,
      more,
      lt-leb 4 (c.end - c.header) h,
    )

    module _ (four : 4 ≤ c.end - c.header) (l : ℕ) (is_l : l ≡ length_at bs c.header) where
      pub data_cut : c.end - c.body < l → no_block c ≡ block_step bs c
      unfolding block_step length_at
      data_cut h =
          let cut : c.end - c.body < (block_header (from_header bs c)).length = omega (arith, is_l) in
          rw (
            le-leb c.end (length bs) end,
            lt-ltb c.header c.end start,
            le-leb c.body c.end body,
            more,
            le-leb 4 (c.end - c.header) four,
            lt-leb (block_header (from_header bs c)).length (c.end - c.body) cut,
          )

      pub older_there : l ≤ c.end - c.body → (o : ℕ) → o ≡ offset_at bs c.header → record {
        after = record { header = c.header + 4; body = c.body + l; end = c.end };
        start = c.body;
        end = c.body + l;
        offset = o;
        payload_type = byte bs c.header % 128;
        primary = false;
        found = true;
      } ≡ block_step bs c
      unfolding length_at offset_at
      older_there h o is_o =
          sym (older_step_lem bs c end start body more four (omega (arith, is_l)) ∙ rw (is_l, is_o, first))

-- IN FEWER NUMBERS

pub older_ordered : (primary : Bool) (start end : ℕ) → Short primary start end → primary ≡ false → start ≤ end
older_ordered primary start end w e = w.ordered e

pub older_fits : (primary : Bool) (start end : ℕ) → Short primary start end → primary ≡ false → end - start < 65536
older_fits primary start end w e = omega (arith, w.few e)

pub said_primary : (primary : Bool) (n : ℕ) → primary ≡ true → 0 ≡ cond primary 0 n
said_primary primary n e = rw e

pub said_older : (primary : Bool) (n : ℕ) → primary ≡ false → n ≡ cond primary 0 n
said_older primary n e = rw e

module _ (bs : List ℕ) (header body end : ℕ) (s : BlockStep) (is : s ≡ block_step bs (cursor header body end)) where
  pub short : Short s.primary s.start s.end
  short = rw is (record { ordered = λ e. (length_said bs (cursor header body end) e).0; few = λ e. (length_said bs (cursor header body end) e).1 })

  pub in_fewer : (n : ℕ) → n ≡ cond s.primary 0 (s.end - s.start) → record {
    next = s.after.header;
    length = n;
    offset = s.offset;
    payload_type = s.payload_type;
    primary = s.primary;
    found = s.found;
  } ≡ header_step bs (cursor header body end)
  in_fewer n e = rw (e, is)

-- THE START

module _ (bs : List ℕ) where
  pub no_start : (k : ℕ) → Refuses k (header_refusal bs) → record { cursor = no_cursor; refusal = k } ≡ walk_start bs
  unfolding walk_start walk_refusal
  no_start k r = rw (r.number, r.is_one, r.is_one)

  module _ (unrefused : header_refusal bs ≡ none) (start end : ℕ) (from : start ≡ after_header bs) (to : end ≡ payload_end bs) where
    part : part_of bs start end ≡ payload bs
    part = payload_there bs unrefused start end from to

    ends_there : end ≡ payload_ends bs
    ends_there =
        let within = ends_within bs unrefused start end from to in
        let long : length (payload bs) ≡ end - start = ap length (sym part) ∙ length_part bs start end within in
        omega (arith, long, from, starts_before_end bs unrefused start end from to)

    scanned : scan_of bs start end 0 ≡ scan_in (payload bs) start 0
    scanned = ap (λ (q : List ℕ). scan_in q start 0) part

    pub not_carried : (k : ℕ) → refused_by k nothing_scanned ≡ scan_of bs start end 0
        → record { cursor = no_cursor; refusal = k } ≡ walk_start bs
    unfolding walk_start walk_refusal
    not_carried k e =
        let s = says_refusal (payload bs) start 0 k (e ∙ scanned) in
        rw (s.0, unrefused, s.1)

    pub started : (x : Scanned) → answered x ≡ scan_of bs start end 0
        → record { cursor = record { header = start; body = x.body; end = end }; refusal = 0 } ≡ walk_start bs
    unfolding walk_start walk_refusal
    started x e =
        let no_other : blocks_refusal (payload bs) ≡ 0 = says_none (payload bs) start 0 x (e ∙ scanned) in
        let body = says_body (payload bs) start 0 x (e ∙ scanned) in
        (λ i. record { cursor = record { header = start; body = body i; end = ends_there i }; refusal = 0 })
        ∙ (λ i. record { cursor = record { header = from i; body = from i + last_header (payload bs) + 1; end = payload_ends bs }; refusal = 0 })
        ∙ rw (unrefused, no_other)

pub ruleset stepping = (
  rules,
  end_outside,
  header_outside,
  body_outside,
  primary_there,
  header_cut,
  data_cut,
  older_there,
  older_ordered,
  older_fits,
  said_primary,
  said_older,
  short,
  in_fewer,
  no_start,
  starts_before_end,
  ends_within,
  not_carried,
  started,
)
