-- The blocks that are ahead of a step, and the first step of a packet that was located: its blocks and their reports.
use Prim.Native.Nat.{ℕ, ◌≤◌}
use mathlib.Core.Path.{◌≡◌, refl, sym, ◌∙◌, ap, subst}
use mathlib.Core.Bool.{Bool, true, false, cond, false≢true}
use mathlib.Core.List.{List, [], ◌∷◌, map}
use native.Mathlib.Omega.{arith}
use borrow.Author.Tests.{eq-eqb, ne_eqb}
use lib.ListN.{length}
use Rattle.model.specs.declared.Head.{Head}
use Rattle.model.specs.declared.Cursor.{Cursor}
use Rattle.model.specs.declared.BlockStep.{BlockStep}
use Rattle.model.specs.Packet.{payload}
use Rattle.model.specs.Blocks.{Block, blocks, blocks_refusal}
use Rattle.model.specs.Receive.{Arrival}
use Rattle.model.specs.Walk.{at_first, walk_refusal, walk_start, primary_step, block_step, block_of, HandsOut}
use Rattle.model.specs.Redundant.{is_plain, of_type, arrival_of, reports_in}
use Rattle.model.specs.Fits.{BytesFit}
use Rattle.theorems.proofs.Walks.{walks, no_header, found_inside}
use Rattle.locating.specs.declared.Located.{Located}
use Rattle.locating.specs.Located.{cursor_in, plain_in, first_step, Locates}
use Rattle.locating.proofs.Whole.{at_cursor, of_kind, header_read, carried, plain_ordered, plain_within, plain_report}

-- THE REPORTS THAT ARE LEFT

module _ (h : Head) (bs : List ℕ) where
  -- the reports of blocks that are left
  abbrev pub left : List Block → List Arrival
  left rest = map (arrival_of bs) (of_type h.payload_type rest)

  pub left_of_type : (b : Block) (rest : List Block) → b.type ≡ h.payload_type → left (b ∷ rest) ≡ arrival_of bs b ∷ left rest
  unfolding of_type
  left_of_type b rest e = rw (eq-eqb b.type h.payload_type e)

  pub left_of_other : (b : Block) (rest : List Block) → (b.type ≡ h.payload_type → ⊥) → left (b ∷ rest) ≡ left rest
  unfolding of_type
  left_of_other b rest n = rw (ne_eqb b.type h.payload_type n)

  left_one : (b : Block) → b.type ≡ h.payload_type → left (b ∷ []) ≡ arrival_of bs b ∷ []
  unfolding of_type
  left_one b e = rw (eq-eqb b.type h.payload_type e)

-- what a step has found, and what comes after it: these blocks, or none
pub record Ahead (bs : List ℕ) (s : BlockStep) (rest : List Block) : Type 0 where
  pub none : s.found ≡ false → rest ≡ []
  pub more : s.found ≡ true → List Block
  pub out : (f : s.found ≡ true) → HandsOut bs s.after (more f)
  pub is : (f : s.found ≡ true) → rest ≡ block_of bs s ∷ more f
  pub ordered : s.found ≡ true → s.start ≤ s.end
  pub within : s.found ≡ true → s.end ≤ length bs

-- from a cursor at which these blocks are handed out
pub ahead : (bs : List ℕ) (c : Cursor) (rest : List Block) → HandsOut bs c rest → (s : BlockStep) → s ≡ block_step bs c → Ahead bs s rest
unfolding HandsOut
ahead bs c [] o s is =
    let no : s.found ≡ false = ap (λ (x : BlockStep). x.found) (is ∙ o) in
    record {
      none = λ e. refl;
      more = λ f. [];
      out = λ f. absurd (false≢true (sym no ∙ f));
      is = λ f. absurd (false≢true (sym no ∙ f));
      ordered = λ f. absurd (false≢true (sym no ∙ f));
      within = λ f. absurd (false≢true (sym no ∙ f));
    }
ahead bs c (b ∷ rest) o s is = record {
  none = λ e. absurd (false≢true (sym e ∙ (ap (λ (x : BlockStep). x.found) is ∙ o.0)));
  more = λ f. rest;
  out = λ f. subst (λ (x : BlockStep). HandsOut bs x.after rest) (sym is) o.2;
  is = λ f. ap (λ (x : Block). x ∷ rest) (sym o.1 ∙ ap (block_of bs) (sym is));
  ordered = λ f. (found_inside bs c s is f).ordered;
  within = λ f. (found_inside bs c s is f).within;
}

module _ (h : Head) (bs entries : List ℕ) (o : Located) (w : Locates h bs (length entries) o) where
  -- a packet with blocks
  module _ (redundant : plain_in o ≡ false) where
    not_plain : is_plain h bs ≡ false
    not_plain = sym (of_kind h bs (length entries) o w) ∙ redundant

    all_reports : reports_in h bs ≡ left h bs (blocks (payload bs))
    unfolding reports_in
    all_reports = rw not_plain

    unrefused : walk_refusal bs ≡ 0
    unfolding walk_refusal
    unrefused =
        let blocks_read : blocks_refusal (payload bs) ≡ 0 = sym (rw not_plain refl) ∙ carried h bs (length entries) o w in
        rw (header_read h bs (length entries) o w) blocks_read

    cursor_at_first : (cursor_in o) ≡ at_first bs
    cursor_at_first = at_cursor h bs (length entries) o w ∙ rw not_plain

    started : ((walk_start bs).refusal ≡ 0) × ((walk_start bs).cursor ≡ at_first bs)
    unfolding walk_start
    started = (rw unrefused, rw unrefused)

    hands_out : HandsOut bs (cursor_in o) (blocks (payload bs))
    hands_out = subst (λ (c : Cursor). HandsOut bs c (blocks (payload bs))) (started.1 ∙ sym cursor_at_first) (walks bs started.0)

  -- a plain packet's one
  module _ (plain : plain_in o ≡ true) where
    abbrev only : BlockStep
    only = primary_step (cursor_in o) h.payload_type

    only_one : Ahead bs only (block_of bs only ∷ [])
    unfolding HandsOut
    only_one = record {
      none = λ e. absurd (false≢true (sym e));
      more = λ f. [];
      out = λ f. no_header bs only.after (omega arith);
      is = λ f. refl;
      ordered = λ f. plain_ordered h bs (length entries) o w plain;
      within = λ f. plain_within h bs (length entries) o w plain;
    }

  -- its blocks, and their reports
  pub record Begins (s : BlockStep) : Type 0 where
    pub rest : List Block
    pub stands : Ahead bs s rest
    pub reports : reports_in h bs ≡ left h bs rest

  pub begins : BytesFit bs → (s : BlockStep) → s ≡ first_step h.payload_type bs o → Begins s
  unfolding first_step
  begins fit s is = go (plain_in o) refl is
    where
      go : (b : Bool) → plain_in o ≡ b → s ≡ cond b (primary_step (cursor_in o) h.payload_type) (block_step bs (cursor_in o)) → Begins s
      go true p q = rw q (record {
        rest = block_of bs (only p) ∷ [];
        stands = only_one p;
        reports = plain_report h bs (length entries) o w p fit ∙ sym (left_one h bs (block_of bs (only p)) refl);
      })
      go false p q = record {
        rest = blocks (payload bs);
        stands = ahead bs (cursor_in o) (blocks (payload bs)) (hands_out p) s q;
        reports = all_reports p;
      }
