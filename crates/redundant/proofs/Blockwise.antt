-- How far the blocks of a packet have been taken, and each way on.
use Prim.Native.Nat.{ℕ, zero, suc, ◌+◌, ◌-◌, ◌≤◌, ◌<◌}
use mathlib.Core.Path.{◌≡◌, refl, sym, ◌∙◌, ap}
use mathlib.Core.Bool.{Bool, true, false}
use mathlib.Core.List.{List, [], ◌∷◌, map}
use native.Mathlib.Omega.{arith}
use borrow.Author.Rules.{rules}
use borrow.Author.Tests.{eqb-true, eqb-false}
use lib.Dec.{eqb}
use lib.ListN.{length, set, length-set}
use Rattle.model.specs.declared.Head.{Head}
use Rattle.model.specs.declared.Table.{Table}
use Rattle.model.specs.declared.BlockStep.{BlockStep}
use Rattle.model.specs.Packet.{timestamp, marker}
use Rattle.model.specs.declared.Cursor.{Cursor}
use Rattle.model.specs.Blocks as Blocks
use Rattle.model.specs.Table.{holding, place}
use Rattle.model.specs.Receive.{Arrival, hear}
use Rattle.model.specs.Walk.{block_step, block_of}
use Rattle.model.specs.Redundant.{of_type, arrival_of, reports_in, entry_of, table_after_reports, answers_to, refusal_of_both, whole_refusal, receiving_each, receive_redundant}
use Rattle.model.specs.Fits.{BytesFit}
use Rattle.theorems.proofs.Packets.{bytes_fit}
use Rattle.theorems.proofs.Walks.{found_inside}
use Rattle.locating.specs.declared.Located.{Located}
use Rattle.std.specs.Prelude.{Option, Some, None}
use Rattle.blocks.specs.declared.step.Block.{Block}
use Rattle.blocks.specs.Step.{step_of}
use Rattle.receive.specs.declared.Tested.{Tested}
use Rattle.receive.specs.Receives.{in_table, SameColumns}
use Rattle.locating.specs.Located.{cursor_in, first_step, Locates}
use Rattle.block_taking.specs.Enters.{report_at, InPlace, Ready, EntersBlock, EntersOrPasses}
use Rattle.redundant.specs.Takes.{TakesReports}
use Rattle.locating.proofs.Begins.{left, left_of_type, left_of_other, Ahead, ahead, begins}
use Rattle.locating.proofs.Whole.{unrefused, enough}

-- ENTRIES FROM A PLACE ON

-- the first i entries stay, and numbers are placed behind them
unfoldable pub place_from : ℕ → List ℕ → List ℕ → List ℕ
place_from zero xs l = place xs l
place_from (suc i) xs [] = []
place_from (suc i) xs (y ∷ l) = y ∷ place_from i xs l

placed_none : (i : ℕ) (l : List ℕ) → place_from i [] l ≡ l
unfolding place_from
placed_none zero l = refl
placed_none (suc i) [] = refl
placed_none (suc i) (y ∷ l) = ap (λ (k : List ℕ). y ∷ k) (placed_none i l)

placed_one : (i x : ℕ) (xs l : List ℕ) → i < length l → place_from (suc i) xs (set l i x) ≡ place_from i (x ∷ xs) l
unfolding place_from
placed_one i x xs [] h = absurd (omega arith)
placed_one zero x xs (y ∷ l) h = refl
placed_one (suc i) x xs (y ∷ l) h = ap (λ (k : List ℕ). y ∷ k) (placed_one i x xs l (omega arith))

-- BLOCK BY BLOCK
-- Together with the reports that are left, what was taken so far comes to what the whole packet does. `next` is the block that stands at
-- a cursor, if there is one there.
pub record Progress (t : Tested) (bs entries : List ℕ) (t' : Tested) (i : ℕ) (next : Option Block) (entries' : List ℕ) : Type 0 where
  pub from : Cursor
  pub rest : List Blocks.Block
  pub stands : Ahead bs (step_of from next) rest
  pub unrefused : refusal_of_both t.head bs (length entries) ≡ 0
  pub held : t'.head ≡ holding t'.head.count t.head
  pub lent : SameColumns t t'
  pub as_long : length entries' ≡ length entries
  pub room : length (reports_in t.head bs) ≤ length entries
  pub all : i + length (left t.head bs rest) ≡ length (reports_in t.head bs)
  pub table : table_after_reports (in_table t') (left t.head bs rest) ≡ table_after_reports (in_table t) (reports_in t.head bs)
  pub entered : place_from i (map entry_of (answers_to (in_table t') (left t.head bs rest))) entries'
      ≡ place (map entry_of (answers_to (in_table t) (reports_in t.head bs))) entries

module _ (t : Tested) (bs entries : List ℕ) (o : Located) (w : Locates t.head bs (length entries) o) where
  pub starts : BytesFit bs → (next : Option Block) → step_of (cursor_in o) next ≡ first_step t.head.payload_type bs o
      → Progress t bs entries t 0 next entries
  unfolding place_from
  starts fit next is =
      let b = begins t.head bs entries o w fit (step_of (cursor_in o) next) is in
      record {
        from = cursor_in o;
        rest = b.rest;
        stands = b.stands;
        unrefused = unrefused t.head bs (length entries) o w;
        held = refl;
        lent = record { keys = refl; heard = refl };
        as_long = refl;
        room = enough t.head bs (length entries) o w;
        all = rw b.reports (omega arith);
        table = rw b.reports;
        entered = rw b.reports;
      }

-- how much is left: nothing, or what the headers after the block that was found take
abbrev pub steps_left : Option Block → ℕ
steps_left None = 0
steps_left (Some b) = suc (b.after.end - b.after.header)

pub fewer : (bs : List ℕ) (b : Block) (next : Option Block) → step_of b.after next ≡ block_step bs b.after → steps_left next < steps_left (Some b)
fewer bs b None is = omega arith
fewer bs b (Some b') is =
    let k = found_inside bs b.after (step_of b.after (Some b')) is refl in
    omega (arith, k.before, k.on, k.same_end)

module _ (t : Tested) (bs entries : List ℕ) (t' : Tested) (i : ℕ) (entries' : List ℕ) where
  abbrev u : Table
  u = in_table t'

  -- NO MORE

  module _ (w : Progress t bs entries t' i None entries') where
    none_left : left t.head bs w.rest ≡ []
    unfolding of_type
    none_left = ap (left t.head bs) (w.stands.none refl)

    pub all_taken : TakesReports t bs entries i t' entries'
    unfolding receive_redundant whole_refusal receiving_each table_after_reports answers_to
    all_taken =
        let total : i ≡ length (reports_in t.head bs) = omega (arith, w.all, ap length none_left) in
        let after : u ≡ table_after_reports (in_table t) (reports_in t.head bs) = ap (table_after_reports u) (sym none_left) ∙ w.table in
        let each : receiving_each (in_table t) (reports_in t.head bs) entries ≡ receive_redundant (in_table t) bs entries = rw (t.passes, w.unrefused) in
        record {
          answer = (λ j. record { blocks = total j; count = (after j).head.count; refusal = 0 }) ∙ (λ j. (each j).answer);
          table = after ∙ (λ j. (each j).table);
          head = w.held;
          lent = w.lent;
          entries =
              sym (placed_none i entries') ∙ ap (λ (l : List Arrival). place_from i (map entry_of (answers_to u l)) entries') (sym none_left)
              ∙ w.entered ∙ (λ j. (each j).entries);
        }

  -- ONE MORE
  module _ (b : Block) (w : Progress t bs entries t' i (Some b) entries') where
    abbrev s : BlockStep
    s = step_of w.from (Some b)

    more : List Blocks.Block
    more = w.stands.more refl

    is : w.rest ≡ block_of bs s ∷ more
    unfolding more
    is = w.stands.is refl

    on : (next : Option Block) → step_of b.after next ≡ block_step bs b.after → Ahead bs (step_of b.after next) more
    unfolding more
    on next x = ahead bs b.after (w.stands.more refl) (w.stands.out refl) (step_of b.after next) x

    same_type : t'.head.payload_type ≡ t.head.payload_type
    same_type = ap (λ (x : Head). x.payload_type) w.held

    -- of another type: passed over
    passed_over : (b.payload_type ≡ t'.head.payload_type → ⊥) → (next : Option Block) → step_of b.after next ≡ block_step bs b.after
        → Progress t bs entries t' i next entries'
    passed_over n next x =
        let q : left t.head bs w.rest ≡ left t.head bs more =
        ap (left t.head bs) is ∙ left_of_other t.head bs (block_of bs s) more (λ e. n (e ∙ sym same_type))
        in
        record {
          from = b.after;
          rest = more;
          stands = on next x;
          unrefused = w.unrefused;
          held = w.held;
          lent = w.lent;
          as_long = w.as_long;
          room = w.room;
          all = ap (λ (l : List Arrival). i + length l) (sym q) ∙ w.all;
          table = ap (table_after_reports u) (sym q) ∙ w.table;
          entered = ap (λ (l : List Arrival). place_from i (map entry_of (answers_to u l)) entries') (sym q) ∙ w.entered;
        }

    -- of the event's: its report is the first that is left
    module _ (is_of_type : b.payload_type ≡ t'.head.payload_type) where
      report : Arrival
      report = arrival_of bs (block_of bs s)

      first_left : left t.head bs w.rest ≡ report ∷ left t.head bs more
      unfolding report
      first_left = ap (left t.head bs) is ∙ left_of_type t.head bs (block_of bs s) more (is_of_type ∙ same_type)

      lent : i < length entries'
      lent = omega (arith, w.all, ap length first_left, w.room, w.as_long)

      in_place : InPlace bs b i entries'
      in_place = record { ordered = w.stands.ordered refl; within = w.stands.within refl; lent = lent }

      module _ (time : ℕ) (is_time : time ≡ timestamp bs) (m : Bool) (is_m : m ≡ marker bs) (t'' : Tested) (entries'' : List ℕ)
          (e : EntersBlock t' bs time m b i entries' t'' entries'') where
        same : hear u (report_at bs time m b) ≡ hear u report
        unfolding report
        same = λ j. hear u (report_at bs (is_time j) (is_m j) b)

        after : in_table t'' ≡ (hear u report).table
        after = e.table ∙ (λ j. (same j).table)

        one_more : (next : Option Block) → step_of b.after next ≡ block_step bs b.after → Progress t bs entries t'' (i + 1) next entries''
        unfolding table_after_reports answers_to
        one_more next x =
            let v = in_table t'' in
            let later = left t.head bs more in
            let after_all : table_after_reports v later ≡ table_after_reports u (left t.head bs w.rest)
            = ap (λ (y : Table). table_after_reports y later) after ∙ ap (table_after_reports u) (sym first_left) in
            let answers : entry_of (hear u report).answer ∷ map entry_of (answers_to v later) ≡ map entry_of (answers_to u (left t.head bs w.rest))
            = ap (λ (y : Table). entry_of (hear u report).answer ∷ map entry_of (answers_to y later)) after
            ∙ ap (λ (l : List Arrival). map entry_of (answers_to u l)) (sym first_left) in
            let entry : entries'' ≡ set entries' i (entry_of (hear u report).answer) = e.entered ∙ (λ j. set entries' i (entry_of (same j).answer)) in
            let up : i + 1 ≡ suc i = omega arith in
            record {
              from = b.after;
              rest = more;
              stands = on next x;
              unrefused = w.unrefused;
              held = e.head ∙ (λ j. holding t''.head.count (w.held j));
              lent = record { keys = e.lent.keys ∙ w.lent.keys; heard = e.lent.heard ∙ w.lent.heard };
              as_long = ap length entry ∙ length-set entries' i (entry_of (hear u report).answer) ∙ w.as_long;
              room = w.room;
              all = omega (arith, w.all, ap length first_left);
              table = after_all ∙ w.table;
              entered =
                  (λ j. place_from (up j) (map entry_of (answers_to v later)) (entry j))
                  ∙ placed_one i (entry_of (hear u report).answer) (map entry_of (answers_to v later)) entries' lent
                  ∙ ap (λ (l : List ℕ). place_from i l entries') answers ∙ w.entered;
            }

    -- whichever it is
    pub ready : Ready t' bs b i entries'
    ready = record { is_of_type = in_place }

    pub goes_on : (time : ℕ) → time ≡ timestamp bs → (m : Bool) → m ≡ marker bs → (taken : ℕ) (t'' : Tested) (entries'' : List ℕ)
        → EntersOrPasses t' bs time m b i entries' taken t'' entries'' → (next : Option Block) → step_of b.after next ≡ block_step bs b.after
        → Progress t bs entries t'' taken next entries''
    goes_on time is_time m is_m taken t'' entries'' e next x = go (eqb b.payload_type t'.head.payload_type) refl
      where
        go : (c : Bool) → eqb b.payload_type t'.head.payload_type ≡ c → Progress t bs entries t'' taken next entries''
        go true q =
            let k = eqb-true b.payload_type t'.head.payload_type q in
            let n = e.enters k in
            rw n.1 (one_more k time is_time m is_m t'' entries'' n.0 next x)
        go false q =
            let k = eqb-false b.payload_type t'.head.payload_type q in
            let n = e.passes k in
            rw (n.0, n.1, n.2) (passed_over k next x)

pub ruleset blockwise = (rules, bytes_fit, starts, all_taken, ready, goes_on, fewer)
