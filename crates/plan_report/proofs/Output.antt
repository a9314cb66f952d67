-- Writing report k of a plan: for each way through its refusals what is answered, and the output after it. Past them the
-- packet's own writer does the rest, since every report of a plan is in range.
use Prim.Native.Nat.{ℕ, ◌≤◌, ◌<◌}
use mathlib.Core.Path.{◌≡◌}
use mathlib.Core.Bool.{true, false, ◌||◌}
use mathlib.Core.List.{List}
use native.Mathlib.Omega.{arith}
use native.Mathlib.Decide.{dec_lt}
use lib.Dec.{ltb, eqb}
use lib.ListN.{length}
use borrow.Author.Tests.{eq-eqb, ne_eqb, lt-ltb, le-ltb}
use Rattle.std.specs.Prelude.{Result, Option, Some, None, Err, SomeIff}
use Rattle.std.specs.Option.{ok_or}
use Rattle.model.specs.declared.Codes.{Codes}
use Rattle.model.specs.declared.Report.{Report}
use Rattle.model.specs.declared.Plan.{Plan}
use Rattle.refusals.specs.declared.Refusal.{Refusal}
use Rattle.refusals.specs.declared.Refusal.TheVariants.{OutOfRange, NoSuchNumber}
use Rattle.refusals.specs.Refusals.{Told, refused_by, number_of}
use Rattle.model.specs.Packet.{report_in_range, write}
use Rattle.model.specs.Plan.{plan_in_range, reports, report_at, write_report}
use Rattle.theorems.proofs.Sends.{plan_ranges, report_in_range_lem}
use Rattle.plan_formulas.proofs.InRange.{in_ranges}

module _ (codes : Codes) (p : Plan) (k : ℕ) (output : List ℕ) where
  module _ (e : Refusal) (refused : (plan_in_range codes p ≡ false) × (e ≡ OutOfRange)) where
    pub out_of_range : refused_by (number_of e) tt ≡ (write_report codes p k output).answer
    unfolding write_report
    out_of_range = rw (refused.0, refused.1)

    pub out_of_range_stays : output ≡ (write_report codes p k output).output
    unfolding write_report
    out_of_range_stays = rw refused.0

  -- the plan, its ranges tested
  module _ (q : Plan) (taken : (plan_in_range codes p ≡ true) × (q ≡ p)) (o : Option Report)
      (found : SomeIff o ((1 ≤ k) × (k ≤ length (reports q))) (report_at q k)) where
    range : plan_in_range codes p ≡ true
    range = taken.0

    of_p : SomeIff o ((1 ≤ k) × (k ≤ length (reports p))) (report_at p k)
    of_p = rw taken.1 at found

    module _ (missing : o ≡ None) where
      none : (1 ≤ k) × (k ≤ length (reports p)) → ⊥
      none = rw missing at of_p

      past : (eqb k 0 || ltb (length (reports p)) k) ≡ true
      past = go (dec_lt 0 k) (dec_lt (length (reports p)) k)
        where
          go : Dec (0 < k) → Dec (length (reports p) < k) → (eqb k 0 || ltb (length (reports p)) k) ≡ true
          go (no z) _ = rw (eq-eqb k 0 (omega arith))
          go (yes s) (yes l) = rw (ne_eqb k 0 (omega arith), lt-ltb (length (reports p)) k l)
          go (yes s) (no l) = absurd (none (omega arith, omega arith))

      pub no_such : (e : Refusal) → ◌≡◌ {A = Result Report Refusal} (Err e) (ok_or o NoSuchNumber) → refused_by (number_of e) tt ≡ (write_report codes p k output).answer
      unfolding write_report
      no_such e is =
          let same : e ≡ NoSuchNumber = let w = rw missing at is in cc in
          rw (same, range, past)

      pub no_such_stays : output ≡ (write_report codes p k output).output
      unfolding write_report
      no_such_stays = rw (range, past)

    module _ (r : Report) (is : o ≡ Some r) where
      there : (1 ≤ k) × (k ≤ length (reports p))
      there = (rw is at of_p).0

      e : r ≡ report_at p k
      e = (rw is at of_p).1

      -- past the refusals of the plan the call is one of `write`
      as_packet : write_report codes p k output ≡ write codes r output
      unfolding write_report write
      as_packet =
          let fine : report_in_range codes (report_at p k) ≡ true = report_in_range_lem p k there.0 there.1 (plan_ranges codes p range) in
          rw (e, fine, range, ne_eqb k 0 (omega (arith, there.0)), le-ltb (length (reports p)) k there.1)

      pub written_out : (x : Told (Unit {0})) → x ≡ (write codes r output).answer → x ≡ (write_report codes p k output).answer
      written_out x w = rw as_packet w

      pub written_after : (after : List ℕ) → after ≡ (write codes r output).output → after ≡ (write_report codes p k output).output
      written_after after w = rw as_packet w

pub ruleset writing_reports = (
  in_ranges,
  out_of_range,
  out_of_range_stays,
  no_such,
  no_such_stays,
  written_out,
  written_after,
)
