-- What the two searches find.
use Prim.Native.Nat.{◌+◌}
use mathlib.Core.Bool.{not}
use mathlib.Core.Path.{refl}
use native.Mathlib.Omega.{arith}
use borrow.Author.Rules.{rules}
use borrow.Author.Tests.{tests}
use Rattle.model.specs.Codes.{is_in}
use Rattle.std.specs.Prelude.{Some}
use Rattle.code_writer.proofs.Upward.{First, first_found, none_found, past_first, within_256, range_found}
use Rattle.code_writer.proofs.next_range.Goals as goal

pub returns-in_err-first : goal.returns-in_err-first
returns-in_err-first c =
    let begins = first_found (is_in c.args.codes) c.args.from _ _ _ c.find.ensures.ran (λ x b q k. search (rules, tests)) in
    rw c.from_residual.ensures (none_found c.args.codes c.args.from c.requires (rw c.in_err-first.was at begins))

pub overflow_add-first : goal.overflow_add-first
overflow_add-first c =
    let begins = first_found (is_in c.args.codes) c.args.from _ _ _ c.find.ensures.ran (λ x b q k. search (rules, tests)) in
    let first : First (is_in c.args.codes) c.args.from (Some c.in_ok-first.first) = rw c.in_ok-first.was at begins in
    omega (arith, first.1)

pub overflow_sub-result : goal.overflow_sub-result
overflow_sub-result c =
    let begins = first_found (is_in c.args.codes) c.args.from _ _ _ c.find.ensures.ran (λ x b q k. search (rules, tests)) in
    let ends = first_found (λ k. not (is_in c.args.codes k)) (c.in_ok-first.first + 1) _ _ _ c.find-end.ensures.ran (λ x b q k. search (rules, tests)) in
    let past = past_first c.args.codes c.args.from c.requires c.in_ok-first.first (rw c.in_ok-first.was at begins) c.find-end.result ends _ c.unwrap_or.ensures in
    omega (arith, past)

pub invariant_of-result : goal.invariant_of-result
invariant_of-result c =
    let begins = first_found (is_in c.args.codes) c.args.from _ _ _ c.find.ensures.ran (λ x b q k. search (rules, tests)) in
    let ends = first_found (λ k. not (is_in c.args.codes k)) (c.in_ok-first.first + 1) _ _ _ c.find-end.ensures.ran (λ x b q k. search (rules, tests)) in
    let past = past_first c.args.codes c.args.from c.requires c.in_ok-first.first (rw c.in_ok-first.was at begins) c.find-end.result ends _ c.unwrap_or.ensures in
    let within = within_256 c.args.codes c.args.from c.requires c.in_ok-first.first (rw c.in_ok-first.was at begins) c.find-end.result ends _ c.unwrap_or.ensures in
    record { in_order = omega (arith, past); small = omega (arith, within) }

pub returns : goal.returns
returns c =
    let begins = first_found (is_in c.args.codes) c.args.from _ _ _ c.find.ensures.ran (λ x b q k. search (rules, tests)) in
    let ends = first_found (λ k. not (is_in c.args.codes k)) (c.in_ok-first.first + 1) _ _ _ c.find-end.ensures.ran (λ x b q k. search (rules, tests)) in
    range_found c.args.codes c.args.from c.requires c.in_ok-first.first (rw c.in_ok-first.was at begins) c.find-end.result ends _ c.unwrap_or.ensures _ refl refl
