-- The pieces are those of the text split at its commas.
use Prim.Native.Nat.{ℕ}
use mathlib.Core.Path.{◌≡◌}
use mathlib.Core.List.{List, [], ◌∷◌, map}
use native.Mathlib.Omega.{arith}
use denote.Ref.{Bor}
use borrow.Author.Rules.{rules}
use borrow.Author.Tests.{tests}
use lib.Dec.{eqb}
use lib.ListN.{length, length-append}
use Rattle.std.proofs.lemmas.Iterator.Consumers.{YieldsList-turn, YieldsList-end, YieldsList-at}
use Rattle.std.proofs.lemmas.Iterator.Splits.{YieldsList-from_slice_split}
use Rattle.std.proofs.lemmas.Result.{err_from_is_err_and}
use Rattle.code_text.specs.CodeText.{comma, split}
use Rattle.code_text.proofs.Laws.{reading_codes}
use Rattle.code_text.proofs.Reading.{Turn, reading_on, all_read}
use Rattle.code_text.proofs.read_codes.Goals as goal

pub loop-piece-init : goal.loop-piece-init
loop-piece-init c = search reading_codes

pub returns-in_err-ok_or : goal.returns-in_err-ok_or
returns-in_err-ok_or c =
    let turn : Turn c.args.text.now (length c.loop-piece.yielded) c.in-Some.piece.now =
    YieldsList-turn
    (YieldsList-at c.into_iter-piece-iterator.ensures.into_iter_gives
    (YieldsList-from_slice_split _ (λ b. eqb b comma) c.args.text.now c.split-piece-items.ensures.rest c.split-piece-items.ensures.done
    c.split-piece-items.ensures.closure (λ x b q k. search (rules, tests))))
    c.loop-piece.yielded c.loop-piece.piece-iterator c.loop-piece.yielded_by c.next.result c.next.new.self c.in-Some.piece c.in-Some.is
    c.next.ensures.steps in
    let e = err_from_is_err_and c.from_residual.result c.from_residual.ensures.1 in
    rw (e.1, e.2) (search (reading_codes, turn, c.in_err-ok_or.ensures.value))

pub loop-piece-preserved : goal.loop-piece-preserved
loop-piece-preserved c =
    let turn : Turn c.args.text.now (length c.loop-piece.yielded) c.in-Some.piece.now =
    YieldsList-turn
    (YieldsList-at c.into_iter-piece-iterator.ensures.into_iter_gives
    (YieldsList-from_slice_split _ (λ b. eqb b comma) c.args.text.now c.split-piece-items.ensures.rest c.split-piece-items.ensures.done
    c.split-piece-items.ensures.closure (λ x b q k. search (rules, tests))))
    c.loop-piece.yielded c.loop-piece.piece-iterator c.loop-piece.yielded_by c.next.result c.next.new.self c.in-Some.piece c.in-Some.is
    c.next.ensures.steps in
    reading_on c.args.text.now (length c.loop-piece.yielded) c.loop-piece.codes c.loop-piece.invariant c.in-Some.piece.now turn c.range_of.result c.range_of.ensures c.in_ok-ok_or.field-0 c.in_ok-ok_or.ensures.value c.with_range-codes.result c.with_range-codes.ensures _ (length-append c.loop-piece.yielded (c.in-Some.piece ∷ []))

pub returns : goal.returns
returns c =
    let end : (map (λ (x : Bor (List ℕ)). x.now) c.loop-piece.yielded ≡ split comma c.args.text.now) × (length c.loop-piece.yielded ≡ length (split comma c.args.text.now)) =
    YieldsList-end
    (YieldsList-at c.into_iter-piece-iterator.ensures.into_iter_gives
    (YieldsList-from_slice_split _ (λ b. eqb b comma) c.args.text.now c.split-piece-items.ensures.rest c.split-piece-items.ensures.done
    c.split-piece-items.ensures.closure (λ x b q k. search (rules, tests))))
    c.loop-piece.yielded c.loop-piece.piece-iterator c.loop-piece.yielded_by c.next.result c.next.new.self c.in-None.is
    c.next.ensures.steps in
    all_read c.args.text.now (length c.loop-piece.yielded) c.loop-piece.codes c.loop-piece.invariant (omega (arith, end.1))
