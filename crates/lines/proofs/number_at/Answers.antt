use Rattle.std.proofs.Common.{refl}
use Rattle.std.proofs.lemmas.List.{take_rest}
use Rattle.std.proofs.lemmas.Result.{err_from_is_err_and}
use Rattle.lines.proofs.Laws.{reading_on, wrong_number}
use Rattle.lines.proofs.number_at.Goals as goal

-- the fault that the number's error becomes
pub returns-in_err-number : goal.returns-in_err-number
returns-in_err-number c =
    let p = err_from_is_err_and c.from_residual.result c.from_residual.ensures.1 in
    let part = take_rest c.args.s.now c.args.at in
    rw p.1 (wrong_number _ _ _ c.loop-i.invariant _ _ c.requires part c.loop-i-test.true _ refl c.if-b-eq10.false _ c.next_number.ensures _ c.in_err-number.was p.0 p.2)

pub loop-i-preserved : goal.loop-i-preserved
loop-i-preserved c = reading_on _ _ _ c.loop-i.invariant c.loop-i-test.true _ refl _ c.next_number.ensures _ c.in_ok-number.was
