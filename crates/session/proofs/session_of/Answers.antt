-- Each return is a way through `session_of`: the first line that is wrong, more text, or the three numbers.
use Rattle.std.proofs.lemmas.Result.{err_from_is_err_and}
use Rattle.session.proofs.Laws.{no_type, no_source, no_origin, more_text, all_given}
use Rattle.session.proofs.session_of.Goals as goal

pub returns-in_err-first : goal.returns-in_err-first
returns-in_err-first c =
    let p = err_from_is_err_and c.from_residual.result c.from_residual.ensures.1 in
    rw (p.1, p.2) (no_type _ _ c.line.ensures _ c.in_err-first.was)

pub returns-in_err-second : goal.returns-in_err-second
returns-in_err-second c =
    let p = err_from_is_err_and c.from_residual-in_err-second.result c.from_residual-in_err-second.ensures.1 in
    rw (p.1, p.2) (no_source _ _ c.line.ensures _ c.in_ok-first.was _ c.line-2.ensures _ c.in_err-second.was)

pub returns-in_err-third : goal.returns-in_err-third
returns-in_err-third c =
    let p = err_from_is_err_and c.from_residual-in_err-third.result c.from_residual-in_err-third.ensures.1 in
    rw (p.1, p.2) (no_origin _ _ c.line.ensures _ c.in_ok-first.was _ c.line-2.ensures _ c.in_ok-second.was _ c.line-3.ensures _ c.in_err-third.was)

pub returns-then-third-s : goal.returns-then-third-s
returns-then-third-s c = more_text _ _ c.line.ensures _ c.in_ok-first.was _ c.line-2.ensures _ c.in_ok-second.was _ c.line-3.ensures _ c.in_ok-third.was c.if-third-s.true

pub returns : goal.returns
returns c = all_given _ _ c.line.ensures _ c.in_ok-first.was _ c.line-2.ensures _ c.in_ok-second.was _ c.line-3.ensures _ c.in_ok-third.was c.if-third-s.false
