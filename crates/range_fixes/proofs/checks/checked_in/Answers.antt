use Rattle.std.proofs.Common.{refl, sym}
use Rattle.std.proofs.lemmas.Result.{err_from_is_err_and}
use Rattle.range_fixes.proofs.CheckFacts.{checked_other, checked_split}
use Rattle.range_fixes.proofs.checks.checked_in.Goals as goal

pub returns-in_default : goal.returns-in_default
returns-in_default c = rw (c.len-found.ensures, c.width-wanted.ensures) (sym (checked_other _ _ _ _ _ c.in_default.ensures))

pub returns-in_err-fix : goal.returns-in_err-fix
returns-in_err-fix c =
    let p = err_from_is_err_and c.from_residual.result c.from_residual.ensures.1 in
    rw (p.1, p.2, checked_split _ _ _ _ _ _ _ _ _ _ c.in-Some.ensures, sym c.in_err-fix.ensures) refl

pub returns-in_err-used : goal.returns-in_err-used
returns-in_err-used c =
    let p = err_from_is_err_and c.from_residual-in_err-used.result c.from_residual-in_err-used.ensures.1 in
    rw (p.1, p.2, checked_split _ _ _ _ _ _ _ _ _ _ c.in-Some.ensures, sym c.in_ok-fix.ensures, sym c.in_err-used.ensures) refl

pub returns : goal.returns
returns c = rw (checked_split _ _ _ _ _ _ _ _ _ _ c.in-Some.ensures, sym c.in_ok-fix.ensures, sym c.in_ok-used.ensures) refl
