use Rattle.std.proofs.Common.{◌∙◌, sym, subst}
use Rattle.std.proofs.lemmas.Bool.Decides.{Decides-like}
use Rattle.std.proofs.lemmas.Slice.Eq.{slice_eq-Decides}
use Rattle.range_estimator.specs.Estimation.{IsTable}
use Rattle.page_levels.proofs.Same.{one_table, row_decides}
use Rattle.page_levels.proofs.check.are_rows.Goals as goal

pub returns : goal.returns
returns c =
    let fixes = c.args.estimator.now.fixes in
    let is : IsTable fixes c.args.estimator.now.rows = c.rows.ensures.estimate.table in
    Decides-like c.eq.result (λ same. subst (IsTable fixes) (sym c.rows.ensures.value ∙ same) is)
    (λ own. c.rows.ensures.value ∙ one_table fixes c.args.estimator.now.rows c.args.rows.now is own)
    (slice_eq-Decides row_decides c.rows.result.now c.args.rows.now c.eq.result c.eq.ensures)
