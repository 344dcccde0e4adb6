use Rattle.std.proofs.Common.{sym, ap, ◌∙◌}
use Rattle.range_plane.specs.Row.{points_of}
use Rattle.range_estimator.specs.Estimation.{Estimation}
use Rattle.range_estimator.proofs.TableSteps.{points_of_fixes}
use Rattle.range_estimator.proofs.estimator.Estimator.columns.Goals as goal

pub returns : goal.returns
returns g c =
    let table = c.self.inside.table in
    sym (points_of_fixes table.rows.items table.columns.points c.self.invariant.0.count) ∙ ap (λ (e : Estimation). points_of e.fixes) c.self.view_is
