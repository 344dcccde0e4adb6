use Rattle.std.proofs.Common.{◌∙◌}
use Rattle.std.proofs.Math.Seq.{map-set_same}
use Rattle.split_fates.specs.Projected.{beside_place}
use Rattle.split_fates.proofs.projected.project_rows.Goals as goal

pub loop-row-preserved : goal.loop-row-preserved
loop-row-preserved c = map-set_same beside_place c.loop-row.rows c.loop-row.row-index c.placed_row.result _ c.placed_row.ensures ∙ c.loop-row.invariant
