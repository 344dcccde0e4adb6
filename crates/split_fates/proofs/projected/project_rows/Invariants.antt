use Rattle.std.proofs.Common.{◌≡◌, map}
use Rattle.split_fates.specs.Projected.{beside_place}
use Rattle.split_fates.proofs.projected.project_rows.Given as goal

abbrev pub invariant-loop-row : goal.invariant-loop-row
invariant-loop-row l = map beside_place l.rows ≡ map beside_place l.fn.rows
