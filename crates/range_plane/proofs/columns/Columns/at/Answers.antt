use Rattle.std.proofs.Common.{arith}
use Rattle.range_plane.proofs.Bounds.{coordinate_is}
use Rattle.range_plane.proofs.ZippedPoints.{coordinate_at, length_of_zipped, zipped_at}
use Rattle.range_plane.proofs.columns.Columns.at.Goals as goal

pub returns : goal.returns
returns g c = grind (arith, length_of_zipped, zipped_at, coordinate_at, coordinate_is)
