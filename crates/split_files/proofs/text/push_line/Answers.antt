use Rattle.std.proofs.Common.{FitsSigned, w64, arith}
use Rattle.std.proofs.lemmas.Grind.{common_steps}
use Rattle.std.proofs.lemmas.Int.{to_z-of_z}
use Rattle.split_files.proofs.text.push_line.Goals as goal

pub returns : goal.returns
returns g c =
    let easting : FitsSigned w64 c.args.easting = c.ranges.easting in
    let northing : FitsSigned w64 c.args.northing = c.ranges.northing in
    let place = simp to_z-of_z at c.in_ok-push_place.ensures in
    grind (arith, common_steps, place)
