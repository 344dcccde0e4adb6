use Rattle.std.proofs.Common.{sym, ap, map, arith, ◌∙◌}
use Rattle.range_plane.specs.Columns.{Contents}
use Rattle.range_plane.specs.Plane.{Position}
use Rattle.range_plane.proofs.ZippedPoints.{eastings_of_zipped}
use Rattle.range_plane.proofs.columns.Columns.eastings.Goals as goal

pub returns-clause-value : goal.returns-clause-value
returns-clause-value g c =
    c.as_slice.ensures.value ∙ sym (eastings_of_zipped c.self.inside.eastings.items c.self.inside.northings.items (omega arith))
    ∙ ap (λ (v : Contents). map (λ (p : Position). p.e) v.points) c.self.view_is
