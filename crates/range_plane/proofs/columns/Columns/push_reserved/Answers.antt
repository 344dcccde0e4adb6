use Rattle.std.proofs.Common.{ℤ, List, All, sym, subst, arith}
use Rattle.range_plane.specs.Plane.{IsCoordinate}
use Rattle.range_plane.proofs.Bounds.{coordinate_is}
use Rattle.range_plane.proofs.ZippedPoints.{coordinates_push, zipped_push}
use Rattle.range_plane.proofs.columns.Columns.push_reserved.Goals as goal

pub invariant_of-self : goal.invariant_of-self
invariant_of-self g c =
    let inside = c.self.inside in
    let items_e = rw (coordinate_is c.p.inside.e c.p.invariant.0) at c.push_reserved.ensures.items in
    let items_n = rw (coordinate_is c.p.inside.n c.p.invariant.1) at c.push_reserved-2.ensures.items in (
      omega (arith, c.self.invariant.0, c.push_reserved.ensures.len, c.push_reserved-2.ensures.len),
      subst (All IsCoordinate) (sym {A = List ℤ} items_e) (coordinates_push inside.eastings.items c.p.inside.e c.self.invariant.1 c.p.invariant.0),
      subst (All IsCoordinate) (sym {A = List ℤ} items_n) (coordinates_push inside.northings.items c.p.inside.n c.self.invariant.2 c.p.invariant.1),
    )

pub returns-clause-points : goal.returns-clause-points
returns-clause-points g c = grind (arith, zipped_push, coordinate_is)
