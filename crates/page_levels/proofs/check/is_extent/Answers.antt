use Rattle.std.proofs.Common.{subst}
use Rattle.std.proofs.lemmas.Bool.Decides.{Decides-at, Decides-like}
use Rattle.range_lanes.specs.Extent.{IsExtent}
use Rattle.page_levels.proofs.Same.{extent_decides, one_extent}
use Rattle.page_levels.proofs.check.is_extent.Goals as goal

pub returns-in-Some : goal.returns-in-Some
returns-in-Some c =
    let points = c.args.points.now.points in
    let own = c.in-Some.own in
    let is : IsExtent points own = c.in-Some.ensures.extent in
    Decides-like c.eq.result (λ same. subst (IsExtent points) same is) (one_extent points own c.args.extent is)
    (Decides-at c.eq.result _ c.eq.ensures (extent_decides own c.args.extent))
