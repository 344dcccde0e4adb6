use Rattle.std.proofs.Common.{◌≡◌, ◌∙◌, map, sym, ap, subst}
use Rattle.std.proofs.lemmas.Bool.Decides.{Decides-like}
use Rattle.std.proofs.lemmas.Slice.Eq.{slice_eq-Decides}
use Rattle.range_plane.specs.Polygon.{IsPolygon}
use Rattle.range_plane.specs.Row.{points_of}
use Rattle.range_plane.proofs.ForCallers.{one_polygon}
use Rattle.page_levels.specs.Same.{corner_at, corner_position}
use Rattle.page_levels.proofs.Same.{corner_decides, corners_back, positions_back}
use Rattle.page_levels.proofs.check.are_corners.Goals as goal

pub returns : goal.returns
returns c =
    let points = points_of c.args.estimator.now.fixes in
    let L = c.in_ok-polygon.polygon in
    let corners = c.args.corners.now in
    let polygon : IsPolygon points L = c.in_ok-polygon.ensures.polygon in
    let own : c.as_slice.result.now ≡ map corner_at L = c.as_slice.ensures.value ∙ c.in_ok-own.ensures ∙ ap (map corner_at) c.corners.ensures.value in
    Decides-like c.eq.result
    (λ same. subst (IsPolygon points) (sym (positions_back L) ∙ ap (map corner_position) (sym own ∙ same)) polygon)
    (λ other. own ∙ ap (map corner_at) (one_polygon points L (map corner_position corners) polygon other) ∙ corners_back corners)
    (slice_eq-Decides corner_decides c.as_slice.result.now corners c.eq.result c.eq.ensures)
