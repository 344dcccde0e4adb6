use Rattle.std.proofs.Common.{◌≡◌, ◌∙◌, length, take, refl, arith, ap, subst}
use Rattle.std.proofs.lemmas.List.{length-map}
use Rattle.range_plane.specs.Edges.{at}
use Rattle.range_plane.proofs.ForCallers.{corners_cover_the_set, covering_members_are_corners, larger_sets_cover_more, one_covers_itself, polygon_of_its_corners}
use Rattle.range_stats.specs.Keys.{points_at}
use Rattle.range_stats.specs.Percent.{IsHullOf, kept_count}
use Rattle.range_stats.proofs.Firsts.{more_first}
use Rattle.range_stats.proofs.rankings.Ranking.row_at.Goals as goal

pub add_points-requires-clause-polygon : goal.add_points-requires-clause-polygon
add_points-requires-clause-polygon g c = polygon_of_its_corners (take c.args.done c.args.self.now) c.args.hull.now.corners c.requires.hull.polygon

pub returns : goal.returns
returns g c =
    let ranked = c.args.self.now in
    let points = c.self.inside.fixes.now.points in
    let indices = c.deref.result.now in
    let is : points_at points indices ≡ ranked = ap (points_at points) c.deref.ensures.value ∙ c.self.view_is in
    let size : c.len.result ≡ length ranked = omega (arith, c.len.ensures, c.deref.ensures.len, length-map indices (at points), ap length is) in
    let count : c.kept_count-kept.result ≡ kept_count c.args.level (length ranked) = c.kept_count-kept.ensures ∙ ap (kept_count c.args.level) size in
    let hull = c.add_points.new.hull in
    let first = more_first larger_sets_cover_more one_covers_itself corners_cover_the_set
    covering_members_are_corners points indices ranked is c.args.done c.kept_count-kept.result (omega (arith, count, c.requires.done)) hull
    (c.in_ok-add_points.ensures (take c.args.done ranked) c.requires.hull) in
    let kept = subst (λ n. IsHullOf (take n ranked) hull) count first in
    record {
      row = record { same_level = refl; kept = count; polygon = (hull.corners, kept.polygon, c.corner_count.ensures, c.area2.ensures) };
      hull = kept;
    }
