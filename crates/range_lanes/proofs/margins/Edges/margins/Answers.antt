use Rattle.std.proofs.Common.{◌≡◌, ◌-◌, ◌∙◌, ap, arith, length, map}
use Rattle.std.proofs.lemmas.List.{get_or_read}
use Rattle.range_plane.specs.ConvexCover.{is_covered, is_on_segment}
use Rattle.range_plane.specs.Edges.{at}
use Rattle.range_plane.specs.Plane.{origin}
use Rattle.range_lanes.proofs.LaneEdges.{few_cover}
use Rattle.range_lanes.proofs.Turns.{map_same}
use Rattle.range_lanes.proofs.margins.Edges.margins.Goals as goal

pub returns-then-corners-le2 : goal.returns-then-corners-le2
returns-then-corners-le2 c =
    let L = c.self.inside.corners.now in
    let some = c.self.invariant.1 in
    let vs = c.args.group.now in
    let a = c.index-corners-0.result in
    let b = c.index-corners-corners.result in
    let first : a ≡ at L 0 = get_or_read L 0 a some c.index-corners-0.is origin in
    let last : b ≡ at L (length L - 1) = get_or_read L (length L - 1) b (omega (arith, some)) c.index-corners-corners.is origin in
    c.margins_of_segment.ensures
    ∙ map_same (λ q. is_on_segment q a b) (is_covered L) (λ q. few_cover L a b q some c.if-corners-le2.true first last) vs
    ∙ ap (λ M. map (is_covered M) vs) c.self.view_is
