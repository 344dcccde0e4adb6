use Rattle.std.proofs.Common.{◌≡◌, ◌∙◌, refl, false, true}
use Rattle.range_plane.proofs.Ends.{is_decided, not_covered}
use Rattle.range_plane.proofs.SpanningEdges.{two_edges, left_of_each}
use Rattle.range_plane.proofs.edges.is_left_of_both.Goals as goal

pub returns-then-is_left_of_edge : goal.returns-then-is_left_of_edge
returns-then-is_left_of_edge c =
    let edges = c.spanning_edges-lower in
    let both = two_edges c.args.corners.now c.requires.polygon.convex c.args.q edges.result.0 edges.result.1 edges.ensures.within.0 edges.ensures.within.1
    edges.ensures.lower edges.ensures.upper in
    is_decided c.args.corners.now c.args.q c.is_left_of_edge-then-is_left_of_edge.result
    (λ h. both.1 (c.if-is_left_of_edge.ensures.0 refl, c.is_left_of_edge-then-is_left_of_edge.ensures.0 h))
    (λ covered. c.is_left_of_edge-then-is_left_of_edge.ensures.1 (both.0 covered).1)

pub returns-else-is_left_of_edge : goal.returns-else-is_left_of_edge
returns-else-is_left_of_edge c =
    let lower = c.spanning_edges-lower in
    c.if-is_left_of_edge.false ∙ not_covered c.args.corners.now c.args.q (λ covered.
    let e : false ≡ true = c.if-is_left_of_edge.ensures.1 (left_of_each c.args.corners.now c.args.q lower.result.0 c.requires.polygon.convex
    lower.ensures.within.0 covered) in cc)
