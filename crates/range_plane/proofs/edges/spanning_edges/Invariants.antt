use Rattle.std.proofs.Common.{◌+◌, length}
use Rattle.range_plane.specs.Plane.{IsAtMost, IsBefore}
use Rattle.range_plane.proofs.CornerSearch.{IsBetween}
use Rattle.range_plane.proofs.edges.spanning_edges.Given as goal

abbrev pub invariant-loop-lower_size : goal.invariant-loop-lower_size
invariant-loop-lower_size l =
    IsBetween l.corners 0 l.top (λ x. IsBefore x l.q) (λ x. IsAtMost l.q x) l.lower l.lower_size ×
    IsBetween l.corners l.top (length l.corners) (λ x. IsBefore l.q x) (λ x. IsAtMost x l.q) l.upper l.upper_size

abbrev pub decreases-loop-lower_size : goal.decreases-loop-lower_size
decreases-loop-lower_size l = l.lower_size + l.upper_size
