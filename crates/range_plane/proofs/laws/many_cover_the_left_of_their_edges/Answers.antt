use Rattle.range_plane.proofs.ForCallers.{many_cover_the_left_of_their_edges}
use Rattle.range_plane.proofs.laws.many_cover_the_left_of_their_edges.Goals as goal

pub returns : goal.returns
returns c = many_cover_the_left_of_their_edges
