use Rattle.std.proofs.Common.{◌≡◌, ◌∙◌, sym, ap, length, List, arith}
use Rattle.range_plane.specs.Edges.{at}
use Rattle.range_plane.specs.Plane.{Position}
use Rattle.range_pieces.specs.Pieces.{piece}
use Rattle.range_pieces.specs.PointList.{Content}
use Rattle.range_pieces.proofs.PieceIndices.{at_joined, is_in_piece, read}
use Rattle.range_pieces.proofs.point_list.PointList.get.Goals as goal

pub returns : goal.returns
returns g c =
    let bs = c.self.inside.shelf.pieces in
    let same : bs ≡ c.args.self.now.pieces = ap (λ (v : Content). v.pieces) c.self.view_is in
    let now = c.args.self.now.pieces in
    let h = is_in_piece now c.args.c c.requires.stands c.requires.within in
    let list : c.points_of.result.now ≡ piece now c.args.c.piece = c.points_of.ensures ∙ ap (λ (xs : List (List Position)). piece xs c.args.c.piece) same in
    let k = c.requires.stands.before_point h in
    read c.points_of.result.now c.index-points_of-c.result c.args.c.within (omega (arith, ap length list, k)) c.index-points_of-c.is
    ∙ ap (λ (xs : List Position). at xs c.args.c.within) list
    ∙ sym (at_joined now c.args.c.piece c.args.c.within h k)
