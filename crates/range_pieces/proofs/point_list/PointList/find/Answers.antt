use Rattle.std.proofs.Common.{◌≡◌, sym, ap, subst, ℕ, ◌+◌, ◌<◌, List, length, arith}
use Rattle.range_plane.specs.Plane.{Position}
use Rattle.range_pieces.specs.Pieces.{piece, all_points, offset}
use Rattle.range_pieces.specs.PointList.{Content, FallsAt, IsRising}
use Rattle.range_pieces.proofs.PieceIndices.{piece_rises, falls_joined}
use Rattle.range_pieces.proofs.point_list.PointList.find.Goals as goal

pub index_in-within-requires-clause-rising : goal.index_in-within-requires-clause-rising
index_in-within-requires-clause-rising g c =
    let bs = c.self.inside.shelf.pieces in
    let same : bs ≡ c.args.self.now.pieces = ap (λ (v : Content). v.pieces) c.self.view_is in
    let rising : IsRising (all_points bs) = subst (λ (xs : List (List Position)). IsRising (all_points xs)) (sym same) c.requires in
    let within : c.piece_of-piece.result < length bs = omega (arith, c.piece_of-piece.ensures.within) in
    subst (λ (xs : List Position). IsRising xs) (sym c.points_of.ensures) (piece_rises bs c.piece_of-piece.result rising within)

pub returns-clause-index : goal.returns-clause-index
returns-clause-index g c =
    let bs = c.self.inside.shelf.pieces in
    let same : bs ≡ c.args.self.now.pieces = ap (λ (v : Content). v.pieces) c.self.view_is in
    let p = c.args.p in
    let i = c.piece_of-piece.result in
    let w = c.index_in-within.result in
    let rising : IsRising (all_points bs) = subst (λ (xs : List (List Position)). IsRising (all_points xs)) (sym same) c.requires in
    let found = c.piece_of-piece.ensures in
    let within : i < length bs = omega (arith, found.within) in
    let falls : FallsAt (piece bs i) p w = subst (λ (xs : List Position). FallsAt xs p w) c.points_of.ensures c.index_in-within.ensures in
    subst (λ (k : ℕ). FallsAt (all_points c.args.self.now.pieces) p k) (sym c.cursor_in.ensures.index)
    (subst (λ (xs : List (List Position)). FallsAt (all_points xs) p (offset xs i + w)) same
    (falls_joined bs p i w c.self.invariant.cut rising within found.passed found.reached falls))
