use Rattle.std.proofs.Common.{◌≡◌, ap, subst, List, rules}
use Rattle.range_plane.specs.Plane.{Position}
use Rattle.range_pieces.specs.Pieces.{IsCut}
use Rattle.range_pieces.specs.PointList.{Content}
use Rattle.std.proofs.lemmas.Bool.{eqb-true}
use Rattle.range_pieces.proofs.PieceIndices.{is_first}
use Rattle.range_pieces.proofs.point_list.PointList.is_start.Goals as goal

pub returns-else-c-eq0 : goal.returns-else-c-eq0
returns-else-c-eq0 g c =
    let bs = c.self.inside.shelf.pieces in
    let same : bs ≡ c.args.self.now.pieces = ap (λ (v : Content). v.pieces) c.self.view_is in
    let cut : IsCut c.args.self.now.pieces 0 0 = subst (λ (xs : List (List Position)). IsCut xs 0 0) same c.self.invariant.cut in
    let away : c.args.c.piece ≡ 0 → ⊥ = c.if-c-eq0.false in (
      (λ t. absurd (away (eqb-true c.args.c.piece 0 t))),
      (λ e. absurd (away (is_first c.args.self.now.pieces c.args.c cut c.requires e))),
    )

pub returns-then-c-eq0 : goal.returns-then-c-eq0
returns-then-c-eq0 g c = search rules
