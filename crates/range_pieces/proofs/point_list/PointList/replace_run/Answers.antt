use Rattle.std.proofs.Common.{◌≡◌, ◌∙◌, sym, ap, subst, ◌≤◌, length, List, arith}
use Rattle.range_plane.specs.Plane.{Position}
use Rattle.range_lemmas.proofs.Indices.{replaced_length}
use Rattle.range_pieces.specs.Pieces.{capacity_of, all_points}
use Rattle.range_pieces.specs.PointList.{Content, Stands, index}
use Rattle.range_pieces.proofs.PieceIndices.{index_within}
use Rattle.range_pieces.proofs.point_list.PointList.replace_run.Goals as goal

pub overflow_sub-self : goal.overflow_sub-self
overflow_sub-self g c =
    let bs = c.self.inside.shelf.pieces in
    let same : bs ≡ c.args.self.now.pieces = ap (λ (v : Content). v.pieces) c.self.view_is in
    let from = c.args.from in
    let to = c.args.to in
    let stands : Stands bs to = subst (λ (xs : List (List Position)). Stands xs to) (sym same) c.requires.to in
    let within : index bs to ≤ length (all_points bs) = index_within bs to stands in
    let counted = c.self.invariant.counted in
    omega (arith, within, counted, c.run_len-removed.ensures)

pub invariant_of-self : goal.invariant_of-self
invariant_of-self g c =
    let bs = c.self.inside.shelf.pieces in
    let same : bs ≡ c.args.self.now.pieces = ap (λ (v : Content). v.pieces) c.self.view_is in
    let from = c.args.from in
    let to = c.args.to in
    let stands : Stands bs to = subst (λ (xs : List (List Position)). Stands xs to) (sym same) c.requires.to in
    let within : index bs to ≤ length (all_points bs) = index_within bs to stands in
    let counted = c.self.invariant.counted in
    let e = c.replace_between.ensures in
    let size = replaced_length (all_points bs) c.args.p (index bs from) (index bs to) (omega (arith, c.run_len-removed.ensures)) within in
    record {
      cut = e.cut;
      counted = omega (arith, ap length e.points, size, counted, within, c.run_len-removed.ensures);
      few = omega (arith, e.total, c.self.invariant.few);
      room = c.self.invariant.room ∙ ap capacity_of (sym e.total);
      fits = omega (arith, c.self.invariant.room, c.self.invariant.fits, c.requires.room, ap (λ (v : Content). v.spare) c.self.view_is);
    }
