use Rattle.std.proofs.Common.{◌≡◌, [], ◌∷◌, ◌++◌, get_or, arith, sym, ap₂, ◌∙◌}
use Rattle.std.proofs.lemmas.Option.{get_or_from_slice_get}
use Rattle.std.proofs.lemmas.List.{map_more}
use Rattle.range_plane.specs.Edges.{at}
use Rattle.range_plane.specs.Plane.{origin}
use Rattle.range_stats.proofs.batches.columns_of.Goals as goal

pub loop-index-preserved : goal.loop-index-preserved
loop-index-preserved g c =
    let points = c.args.fixes.now.points in
    let indices = c.args.indices.now in
    let i = c.loop-index.index-index in
    let index = get_or indices i 0 in
    let here : at points index ≡ c.at.result = get_or_from_slice_get points index c.at.result origin c.at.ensures in
    record {
      points = c.push_reserved.ensures.points ∙ ap₂ (λ l x. l ++ x ∷ []) c.loop-index.invariant.points (sym here)
          ∙ sym (map_more (at points) indices i 0 (omega arith));
      room = omega (arith, c.push_reserved.ensures.spare, c.loop-index.invariant.room);
    }
