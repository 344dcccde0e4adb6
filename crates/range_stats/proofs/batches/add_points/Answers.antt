use Rattle.std.proofs.Common.{◌≡◌, ℕ, ◌+◌, ◌-◌, ◌≤◌, ◌++◌, List, length, take, drop, sym, ap, subst, ◌∙◌, append_assoc, length-append, arith}
use Rattle.std.proofs.lemmas.List.{length-drop, length-map, length-take, map-append}
use Rattle.std.proofs.lemmas.Simd.{chunk-drop}
use Rattle.range_plane.specs.Edges.{at}
use Rattle.range_plane.specs.Plane.{Position}
use Rattle.range_plane.specs.Polygon.{IsPolygon}
use Rattle.range_plane.proofs.ForCallers.{polygon_of_its_corners}
use Rattle.range_stats.specs.Keys.{points_at}
use Rattle.range_stats.proofs.batches.add_points.Goals as goal

-- the points of a batch, and those of what comes behind it
batch_more : (points : List Position) (indices : List ℕ) (start left : ℕ) → start ≤ left
    → points_at points (take (left - start) (drop start indices)) ++ points_at points (drop left indices) ≡ points_at points (drop start indices)
batch_more points indices start left less =
    let batch = take (left - start) (drop start indices) in
    let behind : start + (left - start) ≡ left = omega (arith, less) in
    sym (map-append (at points) batch (drop left indices))
    ∙ ap (points_at points) (ap (λ n. batch ++ drop n indices) (sym behind) ∙ sym (chunk-drop start (left - start) indices))

pub add_batch-requires-clause-polygon : goal.add_batch-requires-clause-polygon
add_batch-requires-clause-polygon g c =
    let done = points_at c.args.fixes.now.points (drop c.loop-left.left c.args.indices.now) in
    polygon_of_its_corners (done ++ c.args.hull.now.corners) c.loop-left.hull.corners
    (c.loop-left.invariant.set c.args.hull.now.corners c.requires.polygon)

pub loop-left-preserved : goal.loop-left-preserved
loop-left-preserved g c =
    let points = c.args.fixes.now.points in
    let indices = c.args.indices.now in
    let left = c.loop-left.left in
    let start = c.saturating_sub-start.result in
    let inv = c.loop-left.invariant in
    let less : start ≤ left = omega (arith, c.saturating_sub-start.ensures) in
    let batch = take (left - start) (drop start indices) in
    let done = points_at points (drop left indices) in
    let size : length batch ≡ left - start = omega (arith, length-take (left - start) (drop start indices), length-drop start indices, inv.within) in
    record {
      within = omega (arith, less, inv.within);
      counted = omega (arith, inv.counted, c.in_ok-add_batch.ensures.counted, less, size);
      set = λ S before. subst (λ (l : List Position). IsPolygon l c.add_batch.new.hull.corners)
          (sym (append_assoc (points_at points batch) done S) ∙ ap (λ l. l ++ S) (batch_more points indices start left less))
          (c.in_ok-add_batch.ensures.set (done ++ S) (inv.set S before));
    }

pub returns : goal.returns
returns g c = λ S before.
    let points = c.args.fixes.now.points in
    let indices = c.args.indices.now in
    let none : c.loop-left.left ≡ 0 = omega (arith, c.loop-left-test.false) in
    let size : length (points_at points indices) ≡ length indices = length-map indices (at points) in
    record {
      polygon = subst (λ n. IsPolygon (points_at points (drop n indices) ++ S) c.loop-left.hull.corners) none (c.loop-left.invariant.set S before.polygon);
      counted = omega (arith, c.loop-left.invariant.counted, none, before.counted, length-append (points_at points indices) S, size);
    }
