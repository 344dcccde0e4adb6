use Rattle.std.proofs.Common.{◌≡◌, ap, ◌∙◌, ◌-◌, ◌<◌, length, arith}
use Rattle.range_plane.specs.Edges.{at}
use Rattle.range_pieces.specs.Pieces.{all_points}
use Rattle.range_pieces.specs.PointList.{index}
use Rattle.range_hull.proofs.Hulls.{next_corner}
use Rattle.range_hull.proofs.chain.push_back.Goals as goal

pub loop-preserved : goal.loop-preserved
loop-preserved g c =
    let bs = c.args.chain.now.pieces in
    let U = all_points bs in
    let i = c.loop.invariant in
    let most : c.loop.counter < length U = omega (arith, c.loop-test.true, c.len-end.ensures) in
    let here : index bs c.previous-next-in-loop.result ≡ length U - c.loop.counter = omega (arith, i.1, c.previous-next-in-loop.ensures.index) in (
      c.previous-next-in-loop.ensures.stands,
      omega (arith, here, most),
      c.in_ok-push.ensures.items ∙ next_corner c.args.corners.now.items U c.loop.corners.items c.loop.counter c.get.result c.loop.auto.counter most
          (c.get.ensures ∙ ap (at U) here) i.2,
    )
