use Rattle.std.proofs.Common.{◌≡◌, ◌∙◌, ◌∷◌, ◌<◌, Bool, true, false, length, get_or, arith, sym, subst}
use Rattle.std.proofs.lemmas.List.{get_or_default}
use Rattle.std.proofs.lemmas.Option.{get_or_from_slice_get}
use Rattle.std.proofs.lemmas.Result.{IfOk-weaker}
use Rattle.range_plane.specs.Edges.{at}
use Rattle.range_plane.specs.Plane.{origin}
use Rattle.range_plane.specs.Polygon.{IsPolygon}
use Rattle.page_influence.specs.Layers.{HasNoFlag, IsPolygonOfRest}
use Rattle.page_influence.proofs.Rest.{added, ended, passed}
use Rattle.page_influence.proofs.polygons.polygon_of_rest.Goals as goal
use Rattle.page_influence.proofs.polygons.polygon_of_rest.Goals.{then-not-flags-index, else-not-flags-index}

pub loop-index-preserved : goal.loop-index-preserved
loop-index-preserved c =
    let points = c.args.points.now.points in
    let flags = c.args.flags.now in
    let i = c.loop-index.index in
    let inv = c.loop-index.invariant in
    let within : i < length points = omega (arith, c.loop-index-test.true, c.len-index-end.ensures) in
    let flag : (d e : Bool) → get_or flags i d ≡ get_or flags i e = λ d e. get_or_default flags i d e (omega (arith, within, c.requires.flags)) in
    elim c.if-not-flags-index.branch [
      | then-not-flags-index w ↦
          let free : HasNoFlag flags i = flag true false ∙ w.if-not-flags-index.true in
          let here : w.at.result ≡ at points i = sym (get_or_from_slice_get points i w.at.result origin w.at.ensures) in
          rw w.hull-is (record {
            polygon = added points flags i c.loop-index.hull.corners w.insert.new.self.corners within free inv.polygon
                (subst (λ p. IsPolygon (p ∷ c.loop-index.hull.corners) w.insert.new.self.corners) here w.insert.ensures.corners);
            counted = omega (arith, inv.counted, w.insert.ensures.inserted, w.insert.ensures.skipped);
            room = omega (arith, inv.room, w.insert.ensures.spare);
          })
      | else-not-flags-index w ↦
          let flagged : get_or flags i true ≡ true = flag true false ∙ w.if-not-flags-index.false in
          rw w.hull-is (record {
            polygon = passed points flags i c.loop-index.hull.corners flagged inv.polygon;
            counted = omega (arith, inv.counted);
            room = omega (arith, inv.room);
          })
    ]

pub returns : goal.returns
returns c =
    let points = c.args.points.now.points in
    let flags = c.args.flags.now in
    let corners = c.loop-index.hull.corners in
    let all : IsPolygonOfRest points flags corners =
    ended points flags c.loop-index.index corners (omega (arith, c.loop-index-test.false, c.len-index-end.ensures)) c.loop-index.invariant.polygon in
    IfOk-weaker c.polygon.result (λ polygon. polygon ≡ corners) (IsPolygonOfRest points flags) (λ polygon is. subst (IsPolygonOfRest points flags) (sym is) all)
    c.polygon.ensures
