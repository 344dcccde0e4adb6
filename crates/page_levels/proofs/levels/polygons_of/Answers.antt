use Rattle.std.proofs.Common.{◌≡◌, ◌∙◌, ℕ, Vec, get_or, sym, subst}
use Rattle.std.proofs.lemmas.List.{take_more}
use Rattle.std.proofs.lemmas.Slice.Zip.{all_zipped_more}
use Rattle.range_plane.specs.Plane.{Position}
use Rattle.range_plane.specs.Polygon.{IsPolygon}
use Rattle.page_levels.specs.Kept.{first_kept}
use Rattle.page_levels.proofs.levels.polygons_of.Goals as goal

pub loop-level-preserved : goal.loop-level-preserved
loop-level-preserved c =
    let levels = c.args.levels.now in
    let i = c.loop-level.level-index in
    let made = c.in_ok-from_slice.field-0 in
    let R = λ (level : ℕ) (polygon : Vec Position _). IsPolygon (first_kept c.args.ranked.now level) polygon.items in
    let is : made.items ≡ c.in_ok-polygon.polygon = c.in_ok-from_slice.ensures.items ∙ c.corners.ensures.value in
    let own : R (get_or levels i 0) made =
    subst (IsPolygon (first_kept c.args.ranked.now (get_or levels i 0))) (sym is) c.in_ok-polygon.ensures in
    rw (c.in_ok-push.ensures.items, take_more levels i 0 c.loop-level-test.true)
    (all_zipped_more R _ c.loop-level.polygons.items (get_or levels i 0) made c.loop-level.invariant own)
