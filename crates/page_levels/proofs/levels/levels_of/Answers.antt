use Rattle.std.proofs.Common.{◌≡◌, ◌∙◌, All, List, ℕ, Vec, rules, ap, subst}
use Rattle.std.specs.List.{AllZip}
use Rattle.range_fixes.specs.Reading.{reading}
use Rattle.range_plane.specs.Plane.{Position}
use Rattle.range_plane.specs.Polygon.{IsPolygon}
use Rattle.range_plane.specs.Row.{points_of}
use Rattle.page_levels.specs.Kept.{IsOtherRow, IsRowOfFirst, first_kept}
use Rattle.page_levels.specs.Same.{AreSameFixes, IsRefused, IsTrackOf}
use Rattle.page_levels.proofs.Drawing.{drawn, other, same}
use Rattle.page_levels.proofs.levels.levels_of.Goals as goal

pub returns-in_err-check_percents-clause-fault : goal.returns-in_err-check_percents-clause-fault
returns-in_err-check_percents-clause-fault c =
    let animal = c.args.animal.now in
    let own = reading c.args.unit c.args.track.now in
    let fixes = c.in_ok-fixes.fixes.items in
    let track : IsTrackOf animal.name.items fixes own = subst (λ (n : List ℕ). IsTrackOf n fixes own) c.deref.ensures.value c.in_ok-fixes.ensures.track in
    let read : c.in_ok-points.points.points ≡ points_of fixes = c.in_ok-points.ensures.points ∙ ap points_of c.deref-2.ensures.value in
    let why : IsOtherRow c.in_ok-ranked.ranked.items animal.percents.items c.in_err-check_percents.field-0.0 =
    subst (λ l. IsOtherRow c.in_ok-ranked.ranked.items l c.in_err-check_percents.field-0.0) c.deref-4.ensures.value
    (subst (λ (l : List Position). IsOtherRow l c.deref-4.result.now c.in_err-check_percents.field-0.0) c.deref-3.ensures.value
    c.in_err-check_percents.ensures.fault) in
    let refused : IsRefused animal own c.in_err-check_percents.field-0.0 =
    other animal own fixes track c.in_ok-points.points.points c.in_ok-ranked.ranked.items read c.in_ok-ranked.ensures c.in_err-check_percents.field-0.0 why in
    search rules

pub returns-clause-same : goal.returns-clause-same
returns-clause-same c =
    let animal = c.args.animal.now in
    let own = reading c.args.unit c.args.track.now in
    let fixes = c.in_ok-fixes.fixes.items in
    let track : IsTrackOf animal.name.items fixes own = subst (λ (n : List ℕ). IsTrackOf n fixes own) c.deref.ensures.value c.in_ok-fixes.ensures.track in
    let read : c.in_ok-points.points.points ≡ points_of fixes = c.in_ok-points.ensures.points ∙ ap points_of c.deref-2.ensures.value in
    let rows : All (IsRowOfFirst c.in_ok-ranked.ranked.items) animal.percents.items =
    subst (All (IsRowOfFirst c.in_ok-ranked.ranked.items)) c.deref-4.ensures.value
    (subst (λ (l : List Position). All (IsRowOfFirst l) c.deref-4.result.now) c.deref-3.ensures.value c.in_ok-check_percents.ensures.rows) in
    same animal own fixes track c.in_ok-points.points.points c.in_ok-ranked.ranked.items read c.in_ok-ranked.ensures
    (subst (λ l. AreSameFixes l animal) c.deref-2.ensures.value c.in_ok-points.ensures.same) rows

pub returns-clause-drawn : goal.returns-clause-drawn
returns-clause-drawn c =
    let animal = c.args.animal.now in
    let own = reading c.args.unit c.args.track.now in
    let fixes = c.in_ok-fixes.fixes.items in
    let track : IsTrackOf animal.name.items fixes own = subst (λ (n : List ℕ). IsTrackOf n fixes own) c.deref.ensures.value c.in_ok-fixes.ensures.track in
    let read : c.in_ok-points.points.points ≡ points_of fixes = c.in_ok-points.ensures.points ∙ ap points_of c.deref-2.ensures.value in
    drawn animal own fixes track c.in_ok-points.points.points c.in_ok-ranked.ranked.items read c.in_ok-ranked.ensures c.args.levels.now _
    (subst (λ (l : List Position). AllZip (λ level (polygon : Vec Position _). IsPolygon (first_kept l level) polygon.items) c.args.levels.now
    c.in_ok-polygons_of.field-0.items) c.deref-5.ensures.value c.in_ok-polygons_of.ensures)
    (c.in_ok-points_of.ensures ∙ ap points_of c.deref-6.ensures.value)
