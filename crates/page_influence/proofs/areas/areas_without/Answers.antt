use Rattle.std.proofs.Common.{◌≡◌, ◌∙◌, ℕ, ◌<◌, ◌++◌, pos, Contains, List, length, take, drop, get_or, arith, refl, sym, ap, subst}
use Rattle.std.proofs.lemmas.List.{get_or_default, take-append-le, take_all}
use Rattle.range_plane.specs.Plane.{Position, origin}
use Rattle.range_plane.specs.Polygon.{area2}
use Rattle.page_influence.specs.Layers.{AreAreasWithout, AreCornerFixes, IsPolygonWithout, IsSetAt}
use Rattle.page_influence.proofs.Count.{few_corners}
use Rattle.page_influence.proofs.Layers.{areas_are}
use Rattle.page_influence.proofs.areas.areas_without.Goals as goal

-- a list in place of another as long as it
whole : (new old : List ℕ) (n : ℕ) → length new ≡ n → take n (new ++ drop (length new) old) ≡ new
whole new old n size = take-append-le n new (drop (length new) old) (omega (arith, size)) ∙ take_all n new (omega (arith, size))

pub corner_fixes-requires-clause-there : goal.corner_fixes-requires-clause-there
corner_fixes-requires-clause-there c = λ p has.
    let points = c.args.points.now.points in
    let (i, within, other, is) = c.in_ok-outer.ensures.members p (subst (λ (l : List Position). Contains l p) c.corners.ensures.value has) in
    (i, within, get_or_default points i p origin within ∙ is)

pub set_areas-requires-clause-few : goal.set_areas-requires-clause-few
set_areas-requires-clause-few c =
    let points = c.args.points.now.points in
    let outer = c.in_ok-outer.outer in
    let fixes = c.in_ok-fixes.fixes.items in
    let inner = c.in_ok-inner.inner in
    let stand : AreCornerFixes points outer fixes = subst (λ (l : List Position). AreCornerFixes points l fixes) c.corners.ensures.value c.in_ok-fixes.ensures in
    let rest : IsPolygonWithout points fixes inner = subst (λ (l : List ℕ). IsPolygonWithout points l inner) c.deref.ensures.value c.in_ok-inner.ensures in
    omega (
      arith,
      few_corners points outer inner fixes c.in_ok-outer.ensures stand rest,
      ap length c.corners-2.ensures.value,
      ap length c.corners-3.ensures.value,
      c.requires,
    )

pub returns : goal.returns
returns c =
    let points = c.args.points.now.points in
    let outer = c.in_ok-outer.outer in
    let fixes = c.in_ok-fixes.fixes.items in
    let inner = c.in_ok-inner.inner in
    let old = c.deref_mut.result.now in
    let new = c.set_areas.new.areas in
    let stand : AreCornerFixes points outer fixes = subst (λ (l : List Position). AreCornerFixes points l fixes) c.corners.ensures.value c.in_ok-fixes.ensures in
    let rest : IsPolygonWithout points fixes inner = subst (λ (l : List ℕ). IsPolygonWithout points l inner) c.deref.ensures.value c.in_ok-inner.ensures in
    let old_size : length old ≡ length points = omega (arith, c.deref_mut.ensures.len, c.in_ok-resize.ensures.len, c.len.ensures) in
    let size : length new ≡ length points = omega (arith, c.set_areas.auto.areas, old_size) in
    let all : (i : ℕ) → i < length points → pos (get_or old i 0) ≡ area2 outer = λ i within.
    ap (λ (l : List ℕ). pos (get_or l i 0)) c.deref_mut.ensures.value
    ∙ ap pos (c.in_ok-resize.ensures.by_index.1 i 0 refl (omega (arith, c.new-areas.ensures.len)) (omega (arith, within, c.len.ensures)))
    ∙ c.area2.ensures in
    let set : (i : ℕ) → i < length points → IsSetAt outer inner fixes old new i = λ i within.
    subst (λ (l : List Position). IsSetAt l inner fixes old new i) c.corners-2.ensures.value
    (subst (λ (l : List Position). IsSetAt c.corners-2.result.now l fixes old new i) c.corners-3.ensures.value
    (subst (λ (l : List ℕ). IsSetAt c.corners-2.result.now c.corners-3.result.now l old new i) c.deref-2.ensures.value
    (c.in_ok-set_areas.ensures i (omega (arith, within, old_size))))) in
    subst (AreAreasWithout points) (sym (whole new c.resize.new.self.items c.resize.new.self.len (omega (arith, size, c.in_ok-resize.ensures.len, c.len.ensures))))
    (areas_are points outer inner fixes c.in_ok-outer.ensures stand rest old new size all set)
