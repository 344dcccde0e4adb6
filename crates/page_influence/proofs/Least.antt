-- The first of the least of areas is of the fix without which the area is least, and there is one such fix.
use Rattle.std.proofs.Common.{◌≡◌, ◌∙◌, ℕ, ◌<◌, pos, inl, inr, List, None, Some, length, get_or, arith, refl, sym, ap, subst}
use Rattle.std.specs.List.{remove}
use Rattle.std.proofs.lemmas.Bool.{cases_order}
use Rattle.range_plane.specs.Plane.{Position}
use Rattle.range_plane.specs.Polygon.{area2}
use Rattle.range_plane.proofs.ForCallers.{one_polygon}
use Rattle.page_influence.specs.Influence.{IsAreaOf, IsAreaWithout, IsLeastWithout}
use Rattle.page_influence.specs.Laws.{FixesHaveOneInfluence}
use Rattle.page_influence.specs.Layers.{AreAreasWithout, IsFirstLeast}
use Rattle.page_influence.specs.declared.influence.Influence.{Influence}

-- a set has one area
one_area : (S : List Position) (a b : ℕ) → IsAreaOf S a → IsAreaOf S b → a ≡ b
one_area S a b (L, first, one) (M, second, other) =
    let same : pos a ≡ pos b = one ∙ ap area2 (one_polygon S L M first second) ∙ sym other in cc

pub least_is : (points : List Position) (areas : List ℕ) (influence : Influence) → AreAreasWithout points areas → IsFirstLeast areas influence
    → IsLeastWithout points influence
least_is points areas influence all own =
    let at_index : (k area : ℕ) → k < length points → IsAreaWithout points k area → get_or areas k 0 ≡ area =
    λ k area within is. one_area (remove points k) (get_or areas k 0) area (all.each k within) is in
    let fix : influence.index < length points = omega (arith, own.within, all.same_length) in
    record {
      fix = fix;
      area = subst (IsAreaWithout points influence.index) (sym own.area) (all.each influence.index fix);
      least = λ other area within is. omega (arith, at_index other area within is, own.least other (omega (arith, within, all.same_length)));
      first = λ earlier area before is. omega (arith, at_index earlier area (omega (arith, before, fix)) is, own.first earlier before);
    }

-- no two fixes are the first without which the area is least
same_least : (points : List Position) (one other : Influence) → IsLeastWithout points one → IsLeastWithout points other → one ≡ other
same_least points one other a b =
    let index : one.index ≡ other.index = elim (cases_order one.index other.index) [
      | inl same ↦ same
      | inr differ ↦ elim differ [
        | inl before ↦ absurd (omega (arith, b.first one.index one.area2 before a.area, a.least other.index other.area2 b.fix b.area))
        | inr behind ↦ absurd (omega (arith, a.first other.index other.area2 behind b.area, b.least one.index one.area2 a.fix a.area))
      ]
    ] in
    let area : one.area2 ≡ other.area2 =
    one_area (remove points other.index) one.area2 other.area2 (subst (λ k. IsAreaWithout points k one.area2) index a.area) b.area in
    λ i. record { index = index i; area2 = area i }

-- and so of any fixes one thing is said
pub one_influence : FixesHaveOneInfluence
one_influence points None None a b = refl
one_influence points None (Some other) a b = absurd (omega (arith, a, b.0))
one_influence points (Some one) None a b = absurd (omega (arith, a.0, b))
one_influence points (Some one) (Some other) a b = ap Some (same_least points one other a.1 b.1)
