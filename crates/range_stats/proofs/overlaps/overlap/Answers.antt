use Rattle.std.proofs.Common.{◌≡◌, Bool, true, false, count_by, refl, rules, sym, ◌∙◌}
use Rattle.std.specs.Prelude.{IsTrue, ◌↔◌}
use Rattle.range_plane.specs.ConvexCover.{is_covered}
use Rattle.range_plane.specs.Plane.{Position}
use Rattle.range_plane.proofs.ForCallers.{corners_cover_the_set, covered_is_decided}
use Rattle.range_stats.proofs.overlaps.overlap.Goals as goal

same_test : (a b : Bool) (P : Type 0) → IsTrue a ↔ P → IsTrue b ↔ P → a ≡ b
same_test true true P h k = refl
same_test true false P h k = sym (k.1 (h.0 refl))
same_test false true P h k = h.1 (k.0 refl)
same_test false false P h k = refl

pub returns-clause-corners : goal.returns-clause-corners
returns-clause-corners g c = search rules

pub returns-clause-set : goal.returns-clause-set
returns-clause-set g c = λ S polygon.
    let L = c.args.range.now in
    let decided = covered_is_decided in
    let same = λ (q : Position). let cover = corners_cover_the_set S L polygon q in
    same_test (is_covered L q) (is_covered S q) _ (decided L q) ((λ t. cover.1 ((decided S q).0 t)), (λ h. (decided S q).1 (cover.0 h))) in
    c.count_inside.ensures ∙ (λ i. count_by (λ q. same q i) c.args.fixes.now.points)
