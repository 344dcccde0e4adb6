-- The polygon of lists with the same members, under laws of the plane.
use Rattle.std.proofs.Common.{◌≡◌, zero, suc, List, [], ◌∷◌, refl, subst, arith}
use Rattle.std.specs.Prelude.{Contains}
use Rattle.std.specs.List.Sorted.{IsPermutation}
use Rattle.std.proofs.lemmas.List.Sorted.{Contains-permutation, IsPermutation-sym}
use Rattle.range_plane.specs.Laws.{CornersCoverTheSet, CoveringMembersAreCorners, LargerSetsCoverMore, OneCoversItself}
use Rattle.range_plane.specs.Plane.{Position}
use Rattle.range_plane.specs.Polygon.{IsPolygon}

module _ (larger : LargerSetsCoverMore) (one : OneCoversItself) (corners : CornersCoverTheSet) (covering : CoveringMembersAreCorners) where
  -- the polygon of points is that of the same points in another order
  pub polygon_of_permutation : (S T L : List Position) → IsPermutation S T → IsPolygon S L → IsPolygon T L
  polygon_of_permutation S T L moved polygon =
      covering T L
      (λ x at. Contains-permutation S T x moved ((polygon.corners x).0 at).member)
      (λ x at. (corners S L polygon x).1 (larger (x ∷ []) S x (λ s alone. subst (Contains S) (only x s alone)
      (Contains-permutation T S x (IsPermutation-sym S T moved) at)) ((one x x).1 refl)))
      polygon.distinct polygon.least_first polygon.convex
    where
      only : (x s : Position) → Contains (x ∷ []) s → x ≡ s
      only x s (zero, within, is) = is
      only x s (suc k, within, is) = absurd (omega arith)
