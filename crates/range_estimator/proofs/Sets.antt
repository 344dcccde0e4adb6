-- Sets of positions are read by membership: what the laws of the plane say of lists with the same members, and of larger ones.
use Rattle.std.proofs.Common.{sym, subst, List, [], ◌∷◌, ◌++◌, Contains, inl, inr}
use Rattle.std.proofs.lemmas.List.Elements.{Contains-append_left, Contains-push, Contains-push_cases}
use Rattle.range_plane.specs.Laws.{CornersCoverTheSet, CoveringMembersAreCorners, SetsCoverTheirMembers}
use Rattle.range_plane.specs.Plane.{Position}
use Rattle.range_plane.specs.Polygon.{IsPolygon}
use Rattle.range_lemmas.proofs.Members.{contained, contains_first, contains_later}

-- the same members have the same polygon
same_members : SetsCoverTheirMembers → CoveringMembersAreCorners → CornersCoverTheSet → (S T L : List Position) → ((x : Position) → Contains S x → Contains T x)
    → ((x : Position) → Contains T x → Contains S x)
    → IsPolygon S L → IsPolygon T L
same_members members corners cover S T L to from polygon =
    corners T L (λ x m. to x ((polygon.corners x).0 m).member) (λ x m. (cover S L polygon x).1
    (members S x (from x m))) polygon.distinct polygon.least_first polygon.convex

-- a point at the end of a list instead of at its front
pub polygon_pushed : SetsCoverTheirMembers → CoveringMembersAreCorners → CornersCoverTheSet → (S L : List Position) (p : Position) → IsPolygon (p ∷ S) L
    → IsPolygon (S ++ p ∷ []) L
polygon_pushed members corners cover S L p polygon = same_members members corners cover (p ∷ S) (S ++ p ∷ []) L to from polygon
  where
    to : (x : Position) → Contains (p ∷ S) x → Contains (S ++ p ∷ []) x
    to x m = elim (contained p S x m) [ inl e ↦ subst (Contains (S ++ p ∷ [])) (sym e) (Contains-push S p) | inr k ↦ Contains-append_left S (p ∷ []) x k ]

    from : (x : Position) → Contains (S ++ p ∷ []) x → Contains (p ∷ S) x
    from x m = elim (Contains-push_cases S p x m) [ inl k ↦ contains_later p S x k | inr e ↦ subst (Contains (p ∷ S)) e (contains_first p S) ]
