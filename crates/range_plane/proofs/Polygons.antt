-- What a polygon covers, and which sets have the same polygon.
use Rattle.std.proofs.Common.{◌↔◌, List, ◌∷◌}
use Rattle.range_plane.specs.ConvexCover.{Covers}
use Rattle.range_plane.specs.Plane.{Position}
use Rattle.range_plane.specs.Polygon.{IsPolygon}
use Rattle.range_lemmas.proofs.Members.{contains_first, contains_later, each}
use Rattle.range_plane.proofs.Separation.{wider}
use Rattle.range_plane.proofs.Extremes.{CoversEach, covers_member, covers_through, extreme_in, kernel}

-- the corners cover what the set covers
pub polygon_covers_set : (S L : List Position) → IsPolygon S L → CoversEach L S
polygon_covers_set S L p x m = let k = kernel S in wider k.points L x (λ t l. (p.corners t).1 (k.extreme t l)) (k.covering x m)

pub set_covers_polygon : (S L : List Position) → IsPolygon S L → CoversEach S L
set_covers_polygon S L p x m = covers_member S x ((p.corners x).0 m).member

-- a polygon covers exactly what its set covers
pub same_covering : (S L : List Position) → IsPolygon S L → (q : Position) → Covers L q ↔ Covers S q
same_covering S L p q = (covers_through S L q (set_covers_polygon S L p), covers_through L S q (polygon_covers_set S L p))

-- ---- sets that cover one another have the same polygon
pub same_polygon : (S T L : List Position) → CoversEach S T → CoversEach T S → IsPolygon S L → IsPolygon T L
same_polygon S T L st ts p =
    record {
      corners = λ x. (λ m. extreme_in S T x st ts ((p.corners x).0 m), λ e. (p.corners x).1 (extreme_in T S x ts st e));
      distinct = p.distinct;
      least_first = p.least_first;
      convex = p.convex;
    }

both_with : (S T : List Position) (p : Position) → CoversEach S T → CoversEach (p ∷ S) (p ∷ T)
both_with S T p c = each (Covers (p ∷ S)) p T (covers_member (p ∷ S) p (contains_first p S)) (λ x m. wider S (p ∷ S) x (λ t l. contains_later p S t l) (c x m))

-- a covered point changes nothing
pub covered_point_added : (S L : List Position) (p : Position) → Covers S p → IsPolygon S L ↔ IsPolygon (p ∷ S) L
covered_point_added S L p c = (same_polygon S (p ∷ S) L all back, same_polygon (p ∷ S) S L back all)
  where
    all : CoversEach S (p ∷ S)
    all = each (Covers S) p S c (λ x m. covers_member S x m)

    back : CoversEach (p ∷ S) S
    back x m = covers_member (p ∷ S) x (contains_later p S x m)

-- the corners stand for the set when a point is added
pub point_added : (S L M : List Position) (p : Position) → IsPolygon S L → IsPolygon (p ∷ L) M ↔ IsPolygon (p ∷ S) M
point_added S L M p h = (same_polygon (p ∷ L) (p ∷ S) M to back, same_polygon (p ∷ S) (p ∷ L) M back to)
  where
    to : CoversEach (p ∷ L) (p ∷ S)
    to = both_with L S p (polygon_covers_set S L h)

    back : CoversEach (p ∷ S) (p ∷ L)
    back = both_with S L p (set_covers_polygon S L h)

-- a polygon is that of its own corners
pub polygon_of_itself : (S L : List Position) → IsPolygon S L → IsPolygon L L
polygon_of_itself S L p = same_polygon S L L (set_covers_polygon S L p) (polygon_covers_set S L p) p
