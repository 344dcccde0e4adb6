-- Laws of what sets cover and of polygons, each the contract of a function of `src/laws.rt`.
use Rattle.std.specs.Prelude.{◌<◌, pos, ◌≤ℤ◌, ◌≡◌, ◌≢◌, ◌↔◌, AllPairs, IsTrue, List, [], ◌∷◌, length, Contains}
use Rattle.range_plane.specs.ConvexCover.{Covers, advance, IsLeftOfEdges, IsOnSegment, is_covered, is_on_segment}
use Rattle.range_plane.specs.Plane.{IsInBox, Position}
use Rattle.range_plane.specs.Polygon.{BeginsWithLeast, IsPolygon, TurnsLeft, area2}

abbrev pub LargerSetsCoverMore : Type 0
LargerSetsCoverMore = (S T : List Position) (q : Position) → ((s : Position) → Contains S s → Contains T s) → Covers S q → Covers T q

abbrev pub SetsCoverTheirMembers : Type 0
SetsCoverTheirMembers = (S : List Position) (s : Position) → Contains S s → Covers S s

-- no direction strictly separates q from the set: in each, some member is not behind q
abbrev pub ReachesEveryWay : List Position → Position → Type 0
ReachesEveryWay S q = (d : Position) → (s : Position) × Contains S s × (pos 0 ≤ℤ advance d q s)

abbrev pub CoveringIsReaching : Type 0
CoveringIsReaching = (S : List Position) (q : Position) → Covers S q ↔ ReachesEveryWay S q

-- a box that has each member of a set has all that the set covers
abbrev pub BoxesHoldWhatIsCovered : Type 0
BoxesHoldWhatIsCovered =
    (S : List Position) (low high q : Position) → ((s : Position) → Contains S s → IsInBox low high s) → Covers S q → IsInBox low high q

abbrev pub CoveringIsTransitive : Type 0
CoveringIsTransitive = (S T : List Position) (q : Position) → ((t : Position) → Contains T t → Covers S t) → Covers T q → Covers S q

abbrev pub CoveredIsDecided : Type 0
CoveredIsDecided = (S : List Position) (q : Position) → IsTrue (is_covered S q) ↔ Covers S q

abbrev pub OnSegmentIsDecided : Type 0
OnSegmentIsDecided = (q a b : Position) → IsTrue (is_on_segment q a b) ↔ IsOnSegment q a b

abbrev pub NoneCoversNothing : Type 0
NoneCoversNothing = (q : Position) → ¬ (Covers [] q)

abbrev pub OneCoversItself : Type 0
OneCoversItself = (a q : Position) → Covers (a ∷ []) q ↔ (q ≡ a)

abbrev pub TwoCoverTheirSegment : Type 0
TwoCoverTheirSegment = (a b q : Position) → Covers (a ∷ b ∷ []) q ↔ IsOnSegment q a b

abbrev pub ManyCoverTheLeftOfTheirEdges : Type 0
ManyCoverTheLeftOfTheirEdges = (S L : List Position) → IsPolygon S L → 2 < length L → (q : Position) → Covers L q ↔ IsLeftOfEdges L q

abbrev pub EverySetHasAPolygon : Type 0
EverySetHasAPolygon = (S : List Position) → (L : List Position) × IsPolygon S L

abbrev pub OnePolygon : Type 0
OnePolygon = (S L M : List Position) → IsPolygon S L → IsPolygon S M → L ≡ M

-- L are members that cover the set, without repeats, from the least, and every three of them turn left
abbrev pub CoveringMembersAreCorners : Type 0
CoveringMembersAreCorners =
    (S L : List Position) → ((x : Position) → Contains L x → Contains S x) → ((x : Position) → Contains S x → Covers L x)
    → AllPairs (λ a b. a ≢ b) L → BeginsWithLeast L → TurnsLeft L → IsPolygon S L

abbrev pub PolygonOfItsCorners : Type 0
PolygonOfItsCorners = (S L : List Position) → IsPolygon S L → IsPolygon L L

abbrev pub CornersCoverTheSet : Type 0
CornersCoverTheSet = (S L : List Position) → IsPolygon S L → (q : Position) → Covers L q ↔ Covers S q

abbrev pub CoveredPointsChangeNothing : Type 0
CoveredPointsChangeNothing = (S L : List Position) (p : Position) → Covers S p → IsPolygon S L ↔ IsPolygon (p ∷ S) L

abbrev pub CornersStandForTheSet : Type 0
CornersStandForTheSet = (S L M : List Position) (p : Position) → IsPolygon S L → IsPolygon (p ∷ L) M ↔ IsPolygon (p ∷ S) M

abbrev pub AreasAreNotNegative : Type 0
AreasAreNotNegative = (S L : List Position) → IsPolygon S L → pos 0 ≤ℤ area2 L
