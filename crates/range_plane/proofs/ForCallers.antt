-- What holds of sets, of what they cover and of polygons, for the proofs of crates above: the laws of `src/laws.rt`.
use Rattle.range_plane.specs.Laws.{AreasAreNotNegative, BoxesHoldWhatIsCovered, CornersCoverTheSet, CornersStandForTheSet, CoveredIsDecided, CoveredPointsChangeNothing, CoveringIsReaching, CoveringIsTransitive, CoveringMembersAreCorners, EverySetHasAPolygon, LargerSetsCoverMore, ManyCoverTheLeftOfTheirEdges, NoneCoversNothing, OnSegmentIsDecided, OneCoversItself, PolygonOfItsCorners, SetsCoverTheirMembers, TwoCoverTheirSegment}
use Rattle.range_plane.proofs.Areas.{area2_nonneg}
use Rattle.range_plane.proofs.Boxes.{covered_in_box}
use Rattle.range_plane.proofs.Corners.{polygon_by_covering}
use Rattle.range_plane.proofs.Decided.{covered_decided, segment_decided}
use Rattle.range_plane.proofs.Extremes.{covers_member, covers_through}
use Rattle.range_plane.proofs.HalfPlanes.{covered_if_left_of_edges}
use Rattle.range_plane.proofs.Polygons.{covered_point_added, point_added, polygon_of_itself, same_covering}
use Rattle.range_plane.proofs.Round.{polygon_of}
use Rattle.range_plane.proofs.Separation.{covers_reaching, wider}
use Rattle.range_plane.proofs.SmallSets.{covers_none, covers_one, covers_two}
pub use Rattle.range_plane.proofs.Unique.{one_polygon}

-- a set that has all members of another covers what the other covers
pub larger_sets_cover_more : LargerSetsCoverMore
larger_sets_cover_more = wider

-- a set covers each of its members
pub sets_cover_their_members : SetsCoverTheirMembers
sets_cover_their_members = covers_member

-- a set covers a point exactly where in each direction some member is not behind it
pub covering_is_reaching : CoveringIsReaching
covering_is_reaching = covers_reaching

-- a box that has each member of a set has all that the set covers
pub boxes_hold_what_is_covered : BoxesHoldWhatIsCovered
boxes_hold_what_is_covered = covered_in_box

-- a set that covers each member of another covers what the other covers
pub covering_is_transitive : CoveringIsTransitive
covering_is_transitive = covers_through

-- the test of a point is true exactly where the set covers it
pub covered_is_decided : CoveredIsDecided
covered_is_decided = covered_decided

-- the test of a segment is true exactly where the point lies on it
pub on_segment_is_decided : OnSegmentIsDecided
on_segment_is_decided = segment_decided

-- no point is covered by no points
pub none_covers_nothing : NoneCoversNothing
none_covers_nothing = covers_none

-- one point covers itself alone
pub one_covers_itself : OneCoversItself
one_covers_itself = covers_one

-- two points cover the segment between them
pub two_cover_their_segment : TwoCoverTheirSegment
two_cover_their_segment = covers_two

-- a polygon of three or more corners covers what is on the left of each of its edges, or on it
pub many_cover_the_left_of_their_edges : ManyCoverTheLeftOfTheirEdges
many_cover_the_left_of_their_edges S L polygon many q = covered_if_left_of_edges L q polygon.convex many

-- each set has a polygon
pub every_set_has_a_polygon : EverySetHasAPolygon
every_set_has_a_polygon = polygon_of

-- members that cover the set, without repeats, from the least and turning left are the corners of its polygon
pub covering_members_are_corners : CoveringMembersAreCorners
covering_members_are_corners = polygon_by_covering

-- the polygon of a set is that of its corners
pub polygon_of_its_corners : PolygonOfItsCorners
polygon_of_its_corners = polygon_of_itself

-- the corners of a set cover what the set covers
pub corners_cover_the_set : CornersCoverTheSet
corners_cover_the_set = same_covering

-- a point that the set covers already may be added, and the polygon stays
pub covered_points_change_nothing : CoveredPointsChangeNothing
covered_points_change_nothing = covered_point_added

-- with one more point, the corners of a set have the polygon that the set has
pub corners_stand_for_the_set : CornersStandForTheSet
corners_stand_for_the_set = point_added

-- the doubled area of a polygon is not negative
pub areas_are_not_negative : AreasAreNotNegative
areas_are_not_negative S L polygon = area2_nonneg L polygon.convex
