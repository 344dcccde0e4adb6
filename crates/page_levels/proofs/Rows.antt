-- Rows of percent polygons, of points in the order of their distances from the mean of all.
use Rattle.std.proofs.Common.{◌≡◌, ◌∙◌, ◌↔◌, ℕ, pos, Bool, IsTrue, List, length, take, refl, sym, ap, subst}
use Rattle.std.specs.List.Sorted.{IsPermutation}
use Rattle.std.proofs.lemmas.List.{length-map}
use Rattle.std.proofs.lemmas.List.Sorted.{IsPermutation-sym, length_permutation}
use Rattle.range_plane.specs.Edges.{at}
use Rattle.range_plane.specs.Plane.{Position}
use Rattle.range_plane.specs.Polygon.{IsPolygon, area2}
use Rattle.range_plane.proofs.ForCallers.{corners_cover_the_set, covering_members_are_corners, larger_sets_cover_more, one_covers_itself, one_polygon}
use Rattle.range_stats.specs.Percent.{IsPercentRow, kept_count, nearest}
use Rattle.range_stats.specs.declared.percents.PercentRow.{PercentRow}
use Rattle.range_stats.proofs.RankedMembers.{polygon_of_permutation}
use Rattle.page_levels.specs.Drawn.{kept_points}
use Rattle.page_levels.specs.Kept.{AreRanked, IsRowOfFirst, first_kept}

-- a row is that of the first points where it has their number and their polygon
pub row_is : (ranked : List Position) (row : PercentRow) (L : List Position) (kept : ℕ) (is : Bool) → kept ≡ length (first_kept ranked row.level)
    → IsPolygon (first_kept ranked row.level) L → IsTrue is ↔ ((row.kept ≡ kept) × (row.corners ≡ length L) × (pos row.area2 ≡ area2 L))
    → IsTrue is ↔ IsRowOfFirst ranked row
row_is ranked row L kept is count polygon same = (
  λ yes. let own = same.0 yes in record { kept = own.0 ∙ count; polygon = (L, polygon, own.1, own.2) },
  λ own.
      let one : L ≡ own.polygon.0 = one_polygon (first_kept ranked row.level) L own.polygon.0 polygon own.polygon.1 in
      same.1 (own.kept ∙ sym count, own.polygon.2 ∙ ap length (sym one), own.polygon.3 ∙ ap area2 (sym one)),
)

module _ (points ranked : List Position) (order : AreRanked points ranked) (level : ℕ) where
  kept_permutation : IsPermutation (kept_points points level) (first_kept ranked level)
  kept_permutation =
      subst (λ n. IsPermutation (kept_points points level) (take (kept_count level n) ranked)) (sym order.same_length)
      (order.nearest_first (kept_count level (length points)))

  -- the polygon of the first points is that of the points that the level keeps
  pub polygon_kept : (L : List Position) → IsPolygon (first_kept ranked level) L → IsPolygon (kept_points points level) L
  polygon_kept L polygon =
      polygon_of_permutation larger_sets_cover_more one_covers_itself corners_cover_the_set covering_members_are_corners (first_kept ranked level)
      (kept_points points level) L (IsPermutation-sym (kept_points points level) (first_kept ranked level) kept_permutation) polygon

  polygon_first : (L : List Position) → IsPolygon (kept_points points level) L → IsPolygon (first_kept ranked level) L
  polygon_first L polygon =
      polygon_of_permutation larger_sets_cover_more one_covers_itself corners_cover_the_set covering_members_are_corners (kept_points points level)
      (first_kept ranked level) L kept_permutation polygon

  kept_length : length (first_kept ranked level) ≡ length (nearest points (kept_count level (length points)))
  kept_length =
      length_permutation (kept_points points level) (first_kept ranked level) kept_permutation
      ∙ length-map (nearest points (kept_count level (length points))) (at points)

-- a row of the first points is that of the percent polygon at its level, and the other way round
pub percent_of_first : (points ranked : List Position) → AreRanked points ranked → (row : PercentRow) → IsRowOfFirst ranked row → IsPercentRow points row.level row
percent_of_first points ranked order row own = record {
  same_level = refl;
  kept = own.kept ∙ kept_length points ranked order row.level;
  polygon = (own.polygon.0, polygon_kept points ranked order row.level own.polygon.0 own.polygon.1, own.polygon.2, own.polygon.3);
}

pub first_of_percent : (points ranked : List Position) → AreRanked points ranked → (row : PercentRow) → IsPercentRow points row.level row → IsRowOfFirst ranked row
first_of_percent points ranked order row own = record {
  kept = own.kept ∙ sym (kept_length points ranked order row.level);
  polygon = (own.polygon.0, polygon_first points ranked order row.level own.polygon.0 own.polygon.1, own.polygon.2, own.polygon.3);
}
