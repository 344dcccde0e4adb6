-- The numbers of an analysis of files are those that a report may have.
use Rattle.std.proofs.Common.{◌≡◌, ◌≤◌, ◌+◌, ◌-◌, ℕ, suc, pos, ◌≤ℤ◌, List, [], ◌∷◌, length, map, take, slice_get, get_or, Option, Some, None, option_map, nat_lt, refl, ap, ap₂, sym, subst, ◌∙◌, arith, inl, inr, All}
use Rattle.std.specs.List.{AllZip}
use Rattle.std.proofs.lemmas.Bool.{cases_lt}
use Rattle.std.proofs.lemmas.Int.{ints}
use Rattle.std.proofs.lemmas.List.{get_or_past, length-map, length-take}
use Rattle.std.proofs.lemmas.List.Elements.{All-cons, All-contains, All-get_or, All-head, All-map, All-nil, All-tail, All-take, All-weaker}
use Rattle.std.proofs.lemmas.List.FromFn.{length-range_with_len}
use Rattle.std.proofs.lemmas.List.Sums.{count_by-le-length, length-filter}
use Rattle.std.proofs.lemmas.Option.{get_or_from_slice_get, slice_get-get_or, slice_get_within}
use Rattle.range_estimator.specs.Estimation.{IsTable}
use Rattle.range_estimator.specs.declared.row.Row.{Row}
use Rattle.range_lanes.specs.Extent.{IsExtent}
use Rattle.range_lanes.specs.declared.extent.Extent.{Extent}
use Rattle.range_options.specs.Levels.{AreLevels, IsLevel}
use Rattle.range_options.specs.Limits.{file_limit}
use Rattle.range_plane.specs.ConvexCover.{is_covered}
use Rattle.range_plane.specs.Edges.{at}
use Rattle.range_plane.specs.Fix.{fix_limit}
use Rattle.range_plane.specs.Plane.{IsCoordinate, IsWithinLimits, Position, origin, turn_limit}
use Rattle.range_plane.specs.Polygon.{IsPolygon, area2}
use Rattle.range_plane.specs.Row.{IsRow, points_of}
use Rattle.range_plane.specs.declared.fix.Fix.{Fix}
use Rattle.range_plane.specs.declared.scale.Scale.{Scale}
use Rattle.range_stats.specs.Percent.{IsPercentRow, count_before, indices, kept_count, nearest, nearest_points}
use Rattle.range_stats.specs.declared.percents.PercentRow.{PercentRow}
use Rattle.range_fixes.specs.Law.{ReadsExactly}
use Rattle.range_fixes.specs.Reading.{reading}
use Rattle.range_analysis.specs.Analysis.{IsAnimalOf}
use Rattle.range_analysis.specs.Animals.{IsAnimal, IsOverlap, pairs, points_at}
use Rattle.range_analysis.specs.Entries.{Entry, of_animal, of_fault, points_in}
use Rattle.range_analysis.specs.Sources.{Gives, IsAnalysisOf}
use Rattle.range_analysis.specs.declared.analysis.Analysis.{Analysis}
use Rattle.range_analysis.specs.declared.animal.Animal.{Animal}
use Rattle.range_analysis.specs.declared.animal.OverlapRow.{OverlapRow}
use Rattle.page_report.specs.declared.fields.TheConstants.{MOST}
use Rattle.page_laws.specs.Within.{IsAnalysisWithin, IsAnimalWithin, IsExtentWithin, IsOverlapWithin, IsPercentWithin, IsRowWithin, pair_of}
use Rattle.page_laws.proofs.Polygons.{area_within, corners_within, few_corners}
use Rattle.page_laws.proofs.ReadingWithin.{AreFixesWithin, IsFixWithin, reading_within}

-- ---- polygons
-- a doubled area, as a number
area_number : (S L : List Position) (area : ℕ) → IsPolygon S L → All IsWithinLimits S → pos area ≡ area2 L → area ≤ MOST
area_number S L area polygon limits is =
    let most : pos area ≤ℤ pos turn_limit = subst (λ z. z ≤ℤ pos turn_limit) (sym is) (area_within S L polygon limits) in
    omega (arith, ints, most)

points_within : (fixes : List Fix) → All IsFixWithin fixes → All IsWithinLimits (points_of fixes)
points_within fixes each = All-map IsWithinLimits (λ (fix : Fix). fix.at) fixes (All-weaker IsFixWithin (λ fix. IsWithinLimits fix.at) (λ fix within. within.1) fixes each)

-- ---- the box
box_within : (points : List Position) (extent : Extent) → All IsWithinLimits points → IsExtent points extent → IsExtentWithin extent
box_within points extent limits is =
    let eastings : All IsCoordinate (map (λ (p : Position). p.e) points) =
    All-map IsCoordinate (λ (p : Position). p.e) points (All-weaker IsWithinLimits (λ p. IsCoordinate p.e) (λ p within. within.0) points limits) in
    let northings : All IsCoordinate (map (λ (p : Position). p.n) points) =
    All-map IsCoordinate (λ (p : Position). p.n) points (All-weaker IsWithinLimits (λ p. IsCoordinate p.n) (λ p within. within.1) points limits) in
    record {
      west = All-contains IsCoordinate _ extent.min_e eastings is.min_e.0;
      south = All-contains IsCoordinate _ extent.min_n northings is.min_n.0;
      east = All-contains IsCoordinate _ extent.max_e eastings is.max_e.0;
      north = All-contains IsCoordinate _ extent.max_n northings is.max_n.0;
    }

-- ---- rows
second_found : (found : Option Fix) (second : ℕ) → option_map (λ (fix : Fix). fix.second) found ≡ Some second → (fix : Fix) × (found ≡ Some fix) × (fix.second ≡ second)
second_found None second is = absurd cc
second_found (Some fix) second is = (fix, refl, cc)

row_within : (fixes : List Fix) (n : ℕ) (row : Row) → length fixes ≤ fix_limit → All IsFixWithin fixes → IsRow fixes n row.second row.corners row.area2 → IsRowWithin row
row_within fixes n row few each is =
    let last = second_found (slice_get fixes (n - 1)) row.second is.last in
    let fix : IsFixWithin last.0 = subst IsFixWithin (get_or_from_slice_get fixes (n - 1) last.0 last.0 last.1)
    (All-get_or IsFixWithin fixes (n - 1) last.0 (slice_get_within fixes (n - 1) last.0 last.1) each) in
    let points = points_of (take n fixes) in
    let corners = few_corners points is.polygon.0 is.polygon.1 in
    record {
      second = omega (arith, fix.0, last.2);
      corners = omega (arith, few, corners, is.polygon.2, length-map (take n fixes) (λ (fix : Fix). fix.at), length-take n fixes);
      area2 = area_number points is.polygon.0 row.area2 is.polygon.1 (points_within (take n fixes) (All-take IsFixWithin n fixes each)) (sym is.polygon.3);
    }

table_within : (fixes : List Fix) (rows : List Row) → length fixes ≤ fix_limit → All IsFixWithin fixes → IsTable fixes rows → All IsRowWithin rows
table_within fixes rows few each is =
    λ k d below. row_within fixes (k + 1) (get_or rows k d) few each (is.each k (get_or rows k d) (slice_get-get_or rows k d below))

-- ---- percent polygons
few_nearest : (points : List Position) (k : ℕ) → length (nearest points k) ≤ length points
unfolding nearest
few_nearest points k =
    let is_near = λ (j : ℕ). nat_lt (count_before points j) k in
    omega (arith, length-filter is_near (indices points), count_by-le-length is_near (indices points), length-range_with_len 0 (length points))

origin_within : IsWithinLimits origin
origin_within = ((omega (arith, ints), omega (arith, ints)), (omega (arith, ints), omega (arith, ints)))

at_within : (points : List Position) (i : ℕ) → All IsWithinLimits points → IsWithinLimits (at points i)
at_within points i limits = elim (cases_lt i (length points)) [
  | inl below ↦ All-get_or IsWithinLimits points i origin below limits
  | inr past ↦ rw (get_or_past points i origin past) origin_within
]

nearest_within : (points : List Position) (k : ℕ) → All IsWithinLimits points → All IsWithinLimits (nearest_points points k)
nearest_within points k limits = All-map IsWithinLimits (at points) (nearest points k) (λ i d below. at_within points _ limits)

percent_within : (points : List Position) (level : ℕ) (row : PercentRow) → length points ≤ fix_limit → All IsWithinLimits points → IsLevel level
    → IsPercentRow points level row → IsPercentWithin row
percent_within points level row few limits is_level is =
    let kept = kept_count level (length points) in
    let near = nearest_points points kept in
    let corners = few_corners near is.polygon.0 is.polygon.1 in
    record {
      level = omega (arith, is.same_level, is_level.1);
      kept = omega (arith, is.kept, few_nearest points kept, few);
      corners = omega (arith, is.polygon.2, corners, length-map (nearest points kept) (at points), few_nearest points kept, few);
      area2 = area_number near is.polygon.0 row.area2 is.polygon.1 (nearest_within points kept limits) is.polygon.3;
    }

percents_within : (points : List Position) (levels : List ℕ) (rows : List PercentRow) → length points ≤ fix_limit → All IsWithinLimits points → All IsLevel levels
    → AllZip (IsPercentRow points) levels rows → All IsPercentWithin rows
percents_within points [] [] few limits are_levels is = All-nil IsPercentWithin
percents_within points [] (row ∷ rows) few limits are_levels is = absurd is
percents_within points (level ∷ levels) [] few limits are_levels is = absurd is
percents_within points (level ∷ levels) (row ∷ rows) few limits are_levels is =
    All-cons IsPercentWithin row rows (percent_within points level row few limits (All-head IsLevel level levels are_levels) is.0)
    (percents_within points levels rows few limits (All-tail IsLevel level levels are_levels) is.1)

-- ---- an animal
animal_within : (levels : List ℕ) (name : List ℕ) (fixes : List Fix) (animal : Animal) → AreLevels levels → AreFixesWithin name fixes → IsAnimal levels name fixes animal
    → IsAnimalWithin animal
animal_within levels name fixes animal are_levels within is =
    let points = points_of fixes in
    let limits = points_within fixes within.each in
    let few : length points ≤ fix_limit = omega (arith, within.few, length-map fixes (λ (fix : Fix). fix.at)) in
    record {
      named = rw is.same_name within.named;
      extent = box_within points animal.extent limits is.box;
      few_rows = omega (arith, within.few, is.table.count);
      rows = table_within fixes animal.rows within.few within.each is.table;
      few_corners = omega (arith, few, few_corners points animal.polygon is.polygon);
      corners = corners_within points animal.polygon is.polygon limits;
      percents = percents_within points levels animal.percents few limits are_levels is.percents;
    }

-- ---- overlaps
module _ (points : List (List Position)) (few : All (λ own. length own ≤ fix_limit) points) where
  few_at : (place : ℕ) → length (points_at points place) ≤ fix_limit
  few_at place = elim (cases_lt place (length points)) [
    | inl below ↦ All-get_or (λ own. length own ≤ fix_limit) points place [] below few
    | inr past ↦ rw (get_or_past points place [] past) (omega arith)
  ]

  overlap_within : (pair : ℕ × ℕ) (row : OverlapRow) → IsOverlap points pair row → IsOverlapWithin row
  overlap_within pair row is = record {
    count = omega (arith, is.count, count_by-le-length (is_covered (points_at points pair.1)) (points_at points pair.0), few_at pair.0);
    fixes = omega (arith, is.fixes, few_at pair.0);
  }

  overlaps_within : (both : List (ℕ × ℕ)) (rows : List OverlapRow) → AllZip (IsOverlap points) both rows → All IsOverlapWithin rows
  overlaps_within [] [] is = All-nil IsOverlapWithin
  overlaps_within [] (row ∷ rows) is = absurd is
  overlaps_within (pair ∷ both) [] is = absurd is
  overlaps_within (pair ∷ both) (row ∷ rows) is = All-cons IsOverlapWithin row rows (overlap_within pair row is.0) (overlaps_within both rows is.1)

  overlaps_paired : (both : List (ℕ × ℕ)) (rows : List OverlapRow) → AllZip (IsOverlap points) both rows → map pair_of rows ≡ both
  overlaps_paired [] [] is = refl
  overlaps_paired [] (row ∷ rows) is = absurd is
  overlaps_paired (pair ∷ both) [] is = absurd is
  overlaps_paired (pair ∷ both) (row ∷ rows) is =
      ap₂ (λ first others. first ∷ others) (ap₂ (λ animal range. (animal, range)) is.0.animal is.0.range) (overlaps_paired both rows is.1)

-- ---- all files
same_length : {A B : Type 0} (R : A → B → Type 0) (xs : List A) (ys : List B) → AllZip R xs ys → length xs ≡ length ys
same_length R [] [] all = refl
same_length R [] (y ∷ ys) all = absurd all
same_length R (x ∷ xs) [] all = absurd all
same_length R (x ∷ xs) (y ∷ ys) all = ap suc (same_length R xs ys all.1)

module _ (reads_exactly : ReadsExactly) (unit : Scale) (levels : List ℕ) (are_levels : AreLevels levels) where
  entry_within : (bytes name : List ℕ) (fixes : List Fix) → Gives (Some (reading unit bytes)) (of_animal name fixes) → AreFixesWithin name fixes
  entry_within bytes name fixes gives = subst (AreFixesWithin name) gives.1.all (reading_within reads_exactly unit bytes name gives.1.animal)

  animals_within : (files : List (List ℕ)) (entries : List Entry) (animals : List Animal) → AllZip Gives (map (λ bytes. Some (reading unit bytes)) files) entries
      → AllZip (IsAnimalOf levels) entries animals → All IsAnimalWithin animals
  animals_within files [] [] gives is = All-nil IsAnimalWithin
  animals_within files [] (animal ∷ animals) gives is = absurd is
  animals_within files (entry ∷ entries) [] gives is = absurd is
  animals_within [] (entry ∷ entries) (animal ∷ animals) gives is = absurd gives
  animals_within (bytes ∷ files) (of_fault fault ∷ entries) (animal ∷ animals) gives is = absurd is.0
  animals_within (bytes ∷ files) (of_animal name fixes ∷ entries) (animal ∷ animals) gives is =
      All-cons IsAnimalWithin animal animals (animal_within levels name fixes animal are_levels (entry_within bytes name fixes gives.0) is.0)
      (animals_within files entries animals gives.1 is.1)

  few_points : (files : List (List ℕ)) (entries : List Entry) → AllZip Gives (map (λ bytes. Some (reading unit bytes)) files) entries
      → All (λ own. length own ≤ fix_limit) (map points_in entries)
  few_points files [] gives = All-nil (λ own. length own ≤ fix_limit)
  few_points [] (entry ∷ entries) gives = absurd gives
  few_points (bytes ∷ files) (of_fault fault ∷ entries) gives =
      All-cons (λ own. length own ≤ fix_limit) [] (map points_in entries) (omega arith) (few_points files entries gives.1)
  few_points (bytes ∷ files) (of_animal name fixes ∷ entries) gives =
      let own = entry_within bytes name fixes gives.0 in
      All-cons (λ own. length own ≤ fix_limit) (points_of fixes) (map points_in entries) (omega (arith, own.few, length-map fixes (λ (fix : Fix). fix.at)))
      (few_points files entries gives.1)

  pub analysis_within : (files : List (List ℕ)) (analysis : Analysis) → length files ≤ file_limit
      → IsAnalysisOf (map (λ bytes. Some (reading unit bytes)) files) levels unit analysis → IsAnalysisWithin analysis
  analysis_within files analysis few is =
      let entries = is.0 in
      let gives = is.1 in
      let own = is.2 in
      let points = few_points files entries gives in
      let count : length entries ≡ length analysis.animals = same_length (IsAnimalOf levels) entries analysis.animals own.animals in
      record {
        few = omega (arith, few, count, same_length Gives (map (λ bytes. Some (reading unit bytes)) files) entries gives, length-map files (λ bytes. Some (reading unit bytes)));
        animals = animals_within files entries analysis.animals gives own.animals;
        paired = overlaps_paired (map points_in entries) points (pairs (length entries)) analysis.overlaps own.overlaps ∙ ap pairs count;
        overlaps = overlaps_within (map points_in entries) points (pairs (length entries)) analysis.overlaps own.overlaps;
      }
