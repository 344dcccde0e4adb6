-- What is known of each animal by itself makes the analysis of all.
use Rattle.std.proofs.Common.{◌≡◌, refl, sym, subst, ℕ, ◌<◌, List, [], ◌∷◌, map, All}
use Rattle.std.proofs.lemmas.List.Elements.{All-cons, All-map, All-nil}
use Rattle.std.specs.List.{AllZip}
use Rattle.range_plane.specs.Plane.{Position}
use Rattle.range_plane.specs.Polygon.{IsPolygon}
use Rattle.range_lanes.specs.Extent.{IsExtent}
use Rattle.range_analysis.proofs.AnimalPairs.{pairs_below}
use Rattle.range_analysis.specs.Overlaps.{IsKnown, points_of_each, row_of}
use Rattle.range_analysis.specs.Animals.{IsOverlap, pairs}
use Rattle.range_analysis.specs.Tracks.{IsAnimalOn, IsMeasuredOf, points_on}
use Rattle.range_analysis.specs.declared.animal.OverlapRow.{OverlapRow}
use Rattle.range_analysis.specs.declared.measured.Measured.{Measured}
use Rattle.range_analysis.specs.declared.track.Track.{Track}

-- ---- the animals
known : (levels : List ℕ) (track : Track) (measured : Measured) → IsMeasuredOf levels track measured → IsKnown measured
known levels track measured is = record {
  extent = subst (λ (S : List Position). IsExtent S measured.animal.extent) (sym is.points) is.animal.box;
  polygon = subst (λ (S : List Position). IsPolygon S measured.animal.polygon) (sym is.points) is.animal.polygon;
}

-- of each animal that was measured, the box and the polygon are those of its points
pub all_known : (levels : List ℕ) (tracks : List Track) (measured : List Measured) → AllZip (IsMeasuredOf levels) tracks measured → All IsKnown measured
all_known levels [] [] each = All-nil IsKnown
all_known levels [] (m ∷ ms) each = absurd each
all_known levels (t ∷ ts) [] each = absurd each
all_known levels (t ∷ ts) (m ∷ ms) each = All-cons IsKnown m ms (known levels t m each.0) (all_known levels ts ms each.1)

-- the animals that were measured are those of the tracks
pub animals_of : (levels : List ℕ) (tracks : List Track) (measured : List Measured) → AllZip (IsMeasuredOf levels) tracks measured
    → AllZip (IsAnimalOn levels) tracks (map (λ m. m.animal) measured)
animals_of levels [] [] each = tt
animals_of levels [] (m ∷ ms) each = absurd each
animals_of levels (t ∷ ts) [] each = absurd each
animals_of levels (t ∷ ts) (m ∷ ms) each = (each.0.animal, animals_of levels ts ms each.1)

fixes_of : (levels : List ℕ) (tracks : List Track) (measured : List Measured) → AllZip (IsMeasuredOf levels) tracks measured
    → points_of_each measured ≡ points_on tracks
fixes_of levels [] [] each = refl
fixes_of levels [] (m ∷ ms) each = absurd each
fixes_of levels (t ∷ ts) [] each = absurd each
fixes_of levels (t ∷ ts) (m ∷ ms) each =
    let first = each.0.points in
    let rest = fixes_of levels ts ms each.1 in
    cc

-- ---- the rows of overlap
zip_of_map : {X Y : Type 0} (R : X → Y → Type 0) (f : X → Y) (xs : List X) → ((x : X) → R x (f x)) → AllZip R xs (map f xs)
zip_of_map R f [] each = tt
zip_of_map R f (x ∷ xs) each = (each x, zip_of_map R f xs each)

overlap_of : (points : List (List Position)) (pair : ℕ × ℕ) → IsOverlap points pair (row_of points pair)
overlap_of points pair = record { animal = refl; range = refl; count = refl; fixes = refl }

-- the rows of pairs of measured animals are the overlaps of the tracks' points
pub overlaps_of : (levels : List ℕ) (tracks : List Track) (measured : List Measured) (n : ℕ) → AllZip (IsMeasuredOf levels) tracks measured
    → AllZip (IsOverlap (points_on tracks)) (pairs n) (map (row_of (points_of_each measured)) (pairs n))
overlaps_of levels tracks measured n each =
    rw (fixes_of levels tracks measured each) (zip_of_map (IsOverlap (points_on tracks)) (row_of (points_on tracks)) (pairs n) (overlap_of (points_on tracks)))

-- ---- the rows are of animals that there are
-- both indexes of each row are below n
pub rows_numbered : (fixes : List (List Position)) (n : ℕ) → All (λ (row : OverlapRow). (row.animal < n) × (row.range < n)) (map (row_of fixes) (pairs n))
rows_numbered fixes n = All-map (λ (row : OverlapRow). (row.animal < n) × (row.range < n)) (row_of fixes) (pairs n) (pairs_below n)
