-- The tables of the tracks are the analysis of the files that they came from.
use Rattle.std.proofs.Common.{◌≡◌, ℕ, List, [], ◌∷◌, length, map, None, refl, sym, ap}
use Rattle.std.specs.List.{AllZip}
use Rattle.range_plane.specs.Plane.{Position}
use Rattle.range_plane.specs.Row.{points_of}
use Rattle.range_plane.specs.declared.scale.Scale.{Scale}
use Rattle.range_analysis.specs.Animals.{IsOverlap, pairs}
use Rattle.range_analysis.specs.Tracks.{IsAnimalOn, points_on}
use Rattle.range_analysis.specs.declared.analysis.Analysis.{Analysis}
use Rattle.range_analysis.specs.declared.animal.Animal.{Animal}
use Rattle.range_analysis.specs.declared.track.Track.{Track}
use Rattle.range_analysis.specs.Analysis.{IsAnalysis, IsAnimalOf}
use Rattle.range_analysis.specs.Entries.{Entry, first_fault, names_of, points_in}
use Rattle.range_analysis.specs.Names.{IsFirstRepeat}
use Rattle.range_analysis.specs.Tracks.{entries_in}
use Rattle.range_analysis.proofs.FileTracks.{entries_count}

animals_of : (levels : List ℕ) (tracks : List Track) (animals : List Animal) → AllZip (IsAnimalOn levels) tracks animals
    → AllZip (IsAnimalOf levels) (entries_in tracks) animals
animals_of levels [] [] each = tt
animals_of levels [] (a ∷ animals) each = absurd each
animals_of levels (t ∷ tracks) [] each = absurd each
animals_of levels (t ∷ tracks) (a ∷ animals) each = (each.0, animals_of levels tracks animals each.1)

points_are : (tracks : List Track) → map points_in (entries_in tracks) ≡ points_on tracks
points_are [] = refl
points_are (t ∷ tracks) = ap (λ (l : List (List Position)). points_of t.estimator.fixes ∷ l) (points_are tracks)

-- the animals and overlaps of tracks whose files had no fault, and whose names differ, are an analysis
pub tabled : (levels : List ℕ) (unit : Scale) (tracks : List Track) (entries : List Entry) (analysis : Analysis) → entries_in tracks ≡ entries
    → first_fault entries ≡ None → IsFirstRepeat (names_of (entries_in tracks)) None
    → AllZip (IsAnimalOn levels) tracks analysis.animals → AllZip (IsOverlap (points_on tracks)) (pairs (length tracks)) analysis.overlaps
    → analysis.unit ≡ unit → IsAnalysis entries levels unit analysis
tabled levels unit tracks entries analysis same faultless differ animals overlaps in_unit = record {
  whole = faultless;
  differ = rw same at differ;
  animals = rw same at (animals_of levels tracks analysis.animals animals);
  overlaps = rw (sym same, points_are tracks, entries_count tracks) overlaps;
  same_unit = in_unit;
}
