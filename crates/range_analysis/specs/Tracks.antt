-- Animals before their analysis is made, and what is known of each by itself.
use Rattle.std.specs.Prelude.{ℕ, ◌≡◌, List, map}
use Rattle.range_plane.specs.Plane.{Position}
use Rattle.range_plane.specs.Row.{points_of}
use Rattle.range_analysis.specs.Animals.{IsAnimal}
use Rattle.range_analysis.specs.declared.animal.Animal.{Animal}
use Rattle.range_analysis.specs.declared.measured.Measured.{Measured}
use Rattle.range_analysis.specs.declared.track.Track.{Track}
use Rattle.range_analysis.specs.Entries.{Entry, of_animal}

-- the points of each track's fixes
abbrev pub points_on : List Track → List (List Position)
points_on tracks = map (λ t. points_of t.estimator.fixes) tracks

-- the animal of the track, with percent polygons at these levels
abbrev pub IsAnimalOn : List ℕ → Track → Animal → Type 0
IsAnimalOn levels track animal = IsAnimal levels track.name track.estimator.fixes animal

-- the animal of the track, with its points
pub record IsMeasuredOf (levels : List ℕ) (track : Track) (measured : Measured) : Type 0 where
  pub animal : IsAnimalOn levels track measured.animal
  pub points : measured.fixes.points ≡ points_of track.estimator.fixes

-- what their files gave
abbrev pub entries_in : List Track → List Entry
entries_in tracks = map (λ t. of_animal t.name t.estimator.fixes) tracks
