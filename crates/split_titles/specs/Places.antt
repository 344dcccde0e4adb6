-- The columns of coordinates.
use Rattle.std.specs.Prelude.{ℕ, ◌||◌, IsTrue, Option, Some, None, is_some, ⊤}
use Rattle.split_titles.specs.Columns.{IfPairWithin, IsPairWithin}
use Rattle.split_titles.specs.declared.columns.Pair.{Pair}
use Rattle.split_titles.specs.declared.places.Places.{Places}
use Rattle.split_titles.specs.declared.usual.Family.{Family}

-- there are coordinates, and their places are of so many
pub record ArePlacesWithin (width : ℕ) (places : Places) : Type 0 where
  pub there : IsTrue (is_some places.metres || is_some places.degrees)
  pub metres : IfPairWithin width places.metres
  pub degrees : IfPairWithin width places.degrees

-- so are those that are there
abbrev pub IfPlacesWithin : ℕ → Option Places → Type 0
IfPlacesWithin width None = ⊤
IfPlacesWithin width (Some places) = ArePlacesWithin width places

-- the metres of a family that was found are of so many
abbrev pub AreFoundWithin : ℕ → Option (Family × Pair) → Type 0
AreFoundWithin width None = ⊤
AreFoundWithin width (Some found) = IsPairWithin width found.1
