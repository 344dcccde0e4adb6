-- The two coordinates of a place.
use Rattle.std.specs.Prelude.{ℤ, List, map, filter}
use Rattle.split_tracks.specs.declared.fate.Entry.{Entry}
use Rattle.split_doubts.specs.declared.axis.Axis.{Axis}
use Rattle.split_doubts.specs.declared.axis.Axis.TheVariants.{Easting, Northing}

-- the coordinate of an entry
abbrev pub coordinate : Axis → Entry → ℤ
coordinate Easting entry = entry.easting
coordinate Northing entry = entry.northing

-- the coordinates of the used fixes of a track, in its order
abbrev pub used_coordinates : Axis → List Entry → List ℤ
used_coordinates axis track = map (coordinate axis) (filter (λ entry. entry.is_used) track)
