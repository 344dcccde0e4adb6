-- The units in which coordinates are counted.
use Rattle.std.specs.Prelude.{ℕ, List, codes}
use Rattle.range_plane.specs.Plane.{coordinate_limit}
use Rattle.range_plane.specs.declared.scale.Scale.{Scale}
use Rattle.range_plane.specs.declared.scale.TheConstants.{METRE_LIMIT}
use Rattle.range_plane.specs.declared.scale.Scale.TheVariants.{Metre, Decimetre}

-- the greatest easting and northing in this unit of a fix that is read from a file
abbrev pub limit : Scale → ℕ
limit Metre = METRE_LIMIT
limit Decimetre = coordinate_limit

-- what a unit is called
abbrev pub unit_name : Scale → List ℕ
unit_name Metre = codes "metres"
unit_name Decimetre = codes "decimetres"
