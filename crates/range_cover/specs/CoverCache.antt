-- What contracts see of a cache of cover flags.
use Rattle.std.specs.Prelude.{Bool, List, Option}
use Rattle.range_plane.specs.Plane.{Position}

-- the copy of the polygon, if there is one, and for each point of the last block whether that polygon covers it
pub record CoverCacheView : Type 0 where
  pub copy : Option (List Position)
  pub flags : List Bool
