-- Points in the order of their distances from the mean of all, of which the first are those that a level keeps.
use Rattle.std.specs.Prelude.{ℕ, pos, ◌≡◌, ⊤, Contains, List, length, take}
use Rattle.range_plane.specs.Plane.{Position}
use Rattle.range_plane.specs.Polygon.{IsPolygon, area2}
use Rattle.range_stats.specs.Percent.{AreNearestFirst, kept_count}
use Rattle.range_stats.specs.declared.percents.PercentRow.{PercentRow}
use Rattle.page_levels.specs.declared.fault.LevelFault.{LevelFault}
use Rattle.page_levels.specs.declared.fault.LevelFault.TheVariants.{OutOfMemory, OtherPercent}

-- these are the points, those nearest to the mean of all first
pub record AreRanked (points ranked : List Position) : Type 0 where
  pub same_length : length ranked ≡ length points
  pub nearest_first : (k : ℕ) → AreNearestFirst points ranked k

-- the first of some points, as many as a level keeps
abbrev pub first_kept : List Position → ℕ → List Position
first_kept ranked level = take (kept_count level (length ranked)) ranked

-- the row of the percent polygon at its level, where the points that the level keeps are the first of these
pub record IsRowOfFirst (ranked : List Position) (row : PercentRow) : Type 0 where
  pub kept : row.kept ≡ length (first_kept ranked row.level)
  pub polygon : (L : List Position) × IsPolygon (first_kept ranked row.level) L × (row.corners ≡ length L) × (pos row.area2 ≡ area2 L)

-- one of some rows is another
abbrev pub IsOtherRow : List Position → List PercentRow → LevelFault → Type 0
IsOtherRow ranked rows OutOfMemory = ⊤
IsOtherRow ranked rows (OtherPercent level) = (row : PercentRow) × Contains rows row × (row.level ≡ level) × ¬ (IsRowOfFirst ranked row)
IsOtherRow ranked rows _ = ⊥
