-- Levels of percent polygons.
use Rattle.std.specs.Prelude.{ℕ, ◌≤◌, All, List}
use Rattle.range_options.specs.Limits.{level_limit}

-- a level is a percentage above 0
abbrev pub IsLevel : ℕ → Type 0
IsLevel level = (1 ≤ level) × (level ≤ level_limit)

-- the levels of an analysis
abbrev pub AreLevels : List ℕ → Type 0
AreLevels levels = All IsLevel levels
