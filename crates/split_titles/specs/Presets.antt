-- The presets of makers.
use Rattle.std.specs.Prelude.{ℕ, if◌then◌else◌, List, [], ◌∷◌, Option, Some, None}
use Rattle.std.specs.Str.{bytes_eq}
use Rattle.split_titles.specs.declared.presets.Preset.{Preset}

-- the first of presets that is of a maker
unfoldable pub first_preset : List Preset → List ℕ → Option Preset
first_preset [] maker = None
first_preset (preset ∷ others) maker = if bytes_eq preset.maker.now maker then Some preset else first_preset others maker
