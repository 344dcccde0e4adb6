-- What holds of the numbers of tables.
use Rattle.std.specs.Prelude.{◌≡◌, ℕ, ◌+◌, ◌*◌, ◌/◌, ◌%◌, ◌<◌, ◌^◌}
use Rattle.range_plane.specs.declared.scale.Scale.{Scale}
use Rattle.page_text.specs.Figures.{hectare}
use Rattle.page_tables.specs.Numbers.{places_of}

-- the whole part and the decimals of hectares come to the area exactly, and the decimals are below one
abbrev pub HectaresAreExact : Type 0
HectaresAreExact =
    (area2 : ℕ) (unit : Scale)
    → (hectare unit * (area2 / hectare unit * 10 ^ places_of unit + area2 % hectare unit * 5) ≡ area2 * 10 ^ places_of unit)
    × (area2 % hectare unit * 5 < 10 ^ places_of unit)
