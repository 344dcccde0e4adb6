-- Areas as hectares.
use Rattle.std.proofs.Common.{◌≡◌, ℕ, ◌+◌, ◌*◌, ◌/◌, ◌%◌, ◌<◌, ◌^◌, arith}
use Rattle.range_plane.specs.declared.scale.Scale.{Scale}
use Rattle.range_plane.specs.declared.scale.Scale.TheVariants.{Metre, Decimetre}
use Rattle.page_text.specs.Figures.{hectare}
use Rattle.page_tables.specs.Numbers.{places_of}

pub exact : (area2 : ℕ) (unit : Scale)
    → (hectare unit * (area2 / hectare unit * 10 ^ places_of unit + area2 % hectare unit * 5) ≡ area2 * 10 ^ places_of unit)
    × (area2 % hectare unit * 5 < 10 ^ places_of unit)
exact area2 Metre = (omega arith, omega arith)
exact area2 Decimetre = (omega arith, omega arith)
