-- What holds of each place.
use Rattle.std.specs.Prelude.{ℕ, ◌*◌, ◌<◌, ℤ, pos, ◌+ℤ◌, ◌*ℤ◌, ◌≤ℤ◌, ◌<ℤ◌}
use Rattle.page_drawing.specs.Places.{tenths}

-- a place is at most half a tenth off, and a half is rounded up
abbrev pub PlacesAreNearest : Type 0
PlacesAreNearest =
    (part : ℤ) (whole : ℕ) → 0 < whole
    → ((pos (2 * whole) *ℤ tenths part whole) ≤ℤ (pos 20 *ℤ part +ℤ pos whole))
    × ((pos 20 *ℤ part +ℤ pos whole) <ℤ (pos (2 * whole) *ℤ tenths part whole +ℤ pos (2 * whole)))
