-- Fixes of tracks, as files have them: in whole seconds, and on the grid once they are shifted.
use Rattle.std.specs.Prelude.{◌≡◌, ◌⊎◌, ℤ, ◌+ℤ◌, List}
use Rattle.std.specs.List.{Any}
use Rattle.range_plane.specs.Plane.{IsCoordinate, Position, position}
use Rattle.split_files.specs.declared.text.MarkedFix.{MarkedFix}
use Rattle.split_tracks.specs.declared.fate.Entry.{Entry}
use Rattle.split_fates.specs.declared.marked.MarkedFault.{MarkedFault}
use Rattle.split_fates.specs.declared.marked.MarkedFault.TheVariants.{OffPlane, OutOfMemory}

-- whether an entry is on the plane once it is shifted
abbrev pub IsOnPlane : ℤ × ℤ → Entry → Type 0
IsOnPlane shift entry = IsCoordinate (entry.easting +ℤ shift.0) × IsCoordinate (entry.northing +ℤ shift.1)

-- where an entry is once it is shifted
abbrev pub place_at : ℤ × ℤ → Entry → Position
place_at shift entry = position (entry.easting +ℤ shift.0) (entry.northing +ℤ shift.1)

-- the fix of an entry once it is shifted
abbrev pub fix_at : ℤ × ℤ → Entry → MarkedFix
fix_at shift entry = record {
  fix = record { second = entry.moment.second; at = place_at shift entry };
  is_used = entry.is_used;
}

-- why a track has no such fixes: memory ran out, or an entry is off the plane
abbrev pub IsMarkedFault : ℤ × ℤ → List Entry → MarkedFault → Type 0
IsMarkedFault shift track fault = (fault ≡ OutOfMemory) ⊎ Any (λ entry. (IsOnPlane shift entry → ⊥) × (fault ≡ OffPlane entry.«record»)) track
