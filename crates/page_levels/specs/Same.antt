-- Whether a report says of an animal what its track says, and why a track is refused.
use Rattle.std.specs.Prelude.{ℕ, ◌≡◌, ◌≢◌, ◌⊎◌, ⊤, true, All, Contains, List, length, map, Some, None}
use Rattle.range_estimator.specs.Estimation.{IsTable}
use Rattle.range_fixes.specs.Progress.{is_of_text}
use Rattle.range_fixes.specs.Reading.{Reading}
use Rattle.range_fixes.specs.declared.read_fault.ReadFault.{ReadFault}
use Rattle.range_fixes.specs.declared.read_fault.ReadFault.TheVariants as read
use Rattle.range_lanes.specs.Extent.{IsExtent}
use Rattle.range_plane.specs.Plane.{Position, position}
use Rattle.range_plane.specs.Polygon.{IsPolygon}
use Rattle.range_plane.specs.Row.{points_of}
use Rattle.range_plane.specs.declared.fix.Fix.{Fix}
use Rattle.range_stats.specs.Percent.{IsPercentRow}
use Rattle.range_stats.specs.declared.percents.PercentRow.{PercentRow}
use Rattle.page_report.specs.declared.animal.ReadAnimal.{ReadAnimal}
use Rattle.page_report.specs.declared.corner.Corner.{Corner}
use Rattle.page_levels.specs.declared.fault.LevelFault.{LevelFault}
use Rattle.page_levels.specs.declared.fault.LevelFault.TheVariants.{OutOfMemory, Unread, OtherAnimal, OtherCount, OtherExtent, OtherRow, OtherCorner, OtherPercent}

-- what a fault of the reader of fixes is here
abbrev pub fault_of : ReadFault → LevelFault
fault_of read.OutOfMemory = OutOfMemory
fault_of fault = Unread fault

-- a track is read as a whole, and is that of the animal of this name, with these fixes
pub record IsTrackOf (name : List ℕ) (fixes : List Fix) (own : Reading) : Type 0 where
  pub whole : own.fault ≡ None
  pub animal : own.animal ≡ Some name
  pub all : own.fixes ≡ fixes

-- where a corner of a report is
abbrev pub corner_position : Corner → Position
corner_position corner = position corner.easting corner.northing

-- the corner at a position
abbrev pub corner_at : Position → Corner
corner_at p = record { easting = p.e; northing = p.n }

-- a row of a report is that of the percent polygon of these points at its level
abbrev pub IsPercentOf : List Position → PercentRow → Type 0
IsPercentOf points row = IsPercentRow points row.level row

-- a report says of an animal what these fixes say: their box, a row for each, and the corners of their polygon
pub record AreSameFixes (own : List Fix) (animal : ReadAnimal) : Type 0 where
  pub extent : IsExtent (points_of own) animal.extent
  pub table : IsTable own animal.rows.items
  pub polygon : IsPolygon (points_of own) (map corner_position animal.corners.items)

-- a report says of an animal what its track says, also of each percent polygon
pub record IsSame (animal : ReadAnimal) (own : Reading) : Type 0 where
  pub track : IsTrackOf animal.name.items own.fixes own
  pub fixes : AreSameFixes own.fixes animal
  pub percents : All (IsPercentOf (points_of own.fixes)) animal.percents.items

-- why a track is not read as that of the animal of a name
abbrev pub IsUnread : List ℕ → Reading → LevelFault → Type 0
IsUnread name own OutOfMemory = ⊤
IsUnread name own (Unread fault) = is_of_text fault ≡ true → own.fault ≡ Some fault
IsUnread name own OtherAnimal = own.animal ≢ Some name
IsUnread name own _ = ⊥

-- why fixes are not those of which a report was made
abbrev pub IsOther : List Fix → ReadAnimal → LevelFault → Type 0
IsOther fixes animal OutOfMemory = ⊤
IsOther fixes animal OtherCount = length fixes ≢ length animal.rows.items
IsOther fixes animal OtherExtent = ¬ (IsExtent (points_of fixes) animal.extent)
IsOther fixes animal OtherRow = ¬ (IsTable fixes animal.rows.items)
IsOther fixes animal OtherCorner = ¬ (IsPolygon (points_of fixes) (map corner_position animal.corners.items))
IsOther fixes animal (OtherPercent level) =
    (row : PercentRow) × Contains animal.percents.items row × (row.level ≡ level) × ¬ (IsPercentOf (points_of fixes) row)
IsOther fixes animal _ = ⊥

-- why a track is refused
abbrev pub IsRefused : ReadAnimal → Reading → LevelFault → Type 0
IsRefused animal own fault = IsUnread animal.name.items own fault ⊎ (IsTrackOf animal.name.items own.fixes own × IsOther own.fixes animal fault)
