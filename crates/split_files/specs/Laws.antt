-- What is written is read back.
use Rattle.std.specs.Prelude.{◌≡◌, ◌<◌, ◌≤◌, ⊤, ℕ, ℤ, pos, Bool, true, false, List, [], ◌∷◌, filter, length, map, Some, None, IsTrue}
use Rattle.range_plane.specs.Fix.{fix_limit, second_limit}
use Rattle.range_plane.specs.Scale.{limit}
use Rattle.range_plane.specs.declared.fix.Fix.{Fix}
use Rattle.range_plane.specs.declared.scale.Scale.{Scale}
use Rattle.range_fixes.specs.Field.{is_name}
use Rattle.range_fixes.specs.Reading.{reading}
use Rattle.split_files.specs.declared.text.MarkedFix.{MarkedFix}
use Rattle.split_files.specs.TrackText.{text_of}

-- a coordinate is on the grid of this unit
abbrev pub IsOnGrid : Scale → ℤ → Type 0
IsOnGrid unit coordinate = (n : ℕ) × (coordinate ≡ pos n) × (n ≤ limit unit)

-- a fix may stand in a file behind one of this second: its second is no less, and it is on the grid; without marks it is
-- used
abbrev pub MayFollow : Scale → Bool → ℕ → MarkedFix → Type 0
MayFollow unit has_marks second one =
    (second ≤ one.fix.second) × (one.fix.second ≤ second_limit) × IsOnGrid unit one.fix.at.e × IsOnGrid unit one.fix.at.n × (has_marks ≡ false → one.is_used ≡ true)

-- each of these fixes may stand behind the one before it, the first behind one of this second
abbrev pub MayFollowAll : Scale → Bool → ℕ → List MarkedFix → Type 0
MayFollowAll unit has_marks second [] = ⊤
MayFollowAll unit has_marks second (one ∷ others) = MayFollow unit has_marks second one × MayFollowAll unit has_marks one.fix.second others

-- the fixes that are used
abbrev pub used_of : List MarkedFix → List Fix
used_of fixes = map (λ one. one.fix) (filter (λ one. one.is_used) fixes)

-- the text of a track with a name that files may have, whose fixes are in the order of time and on the grid, at most as
-- many as a file may have and one of them used, reads as that name and the fixes that are used, with no fault
abbrev pub TracksAreReadBack : Type 0
TracksAreReadBack = (unit : Scale) (has_marks : Bool) (name : List ℕ) (fixes : List MarkedFix) → IsTrue (is_name name)
    → MayFollowAll unit has_marks 0 fixes → length fixes ≤ fix_limit → 0 < length (used_of fixes)
    → reading unit (text_of has_marks name fixes) ≡ record { animal = Some name; fixes = used_of fixes; fault = None }
