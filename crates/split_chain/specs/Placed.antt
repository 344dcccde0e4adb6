-- On which grid the fixes of a table are.
use Rattle.std.specs.Prelude.{◌≡◌, ◌⊎◌, ℤ, pos, Bool, true, ◌&&◌, not, List, map, None, is_some, if◌then◌else◌}
use Rattle.range_plane.specs.declared.scale.Scale.{Scale}
use Rattle.split_reading.specs.declared.ledger.Row.{Row}
use Rattle.split_titles.specs.declared.columns.Columns.{Columns}
use Rattle.split_fates.specs.Projected.{beside_place}
use Rattle.split_fates.specs.Shift.{own_shift}
use Rattle.split_fates.specs.declared.choice.Choice.{Choice}

-- rows are those of a table as its records have them; or longitude and latitude are projected, of which nothing is said but that
-- all else stays
abbrev pub ArePlaced : {A : Type 0} → Columns A → List Row → List Row → Type 0
ArePlaced columns old new = (new ≡ old) ⊎ ((is_some columns.degrees ≡ true) × (map beside_place new ≡ map beside_place old))

-- whether a table has metres that are not those of UTM
abbrev pub has_own_grid : {A : Type 0} → Columns A → Bool
has_own_grid columns = is_some columns.metres && not columns.is_utm

-- by how many units coordinates are shifted: those of a table's own grid alone are
abbrev pub shift_of_table : {A : Type 0} → Columns A → Scale → List Row → ℤ × ℤ
shift_of_table columns unit rows = if has_own_grid columns then own_shift unit rows else (pos 0, pos 0)

-- which fixes of such rows are taken, and on which grid
pub record IsChoice {A : Type 0} (columns : Columns A) (rows : List Row) (unit : Scale) (keeps_marks : Bool) (choice : Choice) : Type 0 where
  pub is_unit : choice.unit ≡ unit
  pub marks : choice.keeps_marks ≡ keeps_marks
  pub shift : choice.shift ≡ shift_of_table columns unit rows
  pub zone : has_own_grid columns ≡ true → choice.zone ≡ None
