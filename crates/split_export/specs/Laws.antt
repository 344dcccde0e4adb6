-- The file of each animal is read back.
use Rattle.std.specs.Prelude.{◌≡◌, ◌<◌, ◌≤◌, ℕ, List, length, map, All, None, Ok, Some, IsTrue}
use Rattle.range_fixes.specs.Field.{is_name}
use Rattle.range_fixes.specs.Reading.{reading}
use Rattle.range_plane.specs.Fix.{fix_limit}
use Rattle.split_files.specs.Laws.{used_of}
use Rattle.split_files.specs.declared.text.MarkedFix.{MarkedFix}
use Rattle.split_reading.specs.declared.ledger.Row.{Row}
use Rattle.split_reading.specs.Told.{IsTimely}
use Rattle.split_tracks.specs.Tracks.{entries_of, in_order}
use Rattle.split_tracks.specs.declared.fate.Entry.{Entry}
use Rattle.split_tracks.specs.declared.fate.Fate.{Fate}
use Rattle.split_fates.specs.Fates.{fates_of}
use Rattle.split_fates.specs.Marked.{fix_at}
use Rattle.split_fates.specs.declared.choice.Choice.{Choice}
use Rattle.split_export.specs.Files.{file_of}

-- the track of an animal: the entries that its records have in it, in the order of time
abbrev pub track_in : List Fate → ℕ → List Entry
track_in fates animal = in_order (entries_of fates animal)

-- its fixes, as a file has them
abbrev pub fixes_in : Choice → List Fate → ℕ → List MarkedFix
fixes_in choice fates animal = map (fix_at choice.shift) (track_in fates animal)

-- the file of each animal, with a name that files may have, reads as that name and its fixes that are used, with no fault,
-- where it has no more fixes than a file may have, and one that is used
abbrev pub FilesAreReadBack : Type 0
FilesAreReadBack = (choice : Choice) (rows : List Row) (fates : List Fate) (animal : ℕ) (name : List ℕ) → All (λ row. IsTimely row.told) rows
    → fates_of choice rows ≡ Ok fates → IsTrue (is_name name) → length (fixes_in choice fates animal) ≤ fix_limit
    → 0 < length (used_of (fixes_in choice fates animal))
    → reading choice.unit (file_of choice name (track_in fates animal)).text ≡ record { animal = Some name; fixes = used_of (fixes_in choice fates animal); fault = None }
