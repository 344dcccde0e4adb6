-- The tracks of fates may be written: each fix is on the grid, and behind those before it.
use Rattle.std.specs.Prelude.{◌≡◌, ℕ, List, map, Ok, All}
use Rattle.split_files.specs.Laws.{MayFollowAll}
use Rattle.split_reading.specs.declared.ledger.Row.{Row}
use Rattle.split_reading.specs.Told.{IsTimely}
use Rattle.split_tracks.specs.Tracks.{entries_of, in_order}
use Rattle.split_tracks.specs.declared.fate.Fate.{Fate}
use Rattle.split_fates.specs.declared.choice.Choice.{Choice}
use Rattle.split_fates.specs.Fates.{fates_of}
use Rattle.split_fates.specs.Marked.{fix_at}

-- of timely records the fixes of each animal, in the order of time and shifted, may stand in a file as they are
abbrev pub TracksMayBeWritten : Type 0
TracksMayBeWritten = (choice : Choice) (rows : List Row) (fates : List Fate) (animal : ℕ) → All (λ row. IsTimely row.told) rows → fates_of choice rows ≡ Ok fates
    → MayFollowAll choice.unit choice.keeps_marks 0 (map (fix_at choice.shift) (in_order (entries_of fates animal)))
