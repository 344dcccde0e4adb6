-- A reader of fixes, by its progress.
use Rattle.std.specs.Prelude.{◌≢◌, ◌≤◌, ◌<◌, ◌+◌, ℕ, Option, Some, None, IsSome, option_map}
use Rattle.std.specs.Prelude.{◌==◌, if◌then◌else◌}
use Rattle.range_plane.specs.Fix.{fix_limit}
use Rattle.range_fixes.specs.declared.read_fault.ReadFault.TheVariants.{Gone}
use Rattle.range_fixes.specs.declared.reader.Stage.{Stage}
use Rattle.range_fixes.specs.declared.reader.Stage.TheVariants.{Going, Ended, Failed}
use Rattle.range_fixes.specs.declared.reader.FixReader.TheInside.{Inside}
use Rattle.range_fixes.specs.CheckedList.{CheckedList}
use Rattle.range_fixes.specs.CheckedRecords.{IsGoing}
use Rattle.range_fixes.specs.Progress.{Progress}
use Rattle.range_fixes.specs.Reading.{Reading, no_more, reading_by}

-- what calls give from this stage on, before which so many fixes were given
abbrev pub ahead_of : Stage → ℕ → CheckedList → Option Reading
ahead_of Going count records = option_map (λ passed. reading_by count passed) records.ahead
ahead_of Ended count records = Some (no_more records.animal None)
ahead_of (Failed fault) count records = Some (no_more records.animal (Some fault))

-- the progress of a reader at this stage, before which so many fixes were given of its records
abbrev pub progress_by : Stage → ℕ → CheckedList → Progress
progress_by stage count records = record {
  count = count;
  animal = if count == 0 then None else records.animal;
  record_count = records.count;
  left = records.left;
  stage = stage;
  read_failed = records.read_failed;
  ahead = ahead_of stage count records;
}

abbrev pub progress_of : {R : Type 0} → Inside R → Progress
progress_of a = progress_by a.stage a.count a.records

-- a reader that goes on may read a record more, one that ended gave a fix, and none fails as the line does
abbrev pub StageFits : Stage → ℕ → CheckedList → Type 0
StageFits Going count records = IsGoing records
StageFits Ended count records = 0 < count
StageFits (Failed fault) count records = fault ≢ Gone

-- no more fixes were given than records were read, and the fixes have an animal
pub record IsSound {R : Type 0} (a : Inside R) : Type 0 where
  pub counted : (a.count ≤ a.records.count) × (a.count ≤ fix_limit)
  pub limit : a.records.count ≤ fix_limit + 1
  pub named : 0 < a.count → IsSome a.records.animal
  pub staged : StageFits a.stage a.count a.records
