-- What is known of the files of one line, and of all lines.
use Rattle.std.specs.Prelude.{◌≡◌, ℕ, ◌+◌, ◌*◌, ◌<◌, ◌≤◌, List, length, slice_get, Some, Option, Bool, All}
use Rattle.std.specs.declared.clone.Clone.{Ghosts}
use Rattle.range_options.specs.Limits.{file_limit}
use Rattle.range_fixes.specs.Reading.{Reading}
use Rattle.range_line.specs.LineEnds.{files_from, first_file, new_feeder, FeederView, Line, TakerView}
use Rattle.range_line.specs.Messages.{of_file, IsLawful}
use Rattle.range_collect.specs.Results.{IsFollowed}
use Rattle.range_pump.specs.Pump.{IsPumped, ReadResult}
use Rattle.range_collect.specs.declared.followed.Followed.{Followed}

-- the first file of a line, and the step to the next
abbrev pub IsStride : ℕ → ℕ → Type 0
IsStride first step = (first < file_limit) × (1 ≤ step) × (step ≤ file_limit)

-- what is known of a feeder that was looked at, and of whether its mark was taken
pub record IsSeen (feeder : FeederView) (taken : Bool) : Type 0 where
  pub marked : taken ≡ feeder.closed
  pub own : of_file feeder.sent feeder.file ≡ feeder.sent
  pub lawful : IsLawful feeder.sent feeder.file

-- the pumps of a line have returned, and its worker has nothing more to take
pub record IsLineRun (first step size : ℕ) (sources : List (Option Reading)) (feeders : List FeederView) (reads : List ReadResult) (worker : TakerView) : Type 0 where
  pub counts : (length feeders ≡ length sources) × (length reads ≡ length sources)
  pub files : worker.files ≡ files_from first step (length sources)
  pub begins : first_file worker.line ≡ first
  pub pumped : (index : ℕ) (source : Option Reading) (f : FeederView) (r : ReadResult) → slice_get sources index ≡ Some source → slice_get feeders index ≡ Some f
      → slice_get reads index ≡ Some r → IsPumped source size (new_feeder worker.line (first + index * step)) f r

-- the files of a line were followed
pub record IsLineFollowed {A : Type 0} {clone : Ghosts A} (first step size : ℕ) (sources : List (Option Reading))
    (results : List (Followed A clone)) : Type 0 where
  pub line : Line
  pub begins : first_file line ≡ first
  pub of_line : All (λ f. f.feeder.line ≡ line) results
  pub count : length results ≡ length sources
  pub followed : (index : ℕ) (source : Option Reading) (f : Followed A clone) → slice_get sources index ≡ Some source → slice_get results index ≡ Some f
      → IsFollowed source (first + index * step) size f

-- the files of all lines were followed, the line at a index having the file of this number first
pub record AreLinesFollowed {A : Type 0} {clone : Ghosts A} (size : ℕ) (shares : List (List (Option Reading)))
    (results : List (List (Followed A clone))) : Type 0 where
  pub count : length results ≡ length shares
  pub each : (index : ℕ) (sources : List (Option Reading)) (followed : List (Followed A clone)) → slice_get shares index ≡ Some sources
      → slice_get results index ≡ Some followed
      → IsLineFollowed index (length shares) size sources followed
