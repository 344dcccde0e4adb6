-- What is known of each file once all were followed.
use Rattle.std.specs.Prelude.{◌≡◌, ℕ, ◌<◌, List, length, Option, Bool, true, false, Err, IsOk}
use mathlib.Core.List.{IsPrefix}
use Rattle.range_plane.specs.declared.fix.Fix.{Fix}
use Rattle.range_fixes.specs.declared.read_fault.ReadFault.TheVariants.{Gone}
use Rattle.range_fixes.specs.Reading.{Reading}
use Rattle.range_line.specs.LineEnds.{FeederView}
use Rattle.range_line.specs.Messages.{IsLawful, fixes}
use Rattle.range_estimator.specs.Estimation.{Estimation, IsEstimate}
use Rattle.range_pump.specs.Pump.{IsPumpedFrom, ReadResult}

-- the estimator took a beginning of the fixes, and all of them where it has not stopped; row n is that of the first n fixes that it took, and the corners
-- are those of all of them
pub record Holds (e : Estimation) (sent : List Fix) : Type 0 where
  pub prefix : IsPrefix e.fixes sent
  pub whole : e.stopped ≡ false → e.fixes ≡ sent
  pub estimate : IsEstimate e.fixes e.rows e.corners

-- the file with this number was followed in blocks of this size, by its feeder, what its reader says, its estimator and
-- its mark; where its source tells its bytes, this is what they say
pub record IsFollowedAs (source : Option Reading) (number size : ℕ) (feeder : FeederView) (read : ReadResult) (e : Estimation) (mark : Bool) : Type 0 where
  pub file : feeder.file ≡ number
  pub ended : feeder.ended ≡ true
  pub pumped : IsPumpedFrom source size feeder read
  -- nothing stands after the mark
  pub lawful : IsLawful feeder.sent number
  pub holds : Holds e (fixes feeder.sent number)
  pub marked : mark ≡ feeder.closed

-- what is true of every result: a mark was sent where it was taken, a block was handed back only before it, and a file that was read to its end and taken whole
-- has a fix
pub record IsResult (feeder : FeederView) (read : ReadResult) (e : Estimation) (mark : Bool) : Type 0 where
  pub marked : mark ≡ true → feeder.closed ≡ true
  pub gone : read ≡ Err Gone → feeder.closed ≡ false
  pub some : IsOk read → mark ≡ true → e.stopped ≡ false → 0 < length e.fixes
