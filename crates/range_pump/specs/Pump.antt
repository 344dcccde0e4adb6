-- What a pump sends of a file, and what it says of it.
use Rattle.std.specs.Prelude.{◌≡◌, ◌≢◌, ℕ, ◌<◌, List, length, Option, Some, None, true, false, Result, Ok, Err, IsOk, IfSome}
use mathlib.Core.List.{IsPrefix}
use Rattle.range_plane.specs.declared.fix.Fix.{Fix}
use Rattle.range_fixes.specs.declared.read_fault.ReadFault.{ReadFault}
use Rattle.range_fixes.specs.declared.read_fault.ReadFault.TheVariants.{Gone}
use Rattle.range_fixes.specs.Progress.{is_of_text}
use Rattle.range_fixes.specs.Reading.{Reading}
use Rattle.range_line.specs.LineEnds.{FeederView}
use Rattle.range_line.specs.Messages.{blocks, block_count, stream}

-- what a pump says of its file: the animal's name, or the first fault
abbrev pub ReadResult : Type 0
ReadResult = Result (List ℕ) ReadFault

-- what was sent of these fixes in blocks of this size: all blocks and the mark where the feeder is closed, all but
-- the mark where only the mark was handed back, and the blocks before the one that was handed back
pub record IsSent (feeder : FeederView) (fixes : List Fix) (size : ℕ) (read : ReadResult) : Type 0 where
  pub closed : feeder.closed ≡ true → (feeder.sent ≡ stream feeder.file fixes size) × (read ≢ Err Gone)
  pub unmarked : feeder.closed ≡ false → read ≢ Err Gone → feeder.sent ≡ blocks feeder.file fixes size (block_count fixes size)
  pub gone : read ≡ Err Gone → (count : ℕ) × (count < block_count fixes size) × (feeder.sent ≡ blocks feeder.file fixes size count)

-- these fixes are the first that the file says; all of them, with its animal, where it was read to its end, and all
-- of them where its fault ended it
pub record IsReadAs (r : Reading) (fixes : List Fix) (read : ReadResult) : Type 0 where
  pub prefix : IsPrefix fixes r.fixes
  pub name : (name : List ℕ) → read ≡ Ok name → (r.animal ≡ Some name) × (r.fixes ≡ fixes) × (r.fault ≡ None)
  pub fault : (fault : ReadFault) → read ≡ Err fault → is_of_text fault ≡ true → (r.fixes ≡ fixes) × (r.fault ≡ Some fault)

-- what was sent of a file in blocks of this size, and what its reader says; where its source tells its bytes, both
-- agree with what they say
pub record IsPumpedFrom (source : Option Reading) (size : ℕ) (feeder : FeederView) (read : ReadResult) : Type 0 where
  -- the fixes that were read, of which the last may not have been sent
  pub fixes : List Fix
  pub sent : IsSent feeder fixes size read
  pub some : IsOk read → 0 < length fixes
  pub told : IfSome source (λ r. IsReadAs r fixes read)

-- the same of a feeder that comes back with its line and file, of a line that has not ended
pub record IsPumped (source : Option Reading) (size : ℕ) (before after : FeederView) (read : ReadResult) : Type 0 where
  pub line : after.line ≡ before.line
  pub file : after.file ≡ before.file
  pub live : after.ended ≡ false
  pub pumped : IsPumpedFrom source size after read
