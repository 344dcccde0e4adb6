-- What a reader gives for a block, and what was sent of a file before its mark.
use Rattle.std.specs.Prelude.{◌≡◌, ◌≢◌, ℕ, ◌+◌, ◌++◌, List, [], ◌∷◌, length, take, Option, false, Err}
use Rattle.range_plane.specs.declared.fix.Fix.{Fix}
use Rattle.range_fixes.specs.declared.read_fault.ReadFault.{ReadFault}
use Rattle.range_fixes.specs.declared.read_fault.ReadFault.TheVariants.{Gone}
use Rattle.range_fixes.specs.Progress.{Progress, Reads}
use Rattle.range_fixes.specs.Reading.{Reading}
use Rattle.range_line.specs.LineEnds.{FeederView, after_send}
use Rattle.range_line.specs.Messages.{block_of, all_fixes}
use Rattle.range_pump.specs.Pump.{IsPumped, ReadResult}

-- the reader gave these fixes, which are the next of each reading that it goes through
pub record GivesNext (old : Progress) (fixes : List Fix) (new : Progress) : Type 0 where
  pub count : new.count ≡ old.count + length fixes
  pub reads : (r : Reading) → Reads old r → Reads new r
  pub next : (r : Reading) → Reads old r → take new.count r.fixes ≡ take old.count r.fixes ++ fixes

-- each reading that the reader goes through has so many fixes, and after them this fault or none
abbrev pub EndsAfter : Progress → ℕ → Option ReadFault → Type 0
EndsAfter p count fault = (r : Reading) → Reads p r → (length r.fixes ≡ count) × (r.fault ≡ fault)

-- the feeder once it sent these fixes as a block, if there are any
abbrev pub after_block : FeederView → List Fix → FeederView
after_block f [] = f
after_block f (fix ∷ fixes) = after_send f (block_of (fix ∷ fixes))

-- a feeder that was not given the mark yet, and what is said of its file; its blocks joined are the fixes, but for a block that was handed back
pub record IsFed (source : Option Reading) (size : ℕ) (before after : FeederView) (read : ReadResult) : Type 0 where
  pub pumped : IsPumped source size before after read
  pub unmarked : after.closed ≡ false
  pub whole : read ≢ Err Gone → all_fixes after.sent ≡ pumped.pumped.fixes
