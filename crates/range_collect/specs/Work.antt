-- What the estimators of a line hold.
use Rattle.std.specs.Prelude.{◌≡◌, ℕ, ◌+◌, ◌*◌, List, [], ◌∷◌, ◌++◌, length, slice_get, Some, Contains}
use Rattle.range_line.specs.declared.message.Message.{Message}
use Rattle.range_line.specs.LineEnds.{files_from}
use Rattle.range_line.specs.Messages.{fixes, IsLawful}
use Rattle.range_estimator.specs.Estimation.{Estimation}
use Rattle.range_collect.specs.Follow.{Holds}

-- each estimator holds what was taken of its file, the files being numbered from the first on by this step
abbrev pub EachHolds : ℕ → ℕ → List Message → List Estimation → Type 0
EachHolds first step taken es = (index : ℕ) (e : Estimation) → slice_get es index ≡ Some e → Holds e (fixes taken (first + index * step))

-- the message, of a file that one of the estimators is for, lawfully comes after what was taken, which they hold
pub record ComesTo (first step : ℕ) (taken : List Message) (m : Message) (es : List Estimation) : Type 0 where
  pub of_line : Contains (files_from first step (length es)) m.file
  pub lawful : IsLawful (taken ++ m ∷ []) m.file
  pub holds : EachHolds first step taken es
