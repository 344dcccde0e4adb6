-- What is known of where a text goes.
use Rattle.std.specs.Prelude.{◌≡◌, ◌⊎◌, ⊤, ℕ, List, Option, None, Some}
use Rattle.std.specs.Io.KnownBytes.{Appends}
use Rattle.std.specs.IoError.{error_kind}
use Rattle.std.specs.declared.io.Error.{Error}
use Rattle.std.specs.declared.io.ErrorKind.TheVariants as kind
use Rattle.range_run.specs.WrittenPrefix.{AppendsPrefix}

-- where it is known, it is this
abbrev pub IsKnown : {T : Type 0} → T → Option T → Type 0
IsKnown x None = ⊤
IsKnown x (Some known) = known ≡ x

-- as far as it is known why the last call that failed has failed, one has
abbrev pub HasFailed : Option (Option Error) → Type 0
HasFailed last_failure = (error : Error) × IsKnown (Some error) last_failure

-- known bytes grow by a text, or by a beginning of it where a call has failed
abbrev pub AppendsOrFails : Option (Option Error) → Option (List ℕ) → Option (List ℕ) → List ℕ → Type 0
AppendsOrFails last_failure old new text = Appends old new text ⊎ (HasFailed last_failure × AppendsPrefix old new text)

-- as far as it is known, the last call that failed was interrupted by a signal
abbrev pub IsInterrupted : Option (Option Error) → Type 0
IsInterrupted None = ⊤
IsInterrupted (Some None) = ⊥
IsInterrupted (Some (Some error)) = error_kind error ≡ kind.Interrupted

-- the last call that failed is still the same, or a signal interrupted it
abbrev pub IsSteady : Option (Option Error) → Option (Option Error) → Type 0
IsSteady old new = (new ≡ old) ⊎ IsInterrupted new

-- as far as it is known, no call has failed, or the last that has was interrupted by a signal
abbrev pub IsIntact : Option (Option Error) → Type 0
IsIntact last_failure = IsKnown None last_failure ⊎ IsInterrupted last_failure
