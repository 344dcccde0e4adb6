-- How the program answers: a status, what it wrote, and what it said.
use Rattle.std.specs.Prelude.{◌≡◌, ◌⊎◌, ℕ, List, Option, None, Some}
use Rattle.std.specs.declared.io.Error.{Error}
use Rattle.std.specs.declared.io.ErrorKind.TheVariants as kind
use Rattle.std.specs.IoError.{error_kind}
use Rattle.range_texts.specs.Seen.{IsOneLine}
use Rattle.range_command.specs.Outlet.{AppendsOrFails, IsKnown}
use Rattle.range_command.specs.RefusalText.{IsTelling, line_of}
use Rattle.range_command.specs.declared.refusal.Refusal.{Refusal}

-- the last failure of an output, if there was one, is that its reader has gone
abbrev pub HasLeft : Option Error → Type 0
HasLeft None = ⊥
HasLeft (Some error) = error_kind error ≡ kind.BrokenPipe

-- where the last failure of the output, as far as it is known, is that its reader has gone, the errors stay as they
-- were; else the refusal was said there, or the beginning of its line where one of their calls has failed
abbrev pub IsSaid : {X : Type 0} → Option (Option Error) → Refusal → (X → Option (List ℕ)) → (X → Option (Option Error)) → X → X → Type 0
IsSaid last refusal contents last_failure old new = (failure : Option Error) × IsKnown failure last
    × ((HasLeft failure × (new ≡ old)) ⊎ (¬ (HasLeft failure) × IsTelling refusal (last_failure new) (contents old) (contents new)))

-- one line and nothing else was said on the errors, or a beginning of it where one of their calls has failed, or nothing
-- where the output's reader has gone
abbrev pub SaysOneLine : {X : Type 0} → Option (Option Error) → (X → Option (List ℕ)) → (X → Option (Option Error)) → X → X → Type 0
SaysOneLine last contents last_failure old new = (failure : Option Error) × IsKnown failure last
    × ((HasLeft failure × (new ≡ old))
    ⊎ ((text : List ℕ) × IsOneLine text × AppendsOrFails (last_failure new) (contents old) (contents new) (line_of text)))
