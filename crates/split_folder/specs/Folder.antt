-- What is known of a folder that is made new with files.
use Rattle.std.specs.Prelude.{◌≡◌, ⊤, ℕ, List, [], ◌∷◌, ◌++◌, Option, None, Some, length}
use Rattle.std.specs.declared.io.Error.{Error}
use Rattle.split_folder.specs.declared.step.Step.{Step}
use Rattle.split_folder.specs.declared.step.Step.TheVariants.{Add}

-- a file: its name and its bytes
abbrev pub File : Type 0
File = List ℕ × List ℕ

-- what there is of a folder: nothing; one in the making, with the files that were added, in their order; or one in its
-- place, with its files
pub data Held : Type 0 where
  nothing : Held
  begun : List File → Held
  in_place : List File → Held

-- what is known of a folder: what there is of it; the step that failed and why, if one has; and why removing failed, if
-- it has
pub record State : Type 0 where
  pub held : Held
  pub failure : Option (Step × Error)
  pub left : Option Error

-- a folder of which this is there, where no call has failed
abbrev pub sound : Held → State
sound held = record { held = held; failure = None; left = None }

-- where it is known, it is this
abbrev pub IsKnown : State → Option State → Type 0
IsKnown state None = ⊤
IsKnown state (Some known) = known ≡ state

-- no folder is in its place
abbrev pub IsUnfinished : Held → Type 0
IsUnfinished nothing = ⊤
IsUnfinished (begun files) = ⊤
IsUnfinished (in_place files) = ⊥

-- a folder is in the making
abbrev pub IsBegun : Held → Type 0
IsBegun nothing = ⊥
IsBegun (begun files) = ⊤
IsBegun (in_place files) = ⊥

-- as far as it is known, a folder is in the making and no call has failed
abbrev pub CanGoOn : Option State → Type 0
CanGoOn None = ⊤
CanGoOn (Some known) = IsBegun known.held × (known.failure ≡ None)

-- as far as it is known, no folder is in its place
abbrev pub CanBeRemoved : Option State → Type 0
CanBeRemoved None = ⊤
CanBeRemoved (Some known) = IsUnfinished known.held

-- a folder in the making with one file more
abbrev pub with_file : File → Held → Held
with_file file nothing = nothing
with_file file (begun files) = begun (files ++ file ∷ [])
with_file file (in_place files) = in_place files

-- a folder in the making, put in its place
abbrev pub put_in_place : Held → Held
put_in_place nothing = nothing
put_in_place (begun files) = in_place files
put_in_place (in_place files) = in_place files

-- how many files there are
abbrev pub count_of : Held → ℕ
count_of nothing = 0
count_of (begun files) = length files
count_of (in_place files) = length files

-- after a file was added
abbrev pub added : File → State → State
added file state = record state { held = with_file file state.held }

-- after the folder was put in its place
abbrev pub finished : State → State
finished state = record state { held = put_in_place state.held }

-- after this step failed
abbrev pub failed : Step → Error → State → State
failed step error state = record state { failure = Some (step, error) }

-- after adding a file failed, which is told by how many there are
abbrev pub not_added : Error → State → State
not_added error state = failed (Add (count_of state.held)) error state

-- after what was made was removed
abbrev pub removed : State → State
removed state = record state { held = nothing; left = None }

-- after removing failed: some of it may be gone, but it is not in its place
abbrev pub IsNotRemoved : Error → Option State → Option State → Type 0
IsNotRemoved error None new = new ≡ None
IsNotRemoved error (Some old) None = ⊥
IsNotRemoved error (Some old) (Some new) = IsUnfinished new.held × (new.failure ≡ old.failure) × (new.left ≡ Some error)
