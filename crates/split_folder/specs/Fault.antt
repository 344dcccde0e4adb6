-- Why a folder is not written, and what is left of it.
use Rattle.std.specs.Prelude.{◌≡◌, ◌<◌, ⊤, ℕ, List, Option, None, Some, length, map}
use Rattle.split_folder.specs.declared.step.Step.{Step}
use Rattle.split_folder.specs.declared.step.Step.TheVariants as steps
use Rattle.split_folder.specs.declared.fault.Stop.{Stop}
use Rattle.split_folder.specs.declared.fault.FolderFault.{FolderFault}
use Rattle.split_folder.specs.declared.fault.FolderFault.TheVariants as faults
use Rattle.split_folder.specs.declared.new_file.NewFile.{NewFile}
use Rattle.split_folder.specs.Folder.{File, IsKnown, IsUnfinished, State, nothing, sound}
use Rattle.split_folder.specs.Names.{AreGood, AreGoodBefore, IsPlain, name_at}

-- the names and the bytes of the files that are handed in, in their order
abbrev pub files_in : List NewFile → List File
files_in files = map (λ file. (file.name.now, file.text.now)) files

-- their names
abbrev pub names_in : List NewFile → List (List ℕ)
names_in files = map (λ file. file.name.now) files

-- a step that is made for so many files
abbrev pub IsStep : ℕ → Step → Type 0
IsStep count steps.Make = ⊤
IsStep count (steps.Add file) = file < count
IsStep count steps.Finish = ⊤

-- the fault is of these names: it is that of the first that is not plain or that an earlier file has; or else the names
-- are good, and it is that of a step
abbrev pub IsOfNames : List (List ℕ) → FolderFault → Type 0
IsOfNames names (faults.BadName file) = (file < length names) × AreGoodBefore names file × (IsPlain (name_at names file) → ⊥)
IsOfNames names (faults.SameName file before) = (file < length names) × AreGoodBefore names file × (before < file) × (name_at names before ≡ name_at names file)
IsOfNames names (faults.Failed step error left) = AreGood names × IsStep (length names) step

-- writing stopped at this step for this reason, and the folder is not in its place
abbrev pub IsStopped : Stop → Option State → Type 0
IsStopped stop None = ⊤
IsStopped stop (Some known) = IsUnfinished known.held × (known.failure ≡ Some (stop.step, stop.error)) × (known.left ≡ None)

-- the fault tells what happened to the folder: no call was made; or the step failed that it names, for this reason, and
-- all was removed; or removing failed too, for this reason, and the folder is not in its place
abbrev pub Tells : FolderFault → Option State → Type 0
Tells (faults.BadName file) state = IsKnown (sound nothing) state
Tells (faults.SameName file before) state = IsKnown (sound nothing) state
Tells (faults.Failed step error None) state = IsKnown (record { held = nothing; failure = Some (step, error); left = None }) state
Tells (faults.Failed step error (Some left)) None = ⊤
Tells (faults.Failed step error (Some left)) (Some known) = IsUnfinished known.held × (known.failure ≡ Some (step, error)) × (known.left ≡ Some left)

-- the fault is told before any call is made
abbrev pub IsToldFirst : FolderFault → Type 0
IsToldFirst (faults.BadName file) = ⊤
IsToldFirst (faults.SameName file before) = ⊤
IsToldFirst (faults.Failed step error left) = ⊥
