-- Why the folder of a split is not written.
use Rattle.std.specs.Prelude.{⊤, ℕ, List, Any, IsUtf8, Option}
use Rattle.split_folder.specs.Fault as folder
use Rattle.split_folder.specs.Fault.{Tells}
use Rattle.split_folder.specs.Folder.{IsKnown, State, in_place, nothing, sound}
use Rattle.split_chain.specs.declared.chain.Split.{Split}
use Rattle.split_output.specs.Files.{files_of_split, files_of_tracks, names_of_files}
use Rattle.split_output.specs.Record.{IsTextOf}
use Rattle.split_output.specs.declared.fault.OutputFault.{OutputFault}
use Rattle.split_output.specs.declared.fault.OutputFault.TheVariants as faults
use Rattle.split_output.specs.declared.origin.Origin.{Origin}

-- a fault is of the name of a file: it is no text; or else memory ran out
abbrev pub IsOfName : List ℕ → OutputFault → Type 0
IsOfName name faults.OutOfMemory = ⊤
IsOfName name faults.NoText = IsUtf8 name → ⊥
IsOfName name (faults.Folder fault) = ⊥

-- a fault is of the name of one of the files of tracks
abbrev pub IsOfNames : Split → OutputFault → Type 0
IsOfNames split faults.OutOfMemory = ⊤
IsOfNames split faults.NoText = Any (λ file. IsUtf8 file.name → ⊥) (files_of_tracks split)
IsOfNames split (faults.Folder fault) = ⊥

-- a folder is in its place, with the files of a split and no other, of which the last has the text of its record
abbrev pub IsWritten : Origin → Split → Option State → Type 0
IsWritten origin split state = (text : List ℕ) × IsTextOf origin split text × IsKnown (sound (in_place (files_of_split split text))) state

-- a fault tells what happened to the folder: no call was made, since memory ran out or a name is no text; or
-- writing it stopped, which is a fault of these files
abbrev pub IsTold : Split → OutputFault → Option State → Type 0
IsTold split faults.OutOfMemory state = IsKnown (sound nothing) state
IsTold split faults.NoText state = IsOfNames split faults.NoText × IsKnown (sound nothing) state
IsTold split (faults.Folder fault) state = Tells fault state × folder.IsOfNames (names_of_files split) fault
