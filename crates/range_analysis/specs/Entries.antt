-- What each file gave: its animal and fixes, or why it cannot be read to its end.
use Rattle.std.specs.Prelude.{ℕ, ◌+◌, List, [], ◌∷◌, map, Bool, ◌||◌, not, if◌then◌else◌, Option, Some, None, option_map, Ok, Err, true, false}
use Rattle.std.specs.List.{list_any, position}
use Rattle.std.specs.declared.clone.Clone.{Ghosts}
use Rattle.range_plane.specs.Plane.{Position}
use Rattle.range_plane.specs.Row.{points_of}
use Rattle.range_plane.specs.declared.fix.Fix.{Fix}
use Rattle.range_fixes.specs.declared.read_fault.ReadFault.{ReadFault}
use Rattle.range_fixes.specs.declared.read_fault.ReadFault.TheVariants as reads
use Rattle.range_pump.specs.Pump.{ReadResult}
use Rattle.range_collect.specs.declared.followed.Followed.{Followed}
use Rattle.range_analysis.specs.declared.analyse_fault.AnalyseFault.{AnalyseFault}
use Rattle.range_analysis.specs.declared.analyse_fault.AnalyseFault.TheVariants.{OutOfMemory, LineCut, File}

-- what a file gave: its animal's name and its fixes, or why it cannot be read to its end
pub data Entry : Type 0 where
  of_animal : List ℕ → List Fix → Entry
  of_fault : ReadFault → Entry

-- the entry of a file of which the reader says this, and whose estimator took these fixes
abbrev pub entry_of : ReadResult → List Fix → Entry
entry_of (Ok name) fixes = of_animal name fixes
entry_of (Err fault) fixes = of_fault fault

abbrev pub entries_of : {A : Type 0} {clone : Ghosts A} → List (Followed A clone) → List Entry
entries_of followed = map (λ f. entry_of f.read f.estimator.fixes) followed

-- the fault of the first of these files that has one, with its number, where the first of them has this number
abbrev pub first_fault_from : ℕ → List Entry → Option AnalyseFault
first_fault_from number [] = None
first_fault_from number (of_animal name fixes ∷ entries) = first_fault_from (number + 1) entries
first_fault_from number (of_fault fault ∷ entries) = Some (File number fault)

-- the fault of the first file that has one, with its number, counted from 0
abbrev pub first_fault : List Entry → Option AnalyseFault
first_fault entries = first_fault_from 0 entries

-- the names of the animals that entries give, in their order
abbrev pub names_of : List Entry → List (List ℕ)
names_of [] = []
names_of (of_animal name fixes ∷ entries) = name ∷ names_of entries
names_of (of_fault fault ∷ entries) = names_of entries

-- the points of the fixes that a file's entry gives; none where it is a fault
abbrev pub points_in : Entry → List Position
points_in (of_animal name fixes) = points_of fixes
points_in (of_fault fault) = []

-- the reader ran out of memory
abbrev pub wants_memory : ReadResult → Bool
wants_memory (Err reads.OutOfMemory) = true
wants_memory read = false

-- memory ran out for the file, in its reader or in its estimator
abbrev pub lacks_memory : {A : Type 0} {clone : Ghosts A} → Followed A clone → Bool
lacks_memory f = f.estimator.stopped || wants_memory f.read

-- the mark of the file was not taken
abbrev pub is_cut : {A : Type 0} {clone : Ghosts A} → Followed A clone → Bool
is_cut f = not f.marked

-- why files that were followed cannot be judged by what their readers say: out of memory, else the first file whose mark was not taken
abbrev pub loss_of : {A : Type 0} {clone : Ghosts A} → List (Followed A clone) → Option AnalyseFault
loss_of followed =
    if list_any lacks_memory followed then Some OutOfMemory
    else option_map LineCut (position is_cut followed)
