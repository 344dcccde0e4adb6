-- Whether the marks of a record have its fix as used.
use Rattle.std.specs.Prelude.{ℕ, Bool, true, false, ◌&&◌, ◌||◌, not, Option, Some, None, Result, Ok, Err}
use Rattle.split_reading.specs.declared.fault.CellFault.{CellFault}
use Rattle.split_reading.specs.declared.fault.CellFault.TheVariants.{NoTruth}
use Rattle.split_reading.specs.declared.rules.Rules.{Rules}
use Rattle.split_reading.specs.Cells.{◌>>=◌, Record, truth_in}

-- whether a mark is there and says this
abbrev pub says : Bool → Option Bool → Bool
says truth None = false
says true (Some mark) = mark
says false (Some mark) = not mark

-- the truth of a mark, or none where the table does not have it or it is missing
abbrev pub mark_in : Rules → Option ℕ → Record → Result (Option Bool) CellFault
mark_in rules None fields = Ok None
mark_in rules (Some column) fields = truth_in rules column fields

-- a truth that has to be there
abbrev pub needed_truth : ℕ → Option Bool → Result Bool CellFault
needed_truth column (Some truth) = Ok truth
needed_truth column None = Err (NoTruth column)

-- whether a fix is used, by a column that has to say so
abbrev pub usage_in : Rules → ℕ → Record → Result Bool CellFault
usage_in rules column fields = do
  found ← truth_in rules column fields
  needed_truth column found

-- whether a fix is used: it is seen, its owner did not mark it as an outlier, and neither the algorithm nor the import did,
-- unless its owner marked it as valid
abbrev pub is_used_by : Option Bool → Option Bool → Option Bool → Option Bool → Option Bool → Bool
is_used_by visible manual algorithm imported valid =
    not (says false visible) && not (says true manual) && (says true valid || not (says true algorithm || says true imported))

-- the same by the columns of marks
abbrev pub is_used_by_marks : Rules → Record → Result Bool CellFault
is_used_by_marks rules fields = do
  visible ← mark_in rules rules.marks.visible fields
  manual ← mark_in rules rules.marks.manual_outlier fields
  algorithm ← mark_in rules rules.marks.algorithm_outlier fields
  imported ← mark_in rules rules.marks.import_outlier fields
  valid ← mark_in rules rules.marks.manual_valid fields
  Ok (is_used_by visible manual algorithm imported valid)

-- a column that says which fixes are used, or all other marks
abbrev pub is_used_with : Rules → Option ℕ → Record → Result Bool CellFault
is_used_with rules (Some column) fields = usage_in rules column fields
is_used_with rules None fields = is_used_by_marks rules fields

-- whether the marks of a record have its fix as used
abbrev pub is_used_in : Rules → Record → Result Bool CellFault
is_used_in rules fields = is_used_with rules rules.marks.usage fields
