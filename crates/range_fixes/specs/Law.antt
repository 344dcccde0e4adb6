-- What a reading is, in the words of its format: record by record.
use Rattle.std.specs.Prelude.{◌≡◌, ◌+◌, ◌<◌, ◌≤◌, ℕ, zero, suc, Bool, List, [], ◌∷◌, length, slice_get, slice_index_or, Option, Some, None, Result, Ok, Err}
use Rattle.range_plane.specs.Fix.{fix_limit}
use Rattle.range_plane.specs.declared.scale.Scale.{Scale}
use Rattle.range_fixes.specs.declared.checks.CheckedRecord.{CheckedRecord}
use Rattle.range_fixes.specs.declared.read_fault.ReadFault.{ReadFault}
use Rattle.range_fixes.specs.declared.read_fault.ReadFault.TheVariants.{BadHeader, NoHeader, TooManyFixes}
use Rattle.range_fixes.specs.Check.{checked_in}
use Rattle.range_fixes.specs.Field.{Record, first_field, header_of}
use Rattle.range_fixes.specs.Previous.{Previous, then_previous}
use Rattle.range_fixes.specs.Reading.{PassedRecords, Reading, no_more, reading_by, reading_of}

-- the record before the one at an index, with the name of the first
abbrev pub previous_at : Option Previous → List Record → List CheckedRecord → ℕ → Option Previous
previous_at previous records checked zero = previous
previous_at previous [] checked (suc k) = None
previous_at previous (fields ∷ records) [] (suc k) = None
previous_at previous (fields ∷ records) (one ∷ checked) (suc k) =
    previous_at (Some (then_previous previous (first_field fields) one.fix.second)) records checked k

-- the check of the record at an index, by its number
abbrev pub check_at : Scale → Bool → ℕ → Option Previous → List Record → List CheckedRecord → ℕ → Result CheckedRecord ReadFault
check_at unit has_use count previous records checked k = checked_in unit has_use (count + k + 1) (previous_at previous records checked k)
    (slice_index_or records k [])

-- the name of the records before, or else of the first that passes
abbrev pub animal_of : Option Previous → List Record → List CheckedRecord → Option (List ℕ)
animal_of (Some previous) records checked = Some previous.animal
animal_of None records [] = None
animal_of None records (one ∷ checked) = Some (first_field (slice_index_or records 0 []))

-- these are the records that pass, up to the first that does not, or to the limit, or to the end
pub record IsExact (unit : Scale) (has_use : Bool) (count : ℕ) (previous : Option Previous) (records : List Record) (p : PassedRecords) : Type 0 where
  pub within : length p.checked ≤ length records
  pub limit : count + length p.checked ≤ fix_limit
  pub animal : p.animal ≡ animal_of previous records p.checked
  pub passes : (k : ℕ) (one : CheckedRecord) → slice_get p.checked k ≡ Some one → check_at unit has_use count previous records p.checked k ≡ Ok one
  pub ended : length p.checked ≡ length records → p.fault ≡ None
  pub many : length p.checked < length records → count + length p.checked ≡ fix_limit → p.fault ≡ Some TooManyFixes
  pub first : length p.checked < length records → count + length p.checked < fix_limit
      → (fault : ReadFault) × (check_at unit has_use count previous records p.checked (length p.checked) ≡ Err fault) × (p.fault ≡ Some fault)

-- the records below a header are read exactly, and the fixes are those of the used ones among them
abbrev pub IsExactBelow : Scale → Option Bool → List Record → Reading → Type 0
IsExactBelow unit None records r = r ≡ no_more None (Some BadHeader)
IsExactBelow unit (Some has_use) records r = (p : PassedRecords) × IsExact unit has_use 0 None records p × (r ≡ reading_by 0 p)

abbrev pub IsExactReading : Scale → List Record → Reading → Type 0
IsExactReading unit [] r = r ≡ no_more None (Some NoHeader)
IsExactReading unit (header ∷ records) r = IsExactBelow unit (header_of header) records r

abbrev pub ReadsExactly : Type 0
ReadsExactly = (unit : Scale) (records : List Record) → IsExactReading unit records (reading_of unit records)
