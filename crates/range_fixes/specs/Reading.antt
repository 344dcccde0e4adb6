-- What the bytes of a file say: its animal, its fixes, and what is wrong after them.
use Rattle.std.specs.Prelude.{ℕ, ◌+◌, Bool, List, [], ◌∷◌, filter, length, map, Option, Some, None, Result, Ok, Err, ◌==◌, if◌then◌else◌, option_map}
use Rattle.csv.specs.Reading.{default_config, records, strip_bom}
use Rattle.range_plane.specs.Fix.{fix_limit}
use Rattle.range_plane.specs.declared.fix.Fix.{Fix}
use Rattle.range_plane.specs.declared.scale.Scale.{Scale}
use Rattle.range_fixes.specs.declared.read_fault.ReadFault.{ReadFault}
use Rattle.range_fixes.specs.declared.read_fault.ReadFault.TheVariants.{NoHeader, BadHeader, NoFixes, TooManyFixes}
use Rattle.range_fixes.specs.declared.checks.CheckedRecord.{CheckedRecord}
use Rattle.range_fixes.specs.Check.{checked_in}
use Rattle.range_fixes.specs.Field.{Record, first_field, header_of}
use Rattle.range_fixes.specs.Previous.{Previous, animal_so_far, then_previous}

-- the records below a header that pass all checks, up to the first that does not
pub record PassedRecords : Type 0 where
  -- the name of the first record
  pub animal : Option (List ℕ)
  pub checked : List CheckedRecord
  -- what is wrong after these records, or nothing where the file ends
  pub fault : Option ReadFault

-- no record more, of this animal, and what is wrong there, if anything
abbrev pub none_passed : Option (List ℕ) → Option ReadFault → PassedRecords
none_passed animal fault = record { animal = animal; checked = []; fault = fault }

-- a record that passed, and then the others
abbrev pub then_passed : CheckedRecord → PassedRecords → PassedRecords
then_passed one more = record more { checked = one ∷ more.checked }

-- a record that passed and then the others, or no record more where it did not pass
abbrev pub if_passes : Option Previous → Result CheckedRecord ReadFault → (CheckedRecord → PassedRecords) → PassedRecords
if_passes previous (Err fault) more = none_passed (animal_so_far previous) (Some fault)
if_passes previous (Ok one) more = then_passed one (more one)

-- what records come to in this unit that stand below a header behind so many others: those that pass, up to the
-- first that does not
unfoldable pub passed_after : Scale → Bool → ℕ → Option Previous → List Record → PassedRecords
passed_after unit has_use count previous [] = none_passed (animal_so_far previous) None
passed_after unit has_use count previous (fields ∷ records) =
    if count == fix_limit then none_passed (animal_so_far previous) (Some TooManyFixes)
    else if_passes previous (checked_in unit has_use (count + 1) previous fields)
    (λ one. passed_after unit has_use (count + 1) (Some (then_previous previous (first_field fields) one.fix.second)) records)

-- what the records below a first record come to, which is a header with the column `use`, one without it, or none
abbrev pub passed_below : Scale → Option Bool → List Record → PassedRecords
passed_below unit None records = none_passed None (Some BadHeader)
passed_below unit (Some has_use) records = passed_after unit has_use 0 None records

-- what all records of a file come to, of which the first has to be a header
abbrev pub passed_of : Scale → List Record → PassedRecords
passed_of unit [] = none_passed None (Some NoHeader)
passed_of unit (header ∷ records) = passed_below unit (header_of header) records

-- the fixes of the records that are used, in order
abbrev pub used_fixes : List CheckedRecord → List Fix
used_fixes checked = map (λ one. one.fix) (filter (λ one. one.used) checked)

-- what is wrong with a file of so many fixes, whose records end in this way: it has to have a fix
abbrev pub fault_after : ℕ → Option ReadFault → Option ReadFault
fault_after fixes (Some fault) = Some fault
fault_after fixes None = if fixes == 0 then Some NoFixes else None

-- what a file says: its animal, the fixes that are used, and what is wrong after them
pub record Reading : Type 0 where
  -- the name of the first record
  pub animal : Option (List ℕ)
  pub fixes : List Fix
  -- what is wrong after these fixes, or nothing where the file ends
  pub fault : Option ReadFault

-- no fix more of this animal
abbrev pub no_more : Option (List ℕ) → Option ReadFault → Reading
no_more animal fault = record { animal = animal; fixes = []; fault = fault }

-- a fix, and then the others
abbrev pub then_fixes : Fix → Reading → Reading
then_fixes fix more = record more { fixes = fix ∷ more.fixes }

-- what records that passed say, where so many fixes of the file come before them
abbrev pub reading_by : ℕ → PassedRecords → Reading
reading_by given p = record {
  animal = p.animal;
  fixes = used_fixes p.checked;
  fault = fault_after (given + length (used_fixes p.checked)) p.fault;
}

-- what the records of a file say in this unit, of which the header is the first
abbrev pub reading_of : Scale → List Record → Reading
reading_of unit records = reading_by 0 (passed_of unit records)

-- what the bytes of a file say, whose coordinates are in this unit
unfoldable pub reading : Scale → List ℕ → Reading
reading unit bytes = reading_of unit (records default_config (strip_bom bytes))

-- what the bytes of a source say in this unit, where it tells them
abbrev pub reading_from : {S : Type 0} → (S → Option (List ℕ)) → Scale → S → Option Reading
reading_from remaining unit source = option_map (reading unit) (remaining source)

-- what the bytes of each of these sources say in this unit, where it tells them
abbrev pub readings : {S : Type 0} → (S → Option (List ℕ)) → Scale → List S → List (Option Reading)
readings remaining unit sources = map (reading_from remaining unit) sources
