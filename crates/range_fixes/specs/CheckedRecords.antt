-- Reading and checking the records of a source in turn.
use Rattle.std.specs.Prelude.{◌≡◌, ◌⊎◌, ◌≤◌, ◌<◌, ◌+◌, ⊤, ℕ, Bool, true, false, List, ◌∷◌, length, drop, filter, Option, Some, None, Result, Ok, Err}
use Rattle.std.specs.Prelude.{IfSome, IsSomeAnd, option_map}
use Rattle.range_plane.specs.Fix.{fix_limit}
use Rattle.range_plane.specs.declared.scale.Scale.{Scale}
use Rattle.range_fixes.specs.declared.checked_records.CheckedRecords.TheInside.{Inside}
use Rattle.range_fixes.specs.declared.checks.CheckedRecord.{CheckedRecord}
use Rattle.range_fixes.specs.declared.read_fault.ReadFault.{ReadFault}
use Rattle.range_fixes.specs.CheckedList.{CheckedList}
use Rattle.range_fixes.specs.Field.{Record, header_of}
use Rattle.range_fixes.specs.Previous.{IsWithin, Previous, animal_so_far}
use Rattle.range_fixes.specs.Progress.{IsTaken, is_of_text}
use Rattle.range_fixes.specs.Reading.{PassedRecords, none_passed, passed_after, passed_of, then_passed}

-- what the records that are left come to, which so many come before; the header is among them until it was read
abbrev pub passed_from : Scale → Option Bool → ℕ → Option Previous → List Record → PassedRecords
passed_from unit None count previous records = passed_of unit records
passed_from unit (Some has_use) count previous records = passed_after unit has_use count previous records

-- the records that are left below the header
abbrev pub records_below : Option Bool → List Record → List Record
records_below None records = drop 1 records
records_below (Some has_use) records = records

-- what is seen of them, by the parts
abbrev pub checked_list : {R : Type 0} → Inside R → CheckedList
checked_list a = record {
  count = a.count;
  animal = animal_so_far a.previous;
  left = option_map (λ records. length (records_below a.header records)) a.records.left;
  ahead = option_map (λ records. passed_from a.unit a.header a.count a.previous records) a.records.left;
  read_failed = a.records.read_failed;
}

-- no record was read below a header that was not read
abbrev pub IsHeaded : Option Bool → ℕ → Option Previous → Type 0
IsHeaded None count previous = (count ≡ 0) × (previous ≡ None)
IsHeaded (Some has_use) count previous = ⊤

-- the header comes before the records, and the last of these was within the limits
pub record IsSound {R : Type 0} (a : Inside R) : Type 0 where
  pub headed : IsHeaded a.header a.count a.previous
  pub within : IfSome a.previous IsWithin

-- a record more may be read
abbrev pub IsGoing : CheckedList → Type 0
IsGoing records = (records.count ≤ fix_limit) × (records.read_failed ≡ false)

-- these are the records below a header, which says whether they have the column `use`
abbrev pub AreBelow : Option Bool → List Record → Bool → List Record → Type 0
AreBelow None records has_use more = (header : Record) × (records ≡ header ∷ more) × (header_of header ≡ Some has_use)
AreBelow (Some had) records has_use more = (had ≡ has_use) × (records ≡ more)

-- the header was taken, unless it was before, or what is wrong with it
abbrev pub TakesHeader : Option Bool → List Record → Result Bool ReadFault → Option (List Record) → Type 0
TakesHeader header records (Ok has_use) after = IsSomeAnd after (λ more. AreBelow header records has_use more)
TakesHeader header records (Err fault) after = is_of_text fault ≡ true → (unit : Scale) → passed_of unit records ≡ none_passed None (Some fault)

-- what an answer says of the records that were ahead: which was the first, that there was none, or what ended them
abbrev pub GivesRecord : Option PassedRecords → Result (Option CheckedRecord) ReadFault → Option (List ℕ) → Option PassedRecords → Type 0
GivesRecord ahead (Ok (Some one)) animal after = IfSome ahead (λ all. IsSomeAnd after (λ more. (all ≡ then_passed one more) × (more.animal ≡ animal)))
GivesRecord ahead (Ok None) animal after = IfSome ahead (λ all. all ≡ none_passed animal None)
GivesRecord ahead (Err fault) animal after = is_of_text fault ≡ true → IfSome ahead (λ all. all ≡ none_passed animal (Some fault))

-- those that are used
abbrev pub used_of : PassedRecords → PassedRecords
used_of passed = record passed { checked = filter (λ one. one.used) passed.checked }

-- and where they are known
abbrev pub used_ahead : Option PassedRecords → Option PassedRecords
used_ahead ahead = option_map (λ passed. used_of passed) ahead

-- an answer counts its record, and no other; a fault comes with a record, with the header, or where a read failed
abbrev pub CountsRecord : CheckedList → Result (Option CheckedRecord) ReadFault → CheckedList → Type 0
CountsRecord old (Ok (Some one)) new = (new.count ≡ old.count + 1) × IsTaken old.left 1 new.left
CountsRecord old (Ok None) new = (new.count ≡ old.count) × IfSome old.left (λ left. left ≡ 0)
CountsRecord old (Err fault) new = ((new.count ≡ old.count + 1) × IsTaken old.left 1 new.left)
    ⊎ ((new.count ≡ old.count) × (0 < old.count → new.read_failed ≡ true))
