-- What is wrong with a record, or the fix that it has.
use Rattle.std.specs.Prelude.{◌≡◌, ℕ, Bool, true, false, List, [], ◌∷◌, length, Option, Some, None, Result, Ok, Err, not, nat_lt, pos, codes, if◌then◌else◌}
use Rattle.std.specs.Str.{bytes_eq}
use Rattle.std.specs.Str.Parse.{digits_value}
use Rattle.range_plane.specs.Fix.{second_limit}
use Rattle.range_plane.specs.Plane.{position}
use Rattle.range_plane.specs.Scale.{limit}
use Rattle.range_plane.specs.declared.fix.Fix.{Fix}
use Rattle.range_plane.specs.declared.scale.Scale.{Scale}
use Rattle.range_fixes.specs.declared.checks.CheckedRecord.{CheckedRecord}
use Rattle.range_fixes.specs.declared.read_fault.ReadFault.{ReadFault}
use Rattle.range_fixes.specs.declared.read_fault.ReadFault.TheVariants.{WrongFieldCount, BadName, OtherAnimal, NotNumber, TooLarge, SecondFalls, BadUse}
use Rattle.range_numbers.specs.Number.{is_number}
use Rattle.range_fixes.specs.Field.{Record, is_name, width}
use Rattle.range_fixes.specs.Previous.{Previous}

-- whether a name is another than that of the records before, if there are some
abbrev pub is_other : Option Previous → List ℕ → Bool
is_other None name = false
is_other (Some previous) name = not (bytes_eq previous.animal name)

-- whether a second is less than that of the record before, if there is one
abbrev pub is_earlier : Option Previous → ℕ → Bool
is_earlier None second = false
is_earlier (Some previous) second = nat_lt second previous.second

-- a check, and then a next one that is given what the first found; a fault ends them
infixl 10 ◌>>=◌
abbrev pub ◌>>=◌ : {A B : Type 0} → Result A ReadFault → (A → Result B ReadFault) → Result B ReadFault
(Ok x) >>= f = f x
(Err e) >>= f = Err e

-- what is wrong with the name of record number rec, if anything
abbrev pub animal_in : ℕ → Option Previous → List ℕ → Result (Unit {0}) ReadFault
animal_in rec previous name =
    if not (is_name name) then Err (BadName rec)
    else if is_other previous name then Err (OtherAnimal rec)
    else Ok tt

-- the number in a field of record number rec, or what is wrong with it: it is no number, or greater than it may be
abbrev pub number_in : Scale → ℕ → ℕ → ℕ → List ℕ → Result ℕ ReadFault
number_in unit rec field most bytes =
    if not (is_number bytes) then Err (NotNumber rec field)
    else if nat_lt most (digits_value 10 bytes) then Err (TooLarge rec field unit)
    else Ok (digits_value 10 bytes)

-- whether the fix of record number rec is used, by the field that says so; a record that has no field `use` is used
abbrev pub used_in : ℕ → Option (List ℕ) → Result Bool ReadFault
used_in rec None = Ok true
used_in rec (Some bytes) = if bytes_eq bytes (codes "1") then Ok true else if bytes_eq bytes (codes "0") then Ok false else Err (BadUse rec)

-- the fix of record number rec in this unit, or the first fault of its first four fields
abbrev pub fix_in : Scale → ℕ → Option Previous → List ℕ → List ℕ → List ℕ → List ℕ → Result Fix ReadFault
fix_in unit rec previous name second easting northing = do
  _ ← animal_in rec previous name
  s ← number_in unit rec 1 second_limit second
  e ← number_in unit rec 2 (limit unit) easting
  n ← number_in unit rec 3 (limit unit) northing
  if is_earlier previous s then Err (SecondFalls rec) else Ok (record { second = s; at = position (pos e) (pos n) })

-- the fix of record number rec and whether it is used, or the first fault that its checks find, in their order
abbrev pub checks_of : Scale → ℕ → Option Previous → List ℕ → List ℕ → List ℕ → List ℕ → Option (List ℕ) → Result CheckedRecord ReadFault
checks_of unit rec previous name second easting northing used = do
  fix ← fix_in unit rec previous name second easting northing
  is_used ← used_in rec used
  Ok (record { fix = fix; used = is_used })

-- what record number rec comes to below a header that has the column `use` or not, or the first fault of the record
unfoldable pub checked_in : Scale → Bool → ℕ → Option Previous → Record → Result CheckedRecord ReadFault
checked_in unit false rec previous (name ∷ second ∷ easting ∷ northing ∷ []) = checks_of unit rec previous name second easting northing None
checked_in unit true rec previous (name ∷ second ∷ easting ∷ northing ∷ used ∷ []) = checks_of unit rec previous name second easting northing (Some used)
checked_in unit has_use rec previous fields = Err (WrongFieldCount rec (length fields) (width has_use))

-- a record split into fields below such a header
abbrev pub IsSplit : Bool → Record → List ℕ → List ℕ → List ℕ → List ℕ → Option (List ℕ) → Type 0
IsSplit has_use fields name second easting northing None = (has_use ≡ false) × (fields ≡ name ∷ second ∷ easting ∷ northing ∷ [])
IsSplit has_use fields name second easting northing (Some used) = (has_use ≡ true) × (fields ≡ name ∷ second ∷ easting ∷ northing ∷ used ∷ [])
