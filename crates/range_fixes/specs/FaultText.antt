-- What the faults of a file say of themselves.
use Rattle.std.specs.Prelude.{ℕ, List, [], ◌++◌, ◌==◌, codes, Option, Some, None, if◌then◌else◌}
use Rattle.std.specs.Fmt.{decimal}
use Rattle.range_plane.specs.declared.scale.Scale.{Scale}
use Rattle.range_plane.specs.Fix.{fix_limit, second_limit}
use Rattle.range_plane.specs.Scale.{limit, unit_name}
use Rattle.range_fixes.specs.declared.checks.TheConstants.{NAME_LIMIT}
use Rattle.range_fixes.specs.declared.read_fault.ReadFault.{ReadFault}
use Rattle.range_fixes.specs.declared.read_fault.ReadFault.TheVariants as faults

-- what the field with this number is called, the animal being 0
abbrev pub field_name : ℕ → List ℕ
field_name field =
    if field == 0 then codes "animal" else (if field == 1 then codes "second" else (if field == 2 then codes "easting" else codes "northing"))

-- the number of the record that is at fault, if one is
abbrev pub record_of : ReadFault → Option ℕ
record_of (faults.WrongFieldCount rec found wanted) = Some rec
record_of (faults.BadName rec) = Some rec
record_of (faults.OtherAnimal rec) = Some rec
record_of (faults.NotNumber rec field) = Some rec
record_of (faults.TooLarge rec field unit) = Some rec
record_of (faults.SecondFalls rec) = Some rec
record_of (faults.BadUse rec) = Some rec
record_of fault = None

-- which record is at fault, as the text of a fault begins; nothing where none is
abbrev pub record_text : Option ℕ → List ℕ
record_text (Some rec) = codes "record " ++ (decimal rec ++ codes ": ")
record_text None = []

-- the word `field` for one, and `fields` for any other number
abbrev pub fields_word : ℕ → List ℕ
fields_word count = if count == 1 then codes "field" else codes "fields"

-- how many fields a record has, and how many are wanted of it
abbrev pub count_text : ℕ → ℕ → List ℕ
count_text found wanted =
    decimal found ++ (codes " " ++ (fields_word found ++ (codes " where " ++ (decimal wanted ++ codes " are wanted"))))

-- that the number in a field is past its limit, and which limit that is
abbrev pub limit_text : ℕ → Scale → List ℕ
limit_text field unit = field_name field ++ (codes " is past its limit of "
    ++ (if field == 1 then decimal second_limit else decimal (limit unit) ++ (codes " " ++ unit_name unit)))

-- what is wrong with a file or with a record of it, in words
abbrev pub wrong_text : ReadFault → List ℕ
wrong_text faults.OutOfMemory = codes "out of memory"
wrong_text faults.Read = codes "a read failed"
wrong_text faults.NoHeader = codes "empty where animal,second,easting,northing is wanted"
wrong_text faults.BadHeader =
    codes "the first line is not animal,second,easting,northing (commas, small letters, this order; plain UTF-8 text), nor that with ,use behind it"
wrong_text (faults.WrongFieldCount rec found wanted) = count_text found wanted
wrong_text (faults.BadName rec) =
    codes "animal is not a name of 1 to " ++ (decimal NAME_LIMIT ++ codes " bytes with no comma, double quote or control character")
wrong_text (faults.OtherAnimal rec) = codes "animal is another than in record 1"
wrong_text (faults.NotNumber rec field) = field_name field ++ codes " is not a whole number: no point, sign, space or exponent"
wrong_text (faults.TooLarge rec field unit) = limit_text field unit
wrong_text (faults.SecondFalls rec) = codes "second is less than in the record before: sort the file by time"
wrong_text faults.TooManyFixes = codes "more than " ++ (decimal fix_limit ++ codes " records after the header")
wrong_text faults.NoFixes = codes "no record after the header, or none that is used"
wrong_text faults.Gone = codes "the fixes could not be handed on"
wrong_text (faults.BadUse rec) = codes "use is neither 0 nor 1"

-- what is said of a fault of a file: the record that is at fault, if one is, and what is wrong
abbrev pub fault_text : ReadFault → List ℕ
fault_text fault = record_text (record_of fault) ++ wrong_text fault
