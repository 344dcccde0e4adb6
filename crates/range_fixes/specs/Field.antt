-- The fields of a record.
use Rattle.std.specs.Prelude.{ℕ, Bool, true, false, List, [], ◌∷◌, ◌++◌, ◌&&◌, ◌||◌, not, length, nat_lt, nat_le, ◌==◌, codes, Option, Some, None}
use Rattle.std.specs.Prelude.{if◌then◌else◌}
use Rattle.std.specs.List.{list_all}
use Rattle.std.specs.Str.{bytes_eq}
use Rattle.range_fixes.specs.declared.checks.TheConstants.{FIELD_COUNT, FIELD_COUNT_WITH_USE, NAME_LIMIT}

-- a record, by the bytes of its fields
abbrev pub Record : Type 0
Record = List (List ℕ)

-- whether a byte may stand in a name: it is no control byte, comma, double quote or delete
abbrev pub is_name_byte : ℕ → Bool
is_name_byte b = nat_le 32 b && not (b == 44) && not (b == 34) && not (b == 127)

-- whether bytes are a name: one or more that may stand in it, and no more than a name may have
abbrev pub is_name : List ℕ → Bool
is_name bytes = nat_lt 0 (length bytes) && nat_le (length bytes) NAME_LIMIT && list_all is_name_byte bytes

-- the byte order mark, U+FEFF in UTF-8
abbrev pub byte_order_mark : List ℕ
byte_order_mark = 0xEF ∷ 0xBB ∷ 0xBF ∷ []

-- whether a header's first field is `animal`; it may stand behind a byte order mark, and then between quotes
abbrev pub names_animal : List ℕ → Bool
names_animal field =
    bytes_eq field (codes "animal") || bytes_eq field (byte_order_mark ++ codes "animal") || bytes_eq field (byte_order_mark ++ codes "\"animal\"")

-- whether four fields of a header are animal, second, easting and northing
abbrev pub names_columns : List ℕ → List ℕ → List ℕ → List ℕ → Bool
names_columns animal second easting northing =
    names_animal animal && bytes_eq second (codes "second") && bytes_eq easting (codes "easting") && bytes_eq northing (codes "northing")

-- whether a header has the column `use`, true or false; none where the record is no header
abbrev pub header_of : Record → Option Bool
header_of (animal ∷ second ∷ easting ∷ northing ∷ []) = if names_columns animal second easting northing then Some false else None
header_of (animal ∷ second ∷ easting ∷ northing ∷ used ∷ []) =
    if names_columns animal second easting northing && bytes_eq used (codes "use") then Some true else None
header_of _ = None

-- how many fields each record has, below a header with the column `use` or one without it
abbrev pub width : Bool → ℕ
width false = FIELD_COUNT
width true = FIELD_COUNT_WITH_USE

-- the first field of a record
abbrev pub first_field : Record → List ℕ
first_field [] = []
first_field (name ∷ fields) = name
