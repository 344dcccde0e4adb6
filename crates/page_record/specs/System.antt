-- The reference system of coordinates.
use Rattle.std.specs.Prelude.{ℕ, if◌then◌else◌, codes, fold, List, Option, None}
use Rattle.std.specs.Str.{bytes_eq}
use Rattle.page_record.specs.Reading.{OptionSaid, Read}

-- the reference system that was named so far, where one more option may name another
abbrev pub system_with : Option (List ℕ) → OptionSaid → Option (List ℕ)
system_with system given = if bytes_eq given.name (codes "crs") then given.value else system

-- the value of the last option `crs`
abbrev pub system_of : Read → Option (List ℕ)
system_of own = fold system_with None own.options
