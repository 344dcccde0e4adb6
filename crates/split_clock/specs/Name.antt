-- Names of time zones.
use Rattle.std.specs.Prelude.{ℕ, ◌==◌, nat_eq, nat_le, Bool, true, false, ◌&&◌, ◌||◌, not, if◌then◌else◌, codes, List, [], ◌∷◌, length}
use Rattle.std.specs.Char.{is_ascii_alphanumeric}
use Rattle.std.specs.List.{starts_with}
use Rattle.std.specs.Str.{bytes_eq}

-- whether a name may have such a byte: a letter, a digit, `_`, `+` or `-`
abbrev pub is_name_byte : ℕ → Bool
is_name_byte b = is_ascii_alphanumeric b || b == 95 || b == 43 || b == 45

-- whether bytes are those of a name, and slashes with such a byte before and behind each; whether one stands before the first
abbrev pub are_parts : Bool → List ℕ → Bool
are_parts behind_byte [] = behind_byte
are_parts behind_byte (b ∷ name) =
    if b == 47 && behind_byte then are_parts false name
    else if is_name_byte b then are_parts true name
    else false

-- whether a name is of what a machine has, or of its database, and of no zone that stays the same elsewhere
abbrev pub is_of_machine : List ℕ → Bool
is_of_machine name =
    bytes_eq name (codes "localtime") || bytes_eq name (codes "posixrules") || bytes_eq name (codes "Factory")
    || starts_with nat_eq name (codes "posix/")

-- whether a text may be the name of a time zone
abbrev pub is_zone_name : List ℕ → Bool
is_zone_name name =
    nat_le (length name) 64 && are_parts false name && not (starts_with nat_eq name (codes "right/")) && not (is_of_machine name)
