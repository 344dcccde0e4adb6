-- The text of a track.
use Rattle.std.specs.Prelude.{◌++◌, Bool, true, false, ℕ, ℤ, List, [], codes, decimal}
use Rattle.std.specs.Fmt.{signed_decimal}
use Rattle.std.specs.List.{flat_map}
use Rattle.split_files.specs.declared.text.MarkedFix.{MarkedFix}

-- the first line, with a column of marks or without
abbrev pub title_line : Bool → List ℕ
title_line false = codes "animal,second,easting,northing\n"
title_line true = codes "animal,second,easting,northing,use\n"

-- a field behind a comma
abbrev pub behind_comma : List ℕ → List ℕ
behind_comma field = codes "," ++ field

-- what a line says of whether its fix is used, where the track has marks
abbrev pub mark_of : Bool → Bool → List ℕ
mark_of false is_used = []
mark_of true true = codes ",1"
mark_of true false = codes ",0"

-- an easting and a northing, each behind a comma
unfoldable pub place_text : ℤ → ℤ → List ℕ
place_text easting northing = behind_comma (signed_decimal easting) ++ behind_comma (signed_decimal northing)

-- the line of a fix: its animal, its second, its place, and what it says of its use
abbrev pub line_text : List ℕ → ℕ → ℤ → ℤ → List ℕ → List ℕ
line_text name second easting northing mark = name ++ behind_comma (decimal second) ++ place_text easting northing ++ mark ++ codes "\n"

-- the line of a fix of the animal of this name
abbrev pub line_of : Bool → List ℕ → MarkedFix → List ℕ
line_of has_marks name one = line_text name one.fix.second one.fix.at.e one.fix.at.n (mark_of has_marks one.is_used)

-- the text of a track
unfoldable pub text_of : Bool → List ℕ → List MarkedFix → List ℕ
text_of has_marks name fixes = title_line has_marks ++ flat_map (line_of has_marks name) fixes
