-- What every name of a file is.
use Rattle.std.specs.Prelude.{◌≡◌, ◌≢◌, ◌^◌, ◌<◌, ℕ, not, List, [], length, codes, Ok, All, AllPairs, IsTrue}
use Rattle.std.specs.List.{list_all}
use Rattle.std.specs.Str.{IsUtf8}
use Rattle.range_fixes.specs.Field.{is_name}
use Rattle.split_names.specs.Clean.{clean, is_refused}
use Rattle.split_names.specs.Names.{file_names, folded}

-- bytes may name a file: they are a name that files of fixes may have, no byte is refused, and they are neither `.` nor
-- `..`
abbrev pub IsFileName : List ℕ → Type 0
IsFileName name = IsTrue (is_name name) × IsTrue (list_all (λ b. not (is_refused b)) name) × (name ≢ codes ".") × (name ≢ codes "..")

-- what the name of an animal becomes may name a file, where it is not empty
abbrev pub CleanNamesNameFiles : Type 0
CleanNamesNameFiles = (name : List ℕ) → name ≢ [] → IsFileName (clean name)

-- it is UTF-8 where the name of the animal is, so no character is cut in two
abbrev pub CleanNamesAreUtf8 : Type 0
CleanNamesAreUtf8 = (name : List ℕ) → IsUtf8 name → IsUtf8 (clean name)

-- the names of the files of several animals may name files too, where animals are fewer than there are numbers of 32 bits
abbrev pub FileNamesNameFiles : Type 0
FileNamesNameFiles = (names own : List (List ℕ)) → length names < 2 ^ 32 → All (λ name. name ≢ []) names → file_names names ≡ Ok own → All IsFileName own

-- and they are UTF-8
abbrev pub FileNamesAreUtf8 : Type 0
FileNamesAreUtf8 = (names own : List (List ℕ)) → length names < 2 ^ 32 → All IsUtf8 names → file_names names ≡ Ok own → All IsUtf8 own

-- no two of them fold alike, and so no two are the same
abbrev pub FileNamesDiffer : Type 0
FileNamesDiffer = (names own : List (List ℕ)) → length names < 2 ^ 32 → file_names names ≡ Ok own → AllPairs (λ one other. folded one ≢ folded other) own
