-- The names of the files of several animals, which no disk takes for one.
use Rattle.std.specs.Prelude.{◌≡◌, ⊤, ℕ, zero, suc, ◌+◌, ◌-◌, Bool, if◌then◌else◌, List, [], ◌∷◌, ◌++◌, length, map, codes, decimal, Option, Some, None, Result, Ok, Err, chars, encode_utf8_all, Vec}
use Rattle.std.specs.List.{list_any, position_from}
use Rattle.std.specs.Option.{option_map_or}
use Rattle.std.specs.Str.{bytes_eq, is_utf8}
use Rattle.caseless.specs.Caseless.{canonical_key}
use Rattle.split_names.specs.declared.clean.TheConstants.{NAME_BYTES}
use Rattle.split_names.specs.declared.names_fault.NamesFault.{NamesFault}
use Rattle.split_names.specs.declared.names_fault.NamesFault.TheVariants.{OutOfMemory, Same}
use Rattle.split_names.specs.Clean.{clean}
use Rattle.split_names.specs.Cut.{cut}

-- the bytes of texts
abbrev pub bytes_of : {A : Type 0} → List (Vec ℕ A) → List (List ℕ)
bytes_of texts = map (λ text. text.items) texts

-- what a name has in common with those that differ from it in capitals or in the form of letters alone, by canonical
-- caseless matching; bytes that are no UTF-8 have it with themselves alone
unfoldable pub folded : List ℕ → List ℕ
folded name = if is_utf8 name then encode_utf8_all (canonical_key (chars name)) else name

-- whether a name folds as one of some that are folded
abbrev pub is_among : List (List ℕ) → List ℕ → Bool
is_among others name = list_any (bytes_eq (folded name)) others

-- a number as it stands behind a name
abbrev pub ending : ℕ → List ℕ
ending number = codes "_" ++ decimal number

-- a name with a number behind it, within the bytes that a name may have
unfoldable pub with_number : List ℕ → ℕ → List ℕ
with_number name number = cut (NAME_BYTES - length (ending number)) name ++ ending number

-- the name with the first number, from this one on, by which it folds as none that is taken, where so many are tried
-- before the last
unfoldable pub numbered_from : ℕ → ℕ → List (List ℕ) → List ℕ → List ℕ
numbered_from zero number taken name = with_number name number
numbered_from (suc left) number taken name =
    if is_among taken (with_number name number) then numbered_from left (number + 1) taken name else with_number name number

-- the name with the first number from 2 on by which it folds as none that is taken. As many as are taken are tried before
-- the last, which is free where none before it was
abbrev pub numbered : List (List ℕ) → List ℕ → List ℕ
numbered taken name = numbered_from (length taken) 2 taken name

-- the names of files for clean names: a name stays where none before it folds alike, and has a number otherwise. `before`
-- is what the names before them fold to, and `taken` what no number may lead to: what all clean names and all names with a
-- number fold to
unfoldable pub named : List (List ℕ) → List (List ℕ) → List (List ℕ) → List (List ℕ)
named before taken [] = []
named before taken (name ∷ names) =
    if is_among before name
    then numbered taken name ∷ named (before ++ folded name ∷ []) (taken ++ folded (numbered taken name) ∷ []) names
    else name ∷ named (before ++ folded name ∷ []) taken names

-- the places of the first two names that are the same, where these stand before them
unfoldable pub same_after : List (List ℕ) → List (List ℕ) → Option (ℕ × ℕ)
same_after before [] = None
same_after before (name ∷ names) =
    option_map_or (λ first. Some (first, length before)) (position_from (bytes_eq name) 0 before) (same_after (before ++ name ∷ []) names)

-- the names of files for clean names, where these two are the same
abbrev pub told_apart : List (List ℕ) → Option (ℕ × ℕ) → Result (List (List ℕ)) NamesFault
told_apart names (Some (first, second)) = Err (Same first second)
told_apart names None = Ok (named [] (map folded names) names)

-- the names of the files of animals of these names
abbrev pub file_names : List (List ℕ) → Result (List (List ℕ)) NamesFault
file_names names = let cleaned = map clean names in told_apart cleaned (same_after [] cleaned)

-- a fault is that of names, unless memory ran out
abbrev pub IsFaultOf : Result (List (List ℕ)) NamesFault → NamesFault → Type 0
IsFaultOf names OutOfMemory = ⊤
IsFaultOf names (Same first second) = names ≡ Err (Same first second)
