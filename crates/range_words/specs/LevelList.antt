-- Levels in a text: numbers from 1 to 100, separated by commas.
use Rattle.std.specs.Prelude.{◌≡◌, ℕ, ◌<◌, ◌≤◌, ◌&&◌, ◌==◌, List, [], length, nat_le, Option, Some, None, IsSome, if◌then◌else◌, slice_index_or}
use Rattle.std.specs.List.{slice_split}
use Rattle.std.specs.Str.Parse.{digits_value}
use Rattle.range_numbers.specs.Number.{is_number}
use Rattle.range_options.specs.Limits.{level_count_limit, level_limit}
use Rattle.range_words.specs.declared.level.LevelFault.{LevelFault}
use Rattle.range_words.specs.declared.level.LevelFault.TheVariants.{OutOfMemory, BadLevel, TooMany}

-- the parts of a text between its commas
abbrev pub parts : List ℕ → List (List ℕ)
parts text = slice_split (λ byte. byte == 44) text

-- the level that a part writes, if it writes one
unfoldable pub level_in : List ℕ → Option ℕ
level_in part =
    let value = digits_value 10 part in
    if is_number part && (nat_le 1 value && nat_le value level_limit) then Some value else None

-- the part at an index, empty past the last
abbrev pub part_at : List (List ℕ) → ℕ → List ℕ
part_at parts i = slice_index_or parts i []

-- each part before the one at index n writes a level
abbrev pub AreLevelsBefore : List (List ℕ) → ℕ → Type 0
AreLevelsBefore parts n = (i : ℕ) → i < n → IsSome (level_in (part_at parts i))

-- why the parts give no list of levels: the first bad part is one of the first eight, or these are good and there is a ninth; memory is wanted for good lists
-- alone
abbrev pub IsRefusedFor : LevelFault → List (List ℕ) → Type 0
IsRefusedFor OutOfMemory parts = (length parts ≤ level_count_limit) × AreLevelsBefore parts (length parts)
IsRefusedFor (BadLevel i) parts =
    (i < level_count_limit) × (i < length parts) × (level_in (part_at parts i) ≡ None) × AreLevelsBefore parts i
IsRefusedFor TooMany parts = (level_count_limit < length parts) × AreLevelsBefore parts level_count_limit
