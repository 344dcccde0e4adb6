-- What the program makes of its words, and why it refuses them.
use Rattle.std.specs.Prelude.{◌≡◌, ◌≢◌, ◌≤◌, ◌<◌, ◌⊎◌, ⊤, IsSome, List, [], length, map, codes, Some, None, string_bytes}
use Rattle.clap.specs.Words.{IsAmong, Kinds, Row, Text, fault_of}
use Rattle.clap.specs.declared.error.ErrorKind.{ErrorKind}
use Rattle.clap.specs.declared.error.ErrorKind.TheVariants as kind
use Rattle.range_options.specs.Limits.{file_limit, level_count_limit}
use Rattle.range_words.specs.declared.level.LevelFault.TheVariants as level_fault
use Rattle.range_words.specs.CommandLine.{files_in, found_in, homerange, levels_in, option_number, unit_in}
use Rattle.range_words.specs.Help.{help_text, version_text}
use Rattle.range_words.specs.LevelList.{IsRefusedFor, level_in, parts}
use Rattle.range_words.specs.declared.words.Words.{Words}
use Rattle.range_words.specs.declared.words.WordFault.{WordFault}
use Rattle.range_words.specs.declared.words.WordFault.TheVariants.{OutOfMemory, Help, Version, BadWords, TooManyFiles, BadLevels}
use Rattle.range_words.specs.declared.defaults.TheConstants.{DEFAULT_BLOCK, DEFAULT_DEPTH, DEFAULT_WORKERS}

-- what the words ask for, where `clap` finds these rows: files, levels, block, depth, workers and unit
pub record AreFrom (rows : List Row) (words : Words) : Type 0 where
  pub files : map string_bytes words.files.items ≡ files_in rows
  pub few_files : length words.files.items ≤ file_limit
  pub levels : map level_in (parts (levels_in rows)) ≡ map Some words.options.levels
  pub level_count : (1 ≤ length words.options.levels) × (length words.options.levels ≤ level_count_limit)
  pub block : words.options.plan.block ≡ option_number (codes "block") DEFAULT_BLOCK rows
  pub depth : words.options.plan.depth ≡ option_number (codes "depth") DEFAULT_DEPTH rows
  pub workers : words.options.plan.workers ≡ option_number (codes "workers") DEFAULT_WORKERS rows
  pub unit : unit_in rows ≡ Some words.options.plan.unit

-- `clap` refuses none of the words, and this is what they ask for
abbrev pub AreWordsOf : List Text → Words → Type 0
AreWordsOf words read = (fault_of homerange words ≡ []) × AreFrom (found_in words) read

-- why the files are refused
abbrev pub IsFilesRefusal : List Row → WordFault → Type 0
IsFilesRefusal rows OutOfMemory = ⊤
IsFilesRefusal rows TooManyFiles = file_limit < length (files_in rows)
IsFilesRefusal rows fault = ⊥

-- a kind of refusal by `clap` is neither a wish for help nor one for the version
abbrev pub IsNoWish : ErrorKind → Type 0
IsNoWish k = (k ≢ kind.DisplayHelp) × (k ≢ kind.DisplayVersion)

-- why words are refused, where `clap` refuses them by these kinds, or else finds these rows: by `clap`, then for
-- the unit, then for the files, and last for the levels
abbrev pub IsRefusal : Kinds → List Row → WordFault → Type 0
IsRefusal kinds rows OutOfMemory = ⊤
IsRefusal kinds rows (Help text) = IsAmong kind.DisplayHelp kinds × (string_bytes text ≡ help_text)
IsRefusal kinds rows (Version text) = IsAmong kind.DisplayVersion kinds × (string_bytes text ≡ version_text)
IsRefusal kinds rows (BadWords text) = ((k : ErrorKind) × IsAmong k kinds × IsNoWish k) ⊎ ((kinds ≡ []) × (unit_in rows ≡ None))
IsRefusal kinds rows TooManyFiles = (kinds ≡ []) × IsSome (unit_in rows) × (file_limit < length (files_in rows))
IsRefusal kinds rows (BadLevels fault) =
    (kinds ≡ []) × IsSome (unit_in rows) × (length (files_in rows) ≤ file_limit) × IsRefusedFor fault (parts (levels_in rows))
    × (fault ≢ level_fault.OutOfMemory)

-- why these words are refused
abbrev pub IsRefusalOf : List Text → WordFault → Type 0
IsRefusalOf words fault = IsRefusal (fault_of homerange words) (found_in words) fault

-- the fault says what a refusal of this kind by `clap` says
abbrev pub SpeaksFor : ErrorKind → WordFault → Type 0
SpeaksFor k OutOfMemory = ⊤
SpeaksFor k (Help text) = (k ≡ kind.DisplayHelp) × (string_bytes text ≡ help_text)
SpeaksFor k (Version text) = (k ≡ kind.DisplayVersion) × (string_bytes text ≡ version_text)
SpeaksFor k (BadWords text) = IsNoWish k × (k ≢ kind.OutOfMemory)
SpeaksFor k fault = ⊥
