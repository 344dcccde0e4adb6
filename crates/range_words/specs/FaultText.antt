-- What is said of words and levels that are refused.
use Rattle.std.specs.Prelude.{ℕ, ◌+◌, List, ◌++◌, codes, string_bytes}
use Rattle.std.specs.Fmt.{decimal}
use Rattle.range_options.specs.Limits.{file_limit, level_count_limit, level_limit}
use Rattle.range_words.specs.declared.level.LevelFault.{LevelFault}
use Rattle.range_words.specs.declared.level.LevelFault.TheVariants as level_fault
use Rattle.range_words.specs.declared.words.WordFault.{WordFault}
use Rattle.range_words.specs.declared.words.WordFault.TheVariants as words

-- what is said of a list of levels that is refused; its levels are counted from 1
abbrev pub level_text : LevelFault → List ℕ
level_text level_fault.OutOfMemory = codes "out of memory"
level_text (level_fault.BadLevel index) =
    codes "level " ++ (decimal (index + 1) ++ (codes " is not a whole number from 1 to " ++ decimal level_limit))
level_text level_fault.TooMany = codes "more than " ++ (decimal level_count_limit ++ codes " levels")

-- what is said of words that are refused; help, the version and what `clap` says are their own texts
abbrev pub word_text : WordFault → List ℕ
word_text words.OutOfMemory = codes "out of memory"
word_text (words.Help text) = string_bytes text
word_text (words.Version text) = string_bytes text
word_text (words.BadWords text) = string_bytes text
word_text words.TooManyFiles =
    codes "more than " ++ (decimal file_limit ++ codes " files; MORE FILES in the manual page says how to run more")
word_text (words.BadLevels fault) = codes "--percent: " ++ level_text fault
