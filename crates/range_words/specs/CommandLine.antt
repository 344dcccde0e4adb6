-- The command line: which words the program knows, and what `clap` finds in the words that are given.
use Rattle.std.specs.Prelude.{◌≡◌, ℕ, pos, List, [], codes, true, Option, Some, None, unwrap_or, if◌then◌else◌}
use Rattle.std.specs.Option.{option_map_or}
use Rattle.std.specs.Str.{bytes_eq}
use Rattle.std.specs.Str.Parse.{digits_value, without_leading_plus}
use Rattle.clap.specs.Simple.{on_top}
use Rattle.clap.specs.Words.{App, IsSignedIn, Row, Rule, Text, all_of, first_of, found_of, matches_of, new_app, new_rule, one_of, one_text, with_rule}
use Rattle.clap.specs.declared.builder.ArgAction.TheVariants.{Append}
use Rattle.clap.specs.declared.builder.ValueParser.TheVariants as value_parser
use Rattle.clap.specs.declared.ArgMatches.{ArgMatches}
use Rattle.range_plane.specs.declared.scale.Scale.{Scale}
use Rattle.range_plane.specs.declared.scale.Scale.TheVariants.{Metre, Decimetre}
use Rattle.range_options.specs.Limits.{block_limit, depth_limit, worker_limit}

-- an option with one value
abbrev pub option_rule : Text → Rule
option_rule name = record (new_rule name) { long = Some name; value_names = 1 }

-- an option whose value is a number from 1 to a limit
abbrev pub number_rule : Text → ℕ → Rule
number_rule name limit = record (option_rule name) { parser = Some (value_parser.Signed (pos 1) (pos limit)) }

-- the files: any number of words that are no options
abbrev pub files_rule : Rule
files_rule = record (new_rule (codes "FILE")) { action = Some Append; value_names = 1 }

-- the program by its name; it has a version, and so the flags `-V` and `--version`
abbrev pub program : App
program = on_top (λ top. record top { has_version = true }) (new_app (codes "homerange"))

-- the command: its options in the order in which they stand, and then the files
abbrev pub homerange : App
homerange =
    let percent = with_rule program (option_rule (codes "percent")) in
    let block = with_rule percent (number_rule (codes "block") block_limit) in
    let depth = with_rule block (number_rule (codes "depth") depth_limit) in
    let workers = with_rule depth (number_rule (codes "workers") worker_limit) in
    let unit = with_rule workers (option_rule (codes "unit")) in
    with_rule unit files_rule

-- what `clap` finds in the words of the command line
abbrev pub found_in : List Text → List Row
found_in words = matches_of homerange words

-- the files that the words name
abbrev pub files_in : List Row → List Text
files_in rows = unwrap_or (all_of (codes "FILE") rows) []

-- the text that the words give for the levels, or the default where they give none
abbrev pub levels_in : List Row → Text
levels_in rows = unwrap_or (first_of (codes "percent") rows) (codes "50,95,100")

-- the unit that a text stands for
abbrev pub unit_of : Text → Option Scale
unit_of text = if bytes_eq text (codes "m") then Some Metre else if bytes_eq text (codes "dm") then Some Decimetre else None

-- the unit, if the text that the words give for it stands for one; metres where they give none
abbrev pub unit_in : List Row → Option Scale
unit_in rows = unit_of (unwrap_or (first_of (codes "unit") rows) (codes "m"))

-- the number that the words give for an option, or its default where they give none
abbrev pub option_number : Text → ℕ → List Row → ℕ
option_number name default rows = option_map_or (λ text. digits_value 10 (without_leading_plus text)) (one_of name rows) default

-- the text that is read of an option's number is one from 1 to the limit
abbrev pub HasNumber : Text → ℕ → ArgMatches → Type 0
HasNumber name limit m = (text : Text) → one_text (found_of m) name ≡ Some text → IsSignedIn (pos 1) (pos limit) text
