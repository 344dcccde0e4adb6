-- What the program does with the words of its command line.
use Rattle.std.specs.Prelude.{◌≡◌, ◌⊎◌, ⊤, ℕ, List, [], ◌∷◌, map, Option, String, string_bytes}
use Rattle.std.specs.Option.{option_map}
use Rattle.std.specs.Global.{Global}
use Rattle.std.specs.Io.KnownBytes.{Appends}
use Rattle.clap.specs.Words.{Text}
use Rattle.range_plane.specs.declared.scale.Scale.{Scale}
use Rattle.range_fixes.specs.Reading.{Reading, reading}
use Rattle.range_words.specs.WordList.{AreWordsOf, IsRefusalOf}
use Rattle.range_words.specs.declared.words.Words.{Words}
use Rattle.range_words.specs.declared.words.WordFault.{WordFault}
use Rattle.range_words.specs.declared.words.WordFault.TheVariants as words
use Rattle.range_run.specs.Run.{Explains, WritesPrefix, WritesReport}
use Rattle.range_run.specs.WrittenPrefix.{AppendsPrefix}
use Rattle.range_command.specs.Opener.{AllMayOpen, Found, IsFirstRefused, MayRefuse, bytes_in}
use Rattle.range_command.specs.declared.refusal.Refusal.{Refusal}
use Rattle.range_command.specs.declared.refusal.Refusal.TheVariants as refusals

-- what there is to read, where it is known: the bytes of the input, and what paths come to
pub record World : Type 0 where
  pub input : Option (List ℕ)
  pub find : List ℕ → Found

-- what there is to read: these bytes of the input, and what paths come to
abbrev pub world : Option (List ℕ) → (List ℕ → Found) → World
world input find = record { input = input; find = find }

-- the bytes of the input alone where no file is named, or else those of the files, in their order
abbrev pub sources_over : World → List (String Global) → List (Option (List ℕ))
sources_over w [] = w.input ∷ []
sources_over w (file ∷ files) = map (λ path. bytes_in (w.find (string_bytes path))) (file ∷ files)

-- what the bytes of each source say in this unit, where they are known
abbrev pub said_in : Scale → List (Option (List ℕ)) → List (Option Reading)
said_in unit sources = map (option_map (reading unit)) sources

-- what the files say that good words name, or the input where they name none
abbrev pub sources_of : Words → World → List (Option Reading)
sources_of read w = said_in read.options.plan.unit (sources_over w read.files.items)

-- each file that the words name may be opened; the report that they ask for was written, and nothing else
abbrev pub Reports : Words → World → Option (List ℕ) → Option (List ℕ) → Type 0
Reports read w old new = AllMayOpen w.find read.files.items × WritesReport (sources_of read w) read.options.levels read.options.plan.unit old new

-- each file that the words name may be opened; a beginning of the report that they ask for was written, and nothing else
abbrev pub BeginsReport : Words → World → Option (List ℕ) → Option (List ℕ) → Type 0
BeginsReport read w old new = AllMayOpen w.find read.files.items × WritesPrefix (sources_of read w) read.options.levels read.options.plan.unit old new

-- the words ask for help or for the version, and this is its text
abbrev pub AskFor : List Text → String Global → Type 0
AskFor said text = IsRefusalOf said (words.Help text) ⊎ IsRefusalOf said (words.Version text)

-- the words are good and their report was written, or they ask for help or for the version and it was
abbrev pub IsObeyed : List Text → World → Option (List ℕ) → Option (List ℕ) → Type 0
IsObeyed said w old new = ((read : Words) × AreWordsOf said read × Reports read w old new) ⊎ ((text : String Global) × AskFor said text × Appends old new (string_bytes text))

-- the words are good and a beginning of their report was written, or they ask for help or for the version and a
-- beginning of that was; and nothing else
abbrev pub IsBegun : List Text → World → Option (List ℕ) → Option (List ℕ) → Type 0
IsBegun said w old new =
    ((read : Words) × AreWordsOf said read × BeginsReport read w old new) ⊎ ((text : String Global) × AskFor said text × AppendsPrefix old new (string_bytes text))

-- why files are not opened: one of them cannot be, and none before it, or memory is wanted
abbrev pub IsOfFiles : (List ℕ → Found) → List (String Global) → Refusal → Type 0
IsOfFiles find files refusals.OutOfMemory = ⊤
IsOfFiles find files (refusals.Unopened path reason) = IsFirstRefused find files (string_bytes path) (string_bytes reason)
IsOfFiles find files refusal = ⊥

-- the file of this path cannot be opened for this reason, or memory is wanted
abbrev pub IsUnopened : Found → List ℕ → Refusal → Type 0
IsUnopened found path refusals.OutOfMemory = ⊤
IsUnopened found path (refusals.Unopened file reason) = (string_bytes file ≡ path) × MayRefuse found (string_bytes reason)
IsUnopened found path refusal = ⊥

-- what the words ask for could not be written
abbrev pub IsOfReply : Refusal → Type 0
IsOfReply (refusals.Unwritten reason) = ⊤
IsOfReply refusal = ⊥

-- words are not the program's, or memory is wanted
abbrev pub IsOfBadWords : Refusal → Type 0
IsOfBadWords refusals.OutOfMemory = ⊤
IsOfBadWords (refusals.BadWords line) = ⊤
IsOfBadWords refusal = ⊥

-- why good words have no report: memory ran out, a file cannot be opened, or what is wrong with the run
abbrev pub IsOfRun : Words → World → Refusal → Type 0
IsOfRun read w refusals.OutOfMemory = ⊤
IsOfRun read w (refusals.Unopened path reason) = IsFirstRefused w.find read.files.items (string_bytes path) (string_bytes reason)
IsOfRun read w (refusals.Run files fault reason) = (files ≡ read.files) × AllMayOpen w.find read.files.items × Explains (sources_of read w) read.options.levels read.options.plan.unit fault
IsOfRun read w refusal = ⊥

-- a fault of words that is told by itself: not a wish for help or for the version, and not what `clap` says
abbrev pub IsToldAlone : WordFault → Type 0
IsToldAlone (words.Help text) = ⊥
IsToldAlone (words.Version text) = ⊥
IsToldAlone (words.BadWords text) = ⊥
IsToldAlone fault = ⊤

-- the refusal is one that these words and what there is to read allow
abbrev pub IsTold : List Text → World → Refusal → Type 0
IsTold said w refusals.OutOfMemory = ⊤
IsTold said w (refusals.NotText word) = ⊥
IsTold said w (refusals.BadWords line) = (text : String Global) × IsRefusalOf said (words.BadWords text)
IsTold said w (refusals.CommandLine fault) = IsToldAlone fault × IsRefusalOf said fault
IsTold said w (refusals.Unwritten reason) = (text : String Global) × AskFor said text
IsTold said w refusal = (read : Words) × AreWordsOf said read × IsOfRun read w refusal

-- why the system gives no words: one is no text, or memory is wanted
abbrev pub IsOfSystem : Refusal → Type 0
IsOfSystem refusals.OutOfMemory = ⊤
IsOfSystem (refusals.NotText word) = ⊤
IsOfSystem refusal = ⊥
