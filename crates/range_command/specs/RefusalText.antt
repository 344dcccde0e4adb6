-- What is said of a refusal, in one line.
use Rattle.std.specs.Prelude.{◌≡◌, ◌⊎◌, ⊤, ℕ, true, false, List, ◌++◌, Option, None, Some, String, codes, string_bytes, slice_get}
use Rattle.std.specs.Fmt.{decimal}
use Rattle.std.specs.Global.{Global}
use Rattle.std.specs.declared.io.Error.{Error}
use Rattle.range_texts.specs.Seen.{IsOneLine, shown_text, shown_name}
use Rattle.range_fixes.specs.FaultText.{fault_text}
use Rattle.range_fixes.specs.declared.read_fault.ReadFault.{ReadFault}
use Rattle.range_fixes.specs.declared.read_fault.ReadFault.TheVariants as faults
use Rattle.range_analysis.specs.FaultText.{analyse_text}
use Rattle.range_analysis.specs.declared.analyse_fault.AnalyseFault.{AnalyseFault}
use Rattle.range_analysis.specs.declared.analyse_fault.AnalyseFault.TheVariants as analyses
use Rattle.range_run.specs.FaultText.{run_text}
use Rattle.range_run.specs.declared.run_fault.RunFault.{RunFault}
use Rattle.range_run.specs.declared.run_fault.RunFault.TheVariants as runs
use Rattle.range_words.specs.FaultText.{word_text}
use Rattle.range_words.specs.declared.words.WordFault.TheVariants as words
use Rattle.range_command.specs.Command.{IsToldAlone}
use Rattle.range_command.specs.Outlet.{AppendsOrFails}
use Rattle.range_command.specs.declared.refusal.Refusal.{Refusal}
use Rattle.range_command.specs.declared.refusal.Refusal.TheVariants as refusals

-- what a source is called: the path of its file, as it is shown, or standard input
abbrev pub source_name : Option (String Global) → List ℕ
source_name (Some path) = shown_text true (string_bytes path)
source_name None = shown_text true (codes "standard input")

-- what the source with this number is called: the path of the file, or standard input where no file is named
abbrev pub name_of : List (String Global) → ℕ → List ℕ
name_of files i = source_name (slice_get files i)

-- why a file cannot be read, for the system's reason where it gave one
abbrev pub unread_text : ReadFault → Option (String Global) → List ℕ
unread_text faults.Read (Some reason) = shown_text false (string_bytes reason)
unread_text fault reason = fault_text fault

-- why files have no analysis, in words
abbrev pub files_text : List (String Global) → AnalyseFault → Option (String Global) → List ℕ
files_text files analyses.OutOfMemory reason = analyse_text analyses.OutOfMemory
files_text files (analyses.LineCut file) reason = name_of files file ++ (codes ": " ++ analyse_text (analyses.LineCut file))
files_text files (analyses.File file fault) reason = name_of files file ++ (codes ": " ++ unread_text fault reason)
files_text files (analyses.SameAnimal first second animal) reason =
    name_of files first ++ (codes " and " ++ (name_of files second ++ (codes " " ++ (analyse_text (analyses.SameAnimal first second animal) ++ (codes ", " ++ shown_name animal)))))

-- why standard output failed: the system's reason, where it gave one, or else this text
abbrev pub output_text : List ℕ → Option (String Global) → List ℕ
output_text failed (Some reason) = codes "standard output: " ++ shown_text false (string_bytes reason)
output_text failed None = failed

-- why a run has no report, in words
abbrev pub report_text : List (String Global) → RunFault → Option (String Global) → List ℕ
report_text files (runs.Analyse fault) reason = files_text files fault reason
report_text files runs.OutOfMemory reason = run_text runs.OutOfMemory
report_text files runs.Write reason = output_text (run_text runs.Write) reason

-- what is said of a refusal, in words
abbrev pub refusal_text : Refusal → List ℕ
refusal_text refusals.OutOfMemory = codes "out of memory"
refusal_text (refusals.NotText word) = codes "word " ++ (decimal word ++ codes " of the command line is not UTF-8")
refusal_text (refusals.BadWords line) = shown_text false (string_bytes line)
refusal_text (refusals.CommandLine fault) = word_text fault
refusal_text (refusals.Unopened path reason) = shown_text true (string_bytes path) ++ (codes ": " ++ shown_text false (string_bytes reason))
refusal_text (refusals.Unwritten reason) = output_text (codes "the help or the version could not be written") reason
refusal_text (refusals.Run files fault reason) = report_text files.items fault reason

-- the line in which the program says a text
abbrev pub line_of : List ℕ → List ℕ
line_of text = codes "homerange: " ++ (text ++ codes "\n")

-- the line that is said where there is no memory for that of files that have no analysis
abbrev pub short_files_line : AnalyseFault → List ℕ
short_files_line analyses.OutOfMemory = codes "homerange: out of memory\n"
short_files_line (analyses.LineCut file) = codes "homerange: the fixes of a file were not all handed on, and there is no memory to say which\n"
short_files_line (analyses.File file fault) = codes "homerange: a file cannot be read, and there is no memory to say which\n"
short_files_line (analyses.SameAnimal first second animal) = codes "homerange: two files have the same animal, and there is no memory to say which\n"

-- the line that is said where there is no memory for that of a run
abbrev pub short_run_line : RunFault → List ℕ
short_run_line (runs.Analyse fault) = short_files_line fault
short_run_line runs.OutOfMemory = codes "homerange: out of memory\n"
short_run_line runs.Write = codes "homerange: the report could not be written\n"

-- the line that is said where there is no memory for that of a refusal
abbrev pub short_line : Refusal → List ℕ
short_line refusals.OutOfMemory = codes "homerange: out of memory\n"
short_line (refusals.NotText word) = codes "homerange: a word of the command line is not UTF-8\n"
short_line (refusals.BadWords line) = codes "homerange: the words of the command line are refused\n"
short_line (refusals.CommandLine words.OutOfMemory) = codes "homerange: out of memory\n"
short_line (refusals.CommandLine fault) = codes "homerange: the words of the command line are refused\n"
short_line (refusals.Unopened path reason) = codes "homerange: a file cannot be opened, and there is no memory to say which\n"
short_line (refusals.Unwritten reason) = codes "homerange: the help or the version could not be written\n"
short_line (refusals.Run files fault reason) = short_run_line fault

-- the line with the text of the refusal was written, or the shorter one, or of one of them a beginning where a call has
-- failed; and nothing else
abbrev pub IsTelling : Refusal → Option (Option Error) → Option (List ℕ) → Option (List ℕ) → Type 0
IsTelling refusal last_failure old new =
    AppendsOrFails last_failure old new (line_of (refusal_text refusal)) ⊎ AppendsOrFails last_failure old new (short_line refusal)

-- a fault of words that is no text of many lines
abbrev pub IsOfOneLine : Refusal → Type 0
IsOfOneLine (refusals.CommandLine fault) = IsToldAlone fault
IsOfOneLine refusal = ⊤

-- each refusal is one line, whatever the names of files and animals are
abbrev pub RefusalsAreOneLine : Type 0
RefusalsAreOneLine = (refusal : Refusal) → IsOfOneLine refusal → IsOneLine (refusal_text refusal)

-- and so is what stands for it where there is no memory
abbrev pub ShortLinesAreOneLine : Type 0
ShortLinesAreOneLine = (refusal : Refusal) → (text : List ℕ) × IsOneLine text × (short_line refusal ≡ line_of text)
