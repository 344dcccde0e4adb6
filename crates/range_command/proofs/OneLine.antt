-- Each refusal is told in one line.
use Rattle.std.proofs.Common.{◌≡◌, ℕ, ◌+◌, Bool, true, false, ◌==◌, List, [], ◌++◌, Option, None, Some, String, Global, codes, string_bytes, slice_get, refl, if◌then◌else◌}
use Rattle.std.specs.Fmt.{decimal}
use Rattle.std.specs.List.{list_all}
use Rattle.range_texts.proofs.ForCallers.{joined_lines_are_one_line, numbers_are_one_line, printable_texts_are_one_line, shown_names_are_one_line, shown_texts_are_one_line}
use Rattle.range_texts.specs.Seen.{IsOneLine, is_printable, shown_text, shown_name}
use Rattle.range_plane.specs.Fix.{fix_limit, second_limit}
use Rattle.range_plane.specs.Scale.{limit, unit_name}
use Rattle.range_plane.specs.declared.scale.Scale.{Scale}
use Rattle.range_plane.specs.declared.scale.Scale.TheVariants.{Metre, Decimetre}
use Rattle.range_fixes.specs.FaultText.{count_text, fault_text, field_name, fields_word, limit_text, record_text, record_of, wrong_text}
use Rattle.range_fixes.specs.declared.read_fault.ReadFault.{ReadFault}
use Rattle.range_fixes.specs.declared.read_fault.ReadFault.TheVariants as faults
use Rattle.range_analysis.specs.FaultText.{analyse_text}
use Rattle.range_analysis.specs.declared.analyse_fault.AnalyseFault.{AnalyseFault}
use Rattle.range_analysis.specs.declared.analyse_fault.AnalyseFault.TheVariants as analyses
use Rattle.range_run.specs.declared.run_fault.RunFault.{RunFault}
use Rattle.range_run.specs.declared.run_fault.RunFault.TheVariants as runs
use Rattle.range_words.specs.FaultText.{level_text, word_text}
use Rattle.range_words.specs.declared.level.LevelFault.{LevelFault}
use Rattle.range_words.specs.declared.level.LevelFault.TheVariants as levels
use Rattle.range_words.specs.declared.words.WordFault.{WordFault}
use Rattle.range_words.specs.declared.words.WordFault.TheVariants as words
use Rattle.range_command.specs.Command.{IsToldAlone}
use Rattle.range_command.specs.RefusalText.{RefusalsAreOneLine, ShortLinesAreOneLine, source_name, files_text, line_of, name_of, output_text, report_text, short_files_line, short_run_line, unread_text}
use Rattle.range_command.specs.declared.refusal.Refusal.TheVariants as refusals

-- words of the program's own
words_line : (text : List ℕ) → list_all is_printable text ≡ true → IsOneLine text
words_line = printable_texts_are_one_line

two : (a b : List ℕ) → IsOneLine a → IsOneLine b → IsOneLine (a ++ b)
two = joined_lines_are_one_line

number_line : (n : ℕ) → IsOneLine (decimal n)
number_line = numbers_are_one_line

choice : (b : Bool) (x y : List ℕ) → IsOneLine x → IsOneLine y → IsOneLine (if b then x else y)
choice true x y p q = p
choice false x y p q = q

field_line : (field : ℕ) → IsOneLine (field_name field)
field_line field = choice (field == 0) _ _ (words_line (codes "animal") refl)
    (choice (field == 1) _ _ (words_line (codes "second") refl) (choice (field == 2) _ _ (words_line (codes "easting") refl) (words_line (codes "northing") refl)))

unit_line : (unit : Scale) → IsOneLine (unit_name unit)
unit_line Metre = words_line (codes "metres") refl
unit_line Decimetre = words_line (codes "decimetres") refl

count_line : (found wanted : ℕ) → IsOneLine (count_text found wanted)
count_line found wanted =
    let end = two (decimal wanted) (codes " are wanted") (number_line wanted) (words_line (codes " are wanted") refl) in
    let middle = two (codes " where ") (decimal wanted ++ codes " are wanted") (words_line (codes " where ") refl) end in
    let word = choice (found == 1) (codes "field") (codes "fields") (words_line (codes "field") refl) (words_line (codes "fields") refl) in
    let fields = two (fields_word found) (codes " where " ++ (decimal wanted ++ codes " are wanted")) word middle in
    let blank = two (codes " ") (fields_word found ++ (codes " where " ++ (decimal wanted ++ codes " are wanted"))) (words_line (codes " ") refl) fields in
    two (decimal found) (codes " " ++ (fields_word found ++ (codes " where " ++ (decimal wanted ++ codes " are wanted")))) (number_line found) blank

limit_line : (field : ℕ) (unit : Scale) → IsOneLine (limit_text field unit)
limit_line field unit =
    let named = two (codes " ") (unit_name unit) (words_line (codes " ") refl) (unit_line unit) in
    let coordinate = two (decimal (limit unit)) (codes " " ++ unit_name unit) (number_line (limit unit)) named in
    let number = choice (field == 1) (decimal second_limit) (decimal (limit unit) ++ (codes " " ++ unit_name unit)) (number_line second_limit) coordinate in
    let past = two (codes " is past its limit of ") (if field == 1 then decimal second_limit else decimal (limit unit) ++ (codes " " ++ unit_name unit))
    (words_line (codes " is past its limit of ") refl) number in
    two (field_name field) (codes " is past its limit of " ++ (if field == 1 then decimal second_limit else decimal (limit unit) ++ (codes " " ++ unit_name unit))) (field_line field) past

-- words, a number and words
counted_line : (before after : List ℕ) (n : ℕ) → list_all is_printable before ≡ true → list_all is_printable after ≡ true → IsOneLine (before ++ (decimal n ++ after))
counted_line before after n p q =
    two before (decimal n ++ after) (words_line before p) (two (decimal n) after (number_line n) (words_line after q))

wrong_line : (fault : ReadFault) → IsOneLine (wrong_text fault)
wrong_line faults.OutOfMemory = words_line (wrong_text faults.OutOfMemory) refl
wrong_line faults.Read = words_line (wrong_text faults.Read) refl
wrong_line faults.NoHeader = words_line (wrong_text faults.NoHeader) refl
wrong_line faults.BadHeader = words_line (wrong_text faults.BadHeader) refl
wrong_line (faults.WrongFieldCount rec found wanted) = count_line found wanted
wrong_line (faults.BadName rec) = counted_line (codes "animal is not a name of 1 to ") (codes " bytes with no comma, double quote or control character") _ refl refl
wrong_line (faults.OtherAnimal rec) = words_line (codes "animal is another than in record 1") refl
wrong_line (faults.NotNumber rec field) =
    two (field_name field) (codes " is not a whole number: no point, sign, space or exponent") (field_line field) (words_line (codes " is not a whole number: no point, sign, space or exponent") refl)
wrong_line (faults.TooLarge rec field unit) = limit_line field unit
wrong_line (faults.SecondFalls rec) = words_line (codes "second is less than in the record before: sort the file by time") refl
wrong_line faults.TooManyFixes = counted_line (codes "more than ") (codes " records after the header") fix_limit refl refl
wrong_line faults.NoFixes = words_line (wrong_text faults.NoFixes) refl
wrong_line faults.Gone = words_line (wrong_text faults.Gone) refl
wrong_line (faults.BadUse rec) = words_line (codes "use is neither 0 nor 1") refl

record_line : (number : Option ℕ) → IsOneLine (record_text number)
record_line (Some rec) = counted_line (codes "record ") (codes ": ") rec refl refl
record_line None = words_line [] refl

fault_line : (fault : ReadFault) → IsOneLine (fault_text fault)
fault_line fault = two (record_text (record_of fault)) (wrong_text fault) (record_line (record_of fault)) (wrong_line fault)

analyse_line : (fault : AnalyseFault) → IsOneLine (analyse_text fault)
analyse_line analyses.OutOfMemory = words_line (analyse_text analyses.OutOfMemory) refl
analyse_line (analyses.LineCut file) = words_line (codes "its fixes were not all handed on") refl
analyse_line (analyses.File file fault) = fault_line fault
analyse_line (analyses.SameAnimal first second animal) = words_line (codes "have the same animal") refl

source_line : (source : Option (String Global)) → IsOneLine (source_name source)
source_line (Some path) = shown_texts_are_one_line true (string_bytes path)
source_line None = shown_texts_are_one_line true (codes "standard input")

name_line : (files : List (String Global)) (i : ℕ) → IsOneLine (name_of files i)
name_line files i = source_line (slice_get files i)

unread_line : (fault : ReadFault) (reason : Option (String Global)) → IsOneLine (unread_text fault reason)
unread_line faults.Read (Some reason) = shown_texts_are_one_line false (string_bytes reason)
unread_line faults.Read None = fault_line faults.Read
unread_line faults.OutOfMemory reason = fault_line faults.OutOfMemory
unread_line faults.NoHeader reason = fault_line faults.NoHeader
unread_line faults.BadHeader reason = fault_line faults.BadHeader
unread_line (faults.WrongFieldCount rec found wanted) reason = fault_line (faults.WrongFieldCount rec found wanted)
unread_line (faults.BadName rec) reason = fault_line (faults.BadName rec)
unread_line (faults.OtherAnimal rec) reason = fault_line (faults.OtherAnimal rec)
unread_line (faults.NotNumber rec field) reason = fault_line (faults.NotNumber rec field)
unread_line (faults.TooLarge rec field unit) reason = fault_line (faults.TooLarge rec field unit)
unread_line (faults.SecondFalls rec) reason = fault_line (faults.SecondFalls rec)
unread_line faults.TooManyFixes reason = fault_line faults.TooManyFixes
unread_line faults.NoFixes reason = fault_line faults.NoFixes
unread_line faults.Gone reason = fault_line faults.Gone
unread_line (faults.BadUse rec) reason = fault_line (faults.BadUse rec)

-- a name, and behind a colon what is wrong
about : (name text : List ℕ) → IsOneLine name → IsOneLine text → IsOneLine (name ++ (codes ": " ++ text))
about name text p q = two name (codes ": " ++ text) p (two (codes ": ") text (words_line (codes ": ") refl) q)

same_line : (first second fault animal : List ℕ) → IsOneLine first → IsOneLine second → IsOneLine fault → IsOneLine animal
    → IsOneLine (first ++ (codes " and " ++ (second ++ (codes " " ++ (fault ++ (codes ", " ++ animal))))))
same_line first second fault animal p q r s =
    let end = two (codes ", ") animal (words_line (codes ", ") refl) s in
    let told = two fault (codes ", " ++ animal) r end in
    let blank = two (codes " ") (fault ++ (codes ", " ++ animal)) (words_line (codes " ") refl) told in
    let later = two second (codes " " ++ (fault ++ (codes ", " ++ animal))) q blank in
    two first (codes " and " ++ (second ++ (codes " " ++ (fault ++ (codes ", " ++ animal))))) p
    (two (codes " and ") (second ++ (codes " " ++ (fault ++ (codes ", " ++ animal)))) (words_line (codes " and ") refl) later)

files_line : (files : List (String Global)) (fault : AnalyseFault) (reason : Option (String Global)) → IsOneLine (files_text files fault reason)
files_line files analyses.OutOfMemory reason = analyse_line analyses.OutOfMemory
files_line files (analyses.LineCut file) reason = about (name_of files file) (analyse_text (analyses.LineCut file)) (name_line files file) (analyse_line (analyses.LineCut file))
files_line files (analyses.File file fault) reason = about (name_of files file) (unread_text fault reason) (name_line files file) (unread_line fault reason)
files_line files (analyses.SameAnimal first second animal) reason =
    same_line (name_of files first) (name_of files second) (codes "have the same animal") (shown_name animal) (name_line files first) (name_line files second)
    (words_line (codes "have the same animal") refl) (shown_names_are_one_line animal)

output_line : (failed : List ℕ) (reason : Option (String Global)) → list_all is_printable failed ≡ true → IsOneLine (output_text failed reason)
output_line failed (Some reason) e =
    two (codes "standard output: ") (shown_text false (string_bytes reason)) (words_line (codes "standard output: ") refl) (shown_texts_are_one_line false (string_bytes reason))
output_line failed None e = words_line failed e

report_line : (files : List (String Global)) (fault : RunFault) (reason : Option (String Global)) → IsOneLine (report_text files fault reason)
report_line files (runs.Analyse fault) reason = files_line files fault reason
report_line files runs.OutOfMemory reason = words_line (codes "out of memory") refl
report_line files runs.Write reason = output_line (codes "the report could not be written") reason refl

level_line : (fault : LevelFault) → IsOneLine (level_text fault)
level_line levels.OutOfMemory = words_line (codes "out of memory") refl
level_line (levels.BadLevel index) =
    two (codes "level ") (decimal (index + 1) ++ (codes " is not a whole number from 1 to " ++ decimal 100)) (words_line (codes "level ") refl)
    (two (decimal (index + 1)) (codes " is not a whole number from 1 to " ++ decimal 100) (number_line (index + 1))
    (two (codes " is not a whole number from 1 to ") (decimal 100) (words_line (codes " is not a whole number from 1 to ") refl) (number_line 100)))
level_line levels.TooMany = counted_line (codes "more than ") (codes " levels") _ refl refl

word_line : (fault : WordFault) → IsToldAlone fault → IsOneLine (word_text fault)
word_line words.OutOfMemory alone = words_line (codes "out of memory") refl
word_line (words.Help text) alone = absurd alone
word_line (words.Version text) alone = absurd alone
word_line (words.BadWords text) alone = absurd alone
word_line words.TooManyFiles alone = counted_line (codes "more than ") (codes " files; MORE FILES in the manual page says how to run more") _ refl refl
word_line (words.BadLevels fault) alone = two (codes "--percent: ") (level_text fault) (words_line (codes "--percent: ") refl) (level_line fault)

-- each refusal is one line, whatever the names of files and animals are
pub refusal_line : RefusalsAreOneLine
refusal_line refusals.OutOfMemory alone = words_line (codes "out of memory") refl
refusal_line (refusals.NotText word) alone = counted_line (codes "word ") (codes " of the command line is not UTF-8") word refl refl
refusal_line (refusals.BadWords line) alone = shown_texts_are_one_line false (string_bytes line)
refusal_line (refusals.CommandLine fault) alone = word_line fault alone
refusal_line (refusals.Unopened path reason) alone =
    about (shown_text true (string_bytes path)) (shown_text false (string_bytes reason)) (shown_texts_are_one_line true (string_bytes path)) (shown_texts_are_one_line false (string_bytes reason))
refusal_line (refusals.Unwritten reason) alone = output_line (codes "the help or the version could not be written") reason refl
refusal_line (refusals.Run files fault reason) alone = report_line files.items fault reason

short_of : (text : List ℕ) → list_all is_printable text ≡ true → (line : List ℕ) → line ≡ line_of text → (t : List ℕ) × IsOneLine t × (line ≡ line_of t)
short_of text e line is = (text, words_line text e, is)

short_files : (fault : AnalyseFault) → (t : List ℕ) × IsOneLine t × (short_files_line fault ≡ line_of t)
short_files analyses.OutOfMemory = short_of (codes "out of memory") refl _ refl
short_files (analyses.LineCut file) = short_of (codes "the fixes of a file were not all handed on, and there is no memory to say which") refl _ refl
short_files (analyses.File file fault) = short_of (codes "a file cannot be read, and there is no memory to say which") refl _ refl
short_files (analyses.SameAnimal first second animal) = short_of (codes "two files have the same animal, and there is no memory to say which") refl _ refl

short_run : (fault : RunFault) → (t : List ℕ) × IsOneLine t × (short_run_line fault ≡ line_of t)
short_run (runs.Analyse fault) = short_files fault
short_run runs.OutOfMemory = short_of (codes "out of memory") refl _ refl
short_run runs.Write = short_of (codes "the report could not be written") refl _ refl

-- what stands for a refusal where there is no memory is one line
pub short_is_one_line : ShortLinesAreOneLine
short_is_one_line refusals.OutOfMemory = short_of (codes "out of memory") refl _ refl
short_is_one_line (refusals.NotText word) = short_of (codes "a word of the command line is not UTF-8") refl _ refl
short_is_one_line (refusals.BadWords line) = short_of (codes "the words of the command line are refused") refl _ refl
short_is_one_line (refusals.CommandLine words.OutOfMemory) = short_of (codes "out of memory") refl _ refl
short_is_one_line (refusals.CommandLine (words.Help text)) = short_of (codes "the words of the command line are refused") refl _ refl
short_is_one_line (refusals.CommandLine (words.Version text)) = short_of (codes "the words of the command line are refused") refl _ refl
short_is_one_line (refusals.CommandLine (words.BadWords text)) = short_of (codes "the words of the command line are refused") refl _ refl
short_is_one_line (refusals.CommandLine words.TooManyFiles) = short_of (codes "the words of the command line are refused") refl _ refl
short_is_one_line (refusals.CommandLine (words.BadLevels fault)) = short_of (codes "the words of the command line are refused") refl _ refl
short_is_one_line (refusals.Unopened path reason) = short_of (codes "a file cannot be opened, and there is no memory to say which") refl _ refl
short_is_one_line (refusals.Unwritten reason) = short_of (codes "the help or the version could not be written") refl _ refl
short_is_one_line (refusals.Run files fault reason) = short_run fault
