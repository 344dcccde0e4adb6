-- From what a run over sources comes to, to what its words ask for.
use Rattle.std.proofs.Common.{◌≡◌, ℕ, ◌+◌, ◌<◌, ◌==◌, zero, suc, true, false, inl, inr, List, [], ◌∷◌, ◌++◌, length, map, take, slice_index_or, Option, None, Some, Result, Ok, Err, String, Global}
use Rattle.std.proofs.Common.{string_bytes, ap, ap₂, ◌∙◌, sym, subst, refl, rules, arith}
use Rattle.std.proofs.lemmas.List.{map-append, take_more}
use Rattle.std.proofs.Math.Seq.{take-length}
use Rattle.std.specs.Io.KnownBytes.{Appends, Keeps}
use Rattle.std.specs.Prelude.{IfErr, OnErr, OnOk}
use Rattle.std.specs.Result.{result_or}
use Rattle.std.specs.declared.io.Error.{Error}
use Rattle.clap.specs.Words.{Text}
use Rattle.range_fixes.specs.Reading.{Reading, readings}
use Rattle.range_plane.specs.declared.scale.Scale.{Scale}
use Rattle.range_words.specs.WordList.{AreWordsOf}
use Rattle.range_words.specs.declared.words.Words.{Words}
use Rattle.range_run.specs.Run.{Explains, WritesPrefix, WritesReport}
use Rattle.range_run.specs.WrittenPrefix.{AppendsPrefix}
use Rattle.range_run.specs.Status.{fault_status}
use Rattle.range_run.specs.declared.run_fault.RunFault.TheVariants as runs
use Rattle.range_analysis.specs.declared.analyse_fault.AnalyseFault.TheVariants as analyses
use Rattle.range_run.specs.declared.run_fault.RunFault.{RunFault}
use Rattle.range_command.specs.Command.{AskFor, BeginsReport, IsBegun, IsOfFiles, IsOfReply, IsOfRun, IsTold, IsUnopened, Reports, World, said_in, sources_of, sources_over}
use Rattle.range_command.specs.Opener.{AllMayOpen, Found, IsFirstRefused, MayOpen, MayRefuse, bytes_in}
use Rattle.range_command.specs.Status.{refusal_status}
use Rattle.range_command.specs.declared.refusal.Refusal.{Refusal}
use Rattle.range_command.specs.declared.refusal.Refusal.TheVariants as refusals

pub may_open_more : (find : List ℕ → Found) (files : List (String Global)) (file : String Global) → AllMayOpen find files → MayOpen (find (string_bytes file))
    → AllMayOpen find (files ++ file ∷ [])
may_open_more find [] file before here = (here, tt)
may_open_more find (first ∷ files) file before here = (before.0, may_open_more find files file before.1 here)

-- where the first k files may be opened, and the next may be, the first k + 1 may be
pub may_open_of : (find : List ℕ → Found) (files : List (String Global)) (k : ℕ) (file : String Global) → k < length files → slice_index_or files k file ≡ file
    → AllMayOpen find (take k files) → MayOpen (find (string_bytes file)) → AllMayOpen find (take (k + 1) files)
may_open_of find files k file within is before here =
    subst (AllMayOpen find) (sym (take_more files k file within ∙ ap (λ (f : String Global). take k files ++ f ∷ []) is)) (may_open_more find (take k files) file before here)

-- of files that may be opened up to one that is refused, that is the first
pub first_refused : (find : List ℕ → Found) (files : List (String Global)) (k : ℕ) (file : String Global) (path reason : List ℕ) → k < length files
    → AllMayOpen find (take k files) → slice_index_or files k file ≡ file → path ≡ string_bytes file → MayRefuse (find (string_bytes file)) reason
    → IsFirstRefused find files path reason
first_refused find [] k file path reason within before is named here = absurd (omega (arith, within))
first_refused find (first ∷ files) zero file path reason within before is named here =
    inl (named ∙ ap string_bytes (sym is), subst (λ (f : String Global). MayRefuse (find (string_bytes f)) reason) (sym is) here)
first_refused find (first ∷ files) (suc k) file path reason within before is named here =
    inr (before.0, first_refused find files k file path reason (omega (arith, within)) before.1 is named here)

-- a file that was not opened is the first of the files
pub unopened_of_files : (find : List ℕ → Found) (files : List (String Global)) (k : ℕ) (file : String Global) (refusal : Refusal) → k < length files
    → AllMayOpen find (take k files) → slice_index_or files k file ≡ file → IsUnopened (find (string_bytes file)) (string_bytes file) refusal
    → IsOfFiles find files refusal
unopened_of_files find files k file refusals.OutOfMemory within before is told = tt
unopened_of_files find files k file (refusals.Unopened path reason) within before is told =
    first_refused find files k file (string_bytes path) (string_bytes reason) within before is told.0 told.1
unopened_of_files find files k file (refusals.NotText word) within before is told = absurd told
unopened_of_files find files k file (refusals.BadWords line) within before is told = absurd told
unopened_of_files find files k file (refusals.CommandLine fault) within before is told = absurd told
unopened_of_files find files k file (refusals.Unwritten reason) within before is told = absurd told
unopened_of_files find files k file (refusals.Run fs fault reason) within before is told = absurd told

-- why files are not opened is why good words have no report
pub files_of_run : (read : Words) (w : World) (refusal : Refusal) → IsOfFiles w.find read.files.items refusal → IsOfRun read w refusal
files_of_run read w refusals.OutOfMemory told = tt
files_of_run read w (refusals.Unopened path reason) told = told
files_of_run read w (refusals.NotText word) told = absurd told
files_of_run read w (refusals.BadWords line) told = absurd told
files_of_run read w (refusals.CommandLine fault) told = absurd told
files_of_run read w (refusals.Unwritten reason) told = absurd told
files_of_run read w (refusals.Run fs fault reason) told = absurd told

-- and good words are told what their run is
pub told_of_run : (said : List Text) (w : World) (read : Words) → AreWordsOf said read → (refusal : Refusal) → IsOfRun read w refusal → IsTold said w refusal
told_of_run said w read good refusals.OutOfMemory told = tt
told_of_run said w read good (refusals.Unopened path reason) told = (read, good, told)
told_of_run said w read good (refusals.Run fs fault reason) told = (read, good, told)
told_of_run said w read good (refusals.NotText word) told = absurd told
told_of_run said w read good (refusals.BadWords line) told = absurd told
told_of_run said w read good (refusals.CommandLine fault) told = absurd told
told_of_run said w read good (refusals.Unwritten reason) told = absurd told

-- what could not be written was asked for
pub reply_told : (said : List Text) (w : World) (text : String Global) → AskFor said text → (refusal : Refusal) → IsOfReply refusal → IsTold said w refusal
reply_told said w text asked refusals.OutOfMemory told = absurd told
reply_told said w text asked (refusals.NotText word) told = absurd told
reply_told said w text asked (refusals.BadWords line) told = absurd told
reply_told said w text asked (refusals.CommandLine fault) told = absurd told
reply_told said w text asked (refusals.Unopened path reason) told = absurd told
reply_told said w text asked (refusals.Unwritten reason) told = (text, asked)
reply_told said w text asked (refusals.Run fs fault reason) told = absurd told

-- what the sources tell, one file more
pub told_more : {S : Type 0} (tells : S → Option (List ℕ)) (found : String Global → Option (List ℕ)) (files : List (String Global)) (k : ℕ)
    (file : String Global) (sources pushed : List S) (source : S) → k < length files → slice_index_or files k file ≡ file
    → map tells sources ≡ map found (take k files) → tells source ≡ found file → pushed ≡ sources ++ source ∷ [] → map tells pushed ≡ map found (take (k + 1) files)
told_more tells found files k file sources pushed source within is before here ended =
    ap (map tells) ended ∙ map-append tells sources (source ∷ []) ∙ ap₂ (λ (a b : List (Option (List ℕ))). a ++ b) before (ap (λ (x : Option (List ℕ)). x ∷ []) here)
    ∙ sym (map-append found (take k files) (file ∷ [])) ∙ ap (map found) (sym (take_more files k file within ∙ ap (λ (f : String Global). take k files ++ f ∷ []) is))

map_twice : {A B C : Type 0} (f : A → B) (g : B → C) (xs : List A) → map (λ x. g (f x)) xs ≡ map g (map f xs)
map_twice f g [] = refl
map_twice f g (x ∷ xs) = ap (λ ys. g (f x) ∷ ys) (map_twice f g xs)

-- what sources say is what is said by the bytes that they tell
readings_told : {S : Type 0} (tells : S → Option (List ℕ)) (unit : Scale) (sources : List S) → readings tells unit sources ≡ said_in unit (map tells sources)
readings_told tells unit sources = map_twice tells _ sources

-- the input, where no file is named
pub alone_said : {S : Type 0} (tells : S → Option (List ℕ)) (unit : Scale) (w : World) (files : List (String Global)) (sources : List S)
    → (length files == 0) ≡ true → map tells sources ≡ w.input ∷ [] → readings tells unit sources ≡ said_in unit (sources_over w files)
alone_said tells unit w [] sources none told = readings_told tells unit sources ∙ ap (said_in unit) told
alone_said tells unit w (file ∷ files) sources none told = search rules

-- the files, where some are
pub files_said : {S : Type 0} (tells : S → Option (List ℕ)) (unit : Scale) (w : World) (files : List (String Global)) (sources : List S)
    → (length files == 0) ≡ false → map tells sources ≡ map (λ file. bytes_in (w.find (string_bytes file))) files
    → readings tells unit sources ≡ said_in unit (sources_over w files)
files_said tells unit w [] sources some told = search rules
files_said tells unit w (file ∷ files) sources some told = readings_told tells unit sources ∙ ap (said_in unit) told

-- known bytes that grew by a text, and then stay, have grown by it
pub appends_kept : (old mid new : Option (List ℕ)) (text : List ℕ) → Appends old mid text → Keeps mid new → Appends old new text
appends_kept None mid new text written kept = tt
appends_kept (Some x) None new text written kept = absurd written
appends_kept (Some x) (Some y) None text written kept = absurd kept
appends_kept (Some x) (Some y) (Some z) text written kept = kept ∙ written

-- a text is a beginning of itself
pub whole_prefix : (old new : Option (List ℕ)) (text : List ℕ) → Appends old new text → AppendsPrefix old new text
whole_prefix old new text written = (length text, subst (λ (t : List ℕ). Appends old new t) (sym (take-length text)) written)

-- a report that was written, and is still there
pub report_kept : (sources : List (Option Reading)) (levels : List ℕ) (unit : Scale) (old mid new : Option (List ℕ)) → WritesReport sources levels unit old mid
    → Keeps mid new → WritesReport sources levels unit old new
report_kept sources levels unit old mid new written kept = (written.0, written.1, appends_kept old mid new _ written.2 kept)

-- and so a beginning of it was written
pub report_begun : (sources : List (Option Reading)) (levels : List ℕ) (unit : Scale) (old new : Option (List ℕ)) → WritesReport sources levels unit old new
    → WritesPrefix sources levels unit old new
report_begun sources levels unit old new written = (written.0, written.1, whole_prefix old new _ written.2)

-- what holds, holds where a call succeeds
pub on_ok : {T E P : Type 0} (r : Result T E) → P → OnOk r P
on_ok (Ok x) holds = holds
on_ok (Err e) holds = tt

-- the fault of a run whose report is not out is that of a write
pub of_finish : (P : RunFault → Type 0) (finished : Result (Unit {0}) Error) (r : Result (Unit {0}) RunFault) → r ≡ result_or finished (Err runs.Write) → P runs.Write
    → IfErr r P
of_finish P (Ok done) r is holds = subst (λ s. IfErr s P) (sym is) tt
of_finish P (Err error) r is holds = subst (λ s. IfErr s P) (sym is) holds

-- what holds, holds where a call fails
pub on_err : {T E P : Type 0} (r : Result T E) → P → OnErr r P
on_err (Ok x) holds = tt
on_err (Err e) holds = holds

-- where a beginning of what was asked for was written, the words are obeyed to there
pub reply_begun : {T : Type 0} (said : List Text) (w : World) (text : String Global) (old new : Option (List ℕ)) (r : Result T Refusal) → AskFor said text
    → OnErr r (AppendsPrefix old new (string_bytes text)) → IfErr r (λ refusal. refusal_status refusal ≡ 4 → IsBegun said w old new)
reply_begun said w text old new (Ok done) asked prefix = tt
reply_begun said w text old new (Err refusal) asked prefix = λ status. inr (text, asked, prefix)

-- a report of these sources is that of the words
pub reported : {E : Type 0} (read : Words) (w : World) (sources : List (Option Reading)) (old written new : Option (List ℕ)) (r : Result (Unit {0}) E)
    (done : Unit {0})
    → OnOk r (WritesReport sources read.options.levels read.options.plan.unit old written) → r ≡ Ok done → sources ≡ sources_of read w → written ≡ new
    → AllMayOpen w.find read.files.items → Reports read w old new
reported read w sources old written new r done report ended same is opened =
    let of_words = subst (λ s. OnOk s (WritesReport sources read.options.levels read.options.plan.unit old written)) ended report in
    let to_new = subst (λ n. WritesReport sources read.options.levels read.options.plan.unit old n) is of_words in
    (opened, subst (λ s. WritesReport s read.options.levels read.options.plan.unit old new) same to_new)

-- a fault of this status is that of a write
pub of_write : (fault : RunFault) → fault_status fault ≡ 4 → fault ≡ runs.Write
of_write runs.Write is = refl
of_write runs.OutOfMemory is = search rules
of_write (runs.Analyse analyses.OutOfMemory) is = search rules
of_write (runs.Analyse (analyses.LineCut file)) is = search rules
of_write (runs.Analyse (analyses.File file fault)) is = search rules
of_write (runs.Analyse (analyses.SameAnimal first second animal)) is = search rules

-- and so is a beginning of it, where it could not be written whole
pub begun : {T : Type 0} (read : Words) (w : World) (sources : List (Option Reading)) (old written new : Option (List ℕ)) (r : Result T RunFault) (fault : RunFault)
    → (r ≡ Err runs.Write → WritesPrefix sources read.options.levels read.options.plan.unit old written) → r ≡ Err fault → fault_status fault ≡ 4
    → sources ≡ sources_of read w → written ≡ new → AllMayOpen w.find read.files.items → BeginsReport read w old new
begun read w sources old written new r fault report ended status same is opened =
    let prefix = report (ended ∙ ap Err (of_write fault status)) in
    let to_new = subst (λ n. WritesPrefix sources read.options.levels read.options.plan.unit old n) is prefix in
    (opened, subst (λ s. WritesPrefix s read.options.levels read.options.plan.unit old new) same to_new)

-- without files all may be opened
pub none_refused : (find : List ℕ → Found) (files : List (String Global)) → (length files == 0) ≡ true → AllMayOpen find files
none_refused find [] none = tt
none_refused find (file ∷ files) none = search rules

-- what explains the fault of a run over sources is what explains that of the words
pub explained : {T : Type 0} (read : Words) (w : World) (sources : List (Option Reading)) (r : Result T RunFault) (fault : RunFault)
    → IfErr r (Explains sources read.options.levels read.options.plan.unit) → r ≡ Err fault → sources ≡ sources_of read w
    → Explains (sources_of read w) read.options.levels read.options.plan.unit fault
explained read w sources r fault told ended same =
    let of_fault = subst (λ s. IfErr s (Explains sources read.options.levels read.options.plan.unit)) ended told in
    subst (λ s. Explains s read.options.levels read.options.plan.unit fault) same of_fault
