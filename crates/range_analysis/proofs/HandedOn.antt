-- A file of which nothing was lost was handed on whole, so what is known of it is what its source gives.
use Rattle.std.proofs.Common.{◌≡◌, ◌≢◌, ◌≤◌, ℕ, ◌+◌, Bool, true, false, List, [], ◌∷◌, length, Option, Some, None, Ok, Err, IfSome, refl, sym, ap, subst, ◌∙◌}
use Rattle.std.proofs.Common.{arith}
use Rattle.std.specs.List.{AllZip}
use Rattle.std.specs.declared.clone.Clone.{Ghosts}
use Rattle.range_plane.specs.Fix.{fix_limit}
use Rattle.range_plane.specs.declared.fix.Fix.{Fix}
use Rattle.range_fixes.specs.declared.read_fault.ReadFault.{ReadFault}
use Rattle.range_fixes.specs.declared.read_fault.ReadFault.TheVariants as reads
use Rattle.range_fixes.specs.Progress.{is_of_text}
use Rattle.range_fixes.specs.Reading.{Reading}
use Rattle.range_line.proofs.ForCallers.{last_messages_come_next, streams_are_lawful}
use Rattle.range_options.specs.Limits.{block_limit}
use Rattle.range_line.specs.LineEnds.{FeederView}
use Rattle.range_line.specs.Messages.{IsLawful, block_count, blocks, fixes, message, stream, the_mark}
use Rattle.range_estimator.specs.Estimation.{Estimation}
use Rattle.range_collect.specs.Follow.{IsFollowedAs, IsResult}
use Rattle.range_collect.specs.Results.{IsFollowed}
use Rattle.range_lemmas.specs.Pairs.{PairedFrom}
use Rattle.range_pump.specs.Pump.{IsReadAs, IsSent, ReadResult}
use Rattle.range_collect.specs.declared.followed.Followed.{Followed}
use Rattle.range_analysis.specs.Entries.{entries_of, entry_of, loss_of, wants_memory}
use Rattle.range_analysis.specs.Sources.{Gives, IsWhole}
use Rattle.range_analysis.proofs.Kept.{first_kept}

-- what was sent with its mark joins to the fixes that were read
sent_whole : (feeder : FeederView) (all : List Fix) (size : ℕ) (read : ReadResult) → 1 ≤ size → size ≤ block_limit
    → IsSent feeder all size read → feeder.closed ≡ true → IsLawful feeder.sent feeder.file → fixes feeder.sent feeder.file ≡ all
sent_whole feeder all size read some small sent closed lawful =
    let whole : feeder.sent ≡ stream feeder.file all size = (sent.closed closed).0 in
    let mark = last_messages_come_next (blocks feeder.file all size (block_count all size)) (message feeder.file (length all) the_mark)
    (subst (λ l. IsLawful l feeder.file) whole lawful) in
    let few : length all ≤ fix_limit = omega (arith, mark.place, mark.room) in
    ap (λ l. fixes l feeder.file) whole ∙ (streams_are_lawful feeder.file all size some small few).1

told_whole : (source : Option Reading) (all taken : List Fix) (name : List ℕ) → IfSome source (λ r. IsReadAs r all (Ok name)) → taken ≡ all
    → IfSome source (λ r. IsWhole r name taken)
told_whole None all taken name told same = tt
told_whole (Some r) all taken name told same =
    let end = told.name name refl in
    record { animal = end.0; all = end.1 ∙ sym same; to_end = end.2 }

told_fault : (source : Option Reading) (all : List Fix) (fault : ReadFault) → IfSome source (λ r. IsReadAs r all (Err fault))
    → IfSome source (λ r. is_of_text fault ≡ true → r.fault ≡ Some fault)
told_fault None all fault told = tt
told_fault (Some r) all fault told = λ text. (told.fault fault refl text).1

-- a reader that had the memory it asked for has another fault
other_fault : (fault : ReadFault) → wants_memory (Err fault) ≡ false → fault ≢ reads.OutOfMemory
other_fault fault none = λ e. cc (none, e)

module _ (size : ℕ) (some : 1 ≤ size) (small : size ≤ block_limit) where
  -- one file
  file_given : (source : Option Reading) (number : ℕ) (feeder : FeederView) (read : ReadResult) (e : Estimation) (mark : Bool)
      → IsFollowedAs source number size feeder read e mark
      → IsResult feeder read e mark → mark ≡ true → e.stopped ≡ false → wants_memory read ≡ false → Gives source (entry_of read e.fixes)
  file_given source number feeder (Ok name) e mark f result marked running fed =
      let lawful = subst (λ n. IsLawful feeder.sent n) (sym f.file) f.lawful in
      let sent = sent_whole feeder f.pumped.fixes size (Ok name) some small f.pumped.sent (result.marked marked) lawful in
      let all : e.fixes ≡ f.pumped.fixes = f.holds.whole running ∙ ap (λ n. fixes feeder.sent n) (sym f.file) ∙ sent in
      (result.some refl marked running, told_whole source f.pumped.fixes e.fixes name f.pumped.told all)
  file_given source number feeder (Err fault) e mark f result marked running fed =
      let kept : fault ≢ reads.Gone = λ gone. cc (result.marked marked, result.gone (ap Err gone)) in
      (other_fault fault fed, kept, told_fault source f.pumped.fixes fault f.pumped.told)

  -- all files, the first of them having this number
  pub files_given : {A : Type 0} {clone : Ghosts A} (number : ℕ) (sources : List (Option Reading)) (followed : List (Followed A clone))
      → PairedFrom (λ file source f. IsFollowed source file size f) number sources followed → loss_of followed ≡ None
      → AllZip Gives sources (entries_of followed)
  files_given number [] [] paired none = tt
  files_given number [] (f ∷ followed) paired none = absurd paired
  files_given number (source ∷ sources) [] paired none = absurd paired
  files_given number (source ∷ sources) (f ∷ followed) paired none =
      let kept = first_kept (f ∷ followed) f followed refl none in (
        file_given source number f.feeder f.read f.estimator f.marked paired.0 f.result kept.0.marked kept.0.running kept.0.read,
        files_given (number + 1) sources followed paired.1 kept.1,
      )
