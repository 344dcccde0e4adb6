-- What the sources come to, by what their files gave.
use Rattle.std.proofs.Common.{◌≡◌, ℕ, suc, ◌+◌, ◌<◌, Bool, true, false, List, [], ◌∷◌, length, Option, Some, None, Result, Ok, Err, IfOk, IfErr, MatchResult}
use Rattle.std.proofs.Common.{if◌then◌else◌, refl, sym, ap, subst, arith}
use Rattle.std.specs.Prelude.{option_map}
use Rattle.std.specs.List.{AllZip, list_any, position}
use Rattle.std.specs.declared.clone.Clone.{Ghosts}
use Rattle.std.proofs.lemmas.Option.{none-some, same_Some}
use Rattle.range_lemmas.specs.Pairs.{PairedFrom}
use Rattle.range_collect.specs.declared.followed.Followed.{Followed}
use Rattle.range_plane.specs.declared.scale.Scale.{Scale}
use Rattle.range_fixes.specs.Reading.{Reading}
use Rattle.range_analysis.specs.declared.analysis.Analysis.{Analysis}
use Rattle.range_analysis.proofs.Positions.{index_within}
use Rattle.range_analysis.specs.Analysis.{HasNoAnalysis, IsAnalysis}
use Rattle.range_analysis.specs.Entries.{entries_of, is_cut, lacks_memory, loss_of}
use Rattle.range_analysis.specs.Sources.{Gives, HasNoAnalysisOf, IsAnalysisOf}
use Rattle.range_analysis.specs.declared.analyse_fault.AnalyseFault.{AnalyseFault}
use Rattle.range_analysis.specs.declared.analyse_fault.AnalyseFault.TheVariants.{OutOfMemory, LineCut, File, SameAnimal}

-- there are as many results as sources
pub same_count : {X Y : Type 0} (R : ℕ → X → Y → Type 0) (number : ℕ) (xs : List X) (ys : List Y) → PairedFrom R number xs ys → length ys ≡ length xs
same_count R number [] [] paired = refl
same_count R number [] (y ∷ ys) paired = absurd paired
same_count R number (x ∷ xs) [] paired = absurd paired
same_count R number (x ∷ xs) (y ∷ ys) paired = ap suc (same_count R (number + 1) xs ys paired.1)

lost_by : (sources : List (Option Reading)) (b : Bool) (cut : Option ℕ) (fault : AnalyseFault) → ((file : ℕ) → cut ≡ Some file → file < length sources)
    → (if b then Some OutOfMemory else option_map LineCut cut) ≡ Some fault → HasNoAnalysisOf sources fault
lost_by sources true cut fault within is = subst (HasNoAnalysisOf sources) (same_Some OutOfMemory fault is) tt
lost_by sources false (Some file) fault within is = subst (HasNoAnalysisOf sources) (same_Some (LineCut file) fault is) (within file refl)
lost_by sources false None fault within is = absurd (none-some fault is)

module _ {A : Type 0} {clone : Ghosts A} (sources : List (Option Reading)) (followed : List (Followed A clone)) (count : length followed ≡ length sources) where
  lost_is_none : (fault : AnalyseFault) → loss_of followed ≡ Some fault → HasNoAnalysisOf sources fault
  lost_is_none fault is =
      lost_by sources (list_any lacks_memory followed) (position is_cut followed) fault
      (λ file at. let within = index_within is_cut followed file at in omega (arith, count, within)) is

  none_of_entries : (fault : AnalyseFault) → AllZip Gives sources (entries_of followed) → HasNoAnalysis (entries_of followed) fault
      → HasNoAnalysisOf sources fault
  none_of_entries OutOfMemory given none = tt
  none_of_entries (LineCut file) given none = absurd none
  none_of_entries (File file fault) given none = (entries_of followed, given, none)
  none_of_entries (SameAnimal first second animal) given none = (entries_of followed, given, none)

  -- what judging the files says of the sources
  pub outcome : (levels : List ℕ) (unit : Scale) (why : Option AnalyseFault) (result : Result Analysis AnalyseFault) → loss_of followed ≡ why
      → ((fault : AnalyseFault) → loss_of followed ≡ Some fault → result ≡ Err fault)
      → (loss_of followed ≡ None → MatchResult result (IsAnalysis (entries_of followed) levels unit) (HasNoAnalysis (entries_of followed)))
      → (loss_of followed ≡ None → AllZip Gives sources (entries_of followed))
      → IfOk result (IsAnalysisOf sources levels unit) × IfErr result (HasNoAnalysisOf sources)
  outcome levels unit None (Ok analysis) is refused judged given = ((entries_of followed, given is, judged is), tt)
  outcome levels unit None (Err fault) is refused judged given = (tt, none_of_entries fault (given is) (judged is))
  outcome levels unit (Some why) (Ok analysis) is refused judged given = (let no = refused why is in cc)
  outcome levels unit (Some why) (Err fault) is refused judged given =
      let same : fault ≡ why = (let e = refused why is in cc) in
      (tt, subst (HasNoAnalysisOf sources) (sym same) (lost_is_none why is))
