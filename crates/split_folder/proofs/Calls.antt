-- What calls come to, one after the other.
use Rattle.std.proofs.Common.{◌≡◌, ◌<◌, ◌+◌, ◌++◌, ℕ, List, [], ◌∷◌, Option, None, Some, Result, Ok, Err, OnOk, IfErr, option_map, get_or, length, take, ap, sym, subst, ◌∙◌, arith}
use Rattle.std.proofs.lemmas.List.{get_or-map, length-map, take_more}
use Rattle.std.specs.Result.{result_err}
use Rattle.std.specs.declared.io.Error.{Error}
use Rattle.split_folder.specs.declared.fault.FolderFault.TheVariants.{Failed}
use Rattle.split_folder.specs.declared.fault.Stop.{Stop}
use Rattle.split_folder.specs.declared.new_file.NewFile.{NewFile}
use Rattle.split_folder.specs.Folder.{File, IsKnown, IsNotRemoved, State, added, begun, nothing, removed, sound}
use Rattle.split_folder.specs.Fault.{IsStopped, Tells, files_in}

-- what is known goes on as told
pub known_then : (f : State → State) (x : State) (old new : Option State) → IsKnown x old → new ≡ option_map f old → IsKnown (f x) new
known_then f x None new known is = subst (IsKnown (f x)) (sym is) tt
known_then f x (Some y) new known is = subst (IsKnown (f x)) (sym is) (ap f known)

-- one file more
pub files_more : (files : List NewFile) (k : ℕ) (d : NewFile) → k < length files → take (k + 1) (files_in files) ≡ take k (files_in files) ++ ((get_or files k d).name.now, (get_or files k d).text.now) ∷ []
files_more files k d below =
    let within : k < length (files_in files) = omega (arith, below, length-map {B = File} files (λ file. (file.name.now, file.text.now))) in
    let at = get_or-map {Y = File} (λ (file : NewFile). (file.name.now, file.text.now)) files k d ([], []) below in
    take_more (files_in files) k ([], []) within ∙ ap (λ file. take k (files_in files) ++ file ∷ []) at

pub begun_more : (files : List NewFile) (k : ℕ) (d : NewFile) (old new : Option State) → k < length files → IsKnown (sound (begun (take k (files_in files)))) old → new ≡ option_map (added ((get_or files k d).name.now, (get_or files k d).text.now)) old → IsKnown (sound (begun (take (k + 1) (files_in files)))) new
begun_more files k d old new below known is =
    subst (λ l. IsKnown (sound (begun l)) new) (sym (files_more files k d below)) (known_then (added _) (sound (begun (take k (files_in files)))) old new known is)

-- what the answer of a removal says of why writing stopped
pub told_so : {T : Type 0} (stop : Stop) (answer : Result T Error) (old new : Option State) → IsStopped stop old → OnOk answer (new ≡ option_map removed old) → IfErr answer (λ error. IsNotRemoved error old new) → Tells (Failed stop.step stop.error (result_err answer)) new
told_so stop (Ok x) None new stopped gone stays = subst (IsKnown _) (sym gone) tt
told_so stop (Ok x) (Some s) new stopped gone stays = subst (IsKnown _) (sym gone) (ap (λ failure. record { held = nothing; failure = failure; left = None }) stopped.1)
told_so stop (Err error) None new stopped gone stays = subst (Tells (Failed stop.step stop.error (Some error))) (sym stays) tt
told_so stop (Err error) (Some s) None stopped gone stays = tt
told_so stop (Err error) (Some s) (Some t) stopped gone stays = (stays.0, stays.1 ∙ stopped.1, stays.2)
