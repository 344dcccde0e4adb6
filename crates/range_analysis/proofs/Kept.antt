-- Files of which nothing was lost.
use Rattle.std.proofs.Common.{◌≡◌, ℕ, Bool, true, false, List, ◌∷◌, Option, Some, None, if◌then◌else◌, refl, subst}
use Rattle.std.specs.Prelude.{option_map}
use Rattle.std.specs.List.{list_any}
use Rattle.std.specs.declared.clone.Clone.{Ghosts}
use Rattle.std.proofs.lemmas.Bool.{not-false, or_parts}
use Rattle.range_collect.specs.declared.followed.Followed.{Followed}
use Rattle.range_analysis.specs.Entries.{is_cut, lacks_memory, loss_of, wants_memory}
use Rattle.range_analysis.proofs.Positions.{passes_nowhere}
use Rattle.range_analysis.specs.declared.analyse_fault.AnalyseFault.TheVariants.{OutOfMemory, LineCut}

none_lost : (b : Bool) (file : Option ℕ) → (if b then Some OutOfMemory else option_map LineCut file) ≡ None → (b ≡ false) × (file ≡ None)
none_lost true file none = cc
none_lost false None none = (refl, refl)
none_lost false (Some file) none = cc

-- the mark of the file was taken, and memory did not run out for it
pub record IsKept {A : Type 0} {clone : Ghosts A} (f : Followed A clone) : Type 0 where
  pub marked : f.marked ≡ true
  pub running : f.estimator.stopped ≡ false
  pub read : wants_memory f.read ≡ false

-- nothing was lost of the first file, nor of the others
pub first_kept : {A : Type 0} {clone : Ghosts A} (all : List (Followed A clone)) (f : Followed A clone) (rest : List (Followed A clone)) → all ≡ f ∷ rest
    → loss_of all ≡ None
    → IsKept f × (loss_of rest ≡ None)
first_kept all f rest step none =
    let parts = none_lost _ _ (subst (λ l. loss_of l ≡ None) step none) in
    let memory = or_parts (lacks_memory f) (list_any lacks_memory rest) parts.0 in
    let lacks = or_parts f.estimator.stopped (wants_memory f.read) memory.0 in
    let cut = passes_nowhere is_cut f rest parts.1 in
    (record { marked = not-false f.marked cut.0; running = lacks.0; read = lacks.1 }, rw (memory.1, cut.1) refl)
