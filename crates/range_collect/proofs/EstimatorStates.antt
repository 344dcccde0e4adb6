-- What estimators hold after a message.
use Rattle.std.proofs.Common.{◌≡◌, ◌≢◌, ℕ, ◌+◌, ◌*◌, ◌-◌, ◌/◌, ◌<◌, ◌≤◌, List, [], ◌∷◌, ◌++◌, length, refl, ap, sym, subst, ◌∙◌, arith, false, cond, set, map}
use Rattle.std.proofs.Common.{Contains, slice_get, Some, inl, inr, ◌==◌}
use Rattle.std.proofs.lemmas.Bool.Decides.{nat_tests}
use Rattle.std.proofs.lemmas.List.{append-nil}
use Rattle.std.proofs.Math.Nat.{mul-div_cancel}
use Rattle.range_plane.specs.Fix.{fix_limit}
use Rattle.range_plane.specs.declared.fix.Fix.{Fix}
use Rattle.range_line.specs.declared.message.Message.{Message}
use Rattle.range_line.proofs.ForCallers.{files_are_steps_apart, last_messages_come_next, messages_add_their_fixes}
use Rattle.range_line.specs.LineEnds.{ended_feeder, files_from, FeederView}
use Rattle.range_line.specs.Messages.{fixes, fixes_in, all_fixes, of_file, IsLawful}
use Rattle.range_estimator.specs.Estimation.{Estimation}
use Rattle.range_collect.specs.Follow.{Holds}
use Rattle.range_collect.specs.Work.{EachHolds}
use Rattle.range_lemmas.proofs.Indices.{mapped, range_at, set_or_kept}

-- ---- the estimators of a line
pub index_is : (first step index file : ℕ) → 1 ≤ step → file ≡ first + index * step → (file - first) / step ≡ index
index_is first step index file some is =
    let e : file - first ≡ index * step = omega (arith, is) in rw e (mul-div_cancel index some)

-- the file is that at this index of its line
pub record IsAt (first step count file : ℕ) : Type 0 where
  pub index : ℕ
  pub below : index < count
  pub file_is : file ≡ first + index * step
  pub quotient : (file - first) / step ≡ index

-- a file of a line has an index there
pub is_at : (first step count file : ℕ) → 1 ≤ step → Contains (files_from first step count) file → IsAt first step count file
is_at first step count file some contained =
    let p = (files_are_steps_apart first step count file).0 contained in
    record { index = p.0; below = p.1; file_is = p.2; quotient = index_is first step p.0 file some p.2 }

different_files : (first step p q : ℕ) → 1 ≤ step → p ≢ q → first + p * step ≢ first + q * step
different_files first step p q some differ same =
    differ (sym (index_is first step p (first + p * step) some refl) ∙ index_is first step q (first + p * step) some same)

own_fixes : (file number : ℕ) (block : List Fix) → file ≡ number → cond (file == number) block [] ≡ block
own_fixes file number block same = grind (arith, nat_tests)

no_fixes : (file number : ℕ) (block : List Fix) → file ≢ number → cond (file == number) block [] ≡ []
no_fixes file number block differ = grind (arith, nat_tests)

-- where the estimator of a message's file takes its fixes, each holds what was taken of its file, the message too
pub each_holds_more : (first step : ℕ) (taken : List Message) (m : Message) (es : List Estimation) (i : ℕ) (old new : Estimation)
    → 1 ≤ step → m.file ≡ first + i * step → slice_get es i ≡ Some old → ((all : List Fix) → Holds old all → Holds new (all ++ fixes_in m.body))
    → EachHolds first step taken es → EachHolds first step (taken ++ m ∷ []) (set es i new)
each_holds_more first step taken m es i old new some file at given holds index e is =
    let number : ℕ = first + index * step in
    let more = messages_add_their_fixes taken m number in
    elim (set_or_kept es i new index e is) as (λ _. Holds e (fixes (taken ++ m ∷ []) number)) [
      | inl this ↦
          (let same : m.file ≡ number = file ∙ ap (λ (p : ℕ). first + p * step) (sym this.0) in
          let all : fixes (taken ++ m ∷ []) number ≡ fixes taken number ++ fixes_in m.body = more
          ∙ ap (λ (l : List Fix). fixes taken number ++ l) (own_fixes m.file number (fixes_in m.body) same) in
          let was : slice_get es index ≡ Some old = subst (λ (p : ℕ). slice_get es p ≡ Some old) (sym this.0) at in
          subst (λ (x : Estimation). Holds x (fixes (taken ++ m ∷ []) number)) this.1 (rw all (given (fixes taken number) (holds index old was))))
      | inr other ↦
          (let differ : m.file ≢ number = λ same. different_files first step i index some (λ e. other.0 (sym e)) (sym file ∙ same) in
          let all : fixes (taken ++ m ∷ []) number ≡ fixes taken number = more
          ∙ (ap (λ (l : List Fix). fixes taken number ++ l) (no_fixes m.file number (fixes_in m.body) differ) ∙ append-nil (fixes taken number)) in
          rw all (holds index e other.1))
    ]

-- the message's fixes are few enough for an estimator that has not stopped
pub few : (taken : List Message) (m : Message) (e : Estimation) → IsLawful (taken ++ m ∷ []) m.file → Holds e (fixes taken m.file)
    → e.stopped ≡ false
    → length e.fixes + length (fixes_in m.body) ≤ fix_limit
few taken m e lawful holds running =
    let room = (last_messages_come_next taken m lawful).room in
    let same = ap length (holds.whole running) in omega (arith, room, same)

-- ---- a line that is drained
-- feeders that have ended stay as they are when they end
pub ended_twice : (fs : List FeederView) → map ended_feeder (map ended_feeder fs) ≡ map ended_feeder fs
ended_twice [] = refl
ended_twice (f ∷ fs) = ap (λ (l : List FeederView). ended_feeder f ∷ l) (ended_twice fs)

-- feeders that have ended are of the files that they were of
pub ended_files : (fs : List FeederView) → map (λ (f : FeederView). f.file) (map ended_feeder fs) ≡ map (λ (f : FeederView). f.file) fs
ended_files [] = refl
ended_files (f ∷ fs) = ap (λ (l : List ℕ). f.file ∷ l) (ended_files fs)

-- an estimator that holds what was taken of a file holds what its feeder sent, where all of it was taken
pub holds_sent : (first step n : ℕ) (taken : List Message) (fs : List FeederView) (index : ℕ) (f : FeederView) (e : Estimation)
    → map (λ (f : FeederView). f.file) fs ≡ files_from first step n → slice_get fs index ≡ Some f → of_file taken f.file ≡ f.sent
    → Holds e (fixes taken (first + index * step)) → Holds e (all_fixes f.sent)
holds_sent first step n taken fs index f e order is all holds =
    let at : slice_get (files_from first step n) index ≡ Some f.file =
    subst (λ (l : List ℕ). slice_get l index ≡ Some f.file) order (mapped (λ (f : FeederView). f.file) fs index f is) in
    let file : f.file ≡ first + index * step = (range_at (λ (j : ℕ). first + j * step) n index f.file at).1 in
    let sent : of_file taken (first + index * step) ≡ f.sent = ap (of_file taken) (sym file) ∙ all in
    subst (λ (ms : List Message). Holds e (all_fixes ms)) sent holds
