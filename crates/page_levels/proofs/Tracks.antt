-- A track, fix by fix.
use Rattle.std.proofs.Common.{◌≡◌, ◌∙◌, ℕ, ◌+◌, ◌++◌, ◌∷◌, [], List, take, slice_get, Some, None, Ok, Err, if◌then◌else◌, ◌==◌, ◌<◌, false, refl, arith, ap, ap₂, sym}
use Rattle.std.proofs.lemmas.Bool.{ne_eqb}
use Rattle.std.proofs.lemmas.List.{take_all, take_more}
use Rattle.std.proofs.lemmas.Option.{get_or_from_slice_get, slice_get_within}
use Rattle.range_fixes.specs.Progress.{Answers, Moves, Progress, Reads}
use Rattle.range_fixes.specs.Reading.{Reading}
use Rattle.range_fixes.specs.declared.read_fault.ReadFault.{ReadFault}
use Rattle.range_fixes.specs.declared.read_fault.ReadFault.TheVariants as faults
use Rattle.range_plane.specs.declared.fix.Fix.{Fix}
use Rattle.page_levels.specs.Same.{IsUnread, fault_of}

-- one fix more of some that are read in turn
pub fix_more : (all fixes more : List Fix) (count next : ℕ) (fix : Fix) → fixes ≡ take count all → slice_get all count ≡ Some fix → more ≡ fixes ++ fix ∷ []
    → next ≡ count + 1 → more ≡ take next all
fix_more all fixes more count next fix so_far there pushed counted =
    pushed ∙ ap₂ (λ l x. l ++ x ∷ []) so_far (sym (get_or_from_slice_get all count fix fix there))
    ∙ sym (take_more all count fix (slice_get_within all count fix there)) ∙ ap (λ n. take n all) (sym counted)

-- why a reader stops
pub unread : (name : List ℕ) (own : Reading) (count : ℕ) (fault : ReadFault) → Answers own count (Err fault) → IsUnread name own (fault_of fault)
unread name own count faults.OutOfMemory answers = tt
unread name own count fault answers = λ text. (answers text).1

-- a count that is not 0
some_count : {A : Type 0} (n : ℕ) (x y : A) → 0 < n → (if n == 0 then x else y) ≡ y
some_count n x y some =
    let test : (n == 0) ≡ false = ne_eqb n 0 (λ none. omega (arith, some, none)) in
    rw test refl

-- what is known of a reading where a reader has ended
pub record IsEnded (own : Reading) (p : Progress) (fixes : List Fix) : Type 0 where
  pub whole : own.fault ≡ None
  pub all : own.fixes ≡ fixes
  pub animal : own.animal ≡ p.animal

pub ended : (own : Reading) (old new : Progress) (fixes : List Fix) → Reads new own → Moves old (Ok None) new → Answers own old.count (Ok None)
    → fixes ≡ take old.count own.fixes → IsEnded own new fixes
ended own old new fixes reads moves answers read =
    let count : new.count ≡ old.count = ap (λ (p : Progress). p.count) moves.0 in
    let named = some_count new.count None own.animal (omega (arith, count, moves.1)) in
    record {
      whole = answers.1;
      all = sym (read ∙ take_all old.count own.fixes (omega (arith, answers.0)));
      animal = sym (reads.animal ∙ named);
    }
