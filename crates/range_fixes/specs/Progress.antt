-- How far a reader of fixes is.
use Rattle.std.specs.Prelude.{◌≡◌, ◌⊎◌, ◌≤◌, ◌<◌, ◌+◌, ℕ, Bool, true, false, List, length, drop, slice_get, Option, Some, None, Result, Ok, Err, IsSome, IfSome}
use Rattle.std.specs.Prelude.{IsSomeAnd, ⊤, ◌≢◌, ◌==◌, if◌then◌else◌}
use Rattle.range_plane.specs.declared.fix.Fix.{Fix}
use Rattle.range_fixes.specs.declared.read_fault.ReadFault.{ReadFault}
use Rattle.range_fixes.specs.declared.read_fault.ReadFault.TheVariants as faults
use Rattle.range_fixes.specs.declared.reader.Stage.{Stage}
use Rattle.range_fixes.specs.declared.reader.Stage.TheVariants.{Going, Ended, Failed}
use Rattle.range_fixes.specs.Reading.{Reading}

pub record Progress : Type 0 where
  -- how many fixes were given, and their animal
  pub count : ℕ
  pub animal : Option (List ℕ)
  -- how many records below the header were read
  pub record_count : ℕ
  -- how many records below the header are left, where the source tells its bytes
  pub left : Option ℕ
  -- whether calls go on, or all answer alike
  pub stage : Stage
  -- a read of the source or an allocation under the records failed
  pub read_failed : Bool
  -- what calls give from here on, where the source tells its bytes
  pub ahead : Option Reading

-- what every call from this stage on answers, unless the reader goes on
abbrev pub final_answer : Stage → Option (Result (Option Fix) ReadFault)
final_answer Going = None
final_answer Ended = Some (Ok None)
final_answer (Failed fault) = Some (Err fault)

-- whether a fault is one of the file's text, in which the source, memory and the line have no part
abbrev pub is_of_text : ReadFault → Bool
is_of_text faults.OutOfMemory = false
is_of_text faults.Read = false
is_of_text faults.Gone = false
is_of_text _ = true

-- a stage to which the text alone leads: the source and memory have not failed
abbrev pub is_stage_of_text : Stage → Bool
is_stage_of_text Going = true
is_stage_of_text Ended = true
is_stage_of_text (Failed fault) = is_of_text fault

-- a fault in which the text has no part comes where a read or an allocation under the records failed, or where no memory was found for the name of the first
abbrev pub HasCause : Option (List ℕ) → ReadFault → Bool → Type 0
HasCause animal fault read_failed = is_of_text fault ≡ false → (read_failed ≡ true) ⊎ ((fault ≡ faults.OutOfMemory) × (animal ≡ None))

-- the reader gave the first fixes of this reading and goes on with the next
pub record Reads (p : Progress) (r : Reading) : Type 0 where
  pub count : p.count ≤ length r.fixes
  pub animal : p.animal ≡ (if p.count == 0 then None else r.animal)
  pub ahead : is_stage_of_text p.stage ≡ true → p.ahead ≡ Some (record r { fixes = drop p.count r.fixes })

-- an answer after so many fixes of a reading
abbrev pub Answers : Reading → ℕ → Result (Option Fix) ReadFault → Type 0
Answers r count (Ok (Some fix)) = slice_get r.fixes count ≡ Some fix
Answers r count (Ok None) = (length r.fixes ≡ count) × (r.fault ≡ None)
Answers r count (Err fault) = is_of_text fault ≡ true → (length r.fixes ≡ count) × (r.fault ≡ Some fault)

-- a fix was given
pub record GivesFix (old new : Progress) : Type 0 where
  pub counted : new.count ≡ old.count + 1
  pub named : IsSome new.animal
  pub same_animal : IfSome old.animal (λ name. new.animal ≡ Some name)
  pub goes_on : new.stage ≡ Going
  pub reads_on : new.read_failed ≡ false

-- so many were taken of the records that were left
abbrev pub IsTaken : Option ℕ → ℕ → Option ℕ → Type 0
IsTaken None count after = ⊤
IsTaken (Some before) count after = IsSomeAnd after (λ left. before ≡ count + left)

-- what an answer leaves of the records, of which so many were taken for it: none where there is no record more
abbrev pub Leaves : {A : Type 0} → Option ℕ → ℕ → Result (Option A) ReadFault → Option ℕ → Type 0
Leaves before count (Ok (Some one)) after = IsTaken before count after
Leaves before count (Ok None) after = IfSome before (λ n. n ≡ count)
Leaves before count (Err fault) after = fault ≢ faults.NoFixes → IsTaken before count after

-- what an answer leaves of the reader's progress
abbrev pub Moves : Progress → Result (Option Fix) ReadFault → Progress → Type 0
Moves old (Ok (Some fix)) new = GivesFix old new
Moves old (Ok None) new = (new ≡ record old { stage = Ended; record_count = new.record_count; left = new.left; ahead = new.ahead }) × (0 < old.count)
Moves old (Err fault) new =
    new ≡ record old { stage = Failed fault; read_failed = new.read_failed; record_count = new.record_count; left = new.left; ahead = new.ahead }
