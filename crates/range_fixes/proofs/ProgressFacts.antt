-- A reader's progress through a reading.
use Rattle.std.proofs.Common.{◌≡◌, ◌+◌, ◌≤◌, ℕ, zero, suc, true, false, eqb, List, [], ◌∷◌, length, drop, map, Option, Some, None, refl, sym, ◌∙◌, ap}
use Rattle.std.proofs.Common.{arith, rules, tests, length-drop, slice_get, add-one, IfSome, Ok}
use Rattle.std.specs.Option.{option_map}
use Rattle.range_plane.specs.declared.fix.Fix.{Fix}
use Rattle.range_plane.specs.declared.scale.Scale.{Scale}
use Rattle.range_fixes.specs.declared.checks.CheckedRecord.{CheckedRecord}
use Rattle.range_fixes.specs.declared.read_fault.ReadFault.{ReadFault}
use Rattle.range_fixes.specs.declared.reader.Stage.TheVariants.{Going}
use Rattle.range_fixes.specs.CheckedList.{CheckedList}
use Rattle.range_fixes.specs.CheckedRecords.{GivesRecord, used_ahead, used_of}
use Rattle.range_fixes.specs.Progress.{Progress, Reads, is_stage_of_text}
use Rattle.range_fixes.specs.Reader.{progress_by}
use Rattle.range_fixes.specs.Reading.{PassedRecords, Reading, fault_after, none_passed, passed_of, reading, reading_by, then_fixes, then_passed}
use Rattle.csv.specs.Reading.{default_config, records, strip_bom}

some_same : {A : Type 0} (x y : A) → Some x ≡ Some y → x ≡ y
some_same x y e = cc e

-- a reader of which nothing is read yet goes through all that its source says
pub begins : (unit : Scale) (known : Option (List ℕ)) (p : Progress) → p.count ≡ 0 → p.animal ≡ None
    → p.ahead ≡ option_map (λ passed. reading_by 0 passed) (option_map (λ all. passed_of unit all) (option_map (λ bytes. records default_config (strip_bom bytes)) known))
    → IfSome (option_map (reading unit) known) (Reads p)
unfolding reading
begins unit None p started none ahead = tt
begins unit (Some bytes) p started none ahead = record { count = omega (arith, started); animal = rw started none; ahead = λ _. rw started ahead }

-- the reading that these used records make, which so many fixes come before
abbrev reading_of_used : ℕ → PassedRecords → Reading
reading_of_used given p = record {
  animal = p.animal;
  fixes = map (λ one. one.fix) p.checked;
  fault = fault_after (given + length (map (λ one. one.fix) p.checked)) p.fault;
}

-- a used record is the first fix of the reading
reading_more : (all more : PassedRecords) (one : CheckedRecord) (given : ℕ) → used_of all ≡ then_passed one (used_of more)
    → reading_by given all ≡ then_fixes one.fix (reading_by (given + 1) more)
reading_more all more one given e =
    let fixes : List Fix = map (λ one. one.fix) (used_of more).checked in
    let sum : given + length (one.fix ∷ fixes) ≡ given + 1 + length fixes = omega arith in
    ap (λ p. reading_of_used given p) e ∙ ap (λ n. record { animal = more.animal; fixes = one.fix ∷ fixes; fault = fault_after n more.fault }) sum

-- where none is used the reading has no fix
pub reading_none : (ahead : Option PassedRecords) (animal : Option (List ℕ)) (fault : Option ReadFault) (given : ℕ)
    → IfSome (used_ahead ahead) (λ all. all ≡ none_passed animal fault)
    → IfSome (option_map (λ passed. reading_by given passed) ahead) (λ s. s ≡ reading_of_used given (none_passed animal fault))
reading_none None animal fault given e = tt
reading_none (Some all) animal fault given e = ap (λ p. reading_of_used given p) e

-- no fix is ahead: all were given
pub at_stop : (p : Progress) (r s : Reading) → Reads p r → is_stage_of_text p.stage ≡ true → IfSome p.ahead (λ all. all ≡ s) → s.fixes ≡ []
    → (length r.fixes ≡ p.count) × (r.fault ≡ s.fault)
at_stop p r s h text ahead none =
    let same : record r { fixes = drop p.count r.fixes } ≡ s = rw (h.ahead text) at ahead in
    let rest : drop p.count r.fixes ≡ [] = ap (λ (x : Reading). x.fixes) same ∙ none in
    let short = length-drop p.count r.fixes in
    let gone : length (drop p.count r.fixes) ≡ 0 = rw rest refl in
    let count = h.count in
    (omega arith, ap (λ (x : Reading). x.fault) same)

-- the first of the fixes that are left is the next of all
drop_head : (fixes more : List Fix) (fix : Fix) (count : ℕ) → drop count fixes ≡ fix ∷ more
    → (slice_get fixes count ≡ Some fix) × (drop (suc count) fixes ≡ more) × (suc count ≤ length fixes)
drop_head [] more fix zero e = cc e
drop_head [] more fix (suc count) e = cc e
drop_head (f ∷ fixes) more fix zero e = (cc e, cc e, omega arith)
drop_head (f ∷ fixes) more fix (suc count) e =
    let rest = drop_head fixes more fix count e in
    (rest.0, rest.1, omega arith)

-- a fix was taken off those ahead
one_more : (p q : Progress) (r m : Reading) (fix : Fix) → Reads p r → is_stage_of_text p.stage ≡ true → p.ahead ≡ Some (then_fixes fix m)
    → q.ahead ≡ Some m → q.count ≡ p.count + 1 → q.animal ≡ m.animal → Reads q r × (slice_get r.fixes p.count ≡ Some fix)
one_more p q r m fix h text e f count animal =
    let same = some_same _ _ (sym (h.ahead text) ∙ e) in
    let d = drop_head r.fixes m.fixes fix p.count (ap (λ (x : Reading). x.fixes) same) in
    let named : r.animal ≡ m.animal = ap (λ (x : Reading). x.animal) same in
    let fault : r.fault ≡ m.fault = ap (λ (x : Reading). x.fault) same in
    let some : eqb q.count 0 ≡ false = search (rules, tests) in
    (record { count = rw (count, add-one) d.2; animal = rw some (animal ∙ sym named); ahead = λ _. rw (count, add-one, d.1, named, fault) f }, d.0)

given_by : (before after : Option PassedRecords) (p q : Progress) (r : Reading) (one : CheckedRecord) (animal : Option (List ℕ))
    → GivesRecord (used_ahead before) (Ok (Some one)) animal (used_ahead after)
    → Reads p r → is_stage_of_text p.stage ≡ true → p.ahead ≡ option_map (λ passed. reading_by p.count passed) before
    → q.ahead ≡ option_map (λ passed. reading_by (p.count + 1) passed) after → q.count ≡ p.count + 1 → q.animal ≡ animal
    → Reads q r × (slice_get r.fixes p.count ≡ Some one.fix)
given_by None after p q r one animal gives h text ahead behind count named = cc (h.ahead text, ahead)
given_by (Some all) None p q r one animal gives h text ahead behind count named = absurd gives
given_by (Some all) (Some more) p q r one animal gives h text ahead behind count named =
    one_more p q r (reading_by (p.count + 1) more) one.fix h text (ahead ∙ ap (λ x. Some x) (reading_more all more one p.count gives.0)) behind count (named ∙ sym gives.1)

-- a fix that was given is the next of the reading
pub fix_given : (old new : CheckedList) (count : ℕ) (one : CheckedRecord) (r : Reading)
    → GivesRecord (used_ahead old.ahead) (Ok (Some one)) new.animal (used_ahead new.ahead) → Reads (progress_by Going count old) r
    → Reads (progress_by Going (count + 1) new) r × (slice_get r.fixes count ≡ Some one.fix)
fix_given old new count one r gives h =
    let some : eqb (count + 1) 0 ≡ false = search (rules, tests) in
    given_by old.ahead new.ahead (progress_by Going count old) (progress_by Going (count + 1) new) r one new.animal gives h refl refl refl refl (rw some refl)
