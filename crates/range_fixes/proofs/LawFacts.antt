-- A reading is exact.
use Rattle.std.proofs.Common.{◌≡◌, ◌+◌, ◌<◌, ◌≤◌, ◌⊎◌, inl, inr, ℕ, zero, suc, Bool, List, [], ◌∷◌, length, slice_get, Option, Some, None, Result, Ok, Err}
use Rattle.std.proofs.Common.{refl, ◌∙◌, ap, arith}
use Rattle.std.proofs.lemmas.Bool.{cases_lt}
use Rattle.range_plane.specs.Fix.{fix_limit}
use Rattle.range_plane.specs.declared.scale.Scale.{Scale}
use Rattle.range_fixes.specs.declared.checks.CheckedRecord.{CheckedRecord}
use Rattle.range_fixes.specs.declared.read_fault.ReadFault.{ReadFault}
use Rattle.range_fixes.specs.declared.read_fault.ReadFault.TheVariants.{TooManyFixes}
use Rattle.range_fixes.specs.Check.{checked_in}
use Rattle.range_fixes.specs.Field.{Record, first_field, header_of}
use Rattle.range_fixes.specs.Law.{IsExact, IsExactBelow, ReadsExactly, animal_of, check_at}
use Rattle.range_fixes.specs.Previous.{Previous, animal_so_far, then_previous}
use Rattle.range_fixes.specs.Reading.{PassedRecords, none_passed, passed_after, passed_below, reading_by, then_passed}
use Rattle.range_fixes.proofs.ReadingFacts.{at_end, one_passes, one_fails, too_many}

none_given : {A : Type 0} (k : ℕ) (x : A) → slice_get [] k ≡ Some x → ⊥
none_given zero x e = cc e
none_given (suc k) x e = cc e

-- the animal where no fix is given
none_named : (previous : Option Previous) (records : List Record) → animal_so_far previous ≡ animal_of previous records []
none_named None records = refl
none_named (Some previous) records = refl

-- the animal of a record and those after it
one_named : (previous : Option Previous) (fields : Record) (one : CheckedRecord) (checked : List CheckedRecord) (records : List Record)
    → animal_of (Some (then_previous previous (first_field fields) one.fix.second)) records checked ≡ animal_of previous (fields ∷ records) (one ∷ checked)
one_named None fields one checked records = refl
one_named (Some previous) fields one checked records = refl

-- no record passes before one that ends them
stops : (unit : Scale) (has_use : Bool) (count : ℕ) (previous : Option Previous) (fields : Record) (records : List Record) (fault : ReadFault) → count ≤ fix_limit
    → (count ≡ fix_limit → fault ≡ TooManyFixes) → (count < fix_limit → checked_in unit has_use (count + 1) previous fields ≡ Err fault)
    → IsExact unit has_use count previous (fields ∷ records) (none_passed (animal_so_far previous) (Some fault))
stops unit has_use count previous fields records fault limit many first = record {
  within = omega arith;
  limit = omega arith;
  animal = none_named previous (fields ∷ records);
  passes = λ k one e. absurd (none_given k one e);
  ended = λ e. absurd (omega arith);
  many = λ l e. ap Some (many (omega arith));
  first = λ l h. (fault, (let n : count + 0 + 1 ≡ count + 1 = omega arith in rw n (first (omega arith))), refl);
}

-- one record that passes, before others that are exact
goes_on : (unit : Scale) (has_use : Bool) (count : ℕ) (previous : Option Previous) (fields : Record) (records : List Record) (one : CheckedRecord) (p : PassedRecords)
    → count < fix_limit
    → checked_in unit has_use (count + 1) previous fields ≡ Ok one
    → IsExact unit has_use (count + 1) (Some (then_previous previous (first_field fields) one.fix.second)) records p
    → IsExact unit has_use count previous (fields ∷ records) (then_passed one p)
goes_on unit has_use count previous fields records one p below passed h =
    let sum : (n : ℕ) → count + suc n ≡ count + 1 + n = λ n. omega arith in
    let number : (k : ℕ) → count + suc k + 1 ≡ count + 1 + k + 1 = λ k. omega arith in
    record {
      within = let w = h.within in omega arith;
      limit = let l = h.limit in omega arith;
      animal = h.animal ∙ one_named previous fields one p.checked records;
      passes = λ k. at k;
      ended = λ e. h.ended (omega arith);
      many = λ l e. h.many (omega arith) (omega arith);
      first = λ l b. rw (number (length p.checked)) (h.first (omega arith) (omega arith));
    }
  where
    at : (k : ℕ) (x : CheckedRecord) → slice_get (one ∷ p.checked) k ≡ Some x → check_at unit has_use count previous (fields ∷ records) (one ∷ p.checked) k ≡ Ok x
    at zero x e = let n : count + 0 + 1 ≡ count + 1 = omega arith in let same : one ≡ x = cc e in rw (n, passed, same) refl
    at (suc k) x e = let n : count + suc k + 1 ≡ count + 1 + k + 1 = omega arith in rw n (h.passes k x e)

-- no record is left
ends : (unit : Scale) (has_use : Bool) (count : ℕ) (previous : Option Previous) → count ≤ fix_limit
    → IsExact unit has_use count previous [] (passed_after unit has_use count previous [])
ends unit has_use count previous limit = rw (at_end unit has_use count previous) (record {
  within = omega arith;
  limit = omega arith;
  animal = none_named previous [];
  passes = λ k one e. absurd (none_given k one e);
  ended = λ e. refl;
  many = λ l e. absurd (omega arith);
  first = λ l h. absurd (omega arith);
})

-- the record at the limit
at_limit : (unit : Scale) (has_use : Bool) (count : ℕ) (previous : Option Previous) (fields : Record) (records : List Record) → count ≡ fix_limit
    → IsExact unit has_use count previous (fields ∷ records) (passed_after unit has_use count previous (fields ∷ records))
at_limit unit has_use count previous fields records e =
    rw (too_many unit has_use count previous fields records e) (stops unit has_use count previous fields records TooManyFixes (omega arith) (λ _. refl)
    (λ h. absurd (omega arith)))

-- a record below the limit
below_limit : (unit : Scale) (has_use : Bool) (count : ℕ) (previous : Option Previous) (fields : Record) (records : List Record)
    (checked : Result CheckedRecord ReadFault) → count < fix_limit
    → checked_in unit has_use (count + 1) previous fields ≡ checked
    → ((next : Option Previous) → IsExact unit has_use (count + 1) next records (passed_after unit has_use (count + 1) next records))
    → IsExact unit has_use count previous (fields ∷ records) (passed_after unit has_use count previous (fields ∷ records))
below_limit unit has_use count previous fields records (Ok one) below e more =
    rw (one_passes unit has_use count previous fields one records below e)
    (goes_on unit has_use count previous fields records one _ below e (more (Some (then_previous previous (first_field fields) one.fix.second))))
below_limit unit has_use count previous fields records (Err fault) below e more =
    rw (one_fails unit has_use count previous fields fault records below e)
    (stops unit has_use count previous fields records fault (omega arith) (λ same. absurd (omega arith)) (λ _. e))

exact : (unit : Scale) (has_use : Bool) (count : ℕ) (previous : Option Previous) (records : List Record) → count ≤ fix_limit
    → IsExact unit has_use count previous records (passed_after unit has_use count previous records)
exact unit has_use count previous [] limit = ends unit has_use count previous limit
exact unit has_use count previous (fields ∷ records) limit = by (cases_lt count fix_limit)
    (λ next below. exact unit has_use (count + 1) next records (omega arith))
  where
    by : (count < fix_limit) ⊎ (fix_limit ≤ count) → ((next : Option Previous) → count < fix_limit
        → IsExact unit has_use (count + 1) next records (passed_after unit has_use (count + 1) next records))
        → IsExact unit has_use count previous (fields ∷ records) (passed_after unit has_use count previous (fields ∷ records))
    by (inl below) more = below_limit unit has_use count previous fields records _ below refl (λ next. more next below)
    by (inr past) more = at_limit unit has_use count previous fields records (omega arith)

below_header : (unit : Scale) (header : Option Bool) (records : List Record) → IsExactBelow unit header records (reading_by 0 (passed_below unit header records))
below_header unit None records = refl
below_header unit (Some has_use) records = (passed_after unit has_use 0 None records, exact unit has_use 0 None records (omega arith), refl)

-- each reading of records is exact
pub reads_exactly : ReadsExactly
reads_exactly unit [] = refl
reads_exactly unit (header ∷ records) = below_header unit (header_of header) records
