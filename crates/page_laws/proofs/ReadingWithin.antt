-- What the reading of a file has, where it goes to the end.
use Rattle.std.proofs.Common.{◌≡◌, ◌≤◌, ℕ, pos, Bool, true, false, cond, not, nat_lt, List, [], ◌∷◌, length, map, slice_get, slice_index_or, get_or, Option, Some, None, Result, Ok, Err, IfOk, refl, ap, subst, sym, ◌∙◌, arith, rules, tests}
use Rattle.std.specs.List.{All, filter}
use Rattle.std.specs.Str.Parse.{digits_value}
use Rattle.std.proofs.lemmas.Bool.{not-false}
use Rattle.std.proofs.lemmas.Int.{ints}
use Rattle.std.proofs.lemmas.List.{length-map}
use Rattle.std.proofs.lemmas.List.Elements.{All-filter, All-map}
use Rattle.std.proofs.lemmas.List.Sums.{count_by-le-length, length-filter}
use Rattle.std.proofs.lemmas.Option.{slice_get-get_or}
use Rattle.csv.specs.Reading.{default_config, records, strip_bom}
use Rattle.range_numbers.specs.Number.{is_number}
use Rattle.range_plane.specs.Fix.{fix_limit, second_limit}
use Rattle.range_plane.specs.Plane.{IsCoordinate, IsWithinLimits}
use Rattle.range_plane.specs.Scale.{limit}
use Rattle.range_plane.specs.declared.fix.Fix.{Fix}
use Rattle.range_plane.specs.declared.scale.Scale.{Scale}
use Rattle.range_plane.specs.declared.scale.Scale.TheVariants.{Metre, Decimetre}
use Rattle.range_fixes.specs.Check.{◌>>=◌, animal_in, checked_in, checks_of, fix_in, is_earlier, is_other, number_in, used_in}
use Rattle.range_fixes.specs.Field.{Record, first_field, header_of, is_name}
use Rattle.range_fixes.specs.Law.{IsExact, IsExactBelow, IsExactReading, ReadsExactly, animal_of, check_at}
use Rattle.range_fixes.specs.Previous.{Previous}
use Rattle.range_fixes.specs.Reading.{PassedRecords, Reading, reading, reading_of, used_fixes}
use Rattle.range_fixes.specs.declared.read_fault.ReadFault.{ReadFault}
use Rattle.range_fixes.specs.declared.read_fault.ReadFault.TheVariants.{BadName, NotNumber, OtherAnimal, SecondFalls, TooLarge}

-- a second and a place within the limits
abbrev pub IsFixWithin : Fix → Type 0
IsFixWithin fix = (fix.second ≤ second_limit) × IsWithinLimits fix.at

-- a name and fixes that a file may have
pub record AreFixesWithin (name : List ℕ) (fixes : List Fix) : Type 0 where
  pub named : is_name name ≡ true
  pub few : length fixes ≤ fix_limit
  pub each : All IsFixWithin fixes

-- ---- one record
bound : {A B : Type 0} (P : B → Type 0) (r : Result A ReadFault) (f : A → Result B ReadFault) → ((x : A) → r ≡ Ok x → IfOk (f x) P) → IfOk (r >>= f) P
bound P (Ok x) f each = each x refl
bound P (Err e) f each = tt

tested : {A : Type 0} (P : A → Type 0) (test : Bool) (x y : Result A ReadFault) → (test ≡ true → IfOk x P) → (test ≡ false → IfOk y P) → IfOk (cond test x y) P
tested P true x y h k = h refl
tested P false x y h k = k refl

number_within : (unit : Scale) (rec field most : ℕ) (bytes : List ℕ) → IfOk (number_in unit rec field most bytes) (λ n. n ≤ most)
number_within unit rec field most bytes =
    tested _ (not (is_number bytes)) (Err (NotNumber rec field)) _ (λ _. tt)
    (λ _. tested _ (nat_lt most (digits_value 10 bytes)) (Err (TooLarge rec field unit)) (Ok (digits_value 10 bytes)) (λ _. tt) (λ e. search (rules, tests)))

on_grid : (unit : Scale) (n : ℕ) → n ≤ limit unit → IsCoordinate (pos n)
on_grid Metre n within = (omega (arith, ints), omega (arith, ints, within))
on_grid Decimetre n within = (omega (arith, ints), omega (arith, ints, within))

name_within : (rec : ℕ) (previous : Option Previous) (name : List ℕ) → IfOk (animal_in rec previous name) (λ _. is_name name ≡ true)
name_within rec previous name =
    tested _ (not (is_name name)) (Err (BadName rec)) _ (λ _. tt)
    (λ named. tested _ (is_other previous name) (Err (OtherAnimal rec)) (Ok tt) (λ _. tt) (λ _. not-false (is_name name) named))

-- a record of this name that passes
abbrev IsRecordWithin : List ℕ → Fix → Type 0
IsRecordWithin name fix = (is_name name ≡ true) × IsFixWithin fix

fix_within : (unit : Scale) (rec : ℕ) (previous : Option Previous) (a b c d : List ℕ) → IfOk (fix_in unit rec previous a b c d) (IsRecordWithin a)
fix_within unit rec previous a b c d =
    bound _ (animal_in rec previous a) _ (λ _ named. bound _ (number_in unit rec 1 second_limit b) _
    (λ s second. bound _ (number_in unit rec 2 (limit unit) c) _ (λ e easting. bound _ (number_in unit rec 3 (limit unit) d) _ (λ n northing.
    tested _ (is_earlier previous s) (Err (SecondFalls rec)) _ (λ _. tt) (λ _.
    let within = name_within rec previous a in
    let within_s = number_within unit rec 1 second_limit b in
    let within_e = number_within unit rec 2 (limit unit) c in
    let within_n = number_within unit rec 3 (limit unit) d in
    (rw named at within, (rw second at within_s, (on_grid unit e (rw easting at within_e), on_grid unit n (rw northing at within_n)))))))))

checks_within : (unit : Scale) (rec : ℕ) (previous : Option Previous) (a b c d : List ℕ) (e : Option (List ℕ))
    → IfOk (checks_of unit rec previous a b c d e) (λ one. IsRecordWithin a one.fix)
checks_within unit rec previous a b c d e =
    bound _ (fix_in unit rec previous a b c d) _ (λ fix passed. bound _ (used_in rec e) _
    (λ used _. let within = fix_within unit rec previous a b c d in rw passed at within))

checked_within : (unit : Scale) (has_use : Bool) (rec : ℕ) (previous : Option Previous) (fields : Record)
    → IfOk (checked_in unit has_use rec previous fields) (λ one. IsRecordWithin (first_field fields) one.fix)
unfolding checked_in
checked_within unit false rec previous (a ∷ b ∷ c ∷ d ∷ []) = checks_within unit rec previous a b c d None
checked_within unit true rec previous (a ∷ b ∷ c ∷ d ∷ e ∷ []) = checks_within unit rec previous a b c d (Some e)
checked_within unit has_use rec previous fields = tt

gives : {A : Type 0} (P : A → Type 0) (r : Result A ReadFault) (x : A) → r ≡ Ok x → IfOk r P → P x
gives P (Ok y) x is holds = (let same : y ≡ x = cc in subst P same holds)
gives P (Err fault) x is holds = absurd cc

-- ---- all records
few_kept : {A B : Type 0} (keeps : A → Bool) (part : A → B) (xs : List A) → length (map part (filter keeps xs)) ≤ length xs
few_kept keeps part xs = omega (arith, length-map (filter keeps xs) part, length-filter keeps xs, count_by-le-length keeps xs)

module _ (unit : Scale) (has_use : Bool) (records : List Record) (p : PassedRecords) (exact : IsExact unit has_use 0 None records p) where
  passed_each : All IsFixWithin (used_fixes p.checked)
  passed_each =
      All-map IsFixWithin (λ one. one.fix) (filter (λ one. one.used) p.checked)
      (All-filter (λ one. one.used) (λ one. IsFixWithin one.fix) p.checked
      (λ k d below. (gives (λ one. IsRecordWithin (first_field (slice_index_or records k [])) one.fix) _ (get_or p.checked k d)
      (exact.passes k (get_or p.checked k d) (slice_get-get_or p.checked k d below)) (checked_within unit has_use _ _ _)).1))

  first_named : (name : List ℕ) → animal_of None records p.checked ≡ Some name → is_name name ≡ true
  first_named name named =
      (elim (p.checked) as (λ checked. ((k : ℕ) (one : _) → slice_get checked k ≡ Some one → check_at unit has_use 0 None records checked k ≡ Ok one)
      → animal_of None records checked ≡ Some name → is_name name ≡ true) [
        | [] ↦ λ passes none. absurd cc
        | one ∷ checked ↦ λ passes first.
            let own = gives (λ one. IsRecordWithin (first_field (slice_index_or records 0 [])) one.fix) _ one (passes 0 one refl) (checked_within unit has_use _ _ _) in
            let same : first_field (slice_index_or records 0 []) ≡ name = cc in
            rw same at own.0
      ]) exact.passes named

  passed_fixes : (name : List ℕ) → p.animal ≡ Some name → AreFixesWithin name (used_fixes p.checked)
  passed_fixes name named = record {
    named = first_named name (sym exact.animal ∙ named);
    few = omega (arith, few_kept (λ one. one.used) (λ one. one.fix) p.checked, exact.limit);
    each = passed_each;
  }

below_header : (unit : Scale) (header : Option Bool) (records : List Record) (r : Reading) (name : List ℕ) → IsExactBelow unit header records r → r.animal ≡ Some name
    → AreFixesWithin name r.fixes
below_header unit None records r name exact named =
    let none : None ≡ Some name = sym (ap (λ (r : Reading). r.animal) exact) ∙ named in
    absurd cc
below_header unit (Some has_use) records r name exact named =
    let p = exact.0 in
    let passed = passed_fixes unit has_use records p exact.1 name (sym (ap (λ (r : Reading). r.animal) exact.2) ∙ named) in
    rw (exact.2) passed

records_within : (unit : Scale) (records : List Record) (r : Reading) (name : List ℕ) → IsExactReading unit records r → r.animal ≡ Some name → AreFixesWithin name r.fixes
records_within unit [] r name exact named =
    let none : None ≡ Some name = sym (ap (λ (r : Reading). r.animal) exact) ∙ named in
    absurd cc
records_within unit (header ∷ records) r name exact named = below_header unit (header_of header) records r name exact named

-- a file that has a name has fixes within the limits
pub reading_within : ReadsExactly → (unit : Scale) (bytes name : List ℕ) → (reading unit bytes).animal ≡ Some name → AreFixesWithin name (reading unit bytes).fixes
unfolding reading
reading_within reads_exactly unit bytes name named =
    let all = records default_config (strip_bom bytes) in
    records_within unit all (reading_of unit all) name (reads_exactly unit all) named
