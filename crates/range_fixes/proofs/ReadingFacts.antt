-- What one record adds to a reading.
use Rattle.std.proofs.Common.{◌≡◌, ◌≢◌, ◌+◌, ◌<◌, ◌≤◌, ℕ, Bool, true, false, cond, eqb, List, [], ◌∷◌, Option, Some, None, Result, Ok, Err, refl, IfErr}
use Rattle.std.proofs.Common.{IfOk, IfSome, IsTrue, rules, tests, not, nat_lt}
use Rattle.std.proofs.lemmas.Bool.{false≢true}
use Rattle.std.specs.Str.{bytes_eq}
use Rattle.std.specs.Str.Parse.{digits_value}
use Rattle.std.specs.Prelude.{codes}
use Rattle.range_plane.specs.Fix.{fix_limit, second_limit}
use Rattle.range_plane.specs.Scale.{limit}
use Rattle.range_plane.specs.declared.scale.Scale.{Scale}
use Rattle.range_plane.specs.declared.fix.Fix.{Fix}
use Rattle.range_fixes.specs.declared.checks.CheckedRecord.{CheckedRecord}
use Rattle.range_fixes.specs.declared.read_fault.ReadFault.{ReadFault}
use Rattle.range_fixes.specs.declared.read_fault.ReadFault.TheVariants.{BadName, OtherAnimal, NotNumber, TooLarge, SecondFalls, BadUse, TooManyFixes, Gone}
use Rattle.range_fixes.specs.Check.{animal_in, checked_in, checks_of, is_earlier, fix_in, is_other, number_in, used_in, ◌>>=◌}
use Rattle.range_numbers.specs.Number.{is_number}
use Rattle.range_fixes.specs.Field.{Record, first_field, is_name}
use Rattle.range_fixes.specs.Previous.{IsWithin, Previous, animal_so_far, then_previous}
use Rattle.range_fixes.specs.Progress.{is_of_text}
use Rattle.range_fixes.specs.Reading.{if_passes, none_passed, passed_after, then_passed}
use Rattle.range_fixes.proofs.CheckFacts.{checked_cases}

-- no record passes where none is left
pub at_end : (unit : Scale) (has_use : Bool) (count : ℕ) (previous : Option Previous) → passed_after unit has_use count previous [] ≡ none_passed (animal_so_far previous) None
unfolding passed_after
at_end unit has_use count previous = refl

-- nor at the limit
pub too_many : (unit : Scale) (has_use : Bool) (count : ℕ) (previous : Option Previous) (fields : Record) (records : List Record) → count ≡ fix_limit
    → passed_after unit has_use count previous (fields ∷ records) ≡ none_passed (animal_so_far previous) (Some TooManyFixes)
unfolding passed_after
too_many unit has_use count previous fields records at_limit = rw at_limit refl

-- a record that passes comes before the others
pub one_passes : (unit : Scale) (has_use : Bool) (count : ℕ) (previous : Option Previous) (fields : Record) (one : CheckedRecord) (records : List Record)
    → count < fix_limit → checked_in unit has_use (count + 1) previous fields ≡ Ok one
    → passed_after unit has_use count previous (fields ∷ records) ≡ then_passed one
    (passed_after unit has_use (count + 1) (Some (then_previous previous (first_field fields) one.fix.second)) records)
unfolding passed_after
one_passes unit has_use count previous fields one records h e =
    let below : eqb count fix_limit ≡ false = search (rules, tests) in
    rw (below, e) refl

-- and one that does not ends them
pub one_fails : (unit : Scale) (has_use : Bool) (count : ℕ) (previous : Option Previous) (fields : Record) (fault : ReadFault) (records : List Record)
    → count < fix_limit → checked_in unit has_use (count + 1) previous fields ≡ Err fault
    → passed_after unit has_use count previous (fields ∷ records) ≡ none_passed (animal_so_far previous) (Some fault)
unfolding passed_after
one_fails unit has_use count previous fields fault records h e =
    let below : eqb count fix_limit ≡ false = search (rules, tests) in
    rw (below, e) refl

-- the animal of records is that of the record before
pub animal_after : (unit : Scale) (has_use : Bool) (count : ℕ) (previous : Previous) (records : List Record)
    → (passed_after unit has_use count (Some previous) records).animal ≡ Some previous.animal
unfolding passed_after
animal_after unit has_use count previous [] = refl
animal_after unit has_use count previous (fields ∷ records) =
    by (eqb count fix_limit) (checked_in unit has_use (count + 1) (Some previous) fields)
    (λ second. animal_after unit has_use (count + 1) (record previous { second = second }) records)
  where
    by : (b : Bool) (checked : Result CheckedRecord ReadFault)
        → ((second : ℕ) → (passed_after unit has_use (count + 1) (Some (record previous { second = second })) records).animal ≡ Some previous.animal)
        → (cond b (none_passed (Some previous.animal) (Some TooManyFixes))
        (if_passes (Some previous) checked (λ one. passed_after unit has_use (count + 1)
        (Some (record previous { second = one.fix.second })) records))).animal ≡ Some previous.animal
    by true checked more = refl
    by false (Err fault) more = refl
    by false (Ok one) more = more one.fix.second

-- a fault of a record's checks
abbrev IsOwn : {A : Type 0} → Result A ReadFault → Type 0
IsOwn r = IfErr r (λ fault. is_of_text fault ≡ true)

own_bind : {A B : Type 0} (r : Result A ReadFault) (f : A → Result B ReadFault) → IsOwn r → ((x : A) → IsOwn (f x)) → IsOwn (r >>= f)
own_bind (Ok x) f h k = k x
own_bind (Err e) f h k = h

own_cond : {A : Type 0} (b : Bool) (x y : Result A ReadFault) → IsOwn x → IsOwn y → IsOwn (cond b x y)
own_cond true x y h k = h
own_cond false x y h k = k

own_animal : (rec : ℕ) (previous : Option Previous) (name : List ℕ) → IsOwn (animal_in rec previous name)
own_animal rec previous name =
    own_cond (not (is_name name)) (Err (BadName rec)) _ refl (own_cond (is_other previous name) (Err (OtherAnimal rec)) _ refl tt)

own_number : (unit : Scale) (rec field most : ℕ) (bytes : List ℕ) → IsOwn (number_in unit rec field most bytes)
own_number unit rec field most bytes =
    own_cond (not (is_number bytes)) (Err (NotNumber rec field)) _ refl
    (own_cond (nat_lt most (digits_value 10 bytes)) (Err (TooLarge rec field unit)) _ refl tt)

own_fix : (unit : Scale) (rec : ℕ) (previous : Option Previous) (a b c d : List ℕ) → IsOwn (fix_in unit rec previous a b c d)
own_fix unit rec previous a b c d =
    own_bind _ _ (own_animal rec previous a) (λ _. own_bind _ _ (own_number unit rec 1 _ b)
    (λ s. own_bind _ _ (own_number unit rec 2 _ c) (λ e. own_bind _ _ (own_number unit rec 3 _ d)
    (λ n. own_cond (is_earlier previous s) (Err (SecondFalls rec)) _ refl tt))))

own_used : (rec : ℕ) (field : Option (List ℕ)) → IsOwn (used_in rec field)
own_used rec None = tt
own_used rec (Some bytes) = own_cond (bytes_eq bytes (codes "1")) (Ok true) _ tt (own_cond (bytes_eq bytes (codes "0")) (Ok false) (Err (BadUse rec)) tt refl)

own_checks : (unit : Scale) (rec : ℕ) (previous : Option Previous) (a b c d : List ℕ) (e : Option (List ℕ)) → IsOwn (checks_of unit rec previous a b c d e)
own_checks unit rec previous a b c d e = own_bind _ _ (own_fix unit rec previous a b c d) (λ fix. own_bind _ _ (own_used rec e) (λ used. tt))

own_checked : (unit : Scale) (has_use : Bool) (rec : ℕ) (previous : Option Previous) (fields : Record) → IsOwn (checked_in unit has_use rec previous fields)
own_checked unit has_use rec previous = checked_cases unit has_use rec previous (λ fields. IsOwn) (λ a b c d e more. own_checks unit rec previous a b c d e)
    (λ fields. refl)

-- a fault of a record is one of the text
pub text_fault : (unit : Scale) (has_use : Bool) (rec : ℕ) (previous : Option Previous) (fields : Record) (fault : ReadFault)
    → checked_in unit has_use rec previous fields ≡ Err fault → is_of_text fault ≡ true
text_fault unit has_use rec previous fields fault e = let own = own_checked unit has_use rec previous fields in rw e at own

-- and none of the line
pub not_gone : (fault : ReadFault) → is_of_text fault ≡ true → fault ≢ Gone
not_gone fault own = λ gone. false≢true (rw gone at own)

-- what holds of each value that a step may give holds of what the steps give together
ok_bind : {A B : Type 0} (P : B → Type 0) (r : Result A ReadFault) (f : A → Result B ReadFault) → ((x : A) → r ≡ Ok x → IfOk (f x) P) → IfOk (r >>= f) P
ok_bind P (Ok x) f h = h x refl
ok_bind P (Err e) f h = tt

ok_cond : {A : Type 0} (P : A → Type 0) (b : Bool) (x y : Result A ReadFault) → (b ≡ true → IfOk x P) → (b ≡ false → IfOk y P) → IfOk (cond b x y) P
ok_cond P true x y h k = h refl
ok_cond P false x y h k = k refl

name_within : (rec : ℕ) (previous : Option Previous) (name : List ℕ) → IfOk (animal_in rec previous name) (λ _. IsTrue (is_name name))
name_within rec previous name =
    ok_cond _ (not (is_name name)) (Err (BadName rec)) _ (λ _. tt)
    (λ e. ok_cond _ (is_other previous name) (Err (OtherAnimal rec)) (Ok tt) (λ _. tt) (λ _. search (rules, tests)))

number_within : (unit : Scale) (rec field most : ℕ) (bytes : List ℕ) → IfOk (number_in unit rec field most bytes) (λ n. n ≤ most)
number_within unit rec field most bytes =
    ok_cond _ (not (is_number bytes)) (Err (NotNumber rec field)) _ (λ _. tt)
    (λ _. ok_cond _ (nat_lt most (digits_value 10 bytes)) (Err (TooLarge rec field unit)) (Ok (digits_value 10 bytes)) (λ _. tt) (λ e. search (rules, tests)))

-- what is within its limits in a record of this name
abbrev IsFixWithin : List ℕ → Fix → Type 0
IsFixWithin name fix = (fix.second ≤ second_limit) × IsTrue (is_name name)

fix_within : (unit : Scale) (rec : ℕ) (previous : Option Previous) (a b c d : List ℕ) → IfOk (fix_in unit rec previous a b c d) (IsFixWithin a)
fix_within unit rec previous a b c d =
    ok_bind _ (animal_in rec previous a) _ (λ u named. ok_bind _ (number_in unit rec 1 second_limit b) _
    (λ s counted. ok_bind _ (number_in unit rec 2 (limit unit) c) _ (λ e _. ok_bind _ (number_in unit rec 3 (limit unit) d) _ (λ n _.
    ok_cond _ (is_earlier previous s) (Err (SecondFalls rec)) _ (λ _. tt) (λ _.
    let name = name_within rec previous a in
    let second = number_within unit rec 1 second_limit b in
    (rw counted at second, rw named at name))))))

checks_within : (unit : Scale) (rec : ℕ) (previous : Option Previous) (a b c d : List ℕ) (e : Option (List ℕ))
    → IfOk (checks_of unit rec previous a b c d e) (λ one. IsFixWithin a one.fix)
checks_within unit rec previous a b c d e =
    ok_bind _ (fix_in unit rec previous a b c d) _ (λ fix passed. ok_bind _ (used_in rec e) _
    (λ used _. let within = fix_within unit rec previous a b c d in rw passed at within))

-- a record that passes is within the limits of names and seconds
pub passed_within : (unit : Scale) (has_use : Bool) (rec : ℕ) (previous : Option Previous) (fields : Record) (one : CheckedRecord)
    → checked_in unit has_use rec previous fields ≡ Ok one
    → (one.fix.second ≤ second_limit) × IsTrue (is_name (first_field fields))
passed_within unit has_use rec previous fields one e =
    let within = checked_cases unit has_use rec previous (λ fields checked. IfOk checked (λ one. IsFixWithin (first_field fields) one.fix))
    (λ a b c d e more. checks_within unit rec previous a b c d e) (λ fields. tt) fields in
    rw e at within

-- and so is what it leaves as the record before
pub then_within : (previous : Option Previous) (name : List ℕ) (second : ℕ) → IfSome previous IsWithin → (second ≤ second_limit) × IsTrue (is_name name)
    → IsWithin (then_previous previous name second)
then_within None name second h within = record { name = within.1; second = within.0 }
then_within (Some previous) name second h within = record { name = h.name; second = within.0 }
