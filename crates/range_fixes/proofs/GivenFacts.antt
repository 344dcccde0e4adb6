-- What the next of the records that are left says of those that were ahead.
use Rattle.std.proofs.Common.{◌≡◌, ℕ, Bool, true, false, List, [], ◌∷◌, Option, Some, None, Ok, refl, ◌∙◌, ap, IfSome}
use Rattle.std.specs.Option.{IsSomeAnd, option_map}
use Rattle.range_plane.specs.declared.scale.Scale.{Scale}
use Rattle.range_fixes.specs.declared.checks.CheckedRecord.{CheckedRecord}
use Rattle.range_fixes.specs.CheckedRecords.{AreBelow, IsHeaded, TakesHeader, passed_from}
use Rattle.range_fixes.specs.Field.{Record}
use Rattle.range_fixes.specs.Previous.{Previous}
use Rattle.range_fixes.specs.Reading.{PassedRecords, passed_after, then_passed}
use Rattle.range_fixes.specs.Records.{TakesRecord}

-- what is ahead is what is made of the records that are left
abbrev pub IsMadeOf : Option PassedRecords → (List Record → PassedRecords) → Option (List Record) → Type 0
IsMadeOf ahead make left = IfSome ahead (λ all. IsSomeAnd left (λ records. all ≡ make records))

-- the records with a header come to what those below it come to
passed_below_header : (unit : Scale) (header : Option Bool) (has_use : Bool) (count : ℕ) (previous : Option Previous) (records more : List Record)
    → IsHeaded header count previous → AreBelow header records has_use more
    → passed_from unit header count previous records ≡ passed_after unit has_use count previous more
passed_below_header unit None has_use count previous records more headed below = rw (headed.0, headed.1, below.1, below.2) refl
passed_below_header unit (Some had) has_use count previous records more headed below = rw (below.0, below.1) refl

-- once the header was taken, what is ahead is what the records below it come to
pub ahead_below : (unit : Scale) (header : Option Bool) (has_use : Bool) (count : ℕ) (previous : Option Previous) (left after : Option (List Record))
    → IsHeaded header count previous → IfSome left (λ records. TakesHeader header records (Ok has_use) after)
    → IsMadeOf (option_map (λ records. passed_from unit header count previous records) left) (λ records. passed_after unit has_use count previous records) after
ahead_below unit header has_use count previous None after headed takes = tt
ahead_below unit header has_use count previous (Some records) None headed takes = absurd takes
ahead_below unit header has_use count previous (Some records) (Some more) headed takes =
    passed_below_header unit header has_use count previous records more headed takes

-- where there is no record more
pub made_of_none : (make : List Record → PassedRecords) (ahead : Option PassedRecords) (left : Option (List Record)) (fields : Record)
    (after : Option (List Record)) (x : PassedRecords)
    → IsMadeOf ahead make left → TakesRecord left false fields after → make [] ≡ x → IfSome ahead (λ all. all ≡ x)
made_of_none make None left fields after x made takes is = tt
made_of_none make (Some all) None fields after x made takes is = absurd made
made_of_none make (Some all) (Some records) fields after x made takes is = made ∙ ap make takes ∙ is

-- where one ends what is made
pub made_of_last : (make : List Record → PassedRecords) (ahead : Option PassedRecords) (left : Option (List Record)) (fields : Record)
    (after : Option (List Record)) (x : PassedRecords)
    → IsMadeOf ahead make left → TakesRecord left true fields after → ((records : List Record) → make (fields ∷ records) ≡ x) → IfSome ahead (λ all. all ≡ x)
made_of_last make None left fields after x made takes is = tt
made_of_last make (Some all) None fields after x made takes is = absurd made
made_of_last make (Some all) (Some records) fields after x made takes is = made ∙ ap make takes.1 ∙ is takes.0

-- and where the others come behind it
pub made_of_first : (make more : List Record → PassedRecords) (ahead : Option PassedRecords) (left : Option (List Record)) (fields : Record)
    (after : Option (List Record)) (one : CheckedRecord) (animal : Option (List ℕ))
    → IsMadeOf ahead make left → TakesRecord left true fields after → ((records : List Record) → make (fields ∷ records) ≡ then_passed one (more records))
    → ((records : List Record) → (more records).animal ≡ animal)
    → IfSome ahead (λ all. IsSomeAnd (option_map more after) (λ rest. (all ≡ then_passed one rest) × (rest.animal ≡ animal)))
made_of_first make more None left fields after one animal made takes is named = tt
made_of_first make more (Some all) None fields after one animal made takes is named = absurd made
made_of_first make more (Some all) (Some records) fields after one animal made takes is named =
    rw takes.2 (made ∙ ap make takes.1 ∙ is takes.0, named takes.0)
