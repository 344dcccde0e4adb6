-- What a record is held against: the record before it.
use Rattle.std.specs.Prelude.{ℕ, ◌≤◌, List, Option, Some, None, IsTrue, option_map}
use Rattle.range_plane.specs.Fix.{second_limit}
use Rattle.range_fixes.specs.Field.{is_name}

-- what a record is held against: the animal of the records before it, and the second of the last of them
pub record Previous : Type 0 where
  pub animal : List ℕ
  pub second : ℕ

-- what the next record is held against, after one of this name and second that passed; the name stays that of the
-- first record
abbrev pub then_previous : Option Previous → List ℕ → ℕ → Previous
then_previous None name second = record { animal = name; second = second }
then_previous (Some previous) name second = record previous { second = second }

-- the animal of the records so far, if there are some
abbrev pub animal_so_far : Option Previous → Option (List ℕ)
animal_so_far previous = option_map (λ p. p.animal) previous

-- a name and a second within their limits
pub record IsWithin (p : Previous) : Type 0 where
  pub name : IsTrue (is_name p.animal)
  pub second : p.second ≤ second_limit
