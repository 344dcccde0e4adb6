-- The records of a source below its header, as one who reads and checks them is seen.
use Rattle.std.specs.Prelude.{ℕ, Bool, List, Option}
use Rattle.range_fixes.specs.Reading.{PassedRecords}

pub record CheckedList : Type 0 where
  -- how many records were read
  pub count : ℕ
  -- the animal of those that passed
  pub animal : Option (List ℕ)
  -- how many records are left, where the source tells its bytes
  pub left : Option ℕ
  -- those that pass from here on, and what ends them, where the source tells its bytes
  pub ahead : Option PassedRecords
  -- a read of the source or an allocation failed, so no more records come
  pub read_failed : Bool
