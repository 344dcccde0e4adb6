-- The records of a source, as a reader of them is seen.
use Rattle.std.specs.Prelude.{Bool, List, Option}
use Rattle.range_fixes.specs.Field.{Record}

pub record RecordList : Type 0 where
  -- the records that are left, where the source tells its bytes
  pub left : Option (List Record)
  -- the record that was read last
  pub current : Record
  -- a read of the source or an allocation failed, so no more records come
  pub read_failed : Bool
