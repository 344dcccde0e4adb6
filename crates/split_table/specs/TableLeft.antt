-- A table from which records are read in turn.
use Rattle.std.specs.Prelude.{List, Option, ℕ}

-- a record, by the bytes of its fields
abbrev pub Record : Type 0
Record = List (List ℕ)

pub record TableLeft : Type 0 where
  pub titles : Record
  -- the records that are left; none are known where memory ran out
  pub left : Option (List Record)
  -- the record that was read last
  pub current : Record
